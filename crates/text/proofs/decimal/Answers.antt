-- `decimal` meets its contract: the places from the first digit on are the text of the number. Assumes nothing.
use mathlib.Core.Path.{◌∙◌}
use Prim.Native.Nat.{◌-◌}
use native.Mathlib.Omega.{arith}
use lib.ListN.{drop, length-drop}
use lib.Seq.{take_all}
use Rattle.text_rules.proofs.Laws.{lays_same}
use Rattle.text.proofs.decimal.Goals as goal

pub returns : goal.returns
returns c =
    let a = c.args in
    let digits = c.digits_of-first in
    let first = digits.result in
    let s = digits.new.digits in
    let whole = take_all (20 - first) (drop first s) (omega (arith, length-drop first s)) in
    lays_same a.out.now a.at (whole ∙ digits.ensures.1) c.plain.ensures
