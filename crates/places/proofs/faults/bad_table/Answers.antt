-- `bad_table` meets its contract. Assumes nothing.
use Rattle.std.proofs.Common.{rules, tests}
use mathlib.Core.Path.{◌≡◌, ◌∙◌}
use native.Mathlib.Omega.{arith}
use borrow.Author.Tests.{le-leb, lt-leb}
use lib.ListN.{length}
use Rattle.std.proofs.lemmas.Iterator.{YieldsList-from_slice}
use Rattle.std.proofs.lemmas.Iterator.Search.{any_from_yields_List}
use Rattle.base_rules.proofs.Logic.{pass}
use Rattle.places_rules.specs.Places.{four}
use Rattle.places_rules.specs.Faults.{bad_place, bad_table}
use Rattle.places_rules.proofs.Checks.{oldest_over}
use Rattle.places.proofs.Fours.{any_found}
use Rattle.places.proofs.faults.bad_table.Goals as goal

pub returns-then-t-ge-FOUR : goal.returns-then-t-ge-FOUR
returns-then-t-ge-FOUR c = le-leb _ _ c.if-t-ge-FOUR.true ∙ oldest_over _ c.if-t-ge-FOUR.true

pub returns-else-t-ge-FOUR : goal.returns-else-t-ge-FOUR
unfolding bad_table
returns-else-t-ge-FOUR c =
    let t = c.args.t in
    let long : length t.places ≡ four = omega arith in
    pass (lt-leb _ _ c.if-t-ge-FOUR.false)
    (any_from_yields_List bad_place _ _ c.any.result c.any.ensures.ran (YieldsList-from_slice t.places cc) (λ x b q k. search (rules, tests))
    ∙ any_found bad_place t long)
