-- `figures` meets its contract, field by field. Assumes nothing.
use mathlib.Core.Path.{◌≡◌, refl, ◌∙◌}
use mathlib.Core.Bool.{Bool, true, false}
use mir.Val.{bool_byte}
use Rattle.base_rules.specs.Tests.{bit}
use Rattle.packed_rules.proofs.Lays.{figures_are}
use Rattle.packed.proofs.writing.figures.Goals as goal

-- a flag as a byte is its bit
flag_byte : (b : Bool) → bool_byte b ≡ bit b
flag_byte true = refl
flag_byte false = refl

pub returns : goal.returns
returns c =
    let number = c in
    figures_are number.args.p number.bytes2-n.ensures c.bytes4-f.ensures
    c.bytes2-s.ensures c.bytes2-l.ensures (c.from-fec.ensures ∙ flag_byte c.args.p.fec)
