-- `bad_crc` meets its contract: the field and what it covers are parts of the packet. Assumes nothing.
use mathlib.Core.Bool.{Bool, not}
use mathlib.Core.Path.{sym, ap, ap₂, ◌∙◌}
use Prim.Native.Nat.{ℕ}
use native.Mathlib.Omega.{arith}
use lib.Dec.{eqb}
use lib.Seq.{length-take-le}
use Rattle.af_rules.specs.Calls.{bad_crc}
use Rattle.af_rules.specs.Packet.{crc_for, covered_of}
use Rattle.af.proofs.checking.bad_crc.Goals as goal

pub slice_bounds-crc_for-end : goal.slice_bounds-crc_for-end
slice_bounds-crc_for-end c = sym (length-take-le _ c.args.packet.now (omega arith))

pub returns : goal.returns
unfolding bad_crc covered_of
returns c =
    ap₂ (λ (a b : ℕ). not (eqb a b)) c.read2.ensures (c.crc_for.ensures
    ∙ ap (λ (b : Bool). crc_for b (covered_of c.args.packet.now)) c.cf_of.ensures)
