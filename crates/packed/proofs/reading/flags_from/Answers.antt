use mathlib.Core.Path.{◌≡◌, ap, ◌∙◌}
use Prim.Native.Nat.{ℕ, ◌+◌, ◌-◌, ◌<◌}
use native.Mathlib.Omega.{arith}
use lib.ListN.{length, take, drop, get_or, length-set, length-drop}
use Rattle.std.proofs.Common.{length-take-le}
use Rattle.base_rules.specs.Bounds.{most_f}
use Rattle.packed_rules.specs.Packed.{is_set, flag_bytes}
use Rattle.packed_rules.proofs.FlagLaws.{filled_more}
use Rattle.packed.proofs.reading.flags_from.Goals as goal

pub loop-j-preserved : goal.loop-j-preserved
loop-j-preserved c =
    let a = c.args in
    let d = c.loop-j in
    let all : a.i + most_f - a.i ≡ most_f = omega arith in
    let long = length-take-le most_f (drop a.i a.s.now) (rw length-drop (omega arith)) in
    let inside : d.j < length (flag_bytes a.s.now a.i) = rw all at c.loop-j-test.true in (
      length-set d.kept d.j _ ∙ d.invariant.0,
      filled_more is_set (flag_bytes a.s.now a.i) d.kept d.j _ 0 d.invariant.1 (omega (arith, d.invariant.0, inside, long)) inside
          (ap (λ (n : ℕ). is_set (get_or (take n (drop a.i a.s.now)) d.j 0)) all),
    )
