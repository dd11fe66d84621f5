-- The claim of specs/Claims.antt: where nothing is due the f s cells are as many as the block's bytes or more, and C4 says which byte stands
-- where. Assumes nothing.
use mathlib.Core.Path.{◌≡◌}
use Prim.Native.Nat.{ℕ, ◌*◌, ◌≤◌, ◌<◌}
use native.Mathlib.Omega.{arith}
use lib.ListN.{length}
use Rattle.base_rules.proofs.Firsts.{clear, clear_rest}
use Rattle.cut_rules.proofs.Interleaving.{woven, joined}
use Rattle.weave_rules.specs.Calls.{interleave_fault}
use Rattle.weave_rules.specs.Claims.{EveryByte}
use Rattle.weave_rules.proofs.CallCases.{f_some, within-cells}

module _ (len f s i room : ℕ) (none : interleave_fault len f s i room ≡ 0) where
  some : 0 < f
  unfolding interleave_fault
  some = f_some f (clear _ 7 _ (λ e. omega arith) none)

  within : len ≤ f * s
  unfolding interleave_fault
  within =
      let counted = clear_rest _ 7 _ (λ e. omega arith) none in
      let placed = clear_rest _ 8 _ (λ e. omega arith) counted in
      within-cells len f s (clear _ 8 _ (λ e. omega arith) placed)

-- every byte of a block that is not refused stands in its fragment
pub every_byte : EveryByte
every_byte block f s i room q none h =
    let any : 0 < f = some (length block) f s i room none in
    let inside : q < f * s = omega (arith, within (length block) f s i room none) in
    ((woven f s any).fragment q inside, (woven f s any).offset q inside, (joined f s any block q inside).byte)
