-- `same_mask` meets its contract: a byte a turn. Assumes nothing.
use mathlib.Core.Path.{◌≡◌}
use mathlib.Core.Bool.{true, false}
use Prim.Native.Nat.{ℕ, ◌+◌, ◌<◌}
use lib.ListN.{take, drop, get_or}
use Rattle.code_decoder.proofs.class.same_mask.Given as goal

abbrev pub invariant-loop-x : goal.invariant-loop-x
invariant-loop-x l = (l.same ≡ true → (i : ℕ) → i < l.x → get_or l.mask (l.a + i) 0 ≡ get_or l.mask (l.b + i) 0)
    × (l.same ≡ false → take l.n (drop l.a l.mask) ≡ take l.n (drop l.b l.mask) → ⊥)
