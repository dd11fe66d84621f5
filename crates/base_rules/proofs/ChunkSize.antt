-- When the test is false that k is no chunk's size, and what it then tells. Assumes nothing.
use mathlib.Core.Path.{◌≡◌}
use mathlib.Core.Bool.{false}
use Prim.Native.Nat.{ℕ, ◌≤◌, ◌<◌}
use native.Mathlib.Nat.{pos_of_ne-zero}
use borrow.Author.Tests.{eqb-false, ne_eqb, ltb-false, le-ltb}
use lib.Dec.{eqb}
use Rattle.base_rules.specs.Bounds.{most_k, bad_k}
use Rattle.base_rules.proofs.Logic.{or_left, or_right}

module _ (k : ℕ) where
  -- a chunk may have any number of data bytes from 1 to 207
  pub k_fits : (k ≡ 0 → ⊥) → k ≤ most_k → bad_k k ≡ false
  unfolding bad_k
  k_fits some few = rw (ne_eqb k 0 some, le-ltb most_k k few)

  module _ (fine : bad_k k ≡ false) where
    -- where the test is false, there is a data byte or more
    pub k_some : 0 < k
    unfolding bad_k
    k_some = pos_of_ne-zero (eqb-false _ _ (or_left (eqb k 0) _ fine))

    -- where the test is false, there are at most 207 data bytes
    pub k_most : k ≤ most_k
    unfolding bad_k
    k_most = ltb-false _ _ (or_right (eqb k 0) _ fine)
