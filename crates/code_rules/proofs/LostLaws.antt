-- The mask of the cells that are lost, for any figures. Assumes nothing.
use mathlib.Core.Path.{◌≡◌, ap, ◌∙◌}
use mathlib.Core.Bool.{Bool, false, cond, ◌||◌}
use mathlib.Core.List.{List}
use Prim.Native.Nat.{ℕ, ◌≤◌, ◌<◌}
use native.Mathlib.Omega.{arith}
use borrow.Author.Tests.{lt-ltb, le-ltb, eq-eqb, ne_eqb}
use lib.Dec.{ltb}
use lib.ListN.{length, take}
use Rattle.base_rules.specs.Bounds.{most_f}
use Rattle.base_rules.specs.Bytes.{splice}
use Rattle.weave_rules.specs.Calls.{bad_count}
use Rattle.code_rules.specs.Calls.{lost_cells}
use Rattle.code_rules.specs.inner.Solving.{lost_by}
use Rattle.base_rules.proofs.Splice.{splice_start}
use Rattle.code_rules.proofs.CellLaws.{length-lost}

module _ (kept : List Bool) (f n : ℕ) (mask : List ℕ) where
  -- no fragments: the mask stays
  pub lost_none : f ≡ 0 → lost_by kept f n mask ≡ mask
  unfolding lost_by bad_count
  lost_none h =
      ap (λ b. cond (b || ltb most_f f) mask (cond (ltb (length mask) n) mask (splice mask 0 (lost_cells kept f 0 n)))) (eq-eqb f 0 h)

  -- too many
  pub lost_many : (f ≡ 0 → ⊥) → most_f < f → lost_by kept f n mask ≡ mask
  unfolding lost_by bad_count
  lost_many z h =
      ap (λ b. cond (b || ltb most_f f) mask (cond (ltb (length mask) n) mask (splice mask 0 (lost_cells kept f 0 n)))) (ne_eqb f 0 z)
      ∙ ap (λ b. cond b mask (cond (ltb (length mask) n) mask (splice mask 0 (lost_cells kept f 0 n)))) (lt-ltb most_f f h)

  sound : (f ≡ 0 → ⊥) → f ≤ most_f → bad_count f ≡ false
  unfolding bad_count
  sound z h = ap (λ b. b || ltb most_f f) (ne_eqb f 0 z) ∙ le-ltb most_f f h

  -- a mask that is too short
  pub lost_short : (f ≡ 0 → ⊥) → f ≤ most_f → length mask < n → lost_by kept f n mask ≡ mask
  unfolding lost_by
  lost_short z h l =
      ap (λ b. cond b mask (cond (ltb (length mask) n) mask (splice mask 0 (lost_cells kept f 0 n)))) (sound z h)
      ∙ ap (λ b. cond b mask (splice mask 0 (lost_cells kept f 0 n))) (lt-ltb (length mask) n l)

  -- else the cells
  pub lost_some : (f ≡ 0 → ⊥) → f ≤ most_f → n ≤ length mask → lost_by kept f n mask ≡ splice mask 0 (lost_cells kept f 0 n)
  unfolding lost_by
  lost_some z h l =
      ap (λ b. cond b mask (cond (ltb (length mask) n) mask (splice mask 0 (lost_cells kept f 0 n)))) (sound z h)
      ∙ ap (λ b. cond b mask (splice mask 0 (lost_cells kept f 0 n))) (le-ltb (length mask) n l)

  -- so the mask begins with the cells
  pub lost_front : 0 < f → f ≤ most_f → n ≤ length mask → take n (lost_by kept f n mask) ≡ lost_cells kept f 0 n
  lost_front z h l =
      ap (take n) (lost_some (λ e. omega arith) h l) ∙ splice_start mask (lost_cells kept f 0 n) n (length-lost kept f 0 n)
