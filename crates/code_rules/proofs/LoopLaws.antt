-- What the loops' invariants say, and how one more turn goes. Assumes nothing.
use mathlib.Core.Path.{◌≡◌, refl, sym, ◌∙◌, subst}
use mathlib.Core.List.{List}
use Prim.Native.Nat.{ℕ, ◌+◌, ◌≤◌, ◌<◌}
use native.Mathlib.Nat.{not-suc-le-zero}
use native.Mathlib.Decide.{ℕ_discrete}
use native.Mathlib.Omega.{arith}
use lib.ListN.{length, get_or, set, length-set}
use lib.Seq.{get_or-set_same, get_or-set_other, ext_get_or}

-- ---- a list made in place: goal below i, and as it was from i on

-- l is as long as old; it has the members of goal below i, and those of old from i on
pub record Upto (goal old : List ℕ) (i : ℕ) (l : List ℕ) : Type 0 where
  pub size : length l ≡ length old
  pub made : (j : ℕ) → j < i → get_or l j 0 ≡ get_or goal j 0
  pub left : (j : ℕ) → i ≤ j → get_or l j 0 ≡ get_or old j 0

-- before the first turn, no place is made and the list is as it was
pub upto_start : (goal old : List ℕ) → Upto goal old 0 old
upto_start goal old = record { size = refl; made = λ j h. absurd (not-suc-le-zero h); left = λ j h. refl }

-- with the goal's member i stored at i, the list is made one place further
pub upto_more : (goal old : List ℕ) (i : ℕ) (l : List ℕ) (v : ℕ) → Upto goal old i l → i < length old → v ≡ get_or goal i 0
    → Upto goal old (i + 1) (set l i v)
upto_more goal old i l v u h e =
    record {
      size = length-set l i v ∙ u.size;
      made = λ j k. go j k (ℕ_discrete j i);
      left = λ j k. get_or-set_other l i j v 0 (omega arith) ∙ u.left j (omega arith);
    }
  where
    go : (j : ℕ) → j < i + 1 → Dec (j ≡ i) → get_or (set l i v) j 0 ≡ get_or goal j 0
    go j k (yes q) = subst (λ n. get_or (set l i v) n 0 ≡ get_or goal n 0) (sym q) (get_or-set_same l i v 0 (omega (arith, u.size)) ∙ e)
    go j k (no q) = get_or-set_other l i j v 0 q ∙ u.made j (omega arith)

-- a list that is made up to its end is the goal, where the goal is as long
pub upto_end : (goal old : List ℕ) (i : ℕ) (l : List ℕ) → Upto goal old i l → length old ≤ i → length goal ≡ length old → l ≡ goal
upto_end goal old i l u h e = ext_get_or 0 l goal (u.size ∙ sym e) (λ j k. u.made j (omega (arith, u.size)))
