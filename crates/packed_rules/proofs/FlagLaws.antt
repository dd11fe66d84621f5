-- Flags: a list that is filled from the left, and the test whether a byte is no flag. Assumes nothing.
use mathlib.Core.Path.{◌≡◌, refl, sym, ap, ap₂, ◌∙◌}
use mathlib.Core.Bool.{Bool, true, false, ◌||◌}
use mathlib.Core.List.{List, [], ◌∷◌, ◌++◌, map, map-append}
use Prim.Native.Nat.{ℕ, ◌+◌, ◌≤◌, ◌<◌}
use native.Mathlib.Numerals.{add-one}
use native.Mathlib.Omega.{arith}
use borrow.Author.Tests.{ltb-true, ltb-false, lt-ltb, le-ltb}
use lib.Bits.{bit_or, or_add_and, and_le_l, and_le_r, or_lt}
use lib.ListN.{length, get_or, take, set}
use lib.Seq.{take-suc, take-suc-set, take_all}
use Rattle.base_rules.proofs.Logic.{either}
use Rattle.packed_rules.specs.Packed.{flag_bytes, bad_flag, bad_flags, bad_place_at}

-- ---- a list that is filled by a rule over another

module _ {A B : Type 0} (rule : A → B) (xs : List A) (ys : List B) where
  -- a list filled by the rule up to j, and now at j too, is filled up to j + 1
  pub filled_more : (j : ℕ) (y : B) (d : A) → take j ys ≡ map rule (take j xs) → j < length ys → j < length xs → y ≡ rule (get_or xs j d)
      → take (j + 1) (set ys j y) ≡ map rule (take (j + 1) xs)
  filled_more j y d e in_ys in-xs is_y =
      ap (λ (n : ℕ). take n (set ys j y)) (add-one j)
      ∙ take-suc-set ys j y in_ys
      ∙ ap₂ (λ (l : List B) (z : B). l ++ (z ∷ [])) e is_y
      ∙ sym (map-append rule (take j xs) (get_or xs j d ∷ []))
      ∙ ap (map rule) (sym (take-suc xs j d in-xs) ∙ ap (λ (n : ℕ). take n xs) (sym (add-one j)))

-- a list that is filled to its end is all that it was filled with
pub filled_all : {B : Type 0} (ys zs : List B) (n : ℕ) → length ys ≤ n → take n ys ≡ zs → ys ≡ zs
filled_all ys zs n h e = sym (take_all n ys h) ∙ e

-- ---- no flag

-- the bits of two bytes are no flag where one of the two is none
bad_or : (a b : ℕ) → bad_flag (bit_or a b) ≡ (bad_flag a || bad_flag b)
bad_or a b =
    either (bad_flag a) (λ p. rw p (lt-ltb 1 (bit_or a b) (omega (arith, ltb-true 1 a p, or_add_and a b, and_le_r a b))))
    (λ p. rw p
    (either (bad_flag b) (λ q. rw q (lt-ltb 1 (bit_or a b) (omega (arith, ltb-true 1 b q, or_add_and a b, and_le_l a b))))
    (λ q. rw q (le-ltb 1 (bit_or a b) (omega (arith, or_lt 1 a b (omega (arith, ltb-false 1 a p)) (omega (arith, ltb-false 1 b q))))))))

or_assoc : (a b c : Bool) → ((a || b) || c) ≡ (a || (b || c))
or_assoc true b c = refl
or_assoc false b c = refl

or_false : (a : Bool) → a ≡ (a || false)
or_false true = refl
or_false false = refl

bad_last : (s : List ℕ) (x : ℕ) → (bad_flags s || bad_flag x) ≡ bad_flags (s ++ (x ∷ []))
unfolding bad_flags
bad_last [] x = or_false (bad_flag x)
bad_last (y ∷ s) x = or_assoc (bad_flag y) (bad_flags s) (bad_flag x) ∙ ap (λ (b : Bool). bad_flag y || b) (bad_last s x)

-- one byte more, with the bits of those before
pub bad_more : (s : List ℕ) (j bits x : ℕ) → bad_flag bits ≡ bad_flags (take j s) → j < length s → x ≡ get_or s j 0
    → bad_flag (bit_or bits x) ≡ bad_flags (take (j + 1) s)
bad_more s j bits x e h is_x =
    bad_or bits x
    ∙ ap₂ (λ (b : Bool) (y : ℕ). b || bad_flag y) e is_x
    ∙ bad_last (take j s) (get_or s j 0)
    ∙ ap bad_flags (sym (take-suc s j 0 h) ∙ ap (λ (n : ℕ). take n s) (sym (add-one j)))

-- ---- a place, by its FEC flag and then by the flags of its fragments

module _ (s : List ℕ) (i : ℕ) where
  -- a place whose FEC byte is over 1 is at fault
  pub fec_bad : 1 < get_or s (i + 7) 0 → true ≡ bad_place_at s i
  unfolding bad_place_at
  fec_bad h = rw (lt-ltb 1 (get_or s (i + 7) 0) h)

  -- a place whose FEC byte is 0 or 1 is at fault just where one of its fragments' flags is
  pub fec_good : {r : Bool} → get_or s (i + 7) 0 ≤ 1 → r ≡ bad_flags (flag_bytes s (i + 14)) → r ≡ bad_place_at s i
  unfolding bad_place_at
  fec_good h e = rw (le-ltb 1 (get_or s (i + 7) 0) h) e
