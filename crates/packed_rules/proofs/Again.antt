-- Bytes that are unpacked are packed again as they were. Assumes nothing.
use mathlib.Core.Path.{◌≡◌, refl, sym, ap, ap₂, ◌∙◌}
use mathlib.Core.Bool.{false, not, ◌||◌}
use mathlib.Core.List.{List, [], ◌∷◌, ◌++◌, map}
use Prim.Native.Nat.{ℕ, zero, suc, ◌+◌, ◌*◌, ◌≤◌, ◌<◌}
use native.Mathlib.Omega.{arith}
use borrow.Author.Tests.{ltb-false, eqb-true, not-false}
use lib.Dec.{eqb}
use lib.ListN.{length, get_or, take, drop, length-drop}
use lib.Seq.{take-add, take_all, drop-cons}
use Rattle.base_rules.specs.Bounds.{most_f}
use Rattle.base_rules.specs.Bytes.{Bytes}
use Rattle.base_rules.specs.Tests.{bit}
use Rattle.base_rules.proofs.ByteLaws.{bytes_drop}
use Rattle.base_rules.proofs.Firsts.{clear, clear_rest}
use Rattle.base_rules.proofs.Logic.{or_left, or_right}
use Rattle.base_rules.proofs.Numbers.{bytes_back}
use Rattle.places_rules.specs.Places.{four, place_at}
use Rattle.packed_rules.specs.Packed.{figures_of, packed_place, place-bytes, table-bytes, packed_of, is_set, flag_bytes, place_from, table_from}
use Rattle.packed_rules.specs.Packed.{bad_flag, bad_flags, bad_place_at, bad_record, unpack_fault}
use Rattle.packed_rules.proofs.Back.{place_part, bad_part}

-- ---- flags

flag_again : (x : ℕ) → bad_flag x ≡ false → bit (is_set x) ≡ x
flag_again zero e = refl
flag_again (suc zero) e = refl
flag_again (suc (suc x)) e = absurd (omega (arith, ltb-false 1 (suc (suc x)) e))

flags_again : (s : List ℕ) → bad_flags s ≡ false → map bit (map is_set s) ≡ s
unfolding bad_flags
flags_again [] e = refl
flags_again (x ∷ s) e =
    ap₂ (λ (y : ℕ) (l : List ℕ). y ∷ l) (flag_again x (or_left (bad_flag x) (bad_flags s) e)) (flags_again s (or_right (bad_flag x) (bad_flags s) e))

-- ---- one piece behind another

more : (s : List ℕ) (i n : ℕ) {a b : List ℕ} → take i s ≡ a → take n (drop i s) ≡ b → take (i + n) s ≡ a ++ b
more s i n e f = take-add i n s ∙ ap₂ (λ (l m : List ℕ). l ++ m) e f

one : (s : List ℕ) (i : ℕ) → i < length s → take 1 (drop i s) ≡ get_or s i 0 ∷ []
one s i h = ap (take 1) (drop-cons s i 0 h)

three : (s : List ℕ) (i : ℕ) → i + 3 ≤ length s → take 3 (drop i s) ≡ get_or s i 0 ∷ get_or s (suc i) 0 ∷ get_or s (suc (suc i)) 0 ∷ []
three s i h =
    ap (take 3) (drop-cons s i 0 (omega arith))
    ∙ ap (λ (l : List ℕ). get_or s i 0 ∷ take 2 l) (drop-cons s (suc i) 0 (omega arith))
    ∙ ap (λ (l : List ℕ). get_or s i 0 ∷ get_or s (suc i) 0 ∷ take 1 l) (drop-cons s (suc (suc i)) 0 (omega arith))

-- ---- a place

module _ (s : List ℕ) (bytes : Bytes s) (long : place-bytes ≤ length s) (good : bad_place_at s 0 ≡ false) where
  flag_7 : bad_flag (get_or s 7 0) ≡ false
  unfolding bad_place_at
  flag_7 = or_left (bad_flag (get_or s 7 0)) (bad_flags (flag_bytes s 14)) good

  flags_14 : bad_flags (flag_bytes s 14) ≡ false
  unfolding bad_place_at
  flags_14 = or_right (bad_flag (get_or s 7 0)) (bad_flags (flag_bytes s 14)) good

  place_again : take place-bytes s ≡ packed_place (place_from s 0)
  unfolding packed_place figures_of place_from
  place_again =
      let flag : bit (is_set (get_or s 7 0)) ∷ get_or s 8 0 ∷ get_or s 9 0 ∷ [] ≡ get_or s 7 0 ∷ get_or s 8 0 ∷ get_or s 9 0 ∷ [] =
      ap (λ (x : ℕ). x ∷ get_or s 8 0 ∷ get_or s 9 0 ∷ []) (flag_again (get_or s 7 0) flag_7) in
      more s 14 most_f
      (more s 12 2
      (more s 10 2
      (more s 7 3
      (more s 3 4
      (more s 1 2 (one s 0 (omega arith)) (sym (bytes_back 2 s 1 bytes (omega arith))))
      (sym (bytes_back 4 s 3 bytes (omega arith))))
      (three s 7 (omega arith) ∙ sym flag))
      (sym (bytes_back 2 s 10 bytes (omega arith))))
      (sym (bytes_back 2 s 12 bytes (omega arith))))
      (sym (flags_again (flag_bytes s 14) flags_14))

-- ---- the record

module _ (s : List ℕ) (bytes : Bytes s) (none : unpack_fault s ≡ 0) where
  table_long : length s ≡ table-bytes
  unfolding unpack_fault
  table_long =
      eqb-true (length s) table-bytes
      (not-false (eqb (length s) table-bytes) (clear (not (eqb (length s) table-bytes)) 1 ((bad_record s, 14) ∷ []) (λ (e : 1 ≡ 0). omega arith) none))

  table_fine : bad_record s ≡ false
  unfolding unpack_fault
  table_fine =
      clear (bad_record s) 14 [] (λ (e : 14 ≡ 0). omega arith)
      (clear_rest (not (eqb (length s) table-bytes)) 1 ((bad_record s, 14) ∷ []) (λ (e : 1 ≡ 0). omega arith) none)

  -- the place at i
  piece : (i : ℕ) → i + place-bytes ≤ length s → bad_place_at s i ≡ false → take place-bytes (drop i s) ≡ packed_place (place_from s i)
  piece i fits e =
      place_again (drop i s) (bytes_drop i s bytes) (rw length-drop (omega arith)) (bad_part s i ∙ e)
      ∙ ap packed_place (place_part s i)

  -- bytes that unpacking takes are packed again as they were
  pub table_again : packed_of (table_from s) ≡ s
  unfolding packed_of table_from place_at bad_record
  table_again =
      let b₁ : (bad_place_at s place-bytes || (bad_place_at s (2 * place-bytes) || bad_place_at s (3 * place-bytes))) ≡ false = or_right
      (bad_place_at s 0) _ table_fine in
      let b₂ : (bad_place_at s (2 * place-bytes) || bad_place_at s (3 * place-bytes)) ≡ false = or_right (bad_place_at s place-bytes) _ b₁ in
      sym (more s (four * place-bytes) 1
      (more s (3 * place-bytes) place-bytes
      (more s (2 * place-bytes) place-bytes
      (more s place-bytes place-bytes
      (piece 0 (omega (arith, table_long)) (or_left (bad_place_at s 0) _ table_fine))
      (piece place-bytes (omega (arith, table_long)) (or_left (bad_place_at s place-bytes) _ b₁)))
      (piece (2 * place-bytes) (omega (arith, table_long)) (or_left (bad_place_at s (2 * place-bytes)) _ b₂)))
      (piece (3 * place-bytes) (omega (arith, table_long)) (or_right (bad_place_at s (2 * place-bytes)) _ b₂)))
      (one s (four * place-bytes) (omega (arith, table_long))))
      ∙ take_all table-bytes s (omega (arith, table_long))
