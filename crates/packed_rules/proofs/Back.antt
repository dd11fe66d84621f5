-- A record that was packed: as many bytes as it should have, and read back as itself. Assumes nothing.
use mathlib.Core.Path.{◌≡◌, refl, sym, ap, ap₂, ◌∙◌}
use mathlib.Core.Bool.{Bool, true, false}
use mathlib.Core.List.{List, [], ◌∷◌, ◌++◌, map, append_assoc}
use Prim.Native.Nat.{ℕ, ◌+◌, ◌*◌, ◌%◌, ◌<◌}
use native.Mathlib.Nat.{add-zero, mod-lt, zero-lt-suc}
use native.Mathlib.Omega.{arith}
use lib.Dec.{ltb, lit<}
use lib.ListN.{length, get_or, take, drop, length-append, length-map}
use lib.Seq.{take_at, drop_at, drop-drop, get_or-drop}
use Rattle.base_rules.specs.Bounds.{most_f}
use Rattle.base_rules.specs.Bytes.{Bytes, number_at, bytes_of}
use Rattle.base_rules.specs.Tests.{bit}
use Rattle.base_rules.proofs.ByteLaws.{bytes-append}
use Rattle.base_rules.proofs.Numbers.{number_drop, number_back}
use Rattle.places_rules.specs.declared.Place.{Place}
use Rattle.places_rules.specs.declared.Table.{Table}
use Rattle.places_rules.specs.Places.{four, free_place, place_at}
use Rattle.packed_rules.specs.Packed.{figures_of, packed_place, place-bytes, table-bytes, packed_of, is_set, place_from, table_from, bad_flags}
use Rattle.packed_rules.specs.Packed.{bad_place_at, bad_record}
use Rattle.packed_rules.specs.Claims.{Typed, TypedTable}
use Rattle.packed_rules.proofs.Lays.{length-place}

-- ---- flags

set_back : (b : Bool) → is_set (bit b) ≡ b
set_back true = refl
set_back false = refl

flags_back : (bs : List Bool) → map is_set (map bit bs) ≡ bs
flags_back [] = refl
flags_back (b ∷ bs) = ap₂ (λ (x : Bool) (l : List Bool). x ∷ l) (set_back b) (flags_back bs)

flag_good : (b : Bool) → ltb 1 (bit b) ≡ false
flag_good true = refl
flag_good false = refl

flags_good : (bs : List Bool) → bad_flags (map bit bs) ≡ false
unfolding bad_flags
flags_good [] = refl
flags_good (b ∷ bs) = rw (flag_good b) (flags_good bs)

flag_byte : (b : Bool) → bit b < 256
flag_byte true = lit< tt
flag_byte false = lit< tt

low : (x : ℕ) → x % 256 < 256
low x = mod-lt x (zero-lt-suc 255)

flags-bytes : (bs : List Bool) → Bytes (map bit bs)
flags-bytes [] = tt
flags-bytes (b ∷ bs) = (flag_byte b, flags-bytes bs)

-- ---- a place whose bytes begin at i is that of the part from i on

module _ (s : List ℕ) (i : ℕ) where
  number_from_lem : (w j : ℕ) → number_at w (drop i s) j ≡ number_at w s (i + j)
  number_from_lem w j = sym (number_drop w (drop i s) j) ∙ ap (λ (l : List ℕ). number_at w l 0) (drop-drop j i s) ∙ number_drop w s (i + j)

  pub first_from : get_or (drop i s) 0 0 ≡ get_or s i 0
  first_from = get_or-drop i s 0 0 ∙ ap (λ (n : ℕ). get_or s n 0) (add-zero i)

  -- the place read at byte i is the one read at the start of the part from i on
  pub place_part : place_from (drop i s) 0 ≡ place_from s i
  unfolding place_from
  place_part =
      rw (
        first_from,
        number_from_lem 2 1,
        number_from_lem 4 3,
        get_or-drop i s 7 0,
        get_or-drop i s 8 0,
        get_or-drop i s 9 0,
        number_from_lem 2 10,
        number_from_lem 2 12,
        drop-drop 14 i s,
      )

  -- the flags of the place at byte i are at fault just where those at the start of the part from i on are
  pub bad_part : bad_place_at (drop i s) 0 ≡ bad_place_at s i
  unfolding bad_place_at
  bad_part = rw (get_or-drop i s 7 0, drop-drop 14 i s)

-- ---- a place that was packed, whatever stands behind it

module _ (p : Place) (h : Typed p) (rest : List ℕ) where
  abbrev s : List ℕ
  s = packed_place p ++ rest

  number_2 : number_at 2 s 1 ≡ p.number
  unfolding packed_place figures_of number_at bytes_of
  number_2 = number_back 2 p.number [] h.number

  count_4 : number_at 4 s 3 ≡ p.count
  unfolding packed_place figures_of number_at bytes_of
  count_4 = number_back 4 p.count [] h.count

  size_2 : number_at 2 s 10 ≡ p.size
  unfolding packed_place figures_of number_at bytes_of
  size_2 = number_back 2 p.size [] h.size

  last_2 : number_at 2 s 12 ≡ p.last
  unfolding packed_place figures_of number_at bytes_of
  last_2 = number_back 2 p.last [] h.last

  bytes_1 : (get_or s 0 0 ≡ p.condition) × (get_or s 7 0 ≡ bit p.fec) × (get_or s 8 0 ≡ p.rsk) × (get_or s 9 0 ≡ p.rsz)
  unfolding packed_place figures_of bytes_of
  bytes_1 = (refl, refl, refl, refl)

  flags_here : take most_f (drop 14 s) ≡ map bit p.kept
  unfolding packed_place figures_of bytes_of
  flags_here = take_at (map bit p.kept) rest most_f (length-map p.kept bit ∙ h.kept)

  pub place_back : place_from s 0 ≡ p
  unfolding place_from
  place_back =
      let fec : is_set (get_or s 7 0) ≡ p.fec = ap is_set bytes_1.1 ∙ set_back p.fec in
      let kept : map is_set (take most_f (drop 14 s)) ≡ p.kept = ap (map is_set) flags_here ∙ flags_back p.kept in
      rw (bytes_1.0, number_2, count_4, fec, bytes_1.2, bytes_1.3, size_2, last_2, kept)

  pub place_good : bad_place_at s 0 ≡ false
  unfolding bad_place_at
  place_good = rw (bytes_1.1, flag_good p.fec, flags_here, flags_good p.kept)

  pub place_is_bytes : Bytes rest → Bytes s
  unfolding packed_place figures_of bytes_of
  place_is_bytes r =
      let numbers : Bytes (bytes_of 2 p.size ++ bytes_of 2 p.last) = (low _, (low _, (low _, (low _, tt)))) in
      let figures : Bytes (figures_of p) =
      (h.condition, (low _, (low _, (low _, (low _, (low _, (low _, (flag_byte p.fec, (h.rsk, (h.rsz, numbers)))))))))) in
      bytes-append (packed_place p) rest (bytes-append (figures_of p) (map bit p.kept) figures (flags-bytes p.kept)) r

-- ---- the four places, one behind the other

-- the part behind a place
behind : (s a b : List ℕ) (i : ℕ) → drop i s ≡ a ++ b → length a ≡ place-bytes → drop (i + place-bytes) s ≡ b
behind s a b i e long = sym (drop-drop place-bytes i s) ∙ ap (drop place-bytes) e ∙ drop_at a b place-bytes long

four_places : (l : List Place) (d : Place) → length l ≡ four → get_or l 0 d ∷ get_or l 1 d ∷ get_or l 2 d ∷ get_or l 3 d ∷ [] ≡ l
four_places (p ∷ q ∷ r ∷ s ∷ []) d e = refl
four_places [] d e = absurd (omega arith)
four_places (p ∷ []) d e = absurd (omega arith)
four_places (p ∷ q ∷ []) d e = absurd (omega arith)
four_places (p ∷ q ∷ r ∷ []) d e = absurd (omega arith)
four_places (p ∷ q ∷ r ∷ s ∷ t ∷ l) d e = absurd (omega arith)

module _ (t : Table) (h : TypedTable t) where
  abbrev place : ℕ → List ℕ
  place i = packed_place (place_at t i)

  place_long : (i : ℕ) → i < four → length (place i) ≡ place-bytes
  place_long i l = length-place (place_at t i) (h.each i l).kept

  -- what follows each place
  abbrev from_4 : List ℕ
  from_4 = t.oldest ∷ []

  abbrev from_3 : List ℕ
  from_3 = place 3 ++ from_4

  abbrev from_2 : List ℕ
  from_2 = place 2 ++ from_3

  abbrev from_1 : List ℕ
  from_1 = place 1 ++ from_2

  at_0 : packed_of t ≡ place 0 ++ from_1
  unfolding packed_of
  at_0 = simp append_assoc

  at_1 : drop place-bytes (packed_of t) ≡ from_1
  at_1 = behind (packed_of t) (place 0) from_1 0 at_0 (place_long 0 (lit< tt))

  at_2 : drop (2 * place-bytes) (packed_of t) ≡ from_2
  at_2 = behind (packed_of t) (place 1) from_2 place-bytes at_1 (place_long 1 (lit< tt))

  at_3 : drop (3 * place-bytes) (packed_of t) ≡ from_3
  at_3 = behind (packed_of t) (place 2) from_3 (2 * place-bytes) at_2 (place_long 2 (lit< tt))

  at_4 : drop (four * place-bytes) (packed_of t) ≡ from_4
  at_4 = behind (packed_of t) (place 3) from_4 (3 * place-bytes) at_3 (place_long 3 (lit< tt))

  -- so each is read back, and has good flags
  place_at_lem : (i at : ℕ) (rest : List ℕ) → i < four → drop at (packed_of t) ≡ place i ++ rest → place_from (packed_of t) at ≡ place_at t i
  place_at_lem i at rest l e =
      sym (place_part (packed_of t) at) ∙ ap (λ (s : List ℕ). place_from s 0) e ∙ place_back (place_at t i) (h.each i l) rest

  good_at : (i at : ℕ) (rest : List ℕ) → i < four → drop at (packed_of t) ≡ place i ++ rest → bad_place_at (packed_of t) at ≡ false
  good_at i at rest l e =
      sym (bad_part (packed_of t) at) ∙ ap (λ (s : List ℕ). bad_place_at s 0) e ∙ place_good (place_at t i) (h.each i l) rest

  all_four : place_at t 0 ∷ place_at t 1 ∷ place_at t 2 ∷ place_at t 3 ∷ [] ≡ t.places
  unfolding place_at
  all_four = four_places t.places free_place h.places

  -- a record that was packed is read back as itself
  pub table_back : table_from (packed_of t) ≡ t
  unfolding table_from
  table_back =
      let oldest : get_or (packed_of t) (four * place-bytes) 0 ≡ t.oldest =
      sym (first_from (packed_of t) (four * place-bytes)) ∙ ap (λ (l : List ℕ). get_or l 0 0) at_4 in
      rw (
        place_at_lem 0 0 from_1 (lit< tt) at_0,
        place_at_lem 1 place-bytes from_2 (lit< tt) at_1,
        place_at_lem 2 (2 * place-bytes) from_3 (lit< tt) at_2,
        place_at_lem 3 (3 * place-bytes) from_4 (lit< tt) at_3,
        all_four,
        oldest,
      )

  -- a record that was packed has no flag other than 0 and 1
  pub table_good : bad_record (packed_of t) ≡ false
  unfolding bad_record
  table_good =
      rw (
        good_at 0 0 from_1 (lit< tt) at_0,
        good_at 1 place-bytes from_2 (lit< tt) at_1,
        good_at 2 (2 * place-bytes) from_3 (lit< tt) at_2,
        good_at 3 (3 * place-bytes) from_4 (lit< tt) at_3,
      )

  -- a packed record has the bytes of four places and one more
  pub table-length : length (packed_of t) ≡ table-bytes
  table-length =
      omega (
        arith,
        ap length at_0,
        length-append (place 0) from_1,
        length-append (place 1) from_2,
        length-append (place 2) from_3,
        length-append (place 3) from_4,
        place_long 0 (lit< tt),
        place_long 1 (lit< tt),
        place_long 2 (lit< tt),
        place_long 3 (lit< tt),
      )

  -- a packed record is bytes throughout, each below 256
  pub table_is_bytes : Bytes (packed_of t)
  table_is_bytes =
      rw at_0
      (place_is_bytes (place_at t 0) (h.each 0 (lit< tt)) from_1
      (place_is_bytes (place_at t 1) (h.each 1 (lit< tt)) from_2
      (place_is_bytes (place_at t 2) (h.each 2 (lit< tt)) from_3
      (place_is_bytes (place_at t 3) (h.each 3 (lit< tt)) from_4 (h.oldest, tt)))))
