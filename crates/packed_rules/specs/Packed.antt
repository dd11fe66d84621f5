-- The record of the four places as bytes, for callers that hold it for us (document 01, "The four places"; all numbers are big-endian).
use Rattle.std.specs.Prelude.{Bool, false, not, cond, ◌||◌, List, [], ◌∷◌, ◌++◌, map, ℕ, ◌+◌, ◌*◌, ltb, eqb, length, get_or, take, drop}
use Rattle.base_rules.specs.Answer.{Answer, answered, Outcome, settled}
use Rattle.base_rules.specs.Bounds.{most_f}
use Rattle.base_rules.specs.Bytes.{splice, number_at, bytes_of}
use Rattle.base_rules.specs.Tests.{first, bit}
use Rattle.places_rules.specs.declared.Place.{Place}
use Rattle.places_rules.specs.declared.Table.{Table}
use Rattle.places_rules.specs.Places.{four, fresh_table, place_at}

-- ---- written

-- the figures of a place: condition 1 byte, number 2, f 4, FEC 1, k 1, z 1, s 2, the last Plen 2
unfoldable pub figures_of : Place → List ℕ
figures_of p =
    (p.condition ∷ []) ++ bytes_of 2 p.number ++ bytes_of 4 p.count ++ (bit p.fec ∷ p.rsk ∷ p.rsz ∷ [])
    ++ bytes_of 2 p.size ++ bytes_of 2 p.last

-- and then a flag for each fragment, a byte, set where it is kept
unfoldable pub packed_place : Place → List ℕ
packed_place p = figures_of p ++ map bit p.kept

-- the bytes of the figures,
abbrev pub figure_bytes : ℕ
figure_bytes = 14

-- and of a place's record
abbrev pub place-bytes : ℕ
place-bytes = figure_bytes + most_f

-- the bytes of the whole record: four of them, and then which is displaced next
abbrev pub table-bytes : ℕ
table-bytes = four * place-bytes + 1

-- the record as bytes
unfoldable pub packed_of : Table → List ℕ
packed_of t =
    packed_place (place_at t 0) ++ packed_place (place_at t 1) ++ packed_place (place_at t 2) ++ packed_place (place_at t 3) ++ (t.oldest ∷ [])

-- packing: 1 ROOM where the bytes do not fit, else they stand at the front of out
unfoldable pub pack_call : Table → List ℕ → Outcome
pack_call t out = settled (first ((ltb (length out) table-bytes, 1) ∷ [])) [] (splice out 0 (packed_of t)) out

-- ---- read

-- the flag that a byte is: set where it is not 0
abbrev pub is_set : ℕ → Bool
is_set x = not (eqb x 0)

-- the bytes of the flags that begin at i, one for each fragment
abbrev pub flag_bytes : List ℕ → ℕ → List ℕ
flag_bytes s i = take most_f (drop i s)

-- the record of a place whose bytes begin at i
unfoldable pub place_from : List ℕ → ℕ → Place
place_from s i = record {
  condition = get_or s i 0;
  number = number_at 2 s (i + 1);
  count = number_at 4 s (i + 3);
  fec = is_set (get_or s (i + 7) 0);
  rsk = get_or s (i + 8) 0;
  rsz = get_or s (i + 9) 0;
  size = number_at 2 s (i + 10);
  last = number_at 2 s (i + 12);
  kept = map is_set (flag_bytes s (i + figure_bytes));
}

-- the record
unfoldable pub table_from : List ℕ → Table
table_from s = record {
  places = place_from s 0 ∷ place_from s place-bytes ∷ place_from s (2 * place-bytes) ∷ place_from s (3 * place-bytes) ∷ [];
  oldest = get_or s (four * place-bytes) 0;
}

-- a byte that is neither 0 nor 1 is no flag
abbrev pub bad_flag : ℕ → Bool
bad_flag x = ltb 1 x

-- one of several is none
unfoldable pub bad_flags : List ℕ → Bool
bad_flags [] = false
bad_flags (x ∷ s) = bad_flag x || bad_flags s

-- the FEC flag of a place is none, or one of its fragments' flags
unfoldable pub bad_place_at : List ℕ → ℕ → Bool
bad_place_at s i = bad_flag (get_or s (i + 7) 0) || bad_flags (flag_bytes s (i + figure_bytes))

-- a flag of one of the four places is none
unfoldable pub bad_record : List ℕ → Bool
bad_record s = bad_place_at s 0 || (bad_place_at s place-bytes || (bad_place_at s (2 * place-bytes) || bad_place_at s (3 * place-bytes)))

-- 1 ROOM: not the bytes of a record; 14 STATE: a flag that is none
unfoldable pub unpack_fault : List ℕ → ℕ
unpack_fault s = first ((not (eqb (length s) table-bytes), 1) ∷ (bad_record s, 14) ∷ [])

-- what unpacking gives: the answer, and the record, which is a fresh one where it is refused
unfoldable pub unpack_call : List ℕ → Answer × Table
unpack_call s = (answered (unpack_fault s) [], cond (eqb (unpack_fault s) 0) (table_from s) fresh_table)
