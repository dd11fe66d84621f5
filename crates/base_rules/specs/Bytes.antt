-- Bytes in a buffer, and big-endian numbers (document 01: "All numbers are big-endian").
use Rattle.std.specs.Prelude.{List, [], ◌∷◌, ◌++◌, ℕ, zero, suc, ◌+◌, ◌*◌, ◌/◌, ◌%◌, ◌<◌, length, get_or, take, drop}

-- each element is a byte
abbrev pub Bytes : List ℕ → Type 0
Bytes [] = Unit {0}
Bytes (x ∷ s) = (x < 256) × Bytes s

-- the buffer d with the bytes s from `at` on
unfoldable pub splice : List ℕ → ℕ → List ℕ → List ℕ
splice d at s = take at d ++ (s ++ drop (at + length s) d)

-- clauses 7.2 and 7.3: part i of s, cut into parts of n bytes each, as a packet is into chunks and fragments; the last may be shorter
unfoldable pub part_of : List ℕ → ℕ → ℕ → List ℕ
part_of s n i = take n (drop (i * n) s)

-- the number that stands in the w bytes of s from i on; past the end of s there are zeros
unfoldable pub number_at : ℕ → List ℕ → ℕ → ℕ
number_at zero s i = 0
number_at (suc w) s i = number_at w s i * 256 + get_or s (i + w) 0

-- the w bytes of the number x
unfoldable pub bytes_of : ℕ → ℕ → List ℕ
bytes_of zero x = []
bytes_of (suc w) x = bytes_of w (x / 256) ++ (x % 256 ∷ [])
