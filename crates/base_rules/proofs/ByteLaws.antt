-- Lists of bytes, by their elements and by their parts. Assumes nothing.
use mathlib.Core.List.{List, [], ◌∷◌, ◌++◌}
use Prim.Native.Nat.{ℕ, zero, suc, ◌<◌, zero-le, suc-le-suc}
use lib.Dec.{lit<}
use lib.ListN.{length, get_or, take, drop, replicate}
use Rattle.base_rules.specs.Bytes.{Bytes}

-- the element at i, past the end too
pub bytes_at_lem : (s : List ℕ) → Bytes s → (i : ℕ) → get_or s i 0 < 256
bytes_at_lem [] h i = lit< tt
bytes_at_lem (x ∷ s) h zero = h.0
bytes_at_lem (x ∷ s) h (suc i) = bytes_at_lem s h.1 i

-- a list whose elements are all below 256 is a list of bytes
pub bytes_from : (s : List ℕ) → ((i : ℕ) → i < length s → get_or s i 0 < 256) → Bytes s
bytes_from [] h = tt
bytes_from (x ∷ s) h = (h 0 (suc-le-suc (zero-le)), bytes_from s (λ i (l : i < length s). h (suc i) (suc-le-suc l)))

-- bytes followed by bytes are bytes
pub bytes-append : (s t : List ℕ) → Bytes s → Bytes t → Bytes (s ++ t)
bytes-append [] t h k = k
bytes-append (x ∷ s) t h k = (h.0, bytes-append s t h.1 k)

-- the first n of a list of bytes are bytes
pub bytes_take : (n : ℕ) (s : List ℕ) → Bytes s → Bytes (take n s)
bytes_take zero s h = tt
bytes_take (suc n) [] h = tt
bytes_take (suc n) (x ∷ s) h = (h.0, bytes_take n s h.1)

-- what follows the first n of a list of bytes is bytes
pub bytes_drop : (n : ℕ) (s : List ℕ) → Bytes s → Bytes (drop n s)
bytes_drop zero s h = h
bytes_drop (suc n) [] h = tt
bytes_drop (suc n) (x ∷ s) h = bytes_drop n s h.1

-- a run of zeros, however long, is bytes
pub bytes_zeros : (n : ℕ) → Bytes (replicate n 0)
bytes_zeros zero = tt
bytes_zeros (suc n) = (lit< tt, bytes_zeros n)
