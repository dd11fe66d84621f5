-- What the calls on fragments answer. Each takes f fragments of s bytes; document 01, "Numbers given back", has the numbers.
use Rattle.std.specs.Prelude.{Bool, false, not, ◌||◌, List, [], ◌∷◌, ℕ, ◌+◌, ◌*◌, leb, ltb, eqb, length, get_or, Result}
use Rattle.base_rules.specs.Bounds.{most_f, bad_k, place, parity}
use Rattle.base_rules.specs.Tests.{first, bit}
use Rattle.base_rules.specs.Answer.{Answer, answered, Outcome, settled}
use Rattle.base_rules.specs.Bytes.{splice}
use Rattle.base_rules.specs.Refusal.{told}
use Rattle.base_rules.specs.declared.Refusal.{Refusal}
use Rattle.cut_rules.specs.Sizes.{received_c}
use Rattle.cut_rules.specs.Cells.{fragment_of, cells_of}
use Rattle.cut_rules.specs.Missing.{suffice}
use Rattle.weave_rules.specs.declared.Held.{Held}
use Rattle.weave_rules.specs.declared.Held.TheVariants.{Enough, NotEnough}

-- document 01, 7 COUNT: Fcount 0 or over 256
unfoldable pub bad_count : ℕ → Bool
bad_count f = eqb f 0 || ltb most_f f

-- document 01, 8 SIZE: Fcount x Plen over 12,288
unfoldable pub too_much : ℕ → ℕ → Bool
too_much f s = ltb place (f * s)

-- document 01, 8 SIZE with FEC: k 0 or over 207, Fcount x Plen below k + 48
unfoldable pub bad_chunk : ℕ → ℕ → ℕ → Bool
bad_chunk f s k = bad_k k || ltb (f * s) (k + parity)

-- document 01, 8 SIZE: a block of `len` bytes passes the f s cells
unfoldable pub over_cells : ℕ → ℕ → ℕ → Bool
over_cells len f s = ltb (f * s) len

-- what interleaving a block of `len` bytes is refused for, with `room` bytes lent: 7, 8, 42 INDEX, ROOM
unfoldable pub interleave_fault : ℕ → ℕ → ℕ → ℕ → ℕ → ℕ
interleave_fault len f s i room = first ((bad_count f, 7) ∷ (too_much f s, 8) ∷ (over_cells len f s, 8) ∷ (leb f i, 42) ∷ (ltb room s, 1) ∷ [])

-- else fragment i of the block stands at the front of out
unfoldable pub interleave_of : List ℕ → ℕ → ℕ → ℕ → List ℕ → Outcome
interleave_of block f s i out = settled (interleave_fault (length block) f s i (length out)) [] (splice out 0 (fragment_of block f s i)) out

-- what the reverse is refused for: 7, 8, ROOM where the fragments held or the bytes lent are fewer than f s
unfoldable pub deinterleave_fault : ℕ → ℕ → ℕ → ℕ → ℕ
deinterleave_fault f s held room = first ((bad_count f, 7) ∷ (too_much f s, 8) ∷ (ltb held (f * s) || ltb room (f * s), 1) ∷ [])

-- else the cells stand at the front of out, in the block's order
unfoldable pub deinterleave_of : List ℕ → ℕ → ℕ → List ℕ → Outcome
deinterleave_of place f s out = settled (deinterleave_fault f s (length place) (length out)) [] (splice out 0 (cells_of place f s)) out

-- document 01, "The four places": a fragment is lost where it is not kept
abbrev pub not_kept : List Bool → ℕ → Bool
not_kept kept i = not (get_or kept i false)

-- what the test of sufficing is refused for: 7, 8
unfoldable pub enough_fault : ℕ → ℕ → ℕ → ℕ
enough_fault f s k = first ((bad_count f, 7) ∷ (too_much f s, 8) ∷ (bad_chunk f s k, 8) ∷ [])

-- else 1 where no chunk that the receiver takes misses more than 48 bytes, and 0 where one does
unfoldable pub enough_of : List Bool → ℕ → ℕ → ℕ → Answer
enough_of kept f s k = answered (enough_fault f s k) (bit (suffice (not_kept kept) f (k + parity) (received_c f s k)) ∷ [])

-- the value of each case: 1 where they suffice, 0 where not
unfoldable pub values_of : Held → List ℕ
values_of Enough = 1 ∷ []
values_of NotEnough = 0 ∷ []

-- document 01's number and the value, for each case
unfoldable pub number_of : Result Held Refusal → Answer
number_of r = told values_of r
