-- What the calls on chunks and blocks answer; document 01, "Numbers given back", has the numbers.
use Rattle.std.specs.Prelude.{◌≡◌, Bool, true, false, not, ◌||◌, List, [], ◌∷◌, ℕ, ◌+◌, ◌-◌, ◌*◌, ◌<◌, leb, ltb, eqb, length, drop, Result, Ok, Err}
use Rattle.base_rules.specs.Bounds.{bad_k, place, parity}
use Rattle.base_rules.specs.Tests.{first, bit}
use Rattle.base_rules.specs.Answer.{Answer, answered, Outcome, settled}
use Rattle.base_rules.specs.Refusal as refusals
use Rattle.base_rules.specs.declared.Refusal.{Refusal}
use Rattle.base_rules.specs.Bytes.{splice, part_of}
use Rattle.base_rules.specs.Table.{table}
use Rattle.cut_rules.specs.Block.{padded, block_of}
use Rattle.cut_rules.specs.Missing.{gone, suffice}
use Rattle.cut_rules.specs.Sizes.{received_c}
use Rattle.weave_rules.specs.Calls.{bad_count, too_much, bad_chunk, not_kept}
use Rattle.codeword.specs.Code.{parity_of}
use Rattle.codeword.specs.Erasure.{marks, erase}
use Rattle.code_rules.specs.Fill.{Agrees, ChunkAfter}
use Rattle.code_rules.specs.declared.Filled.{Filled}
use Rattle.code_rules.specs.declared.Filled.TheVariants.{Done, Nothing, NotEnough}

-- document 01: what the parity of k bytes is refused for, with `room` bytes lent: 8 SIZE, 1 ROOM
unfoldable pub parity_fault : ℕ → ℕ → ℕ
parity_fault k room = first ((bad_k k, 8) ∷ (ltb room parity, 1) ∷ [])

-- else the parity stands at the front of out (clause 7.3.1)
unfoldable pub parity_call : List ℕ → List ℕ → Outcome
parity_call chunk out = settled (parity_fault (length chunk) (length out)) [] (splice out 0 (parity_of chunk)) out

-- document 01, 8 SIZE: c chunks of k bytes and their parity are more than a place holds
unfoldable pub over_place : ℕ → ℕ → Bool
over_place k c = ltb place (c * (k + parity))

-- clause 7.3.1: there is no chunk, or a packet of l bytes is too long for c chunks of k bytes, or leaves one of them or more empty
unfoldable pub misfits : ℕ → ℕ → ℕ → Bool
misfits l k c = eqb c 0 || (ltb (c * k) l || leb k (c * k - l))

-- document 01: what the block of a packet of l bytes is refused for, with `room` bytes lent: 8 SIZE, 1 ROOM
unfoldable pub encode_fault : ℕ → ℕ → ℕ → ℕ → ℕ
encode_fault l k c room = first ((bad_k k, 8) ∷ (over_place k c, 8) ∷ (misfits l k c, 8) ∷ (ltb room (c * (k + parity)), 1) ∷ [])

-- else the block of the packet and its zeros stands at the front of out (clause 7.3.1)
unfoldable pub encode_call : List ℕ → ℕ → ℕ → List ℕ → Outcome
encode_call packet k c out =
    settled (encode_fault (length packet) k c (length out)) [] (splice out 0 (block_of parity_of (padded packet (c * k - length packet)) k c)) out

-- the values of a filling's answer; 256 and 257 are no refusal's number, which is a byte
unfoldable pub values_of : Result Filled Refusal → List ℕ
values_of (Ok Done) = []
values_of (Ok Nothing) = 256 ∷ []
values_of (Ok NotEnough) = 257 ∷ []
values_of (Err e) = []

-- document 01's number for each case
unfoldable pub number_of : Result Filled Refusal → Answer
number_of r = refusals.told (λ f. values_of (Ok f)) r

-- document 01, 8 SIZE: k is no chunk's size, or mask and chunk have not k + 48 bytes
unfoldable pub bad_pair : ℕ → ℕ → ℕ → Bool
bad_pair k mask chunk = bad_k k || (not (eqb mask (k + parity)) || not (eqb chunk (k + parity)))

-- document 01: what the filling of a chunk is refused for: 8 SIZE
unfoldable pub chunk_fault : ℕ → ℕ → ℕ → ℕ
chunk_fault k mask chunk = first ((bad_pair k mask chunk, 8) ∷ [])

-- clause 7.4.4: the answer r for the chunk c, whose bytes that the mask marks are missing, and what stands in its place after
pub record ChunkFilled (k : ℕ) (mask c after : List ℕ) (r : Result Filled Refusal) : Type 0 where
  pub number : number_of r ≡ answered (chunk_fault k (length mask) (length c)) (values_of r)
  pub left : ChunkAfter k mask c after r

-- document 01, "The four places": the cells from a on, n of them, with 1 for each whose fragment is not kept
unfoldable pub lost_cells : List Bool → ℕ → ℕ → ℕ → List ℕ
lost_cells kept f a n = table (λ q. bit (gone (not_kept kept) f q)) a n

-- document 01: what the filling of a block is refused for, with `room` cells: 7 COUNT, 8 SIZE, 1 ROOM
unfoldable pub fill_fault : ℕ → ℕ → ℕ → ℕ → ℕ
fill_fault f s k room =
    first ((bad_count f, 7) ∷ (too_much f s, 8) ∷ (bad_chunk f s k, 8) ∷ (ltb room (received_c f s k * (k + parity)), 1) ∷ [])

-- clause 7.4.4: each of c chunks is one of the code that has the cells kept; what is behind them is as it was
pub record BlockDone (kept : List Bool) (f k c : ℕ) (block after : List ℕ) : Type 0 where
  pub size : length after ≡ length block
  pub each : (j : ℕ) → j < c → Agrees k (lost_cells kept f (j * (k + parity)) (k + parity)) (part_of block (k + parity) j)
      (part_of after (k + parity) j)
  pub behind : drop (c * (k + parity)) after ≡ drop (c * (k + parity)) block

-- clause 7.4.4: no chunk of the code has the cells kept of one of c chunks; 0 for each missing cell of all of them, and all else as it was
pub record BlockNothing (kept : List Bool) (f k c : ℕ) (block after : List ℕ) : Type 0 where
  pub at : ℕ
  pub below : at < c
  pub none : (w : List ℕ) → Agrees k (lost_cells kept f (at * (k + parity)) (k + parity)) (part_of block (k + parity) at) w → ⊥
  pub zeros : after ≡ erase (marks (lost_cells kept f 0 (c * (k + parity)))) block

-- clause 7.4.4: the block of c chunks, and what stands in its place after, by the answer; "enough" as weave's call answers it
abbrev pub BlockAfter : List Bool → ℕ → ℕ → ℕ → List ℕ → List ℕ → Result Filled Refusal → Type 0
BlockAfter kept f k c block after (Ok Done) = (suffice (not_kept kept) f (k + parity) c ≡ true) × BlockDone kept f k c block after
BlockAfter kept f k c block after (Ok Nothing) = (suffice (not_kept kept) f (k + parity) c ≡ true) × BlockNothing kept f k c block after
BlockAfter kept f k c block after (Ok NotEnough) = (suffice (not_kept kept) f (k + parity) c ≡ false) × (after ≡ block)
BlockAfter kept f k c block after (Err e) = after ≡ block

-- clause 7.4.4: the answer r for the block of f fragments of s bytes, and what stands in its place after
pub record BlockFilled (kept : List Bool) (f s k : ℕ) (block after : List ℕ) (r : Result Filled Refusal) : Type 0 where
  pub number : number_of r ≡ answered (fill_fault f s k (length block)) (values_of r)
  pub left : BlockAfter kept f k (received_c f s k) block after r
