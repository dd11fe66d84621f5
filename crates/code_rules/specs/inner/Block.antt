-- A block: chunks of k data bytes and 48 parity bytes, one after the other.
use Rattle.std.specs.Prelude.{◌≡◌, Bool, true, false, List, ℕ, zero, suc, ◌+◌, ◌*◌, ◌/◌, ◌≤◌, ◌<◌, length, get_or}
use Rattle.base_rules.specs.Bounds.{most_k, place, parity}
use Rattle.base_rules.specs.Bytes.{part_of}
use Rattle.codeword.specs.Code.{encode, Coded}
use Rattle.codeword.specs.Erasure.{marks, erase, count}
use Rattle.code_rules.specs.Fill.{Agrees}

-- c chunks and their masks, of which none marks more than 48 bytes
pub record Ready (k : ℕ) (mask : List ℕ) (c : ℕ) (block : List ℕ) : Type 0 where
  pub short : k ≤ most_k
  pub some : c ≤ place / parity
  pub masks : length mask ≡ c * (k + parity)
  pub chunks : length block ≡ c * (k + parity)
  pub few : (j : ℕ) → j < c → count (marks (part_of mask (k + parity) j)) ≤ parity

-- the missing bytes of c, which are 0, are put in; they were not found, since no chunk of the code has the others (clause 7.4.4)
pub record ChunkFailed (k : ℕ) (mask c after : List ℕ) : Type 0 where
  pub none : (w : List ℕ) → Coded k w → erase (marks mask) w ≡ c → ⊥
  pub keeps : erase (marks mask) after ≡ erase (marks mask) c

-- whether the missing bytes of c, which are 0, are found
abbrev pub ChunkTried : ℕ → List ℕ → List ℕ → List ℕ → Bool → Type 0
ChunkTried k mask c after true = Agrees k mask c after
ChunkTried k mask c after false = ChunkFailed k mask c after

-- the number that stands for a chunk's answer
abbrev pub answer_of : Bool → ℕ
answer_of true = 0
answer_of false = 1

-- what the number x says of the chunk a, which is b now: it is filled in; it has no filling; or from 2 up, its missing bytes are 0
unfoldable pub ChunkStatus : ℕ → List ℕ → List ℕ → List ℕ → ℕ → Type 0
ChunkStatus k m a b zero = Agrees k m a b
ChunkStatus k m a b (suc zero) = ((w : List ℕ) → Agrees k m a w → ⊥) × (erase (marks m) b ≡ erase (marks m) a)
ChunkStatus k m a b (suc (suc x)) = b ≡ erase (marks m) a

-- each number of ans says what became of its chunk of `old`
pub record BlockStatus (k : ℕ) (mask old new ans : List ℕ) : Type 0 where
  pub each : (j : ℕ) → j < length ans → ChunkStatus k (part_of mask (k + parity) j) (part_of old (k + parity) j) (part_of new (k + parity) j) (get_or ans j 0)

-- from one state of the block to a later one
pub record Later (k : ℕ) (mask blk ans blk' ans' : List ℕ) : Type 0 where
  pub size : length blk' ≡ length blk
  pub asize : length ans' ≡ length ans
  pub keep : (old : List ℕ) → BlockStatus k mask old blk ans → BlockStatus k mask old blk' ans'
  pub still : (j : ℕ) → get_or ans j 0 < 2 → get_or ans' j 0 < 2

-- two masks are the same, or not
abbrev pub SameTest : Bool → List ℕ → List ℕ → Type 0
SameTest true a b = a ≡ b
SameTest false a b = a ≡ b → ⊥

-- the first n answers are there
unfoldable pub AllDone : List ℕ → ℕ → Type 0
AllDone ans n = (j : ℕ) → j < n → get_or ans j 0 < 2

-- some answer is not 0
pub record SomeLeft (ans : List ℕ) : Type 0 where
  pub at : ℕ
  pub below : at < length ans
  pub left : get_or ans at 0 ≡ 0 → ⊥

-- whether each answer is 0
abbrev pub FoundTest : List ℕ → Bool → Type 0
FoundTest ans true = (j : ℕ) → j < length ans → get_or ans j 0 ≡ 0
FoundTest ans false = SomeLeft ans

-- the block after a turn of the class of chunk i: where chunk j is i itself, it has its answer
pub record AfterTurn (k i j : ℕ) (mask blk ans blk' ans' : List ℕ) : Type 0 where
  pub later : Later k mask blk ans blk' ans'
  pub done : j ≡ i → get_or ans' j 0 < 2

-- the block after the class of chunk i, which has its answer
pub record AfterClass (k i : ℕ) (mask blk ans blk' ans' : List ℕ) : Type 0 where
  pub later : Later k mask blk ans blk' ans'
  pub done : get_or ans' i 0 < 2

-- the block after all its classes, and whether each answer is that the chunk is filled in
pub record AfterClasses (k : ℕ) (mask blk ans blk' ans' : List ℕ) (r : Bool) : Type 0 where
  pub later : Later k mask blk ans blk' ans'
  pub done : AllDone ans' (length ans')
  pub told : FoundTest ans' r

-- one of c chunks has no filling, and 0 stands for each missing byte of all (clause 7.4.4)
pub record BlockFailed (k : ℕ) (mask : List ℕ) (c : ℕ) (old new : List ℕ) : Type 0 where
  pub at : ℕ
  pub below : at < c
  pub none : (w : List ℕ) → Agrees k (part_of mask (k + parity) at) (part_of old (k + parity) at) w → ⊥
  pub zeros : new ≡ erase (marks mask) old

-- whether all c chunks are filled in
abbrev pub BlockTried : ℕ → List ℕ → ℕ → List ℕ → List ℕ → Bool → Type 0
BlockTried k mask c old new true = (j : ℕ) → j < c → Agrees k (part_of mask (k + parity) j) (part_of old (k + parity) j) (part_of new (k + parity) j)
BlockTried k mask c old new false = BlockFailed k mask c old new

-- c chunks of the data: the first n are made (clause 7.3.1)
pub record Encoded (k n : ℕ) (src out : List ℕ) : Type 0 where
  pub each : (j : ℕ) → j < n → part_of out (k + parity) j ≡ encode (part_of src k j)

-- room for c chunks of the data (clause 7.3.1)
pub record EncSized (k c : ℕ) (src out : List ℕ) : Type 0 where
  pub short : k ≤ most_k
  pub datas : length src ≡ c * k
  pub chunks : length out ≡ c * (k + parity)

-- chunk j is made, and no other is touched (clause 7.3.1)
pub record OneEncoded (k c j : ℕ) (src out out' : List ℕ) : Type 0 where
  pub size : length out' ≡ length out
  pub made : part_of out' (k + parity) j ≡ encode (part_of src k j)
  pub others : (i : ℕ) → i < c → (i ≡ j → ⊥) → part_of out' (k + parity) i ≡ part_of out (k + parity) i
