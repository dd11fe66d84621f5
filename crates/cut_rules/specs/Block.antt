-- The block that is cut with FEC (clause 7.3.1; document 01, "PFT layer"): c chunks of k bytes, each followed by its parity.
-- What the parity of a chunk is, another layer says: here it is a parameter.
use Rattle.std.specs.Prelude.{List, [], ◌++◌, ℕ, zero, suc, take, drop, replicate}

-- clause 7.3.1: the packet and z zeros
unfoldable pub padded : List ℕ → ℕ → List ℕ
padded packet z = packet ++ replicate z 0

-- clause 7.3.1: a chunk and its parity
unfoldable pub with_parity : (List ℕ → List ℕ) → List ℕ → List ℕ
with_parity parity_of chunk = chunk ++ parity_of chunk

-- clause 7.3.1: c of them, one behind the other
unfoldable pub block_of : (List ℕ → List ℕ) → List ℕ → ℕ → ℕ → List ℕ
block_of parity_of xs k zero = []
block_of parity_of xs k (suc c) = with_parity parity_of (take k xs) ++ block_of parity_of (drop k xs) k c
