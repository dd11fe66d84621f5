-- Interleaving and fragments (clause 7.3; document 01, "PFT layer"): byte q of the block goes to fragment q mod f, offset
-- floor(q / f); cells left over are zero.
use Rattle.std.specs.Prelude.{List, ℕ, ◌+◌, ◌*◌, ◌/◌, ◌%◌, get_or}
use Rattle.base_rules.specs.Table.{table}

-- document 01: the s bytes of fragment i; at offset t stands byte i + f t of the block, and past its end 0
unfoldable pub fragment_of : List ℕ → ℕ → ℕ → ℕ → List ℕ
fragment_of block f s i = table (λ t. get_or block (i + f * t) 0) 0 s

-- clause 7.4.3: cell q of a place that holds fragment i from i s on
unfoldable pub cell_of : List ℕ → ℕ → ℕ → ℕ → ℕ
cell_of place f s q = get_or place (q % f * s + q / f) 0

-- clause 7.4.3: all f s of them, in order
unfoldable pub cells_of : List ℕ → ℕ → ℕ → List ℕ
cells_of place f s = table (cell_of place f s) 0 (f * s)
