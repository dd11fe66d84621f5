-- What an interleaving that is not refused keeps of the block, as it can be held against document 01, "PFT layer". Proved in proofs/Proved.antt.
use Rattle.std.specs.Prelude.{◌≡◌, List, ℕ, ◌/◌, ◌%◌, ◌<◌, length, get_or}
use Rattle.cut_rules.specs.Cells.{fragment_of}
use Rattle.weave_rules.specs.Calls.{interleave_fault}

-- document 01: "byte q of that block goes to fragment q mod f, offset floor(q / f)": every byte of a block that is taken has its cell
abbrev pub EveryByte : Type 0
EveryByte = (block : List ℕ) (f s i room q : ℕ) → interleave_fault (length block) f s i room ≡ 0 → q < length block
    → (q % f < f) × (q / f < s) × (get_or (fragment_of block f s (q % f)) (q / f) 0 ≡ get_or block q 0)
