-- Writing a TAG item (clause 5.2; document 01, "TAG layer" and "Numbers given back").
use Rattle.std.specs.Prelude.{not, List, [], ◌∷◌, ◌++◌, ℕ, ◌+◌, ◌-◌, ◌%◌, ◌^◌, eqb, ltb, length, get_or, set}
use Rattle.base_rules.specs.Answer.{Outcome, settled}
use Rattle.base_rules.specs.Bytes.{splice, bytes_of}
use Rattle.base_rules.specs.Tests.{first}
use Rattle.item_rules.specs.Item.{head, bytes_for, unused_of}
use Rattle.item_rules.specs.Run.{bad_ptr}

-- a value whose last byte is brought down to a multiple of p
unfoldable pub trimmed_by : ℕ → List ℕ → List ℕ
trimmed_by p v = set v (length v - 1) (get_or v (length v - 1) 0 - get_or v (length v - 1) 0 % p)

-- document 01: the sender writes zeros into the unused bits
unfoldable pub trimmed : ℕ → List ℕ → List ℕ
trimmed bits v = trimmed_by (2 ^ unused_of bits) v

-- clause 5.2: the item: its name, its length in bits, its value
unfoldable pub item_bytes : ℕ → ℕ → List ℕ → List ℕ
item_bytes name bits v = (bytes_of 4 name ++ bytes_of 4 bits) ++ trimmed bits v

-- document 01: what writing a value of `len` bytes is refused for, with `room` bytes lent: 43 BITS, 33 PTR, 1 ROOM
unfoldable pub write_fault : ℕ → ℕ → ℕ → ℕ → ℕ
write_fault name bits len room = first ((not (eqb len (bytes_for bits)), 43) ∷ (bad_ptr name bits, 33) ∷ (ltb room (head + bytes_for bits), 1) ∷ [])

-- document 01: else the item takes the first bytes of out and no others
unfoldable pub write_call : ℕ → ℕ → List ℕ → List ℕ → Outcome
write_call name bits v out = settled (write_fault name bits (length v) (length out)) [] (splice out 0 (item_bytes name bits v)) out
