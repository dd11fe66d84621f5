-- The list of container names that a walk takes, and the bounds of a walk (document 01, "Bounds").
use Rattle.std.specs.Prelude.{not, ◌||◌, List, [], ◌∷◌, ℕ, ◌*◌, ◌/◌, ◌%◌, eqb, ltb, length}
use Rattle.base_rules.specs.Bytes.{number_at}
use Rattle.base_rules.specs.Table.{table}
use Rattle.base_rules.specs.Tests.{first}

-- document 01: nesting at most 4; items of the outer packet have depth 0
abbrev pub deepest : ℕ
deepest = 4

-- document 01: container names at most 8
abbrev pub most_names : ℕ
most_names = 8

-- a name has four bytes; the list has one name behind the other
abbrev pub name_bytes : ℕ
name_bytes = 4

-- the names of a list, each as a big-endian number
unfoldable pub names_of : List ℕ → List ℕ
names_of l = table (λ j. number_at name_bytes l (name_bytes * j)) 0 (length l / name_bytes)

-- document 01, 43 BITS: over 8 container names; a list that does not end with a whole name is refused as well
unfoldable pub names_fault : List ℕ → ℕ
names_fault l = first ((ltb (name_bytes * most_names) (length l) || not (eqb (length l % name_bytes) 0), 43) ∷ [])
