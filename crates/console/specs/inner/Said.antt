-- What the console writes of an address, which no vector reaches.
use Rattle.std.specs.Prelude.{List, [], ◌∷◌, ◌++◌, ℕ, Option, Some, None}
use Rattle.base_rules.specs.Bytes.{bytes_of}
use Rattle.text_rules.specs.Text.{hex_of}
use Rattle.cut_rules.specs.declared.Address.{Address}

-- an address behind a blank, as a question has it: source and then destination in hex, `-` for none
unfoldable pub address_said : Option Address → List ℕ
address_said None = 32 ∷ 45 ∷ []
address_said (Some a) = ((32 ∷ []) ++ hex_of (bytes_of 2 a.source)) ++ hex_of (bytes_of 2 a.dest)
