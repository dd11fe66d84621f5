-- A TAG packet as it is written (clause 5.1; document 01, "TAG layer"): items, one behind the other, then padding.
use Rattle.std.specs.Prelude.{◌≡◌, false, cond, List, [], ◌∷◌, ◌++◌, ℕ, ◌^◌, ◌<◌, eqb, length}
use Rattle.base_rules.specs.Tests.{among}
use Rattle.item_rules.specs.Item.{bytes_for}
use Rattle.item_rules.specs.Run.{dmy, bad_ptr}
use Rattle.write_rules.specs.Write.{item_bytes}

-- what an item is written from
pub record Entry : Type 0 where
  pub name : ℕ
  pub bits : ℕ
  pub value : List ℕ

-- clause 5.1: the items, one behind the other, then the padding
unfoldable pub packet_of : List Entry → List ℕ → List ℕ
packet_of [] pad = pad
packet_of (e ∷ es) pad = item_bytes e.name e.bits e.value ++ packet_of es pad

-- their names
unfoldable pub names_of : List Entry → List ℕ
names_of [] = []
names_of (e ∷ es) = e.name ∷ names_of es

-- document 02, Item 1: those of them that are written under a name, in their order
unfoldable pub written_as : ℕ → List Entry → List Entry
written_as name [] = []
written_as name (e ∷ es) = cond (eqb e.name name) (e ∷ written_as name es) (written_as name es)

-- clause 5.2: name and length are numbers of 4 bytes; document 01: neither 43 BITS nor 33 PTR
pub record Fits (e : Entry) : Type 0 where
  pub name_held : e.name < 2 ^ 32
  pub bits_held : e.bits < 2 ^ 32
  pub whole : length e.value ≡ bytes_for e.bits
  pub ptr_right : bad_ptr e.name e.bits ≡ false

-- each of them fits
abbrev pub AllFit : List Entry → Type 0
AllFit [] = Unit {0}
AllFit (e ∷ es) = Fits e × AllFit es

-- document 01, 31 TWICE: no name but "*dmy" stands again behind it
abbrev pub Apart : List Entry → Type 0
Apart [] = Unit {0}
Apart (e ∷ es) = ((e.name ≡ dmy → ⊥) → among e.name (names_of es) ≡ false) × Apart es
