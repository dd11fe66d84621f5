-- What the parts of forming are handed and hand on.
use Rattle.std.specs.Prelude.{◌≡◌, true, false, List, [], ◌++◌, ℕ, zero, suc, ◌+◌, ◌≤◌, length, take, drop, Option, Some, None}
use Rattle.base_rules.specs.Bounds.{place, parity}
use Rattle.places_rules.specs.declared.Place.{Place}
use Rattle.places_rules.specs.Faults.{bad_place}
use Rattle.form_rules.specs.Agree.{enough_in, lost_in, joined, Fills, Agrees}

-- document 01: a place in range whose fragments suffice, with its bytes
pub record Ready (p : Place) (held : List ℕ) : Type 0 where
  pub ranged : bad_place p ≡ false
  pub suffice : enough_in p ≡ true
  pub room : place ≤ length held

-- document 01: Q agrees with the kept bytes, whatever the AF checks say of it, and no other packet does
pub record Only (p : Place) (held Q : List ℕ) : Type 0 where
  pub coded : p.fec ≡ true → Fills p.count p.size p.rsk p.rsz (lost_in p) held Q
  pub plain : p.fec ≡ false → Q ≡ joined p held
  pub only : (P : List ℕ) → Agrees p held P → P ≡ Q

-- document 01: the first n bytes of a buffer are the one packet that can agree; or none can
abbrev pub Proposal : Place → List ℕ → List ℕ → Option ℕ → Type 0
Proposal p held buffer (Some n) = (n ≤ length buffer) × Only p held (take n buffer)
Proposal p held buffer None = (P : List ℕ) → Agrees p held P → ⊥

-- clause 7.4.4: the k data bytes of each of c chunks, one behind the other
unfoldable pub data_of : List ℕ → ℕ → ℕ → List ℕ
data_of cells k zero = []
data_of cells k (suc c) = take k cells ++ data_of (drop (k + parity) cells) k c
