-- What is claimed of the places (document 01, "The four places"): the proofs are in proofs/Proved.antt.
use Rattle.std.specs.Prelude.{false, ◌≡◌, ℕ, ◌+◌, ◌%◌, ◌<◌, length}
use Rattle.header_rules.specs.declared.Header.{Header}
use Rattle.header_rules.specs.Claims.{Sound}
use Rattle.places_rules.specs.declared.Place.{Place}
use Rattle.places_rules.specs.declared.Table.{Table}
use Rattle.places_rules.specs.Places.{four, free, fresh_table, place_at, with_place, open_at, turned, opened_by, kept_in}
use Rattle.places_rules.specs.Faults.{bad_place, bad_table, place_fault}

-- a fresh table is in range
abbrev pub FreshInRange : Type 0
FreshInRange = bad_table fresh_table ≡ false

-- a place in range that keeps a fragment which passed the checks 2 to 12 stays in range
abbrev pub KeptInRange : Type 0
KeptInRange = (p : Place) (h : Header) → bad_place p ≡ false → Sound h → place_fault p h ≡ 0 → bad_place (kept_in p h) ≡ false

-- so is a place that such a fragment opens
abbrev pub OpenedInRange : Type 0
OpenedInRange = (h : Header) → Sound h → bad_place (kept_in (opened_by h) h) ≡ false

-- "the place opened longest ago": the m-th opening since the table was fresh goes to place m mod 4, for ever. A table after m openings:
-- the first m places, of four, are held, the others free, and the oldest is that of opening m mod 4 once all are held
pub record Opened (m : ℕ) (t : Table) : Type 0 where
  pub size : length t.places ≡ four
  pub held : (i : ℕ) → i < four → i < m → (place_at t i).condition ≡ free → ⊥
  pub left : (i : ℕ) → i < four → (i < m → ⊥) → (place_at t i).condition ≡ free
  pub oldest : (m < four → t.oldest ≡ 0) × ((m < four → ⊥) → t.oldest ≡ m % four)

-- a fresh table is one after no opening,
abbrev pub OpenedFresh : Type 0
OpenedFresh = Opened 0 fresh_table

-- the next opening goes to its turn,
abbrev pub OpensInTurn : Type 0
OpensInTurn = (m : ℕ) (t : Table) → Opened m t → open_at t ≡ m % four

-- and leaves a table after one opening more;
abbrev pub OpenedNext : Type 0
OpenedNext =
    (m : ℕ) (t : Table) (p : Place) → Opened m t → (p.condition ≡ free → ⊥)
    → Opened (m + 1) (with_place (turned t (open_at t)) (open_at t) p)

-- keeping a fragment in a place that is held, delivering it or spoiling it opens none
abbrev pub Kept : Type 0
Kept =
    (m : ℕ) (t : Table) (i : ℕ) (p : Place) → Opened m t → ((place_at t i).condition ≡ free → ⊥) → (p.condition ≡ free → ⊥)
    → Opened m (with_place t i p)
