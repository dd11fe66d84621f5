-- The four places and the record of what they hold (document 01, "The four places").
use Rattle.std.specs.Prelude.{Bool, true, false, not, cond, ◌&&◌, ℕ, ◌+◌, ◌-◌, ◌*◌, ◌%◌, leb, eqb, get_or, set, replicate, Option, Some, None}
use Rattle.base_rules.specs.Bounds.{most_f, place}
use Rattle.header_rules.specs.declared.Header.{Header}
use Rattle.places_rules.specs.declared.Place.{Place}
use Rattle.places_rules.specs.declared.Table.{Table}

-- document 01, "Bounds": four places
abbrev pub four : ℕ
four = 4

-- document 01, "Bounds": the lent bytes of all four
abbrev pub all_places : ℕ
all_places = four * place

-- document 01: the condition of a place
abbrev pub free : ℕ
free = 0

-- open
abbrev pub open_now : ℕ
open_now = 1

-- delivered
abbrev pub delivered : ℕ
delivered = 2

-- spoiled
abbrev pub spoiled : ℕ
spoiled = 3

-- a place that holds nothing
abbrev pub free_place : Place
free_place = record {
  condition = free;
  number = 0;
  count = 0;
  fec = false;
  rsk = 0;
  rsz = 0;
  size = 0;
  last = 0;
  kept = replicate most_f false;
}

-- document 01: a fresh table is empty
unfoldable pub fresh_table : Table
fresh_table = record { places = replicate four free_place; oldest = 0 }

-- place i
unfoldable pub place_at : Table → ℕ → Place
place_at t i = get_or t.places i free_place

-- the table with place i as p
unfoldable pub with_place : Table → ℕ → Place → Table
with_place t i p = record { places = set t.places i p; oldest = t.oldest }

-- whose packet a fragment is of: its number
unfoldable pub key_of : Header → ℕ
key_of h = h.number

-- whose packet's fragments a place holds
unfoldable pub key_in : Place → ℕ
key_in p = p.number

-- document 01: "A fragment whose number is held"
unfoldable pub holds : Place → ℕ → Bool
holds p key = not (eqb p.condition free) && eqb (key_in p) key

-- the first of the four places that passes a test, else d
unfoldable pub first_place : (ℕ → Bool) → ℕ → ℕ
first_place test d = cond (test 0) 0 (cond (test 1) 1 (cond (test 2) 2 (cond (test 3) 3 d)))

-- document 01: the place that holds it, or 4 where none does
unfoldable pub held_at : Table → ℕ → ℕ
held_at t key = first_place (λ i. holds (place_at t i) key) four

-- document 01: "Otherwise it opens the first free place, or displaces the place opened longest ago"
unfoldable pub open_at : Table → ℕ
open_at t = first_place (λ i. eqb (place_at t i).condition free) t.oldest

-- document 01: the displaced number is named whenever its place was open
unfoldable pub displaced_at : Table → ℕ → Option ℕ
displaced_at t i = cond (eqb (place_at t i).condition open_now) (Some (key_in (place_at t i))) None

-- the place opened longest ago, after place i was opened: where none was free it is the next one
unfoldable pub turned : Table → ℕ → Table
turned t i = record { places = t.places; oldest = cond (eqb (place_at t i).condition free) t.oldest ((t.oldest + 1) % four) }

-- a place that a fragment opens; no fragment is kept yet
unfoldable pub opened_by : Header → Place
opened_by h = record {
  condition = open_now;
  number = h.number;
  count = h.count;
  fec = h.fec;
  rsk = h.rsk;
  rsz = h.rsz;
  size = 0;
  last = 0;
  kept = replicate most_f false;
}

-- document 01: without FEC the last fragment may have another size than the others
unfoldable pub is_last : Header → Bool
is_last h = not h.fec && leb h.count (h.index + 1)

-- where a fragment's payload stands in its place: fragment i from i s on; without FEC the last at the place's end
unfoldable pub offset_of : Header → ℕ
offset_of h = cond (is_last h) (place - h.plen) (h.index * h.plen)

-- the place with one fragment more; s is never taken from the last fragment
unfoldable pub kept_in : Place → Header → Place
kept_in p h = record {
  condition = p.condition;
  number = p.number;
  count = p.count;
  fec = p.fec;
  rsk = p.rsk;
  rsz = p.rsz;
  size = cond (is_last h) p.size h.plen;
  last = cond (is_last h) h.plen p.last;
  kept = set p.kept h.index true;
}

-- the place in another condition
unfoldable pub in_condition : Place → ℕ → Place
in_condition p condition = record {
  condition = condition;
  number = p.number;
  count = p.count;
  fec = p.fec;
  rsk = p.rsk;
  rsz = p.rsz;
  size = p.size;
  last = p.last;
  kept = p.kept;
}
