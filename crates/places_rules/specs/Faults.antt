-- What a record is refused for (14), and a fragment by the place that holds its number (9 to 12): document 01, "Numbers given back".
use Rattle.std.specs.Prelude.{Bool, false, not, cond, ◌||◌, ◌&&◌, [], ◌∷◌, ℕ, ◌*◌, ltb, leb, eqb, get_or}
use Rattle.std.specs.Bool.{beq}
use Rattle.base_rules.specs.Bounds.{most_f, bad_k, place}
use Rattle.base_rules.specs.Tests.{first}
use Rattle.header_rules.specs.declared.Header.{Header}
use Rattle.places_rules.specs.declared.Place.{Place}
use Rattle.places_rules.specs.declared.Table.{Table}
use Rattle.places_rules.specs.Places.{four, delivered, spoiled, place_at, is_last}

-- 14 STATE: the ranges of a place's figures, in which every place can be formed with no byte outside it: at most 256 fragments, which
-- fit the place, the last one too, which is no longer than the others
unfoldable pub bad_figures : Place → Bool
bad_figures p =
    ltb most_f p.count
    || (ltb place (p.count * p.size)
    || (ltb place p.last
    || (not (eqb p.size 0) && ltb p.size p.last)))

-- with FEC, k and z are not those of a chunk
unfoldable pub bad_code : Place → Bool
bad_code p = p.fec && (bad_k p.rsk || leb p.rsk p.rsz)

-- 14 STATE: one of a place's fields is out of its range
unfoldable pub bad_place : Place → Bool
bad_place p = ltb spoiled p.condition || (bad_figures p || bad_code p)

-- 14 STATE: a field of the record is outside its range
unfoldable pub bad_table : Table → Bool
bad_table t =
    leb four t.oldest || (bad_place (place_at t 0) || (bad_place (place_at t 1) || (bad_place (place_at t 2) || bad_place (place_at t 3))))

-- 9 MISMATCH: a size that cannot belong: with FEC it differs from s; without, a fragment before the last differs from a known s or is
-- shorter than the kept last, or the last is longer than a known s
unfoldable pub bad_size_in : Place → Header → Bool
bad_size_in p h =
    cond h.fec
    (not (eqb p.size h.plen))
    (cond (is_last h)
    (not (eqb p.size 0) && ltb p.size h.plen)
    ((not (eqb p.size 0) && not (eqb p.size h.plen)) || ltb h.plen p.last))

-- 9 MISMATCH: held with other Fcount, FEC bit, RSk, RSz, or a size that cannot belong
unfoldable pub mismatch : Place → Header → Bool
mismatch p h =
    not (eqb p.count h.count)
    || (not (beq p.fec h.fec)
    || (not (eqb p.rsk h.rsk)
    || (not (eqb p.rsz h.rsz)
    || bad_size_in p h)))

-- 9 MISMATCH, 10 SPOILED, 11 LATE, 12 REPEAT, in this order; 0 where the fragment is to be kept
unfoldable pub place_fault : Place → Header → ℕ
place_fault p h =
    first
    ((mismatch p h, 9)
    ∷ (eqb p.condition spoiled, 10)
    ∷ (eqb p.condition delivered, 11)
    ∷ (get_or p.kept h.index false, 12)
    ∷ [])
