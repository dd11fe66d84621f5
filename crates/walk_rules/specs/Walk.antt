-- The nested walk (document 01, "TAG layer"): a container's value is again a packet; outer items come before their contents, which follow at once.
use Rattle.std.specs.Prelude.{Bool, not, cond, ◌&&◌, List, [], ◌∷◌, ℕ, zero, suc, ◌+◌, ◌%◌, eqb, ltb, length}
use Rattle.base_rules.specs.Tests.{first, among}
use Rattle.item_rules.specs.declared.Item.{Item}
use Rattle.item_rules.specs.declared.Repeats.{Repeats}
use Rattle.item_rules.specs.Run.{Run, item, padding, refused, next_of, run_of, fault_of, or_else, forbids}
use Rattle.walk_rules.specs.Names.{deepest, names_of, names_fault}

-- the items in the order in which they are handed out, each with its depth, and how the walk ends: with the outer packet's padding, or refused
pub data Tour : Type 0 where
  visit : ℕ → Item → Tour → Tour
  ends : ℕ → Tour
  stops : ℕ → Tour

-- refused with that number, unless it is 0
abbrev pub unless : ℕ → Tour → Tour
unless n t = cond (eqb n 0) t (stops n)

-- one walk, and after its end another; where the first is refused that is the end
unfoldable pub and_then : Tour → Tour → Tour
and_then (visit d i t) u = visit d i (and_then t u)
and_then (ends p) u = u
and_then (stops n) u = unless n u

-- document 01: an item's own fault in a walk: 31 and 33, then 35 WHOLE for a container that is not whole bytes, then 32 DEPTH below the deepest
unfoldable pub walk_fault : List ℕ → ℕ → Bool → Item → ℕ
walk_fault cs d before i =
    or_else (fault_of before i) (first ((among i.name cs && not (eqb (i.bits.0 % 8) 0), 35) ∷ (ltb deepest d, 32) ∷ []))

-- the walk of a run at depth d, after items of the names seen, where `inner` walks a container's value; document 02, Item 1: by the caller's word
unfoldable pub tour_by : Repeats → (Item → Tour) → List ℕ → ℕ → List ℕ → Run → Tour
tour_by word inner cs d seen (item i r) =
    unless (walk_fault cs d (forbids word && among i.name seen) i)
    (visit d i (and_then (cond (among i.name cs) (inner i) (ends 0)) (tour_by word inner cs d (i.name ∷ seen) r)))
tour_by word inner cs d seen (padding p) = ends p
tour_by word inner cs d seen (refused n) = stops n

-- the walk of a run of s at depth d, with so many levels left below it
unfoldable pub tour_at : Repeats → ℕ → List ℕ → List ℕ → ℕ → List ℕ → Run → Tour
tour_at word zero s cs d seen r = tour_by word (λ i. ends 0) cs d seen r
tour_at word (suc levels) s cs d seen r = tour_by word (λ i. tour_at word levels s cs (d + 1) [] (run_of s i.from (next_of i))) cs d seen r

-- the number with which a walk is refused, 0 where it is not
unfoldable pub refusal : Tour → ℕ
refusal (visit d i t) = refusal t
refusal (ends p) = 0
refusal (stops n) = n

-- document 01: the walk of a whole packet checks the list of names first
unfoldable pub walk_of : Repeats → List ℕ → List ℕ → Tour
walk_of word s l = unless (names_fault l) (tour_at word (deepest + 1) s (names_of l) 0 [] (run_of s 0 (length s)))
