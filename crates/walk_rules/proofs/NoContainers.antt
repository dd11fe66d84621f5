-- With no container names a walk is the packet's run, and is refused as the packet's check is. Assumes nothing.
use Prim.Native.Nat.{ℕ}
use mathlib.Core.List.{List, [], ◌∷◌}
use mathlib.Core.Path.{◌≡◌, refl, sym, ap, ◌∙◌}
use mathlib.Core.Bool.{Bool, true, false, cond, ◌&&◌}
use lib.Dec.{eqb}
use lib.ListN.{length}
use borrow.Author.Tests.{eqb-true}
use Rattle.base_rules.specs.Table.{table}
use Rattle.base_rules.specs.Tests.{first, among}
use Rattle.item_rules.specs.declared.Item.{Item}
use Rattle.item_rules.specs.declared.Repeats.{Repeats}
use Rattle.item_rules.specs.Run.{Run, item, padding, refused, next_of, run_of, fault_of, or_else, forbids, faults_of}
use Rattle.walk_rules.specs.Names.{deepest, names_of, names_fault}
use Rattle.walk_rules.specs.Walk.{Tour, visit, and_then, walk_fault, tour_by, tour_at, refusal, walk_of}
use Rattle.walk_rules.specs.Claims.{outer_of, NoNames}
use Rattle.walk_rules.proofs.Refusals.{unless_refusal}
use Rattle.walk_rules.proofs.PlainWalks.{or_left, or_right}

-- an item's fault at depth 0 where it is no container
own_fault : (b : Bool) (i : Item) → walk_fault [] 0 b i ≡ fault_of b i
unfolding walk_fault first among
own_fault b i = go (eqb (fault_of b i) 0) refl
  where
    go : (x : Bool) → eqb (fault_of b i) 0 ≡ x → cond x 0 (fault_of b i) ≡ fault_of b i
    go true q = sym (eqb-true (fault_of b i) 0 q)
    go false q = refl

module _ (word : Repeats) (inner : Item → Tour) where
  -- the walk's number is that of the leftmost item at fault
  number_by : (seen : List ℕ) (r : Run) → refusal (tour_by word inner [] 0 seen r) ≡ faults_of word seen r
  unfolding tour_by refusal faults_of and_then among
  number_by seen (item i r) =
      unless_refusal (walk_fault [] 0 (forbids word && among i.name seen) i) _
      ∙ ap (λ (n : ℕ). or_else n (refusal (tour_by word inner [] 0 (i.name ∷ seen) r))) (own_fault (forbids word && among i.name seen) i)
      ∙ ap (or_else (fault_of (forbids word && among i.name seen) i)) (number_by (i.name ∷ seen) r)
  number_by seen (padding p) = refl
  number_by seen (refused n) = refl

  -- where there is none, the walk is the run
  items_by : (seen : List ℕ) (r : Run) → faults_of word seen r ≡ 0 → tour_by word inner [] 0 seen r ≡ outer_of r
  unfolding tour_by outer_of faults_of and_then among
  items_by seen (item i r) z =
      let own = own_fault (forbids word && among i.name seen) i ∙ or_left _ (faults_of word (i.name ∷ seen) r) z in
      simp own (ap (visit 0 i) (items_by (i.name ∷ seen) r (or_right (fault_of (forbids word && among i.name seen) i) _ z)))
  items_by seen (padding p) z = refl
  items_by seen (refused n) z = refl

-- no names are none, and no fault
whole : (word : Repeats) (s : List ℕ)
    → walk_of word s [] ≡ tour_by word (λ i. tour_at word deepest s [] 1 [] (run_of s i.from (next_of i))) [] 0 [] (run_of s 0 (length s))
unfolding walk_of names_fault names_of tour_at table first
whole word s = refl

-- with no container names the walk has the check's number, and where that is 0 it is the run
pub no_names : NoNames
no_names word s =
    record {
      number = ap refusal (whole word s) ∙ number_by word _ [] (run_of s 0 (length s));
      items = λ z. whole word s ∙ items_by word _ [] (run_of s 0 (length s)) z;
    }
