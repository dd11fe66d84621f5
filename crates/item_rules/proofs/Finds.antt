-- What a search finds stands in the packet. Assumes nothing.
use Prim.Native.Nat.{ℕ, zero, suc}
use mathlib.Core.List.{List, ◌∷◌, map}
use mathlib.Core.Path.{◌≡◌, sym, ◌∙◌}
use mathlib.Core.Bool.{Bool, true, false, cond}
use lib.Dec.{eqb}
use lib.ListN.{get_or}
use Rattle.std.specs.Prelude.{Some, None}
use Rattle.item_rules.specs.declared.Item.{Item}
use Rattle.item_rules.specs.Run.{Run, next_of, run_of, first_of, named_in, nth_of}
use Rattle.item_rules.proofs.Steps.{zero_one}
use Rattle.item_rules.proofs.Runs.{Stands, every-run}
use Rattle.item_rules.proofs.FirstOccurrence.{first_is_nth}

module _ (s : List ℕ) (name end : ℕ) where
  -- every occurrence in a run is an item of the packet
  abbrev Stand : ℕ → Run → Type 0
  Stand at r = (k : ℕ) (i : Item) → nth_of name k r ≡ Some i → Stands s end i

  -- an item has the name looked for, and is the first occurrence, or not
  item_by : (b : Bool) (j : Item) (l : List Item) → Stands s end j
      → ((k : ℕ) (i : Item) → get_or (map Some l) k None ≡ Some i → Stands s end i)
      → (k : ℕ) (i : Item) → get_or (map Some (cond b (j ∷ l) l)) k None ≡ Some i → Stands s end i
  item_by true j l here behind zero i q = record { at = here.at; here = cc here.here }
  item_by true j l here behind (suc k) i q = behind k i q
  item_by false j l here behind k i q = behind k i q

  -- the occurrence of a number that a search finds is an item of that packet
  pub nth_stands : (k at : ℕ) (i : Item) → nth_of name k (run_of s at end) ≡ Some i → Stands s end i
  unfolding nth_of named_in
  nth_stands k at =
      every-run s end Stand
      (λ b j e behind. item_by (eqb j.name name) j (named_in name (run_of s (next_of j) end)) (record { at = b; here = e }) behind)
      (λ b p few left k i q. absurd (zero_one (cc))) (λ b k i q. absurd (zero_one (cc))) at k

  -- so is the first
  pub found_stands : (i : Item) (at : ℕ) → first_of name (run_of s at end) ≡ Some i → Stands s end i
  found_stands i at q = nth_stands 0 at i (sym (first_is_nth name (run_of s at end)) ∙ q)
