-- The list of container names: what is left of it from a name on, and when it is refused.
use Prim.Native.Nat.{ℕ, suc, ◌+◌, ◌-◌, ◌*◌, ◌/◌, ◌%◌, ◌≤◌, ◌<◌}
use mathlib.Core.List.{List, [], ◌∷◌}
use mathlib.Core.Path.{◌≡◌, refl, sym, ap, ◌∙◌}
use mathlib.Core.Bool.{Bool, true, false, not, ◌||◌}
use native.Mathlib.Omega.{arith}
use native.Mathlib.Numerals.{add-one}
use lib.Dec.{eqb, ltb}
use lib.ListN.{length}
use borrow.Author.Tests.{eq-eqb, ne_eqb, lt-ltb, le-ltb}
use Rattle.base_rules.specs.Bytes.{number_at}
use Rattle.base_rules.specs.Table.{table}
use Rattle.base_rules.specs.Tests.{first, among}
use Rattle.base_rules.proofs.Firsts.{due, skip, none_due}
use Rattle.walk_rules.specs.Names.{most_names, name_bytes, names_of, names_fault}

-- the names from number j on
module _ (l : List ℕ) (name : ℕ) where
  -- whether a name is among the container names from number j on
  unfoldable pub is_left : ℕ → Bool
  is_left j = among name (table (λ j. number_at name_bytes l (name_bytes * j)) j (length l / name_bytes - j))

  -- a name is a container name just where it is among those from the first on
  pub left_first : among name (names_of l) ≡ is_left 0
  unfolding is_left names_of
  left_first =
      let z : length l / name_bytes ≡ length l / name_bytes - 0 = omega arith in
      ap (λ (n : ℕ). among name (table (λ j. number_at name_bytes l (name_bytes * j)) 0 n)) z

  more : (j : ℕ) → j < length l / name_bytes → length l / name_bytes - j ≡ suc (length l / name_bytes - suc j)
  more j h = omega arith

  -- a name that is container name j is among those from j on
  pub left_here : (j n : ℕ) → j < length l / name_bytes → n ≡ number_at name_bytes l (name_bytes * j) → n ≡ name → is_left j ≡ true
  unfolding is_left among table
  left_here j n h q e = rw (more j h) (simp (eq-eqb (number_at name_bytes l (name_bytes * j)) name (sym q ∙ e)))

  -- any other name is among those from j on just where it is among those behind j
  pub left_next : (j n : ℕ) → j < length l / name_bytes → n ≡ number_at name_bytes l (name_bytes * j) → (n ≡ name → ⊥) → is_left j ≡ is_left (j + 1)
  unfolding is_left among table
  left_next j n h q e = rw (more j h, add-one j) (simp (ne_eqb (number_at name_bytes l (name_bytes * j)) name (λ z. e (q ∙ z))))

  -- behind the last container name no name is left
  pub left_none : (j : ℕ) → length l / name_bytes ≤ j → is_left j ≡ false
  unfolding is_left among table
  left_none j h = let z : length l / name_bytes - j ≡ 0 = omega arith in simp z

-- the list's fault, by the tests
module _ (l : List ℕ) where
  -- a list longer than 8 names is refused as 43 BITS
  pub too_many : name_bytes * most_names < length l → 43 ≡ names_fault l
  unfolding names_fault
  too_many h = due _ _ (simp (lt-ltb _ _ h))

  -- a list no longer than 8 names that does not end with a whole one is refused as 43 BITS
  pub cut_short : length l ≤ name_bytes * most_names → (length l % name_bytes ≡ 0 → ⊥) → 43 ≡ names_fault l
  unfolding names_fault
  cut_short h e = due _ _ (simp (le-ltb _ _ h, ne_eqb _ _ e))

  -- a list that is refused is refused as 43 BITS
  pub fault_is : (names_fault l ≡ 0 → ⊥) → names_fault l ≡ 43
  unfolding names_fault first
  fault_is h = go (ltb (name_bytes * most_names) (length l) || not (eqb (length l % name_bytes) 0)) h
    where
      go : (b : Bool) → (first ((b, 43) ∷ []) ≡ 0 → ⊥) → first ((b, 43) ∷ []) ≡ 43
      go true h = refl
      go false h = absurd (h refl)

  -- a list of at most 8 whole names is not refused
  pub well_formed : length l ≤ name_bytes * most_names → length l % name_bytes ≡ 0 → ◌≡◌ {A = ℕ} 0 (names_fault l)
  unfolding names_fault
  well_formed h e = skip _ _ (simp (le-ltb _ _ h, eq-eqb _ _ e)) none_due
