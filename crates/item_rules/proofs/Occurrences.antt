-- The occurrences of a name in a run. Assumes nothing.
use Prim.Native.Nat.{ℕ, zero, suc, ◌-◌, ◌≤◌, ◌<◌}
use mathlib.Core.Bool.{Bool, true, false, cond}
use mathlib.Core.List.{List, [], ◌∷◌, map}
use mathlib.Core.Path.{◌≡◌, refl, sym, ap, subst, ◌∙◌}
use native.Mathlib.Nat.{not-suc-le-zero, le_of_suc-le-suc}
use native.Mathlib.Omega.{arith}
use lib.Dec.{eqb}
use lib.ListN.{length, get_or}
use Rattle.std.specs.Prelude.{Ok, Some, None}
use Rattle.base_rules.proofs.Logic.{or_left, or_right}
use Rattle.item_rules.specs.declared.Item.{Item}
use Rattle.item_rules.specs.declared.Step.TheVariants as step
use Rattle.item_rules.specs.Item.{step_in}
use Rattle.item_rules.specs.Run.{Run, item, padding, refused, next_of, run_of, first_of, has_name, named_in, nth_of}
use Rattle.item_rules.proofs.Steps.{zero_one}
use Rattle.item_rules.proofs.FirstOccurrence.{first_is_nth}
use Rattle.item_rules.proofs.Runs.{falls, every-run}

-- ---- one of a list, or nothing

-- within the list it is that element,
pub listed : (l : List Item) (k : ℕ) (i : Item) → k < length l → get_or (map Some l) k None ≡ Some (get_or l k i)
listed [] k i h = absurd (not-suc-le-zero h)
listed (j ∷ l) zero i h = refl
listed (j ∷ l) (suc k) i h = listed l k i (le_of_suc-le-suc h)

-- and beyond its end nothing
pub unlisted : (l : List Item) (k : ℕ) → length l ≤ k → get_or (map Some l) k None ≡ None
unlisted [] k h = refl
unlisted (j ∷ l) zero h = absurd (not-suc-le-zero h)
unlisted (j ∷ l) (suc k) h = unlisted l k (le_of_suc-le-suc h)

-- a run that has not the name has no item of that name
pub none_named : (name : ℕ) (r : Run) → has_name name r ≡ false → named_in name r ≡ []
unfolding has_name named_in
none_named name (item i r) q =
    simp (or_left (eqb i.name name) (has_name name r) q) (none_named name r (or_right (eqb i.name name) (has_name name r) q))
none_named name (padding n) q = refl
none_named name (refused n) q = refl

-- nor has one in which the search for the name finds nothing
pub none_found : (name : ℕ) (r : Run) → first_of name r ≡ None → named_in name r ≡ []
unfolding first_of named_in
none_found name (item i r) = go (eqb i.name name) (none_found name r)
  where
    go : (b : Bool) → (first_of name r ≡ None → named_in name r ≡ []) → cond b (Some i) (first_of name r) ≡ None
        → cond b (i ∷ named_in name r) (named_in name r) ≡ []
    go true behind q = absurd (zero_one (cc))
    go false behind q = behind q
none_found name (padding n) = λ q. refl
none_found name (refused n) = λ q. refl

-- ---- occurrences, one behind the other

module _ (s : List ℕ) (name end : ℕ) where
  -- the first item of a name from a place on ends behind that place, and the others of the name are those behind it
  abbrev Leads : ℕ → Run → Type 0
  Leads at r = (i : Item) → first_of name r ≡ Some i → (end - next_of i < end - at) × (named_in name r ≡ i ∷ named_in name (run_of s (next_of i) end))

  item_by : (b : Bool) (at : ℕ) (j : Item) → step_in s at end ≡ Ok (step.Item j) → Leads (next_of j) (run_of s (next_of j) end)
      → (i : Item) → cond b (Some j) (first_of name (run_of s (next_of j) end)) ≡ Some i
      → (end - next_of i < end - at)
      × (cond b (j ∷ named_in name (run_of s (next_of j) end)) (named_in name (run_of s (next_of j) end)) ≡ i ∷ named_in name (run_of s (next_of i) end))
  item_by true at j e behind i q =
      let same : j ≡ i = cc in
      (subst (λ (x : Item). end - next_of x < end - at) same (falls s at end j e), ap (λ (x : Item). x ∷ named_in name (run_of s (next_of x) end)) same)
  item_by false at j e behind i q = let rest = behind i q in (omega (arith, rest.0, falls s at end j e), rest.1)

  leads : (at : ℕ) → Leads at (run_of s at end)
  unfolding first_of named_in
  leads =
      every-run s end Leads (λ at j e behind. item_by (eqb j.name name) at j e behind) (λ at p few left i q. absurd (zero_one (cc)))
      (λ at i q. absurd (zero_one (cc)))

  -- fewer bytes are left behind it
  pub first_falls : (at : ℕ) (i : Item) → first_of name (run_of s at end) ≡ Some i → end - next_of i < end - at
  first_falls at i q = (leads at i q).0

  -- it is occurrence 0,
  pub nth_here : (at k : ℕ) (i : Item) → first_of name (run_of s at end) ≡ Some i → k ≡ 0 → nth_of name k (run_of s at end) ≡ Some i
  nth_here at k i q z = ap (λ (n : ℕ). nth_of name n (run_of s at end)) z ∙ sym (first_is_nth name (run_of s at end)) ∙ q

  -- behind it each has a number one less,
  pub nth_past : (at k : ℕ) (i : Item) → first_of name (run_of s at end) ≡ Some i → (k ≡ 0 → ⊥)
      → nth_of name k (run_of s at end) ≡ nth_of name (k - 1) (run_of s (next_of i) end)
  unfolding nth_of
  nth_past at zero i q h = absurd (h refl)
  nth_past at (suc k) i q h =
      let less : k ≡ suc k - 1 = omega arith in
      ap (λ (l : List Item). get_or (map Some l) (suc k) None) (leads at i q).1
      ∙ ap (λ (n : ℕ). get_or (map Some (named_in name (run_of s (next_of i) end))) n None) less

  -- and where there is none, there is none of any number
  pub nth_none : (at k : ℕ) → first_of name (run_of s at end) ≡ None → nth_of name k (run_of s at end) ≡ None
  unfolding nth_of
  nth_none at k q = ap (λ (l : List Item). get_or (map Some l) k None) (none_found name (run_of s at end) q)
