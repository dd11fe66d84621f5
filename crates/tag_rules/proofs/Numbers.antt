-- The number and values of what a reader hands out and of where a name is, by the faults of the packets. Assumes nothing.
use Prim.Native.Nat.{ℕ, zero, suc}
use mathlib.Core.Bool.{Bool, true, false, cond, not, ◌||◌}
use mathlib.Core.List.{List, [], ◌∷◌, map}
use mathlib.Core.Path.{◌≡◌, refl, sym, ap, ◌∙◌}
use native.Mathlib.Omega.{arith}
use lib.Dec.{eqb, leb}
use lib.ListN.{length, get_or}
use borrow.Author.Tests.{eqb-true, leb-true, leb-false, le-leb, lt-leb}
use Rattle.base_rules.specs.Answer.{granted, refused as refused-with, answered}
use Rattle.base_rules.specs.Tests.{first}
use Rattle.base_rules.proofs.Logic.{either}
use Rattle.std.specs.Prelude.{Result, Ok, Err, Option, Some, None}
use Rattle.base_rules.specs.Refusal.{number, refusal_of, told, numbered, told_number}
use Rattle.base_rules.specs.declared.Refusal.{Refusal}
use Rattle.base_rules.specs.declared.Refusal.TheVariants as refusal
use Rattle.base_rules.proofs.Refusals.{numbered_told}
use Rattle.item_rules.specs.declared.Item.{Item}
use Rattle.item_rules.specs.declared.Repeats.{Repeats}
use Rattle.item_rules.specs.declared.Step.{Step}
use Rattle.item_rules.specs.declared.Step.TheVariants as step
use Rattle.item_rules.specs.Item.{step_in, values_of, values_in, number_of, overrun_in, step_values, step_call}
use Rattle.item_rules.specs.Run.{Run, item, padding, refused, first_of, faults_of, or_else, has_name, first_values, named_in, nth_of, nth_values}
use Rattle.item_rules.proofs.Numbers.{else_number, step_number}
use Rattle.item_rules.proofs.Runs.{run-refused}
use Rattle.item_rules.proofs.Steps.{refused_is}
use Rattle.tag_rules.proofs.Checking.{check_due}
use Rattle.tag_rules.specs.declared.Located.{Located}
use Rattle.tag_rules.specs.Find.{whole_run, check_of, in_packet, in_standing, locate_of, locate_nth_of}
use Rattle.tag_rules.specs.Calls.{read_of, read_number, read_call, first_call, values_at, located_number, locate_fault, locate_values, locate_call, nth_fault, locate_nth_call}

-- ---- a reader

-- a refusal is told with its number
told_err : (n : ℕ) → told_number values_in (Err n) ≡ refused-with n
unfolding told_number
told_err n = refl

module _ (s : List ℕ) (at refusal : ℕ) where
  -- the number of what a reader hands out is the refusal of its opening, or else that of the packet's fault where it stands
  pub read_number_lem : read_number (read_of s at refusal) ≡ read_call s at refusal
  unfolding read_of read_call step_call read_number number_of
  read_number_lem =
      else_number (told_number values_in) (numbered (step_in s at (length s))) (Err refusal) refusal (overrun_in s at (length s))
      (step_values s at (length s)) (numbered_told values_in (step_in s at (length s)) ∙ step_number s at (length s)) (λ some. told_err refusal)

  -- so what is handed out has that number
  pub read_told : (t : Result Step ℕ) → t ≡ read_of s at refusal → (t ≡ read_of s at refusal) × (read_number t ≡ read_call s at refusal)
  read_told t e = (e, ap read_number e ∙ read_number_lem)

-- where values are granted, no number is due
pub granted_by : (n : ℕ) (vs ws : List ℕ) → granted ws ≡ answered n vs → n ≡ 0
unfolding answered
granted_by zero vs ws e = refl
granted_by (suc n) vs ws e = cc

-- where an answer is refused, its number is due
pub refused_by : (n m : ℕ) (vs : List ℕ) → refused-with n ≡ answered m vs → (n ≡ m) × (n ≡ 0 → ⊥)
unfolding answered
refused_by n zero vs e = let z : ◌≡◌ {A = ℕ} 0 1 = cc in absurd (omega arith)
refused_by n (suc m) vs e = let same : n ≡ suc m = cc in (same, λ z. omega (arith, same, z))

module _ (w : Repeats) (s : List ℕ) where
  sound_by : (t : Result Step Refusal) → step_in s 0 (length s) ≡ t → check_of w s ≡ 0 → overrun_in s 0 (length s) ≡ 0
  unfolding check_of faults_of step_call number_of told number
  sound_by (Ok (step.Item i)) e z = granted_by _ _ _ (sym (ap number_of e) ∙ step_number s 0 (length s))
  sound_by (Ok (step.End p)) e z = granted_by _ _ _ (sym (ap number_of e) ∙ step_number s 0 (length s))
  sound_by (Err n) e z =
      let none : number n ≡ 0 = rw (run-refused s 0 (length s) n e) at z in
      let due : number n ≡ 30 = ap number (refused_is s 0 (length s) n e) in
      absurd (omega (arith, none, due))

  -- in a packet that passes the check the first item does not pass the end
  checked_first : or_else (check_of w s) (overrun_in s 0 (length s)) ≡ check_of w s
  checked_first =
      either (eqb (check_of w s) 0)
      (λ q. let z = eqb-true (check_of w s) 0 q in simp q (sound_by (step_in s 0 (length s)) refl z ∙ sym z)) (λ q. simp q)

  -- so the number of what a reader just opened hands out is that of the check
  pub first_told : (t : Result Step ℕ) → t ≡ read_of s 0 (check_of w s) → (t ≡ read_of s 0 (check_of w s)) × (read_number t ≡ first_call w s)
  unfolding first_call read_call
  first_told t e =
      (e, ap read_number e ∙ read_number_lem s 0 (check_of w s) ∙ ap (λ (n : ℕ). answered n (step_values s 0 (length s))) checked_first)

-- ---- where a name is

-- a packet at fault is refused with its number
denied_number : (w : Repeats) (s : List ℕ) → (check_of w s ≡ 0 → ⊥) → located_number (Err (refusal_of (check_of w s))) ≡ refused-with (check_of w s)
unfolding located_number told
denied_number w s some = ap refused-with (check_due w s some)

-- whether something was found, and what it tells
unfoldable pub is_at : Option Item → Bool
is_at (Some i) = true
is_at None = false

told_of : Option Item → List ℕ
told_of (Some i) = values_of i
told_of None = []

module _ (name : ℕ) where
  here_by : (b : Bool) (i : Item) (f : Option Item) → (b || is_at f ≡ is_at (cond b (Some i) f)) × (cond b (values_of i) (told_of f) ≡ told_of (cond b (Some i) f))
  unfolding is_at told_of
  here_by true i f = (refl, refl)
  here_by false i f = (refl, refl)

  -- a run has the name where it is found in it,
  pub has_found : (r : Run) → has_name name r ≡ is_at (first_of name r)
  unfolding has_name first_of is_at
  has_found (item i r) = rw (has_found r) (here_by (eqb i.name name) i (first_of name r)).0
  has_found (padding n) = refl
  has_found (refused n) = refl

  -- and tells what was found
  tells_found : (r : Run) → first_values name r ≡ told_of (first_of name r)
  unfolding first_values first_of told_of
  tells_found (item i r) = rw (tells_found r) (here_by (eqb i.name name) i (first_of name r)).1
  tells_found (padding n) = refl
  tells_found (refused n) = refl

-- by what is found in each of the two packets
places_by : (f g : Option Item)
    → located_number (in_packet f (in_standing g))
    ≡ answered (first ((not (is_at f || is_at g), 34) ∷ [])) (cond (is_at f) (0 ∷ told_of f) (1 ∷ told_of g))
unfolding located_number told values_at number answered first is_at told_of
places_by (Some i) g = refl
places_by None (Some j) = refl
places_by None None = refl

module _ (w : Repeats) (s t : List ℕ) (name : ℕ) where
  -- the number of where a name is is the fault of the packet, or else of the standing packet, or else 34
  pub locate_number : located_number (locate_of w s t name) ≡ locate_call w s t name
  unfolding locate_of locate_call locate_fault locate_values
  locate_number =
      else_number located_number _ (Err (refusal_of (check_of w s))) (check_of w s) _ _
      (else_number located_number _ (Err (refusal_of (check_of w t))) (check_of w t) _ _
      (rw (has_found name (whole_run s), has_found name (whole_run t), tells_found name (whole_run s), tells_found name (whole_run t))
      (places_by (first_of name (whole_run s)) (first_of name (whole_run t)))) (denied_number w t)) (denied_number w s)

  -- so an answer that is the defined one has that number
  pub locate_told : (l : Result Located Refusal) → l ≡ locate_of w s t name → (l ≡ locate_of w s t name) × (located_number l ≡ locate_call w s t name)
  locate_told l e = (e, ap located_number e ∙ locate_number)

-- ---- where an occurrence is

-- two numbers one greater each stand to each other as before
one_more : (a b : ℕ) → leb (suc a) (suc b) ≡ leb a b
one_more a b =
    either (leb a b) (λ t. le-leb (suc a) (suc b) (omega (arith, leb-true a b t)) ∙ sym t)
    (λ f. lt-leb (suc a) (suc b) (omega (arith, leb-false a b f)) ∙ sym f)

-- by the items of the name
occurs_by : (l : List Item) (k : ℕ)
    → located_number (in_packet (get_or (map Some l) k None) (Err refusal.Absent))
    ≡ answered (first ((leb (length l) k, 34) ∷ [])) (0 ∷ get_or (map values_of l) k [])
unfolding located_number told values_at number answered first
occurs_by [] k = simp (le-leb 0 k (omega arith))
occurs_by (i ∷ l) zero = simp (lt-leb (length (i ∷ l)) 0 (omega arith))
occurs_by (i ∷ l) (suc k) = simp (one_more (length l) k) (occurs_by l k)

module _ (w : Repeats) (s : List ℕ) (name number : ℕ) where
  -- the number of where an occurrence is is the fault of the packet, or else 34
  pub nth_number : located_number (locate_nth_of w s name number) ≡ locate_nth_call w s name number
  unfolding locate_nth_of locate_nth_call nth_fault nth_of nth_values
  nth_number = else_number located_number _ (Err (refusal_of (check_of w s))) (check_of w s) _ _ (occurs_by (named_in name (whole_run s)) number)
      (denied_number w s)

  -- so an answer that is the defined one has that number
  pub locate_nth_told : (l : Result Located Refusal) → l ≡ locate_nth_of w s name number
      → (l ≡ locate_nth_of w s name number) × (located_number l ≡ locate_nth_call w s name number)
  locate_nth_told l e = (e, ap located_number e ∙ nth_number)
