-- A step of the nested walk, by what stands at its position, and where it goes on.
use Prim.Native.Nat.{ℕ, zero, suc, ◌+◌, ◌-◌, ◌≤◌, ◌<◌, min}
use mathlib.Core.List.{List}
use mathlib.Core.Path.{◌≡◌, refl, sym}
use mathlib.Core.Bool.{true, false}
use native.Mathlib.Numerals.{sub-one}
use native.Mathlib.Omega.{arith}
use lib.ListN.{set}
use borrow.Author.Tests.{lt-ltb, le-ltb, eq-eqb, ne_eqb}
use Rattle.base_rules.specs.Tests.{among}
use Rattle.item_rules.specs.declared.Bytes.{Bytes}
use Rattle.std.specs.Prelude.{Ok, Err}
use Rattle.base_rules.specs.Refusal.{number}
use Rattle.base_rules.specs.declared.Refusal.{Refusal}
use Rattle.item_rules.specs.declared.Item.{Item}
use Rattle.item_rules.specs.declared.Step.TheVariants as step
use Rattle.item_rules.specs.Item.{step_in}
use Rattle.item_rules.specs.Run.{next_of}
use Rattle.walk_rules.specs.declared.Handed.TheVariants as handed
use Rattle.walk_rules.specs.declared.Walker.{Walker}
use Rattle.walk_rules.specs.Names.{deepest, names_of, names_fault}
use Rattle.walk_rules.specs.Step.{goes_on, end_of, step_from, step_fault, walk_step}

suc-ne-zero : {d : ℕ} → suc d ≡ 0 → ⊥
suc-ne-zero z = omega arith

module _ (s cs : List ℕ) (at : ℕ) (ends : List ℕ) where
  -- at an item a step hands it out with its depth, and goes on in its value or behind it
  pub step-item : (d end : ℕ) (i : Item) (w : Walker) → end ≡ end_of s ends d → step_in s at end ≡ Ok (step.Item i) → w ≡ goes_on cs d ends i
      → step_from s cs at d ends ≡ record { handed = Ok (handed.Item (record { depth = d; item = i })); next = w }
  unfolding step_from
  step-item zero end i w b e q = simp (← b, e, ← q)
  step-item (suc d) end i w b e q = simp (← b, e, ← q)

  -- at the outer packet's padding a step answers END with that padding, and stays there
  pub step_end : (d end : ℕ) (p : Bytes) → end ≡ end_of s ends d → step_in s at end ≡ Ok (step.End p) → d ≡ 0
      → step_from s cs at d ends ≡ record { handed = Ok (handed.End p); next = record { refusal = 0; at = at; depth = 0; ends = ends } }
  unfolding step_from
  step_end zero end p b e z = simp (← b, e)
  step_end (suc d) end p b e z = absurd (suc-ne-zero z)

  -- at an inner packet's padding a step is that of the packet one level up, from the inner one's end on
  pub step_up : (d end : ℕ) (p : Bytes) → end ≡ end_of s ends d → step_in s at end ≡ Ok (step.End p) → (d ≡ 0 → ⊥)
      → step_from s cs at d ends ≡ step_from s cs end (d - 1) ends
  unfolding step_from
  step_up zero end p b e z = absurd (z refl)
  step_up (suc d) end p b e z = rw (sub-one (suc d)) (simp (← b, e))

  -- at a refused item a step answers that number, and stays there
  pub step-refused : (d end : ℕ) (n : Refusal) → end ≡ end_of s ends d → step_in s at end ≡ Err n
      → step_from s cs at d ends ≡ record { handed = Err (number n); next = record { refusal = 0; at = at; depth = d; ends = ends } }
  unfolding step_from
  step-refused zero end n b e = simp (← b, e)
  step-refused (suc d) end n b e = simp (← b, e)

-- where a walk goes on
module _ (cs : List ℕ) (d : ℕ) (ends : List ℕ) (i : Item) where
  -- after a container above the deepest level the walk goes on in its value, one deeper
  pub into : d < deepest → among i.name cs ≡ true
      → record { refusal = 0; at = i.from; depth = d + 1; ends = set ends (d + 1) (next_of i) } ≡ goes_on cs d ends i
  unfolding goes_on
  into h a = sym (simp (lt-ltb d deepest h, a))

  -- after an item above the deepest level that is no container it goes on behind the item
  pub behind : d < deepest → among i.name cs ≡ false → record { refusal = 0; at = next_of i; depth = d; ends = ends } ≡ goes_on cs d ends i
  unfolding goes_on
  behind h a = sym (simp (lt-ltb d deepest h, a))

  -- after any item on the deepest level, container or not, it goes on behind the item
  pub behind_deepest : deepest ≤ d → record { refusal = 0; at = next_of i; depth = d; ends = ends } ≡ goes_on cs d ends i
  unfolding goes_on
  behind_deepest h = sym (simp (le-ltb d deepest h))

-- a walk that was refused stays, and so does one with a list that is refused; any other steps on
module _ (s l : List ℕ) (w : Walker) where
  -- a walk that was refused answers its number at each step, and stays as it is
  pub stays : (w.refusal ≡ 0 → ⊥) → walk_step s l w ≡ record { handed = Err w.refusal; next = w }
  unfolding walk_step step_fault
  stays h = simp (ne_eqb w.refusal 0 h)

  -- a walk that was not refused answers the number of a list of names that opening refuses, and stays as it is
  pub list_stays : w.refusal ≡ 0 → (names_fault l ≡ 0 → ⊥) → walk_step s l w ≡ record { handed = Err (names_fault l); next = w }
  unfolding walk_step step_fault
  list_stays z h = simp (eq-eqb w.refusal 0 z, ne_eqb (names_fault l) 0 h)

  -- a walk that was not refused, with a list that is not, steps from where it stands, a depth below the deepest taken as that
  pub steps_on : w.refusal ≡ 0 → names_fault l ≡ 0 → walk_step s l w ≡ step_from s (names_of l) w.at (min w.depth deepest) w.ends
  unfolding walk_step step_fault
  steps_on z h = simp (eq-eqb w.refusal 0 z, eq-eqb (names_fault l) 0 h)
