-- What a loop over the items of a packet keeps, whatever number it looks for item by item.
use Prim.Native.Nat.{ℕ, ◌+◌, ◌%◌, ◌≤◌}
use mathlib.Core.List.{List, [], ◌∷◌}
use mathlib.Core.Path.{◌≡◌, refl, sym, ap, ◌∙◌, subst}
use mathlib.Core.Bool.{Bool, true, false, ◌&&◌, ◌||◌}
use native.Mathlib.Omega.{arith}
use native.Mathlib.Nat.{le_refl}
use lib.ListN.{length, get_or, set, length-set}
use lib.Seq.{get_or-set_same, get_or-set_other}
use lib.Dec.{eqb}
use borrow.Author.Tests.{ne_eqb, eqb-true, eqb-false, ltb-true, lt-ltb, le-ltb}
use Rattle.std.specs.Prelude.{Ok, Option, Some, None}
use Rattle.base_rules.specs.Tests.{among}
use Rattle.base_rules.proofs.Logic.{clash, and_false}
use Rattle.item_rules.specs.declared.Item.{Item}
use Rattle.item_rules.specs.declared.Step.TheVariants as step
use Rattle.item_rules.specs.Item.{head, step_in}
use Rattle.item_rules.specs.Run.{Run, item, next_of, or_else, run_of, first_of, is_before, slots}
use Rattle.item_rules.proofs.Runs.{item_begins, run-item, first_here, first_next}

-- For a number F that is found item by item: `names` are those of the items before `at`. A name among them is found there and has its slot
-- marked; any other is found from `at` on, if at all.
pub record Seen (F : List ℕ → Run → ℕ) (s : List ℕ) (from end : ℕ) (marks : List Bool) (at : ℕ) : Type 0 where
  pub names : List ℕ
  pub rest : F [] (run_of s from end) ≡ F names (run_of s at end)
  pub left : (n : ℕ) → among n names ≡ true → is_before (first_of n (run_of s from end)) (at + head) ≡ true
  pub right : (n : ℕ) → among n names ≡ false → first_of n (run_of s from end) ≡ first_of n (run_of s at end)
  pub marked : (n : ℕ) → among n names ≡ true → get_or marks (n % slots) false ≡ true
  pub long : length marks ≡ slots

-- G is an item's own part of F, where its name has stood before or not
abbrev pub ByItem : (List ℕ → Run → ℕ) → (Bool → Item → ℕ) → Type 0
ByItem F G = (seen : List ℕ) (i : Item) (r : Run) → F seen (item i r) ≡ or_else (G (among i.name seen) i) (F (i.name ∷ seen) r)

-- what the code looks at to tell whether a name has stood before: h is the name's slot
abbrev pub again : List ℕ → ℕ → ℕ → List Bool → ℕ → Item → Bool
again s from end marks h i = get_or marks h false && is_before (first_of i.name (run_of s from end)) i.from

-- with a mark for each slot, set or not, no name has stood before the first item
pub seen_none : (F : List ℕ → Run → ℕ) (s : List ℕ) (from end : ℕ) (marks : List Bool) → length marks ≡ slots → Seen F s from end marks from
unfolding among
seen_none F s from end marks h =
    record { names = []; rest = refl; left = λ n q. clash q refl; right = λ n q. refl; marked = λ n q. clash q refl; long = h }

before_more : (f : Option Item) (a b : ℕ) → is_before f a ≡ true → a ≤ b → is_before f b ≡ true
before_more (Some j) a b q h = let l = ltb-true j.from a q in lt-ltb j.from b (omega arith)
before_more None a b q h = q

module _ (F : List ℕ → Run → ℕ) (G : Bool → Item → ℕ) (law : ByItem F G) (s : List ℕ) (from end : ℕ) (marks : List Bool) (at : ℕ) (i : Item)
    (w : Seen F s from end marks at) (e : step_in s at end ≡ Ok (step.Item i)) where
  begins : i.from ≡ at + head
  begins = item_begins s at end i e

  again_by : (b : Bool) → among i.name w.names ≡ b → again s from end marks (i.name % slots) i ≡ b
  again_by true q = simp (w.marked i.name q, begins, w.left i.name q)
  again_by false q =
      simp (w.right i.name q, first_here s i.name at end i e refl, le-ltb i.from i.from (le_refl _))
      (and_false (get_or marks (i.name % slots) false))

  left_by : (n : ℕ) (b b' : Bool) → eqb i.name n ≡ b → among n w.names ≡ b' → b || b' ≡ true
      → is_before (first_of n (run_of s from end)) (next_of i + head) ≡ true
  left_by n b true q r h = before_more (first_of n (run_of s from end)) (at + head) (next_of i + head) (w.left n r) (omega (arith, begins))
  left_by n true false q r h =
      simp (w.right n r, first_here s n at end i e (eqb-true _ _ q)) (lt-ltb i.from (next_of i + head) (omega arith))
  left_by n false false q r h = clash h refl

  right_by : (n : ℕ) (b b' : Bool) → eqb i.name n ≡ b → among n w.names ≡ b' → b || b' ≡ false
      → first_of n (run_of s from end) ≡ first_of n (run_of s (next_of i) end)
  right_by n true b' q r h = clash refl h
  right_by n false true q r h = clash refl h
  right_by n false false q r h = w.right n r ∙ first_next s n at end i e (eqb-false _ _ q)

  marked_by : (n : ℕ) (b b' b'' : Bool) → eqb (n % slots) (i.name % slots) ≡ b'' → eqb i.name n ≡ b → among n w.names ≡ b' → b || b' ≡ true
      → get_or (set marks (i.name % slots) true) (n % slots) false ≡ true
  marked_by n b b' true t q r h =
      rw (eqb-true (n % slots) (i.name % slots) t) (get_or-set_same marks (i.name % slots) true false (rw w.long (omega arith)))
  marked_by n b true false t q r h = get_or-set_other marks (i.name % slots) (n % slots) true false (eqb-false _ _ t) ∙ w.marked n r
  marked_by n true false false t q r h =
      absurd (eqb-false (n % slots) (i.name % slots) t (ap (λ (k : ℕ). k % slots) (sym (eqb-true i.name n q))))
  marked_by n false false false t q r h = clash h refl

  here : F [] (run_of s from end) ≡ or_else (G (among i.name w.names) i) (F (i.name ∷ w.names) (run_of s (next_of i) end))
  here = w.rest ∙ ap (F w.names) (run-item s at end i e) ∙ law w.names i (run_of s (next_of i) end)

  seen_next : G (among i.name w.names) i ≡ 0 → Seen F s from end (set marks (i.name % slots) true) (next_of i)
  unfolding among
  seen_next z = record {
    names = i.name ∷ w.names;
    rest = here ∙ simp z;
    left = λ n h. left_by n (eqb i.name n) (among n w.names) refl refl h;
    right = λ n h. right_by n (eqb i.name n) (among n w.names) refl refl h;
    marked = λ n h. marked_by n (eqb i.name n) (among n w.names) (eqb (n % slots) (i.name % slots)) refl refl refl h;
    long = simp length-set w.long;
  }

  module _ (h n : ℕ) (p : h ≡ i.name % slots) (q : n ≡ G (again s from end marks h i) i) where
    part : n ≡ G (among i.name w.names) i
    part =
        q ∙ ap (λ (k : ℕ). G (again s from end marks k i) i) p
        ∙ ap (λ (b : Bool). G b i) (again_by (among i.name w.names) refl)

    -- after an item with no fault
    pub turn : n ≡ 0 → Seen F s from end (set marks h true) (next_of i)
    turn z = subst (λ (k : ℕ). Seen F s from end (set marks k true) (next_of i)) (sym p) (seen_next (sym part ∙ z))

    -- an item at fault decides
    pub stops : (n ≡ 0 → ⊥) → n ≡ F [] (run_of s from end)
    stops z = sym (here ∙ simp (ne_eqb (G (among i.name w.names) i) 0 (λ k. z (part ∙ k)), ← part))
