-- The faults of a run where names may repeat, beside those where they may not. Assumes nothing.
use Prim.Native.Nat.{ℕ}
use mathlib.Core.Bool.{Bool, true, false, cond, ◌&&◌, and_assoc}
use mathlib.Core.List.{List, ◌∷◌}
use mathlib.Core.Path.{◌≡◌, refl, sym, ap, ◌∙◌}
use native.Mathlib.Omega.{arith}
use lib.Dec.{eqb}
use borrow.Author.Tests.{eqb-true}
use Rattle.base_rules.specs.Tests.{among}
use Rattle.base_rules.proofs.Logic.{either}
use Rattle.item_rules.specs.declared.Repeats.{Repeats}
use Rattle.item_rules.specs.declared.Repeats.TheVariants.{Forbidden, Allowed}
use Rattle.item_rules.specs.Run.{Run, item, padding, refused, fault_of, forbids, faults_of, or_else}
use Rattle.item_rules.specs.Claims.{AsItWas, Twice, NeverTwice}
use Rattle.item_rules.proofs.Runs.{every-run}
use Rattle.item_rules.proofs.Faults.{fault_again, fault_still, fault_never}

-- whether a name has stood before, as it counts by the caller's word, is its mark, as it counts, and then what a search says
pub counts : (w : Repeats) (mark before m : Bool) → m ≡ (forbids w && mark) → (m && before) ≡ (forbids w && (mark && before))
counts w mark before m q = ap (λ (b : Bool). b && before) q ∙ and_assoc (forbids w) mark before

-- two numbers of which neither is k are not k, one after the other
pub or-never : (k m n : ℕ) → (m ≡ k → ⊥) → (n ≡ k → ⊥) → or_else m n ≡ k → ⊥
or-never k m n p q = go (eqb m 0)
  where
    go : (b : Bool) → cond b n m ≡ k → ⊥
    go true e = q e
    go false e = p e

-- where repeats are forbidden, a name counts that has stood before,
pub as_it_was : AsItWas
unfolding faults_of forbids
as_it_was seen = record { at_item = λ i r. refl; at_end = λ n. (refl, refl) }

-- and its item is refused
pub faults_twice : Twice
faults_twice seen i r h q =
    (as_it_was seen).at_item i r ∙ ap (λ (n : ℕ). or_else n (faults_of Forbidden (i.name ∷ seen) r)) (sym (fault_again (among i.name seen) i h q))

-- where names may repeat, no run of a packet has 31
pub faults_never : NeverTwice
unfolding faults_of forbids
faults_never s at end =
    every-run s end (λ (at : ℕ) (r : Run). (seen : List ℕ) → faults_of Allowed seen r ≡ 31 → ⊥)
    (λ at i e behind seen. or-never 31 (fault_of false i) _ (fault_never i) (behind (i.name ∷ seen))) (λ at p few left seen q. omega arith)
    (λ at seen q. omega arith) at

-- where the leftmost item at fault is not so for its name, it is so with either word
pub faults_still : (seen : List ℕ) (r : Run) → (faults_of Forbidden seen r ≡ 31 → ⊥) → faults_of Allowed seen r ≡ faults_of Forbidden seen r
unfolding faults_of forbids
faults_still seen (item i r) h =
    let m : ℕ = fault_of (among i.name seen) i in
    let rest : ℕ = faults_of Allowed (i.name ∷ seen) r in
    let same : (m ≡ 31 → ⊥) → or_else (fault_of false i) rest ≡ or_else m rest =
    λ p. ap (λ (n : ℕ). or_else n rest) (fault_still (among i.name seen) i p) in
    either (eqb m 0)
    (λ z. same (λ q. omega (arith, q, eqb-true m 0 z)) ∙ simp z (faults_still (i.name ∷ seen) r (λ q. h (simp z q))))
    (λ f. same (λ q. h (simp f q)) ∙ simp f)
faults_still seen (padding n) h = refl
faults_still seen (refused n) h = refl
