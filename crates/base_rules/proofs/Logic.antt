-- Cases on a truth value, a flag by its number, what tests joined by `&&` and `||` tell, and the test that two numbers differ. Assumes nothing.
use mathlib.Core.Path.{◌≡◌, refl, sym, ◌∙◌}
use mathlib.Core.Bool.{Bool, true, false, not, ◌&&◌, ◌||◌}
use Prim.Native.Nat.{ℕ}
use native.Mathlib.Omega.{arith}
use borrow.Author.Tests.{eqb-true, not-false, eq-eqb, ne_eqb}
use lib.Dec.{eqb}
use Rattle.base_rules.specs.Tests.{bit}

-- a decision on a truth value
pub either {ℓ} : {P : Type ℓ} (b : Bool) → (b ≡ true → P) → (b ≡ false → P) → P
either true p q = p refl
either false p q = q refl

-- nothing is both true and false
pub clash {ℓ} : {P : Type ℓ} {b : Bool} → b ≡ true → b ≡ false → P
clash p q = let z : ◌≡◌ {A = ℕ} 0 1 = cc (p, q) in absurd (omega arith)

-- a flag that is a test's value, and what a branch says of the flag
pub told : {b x y : Bool} → b ≡ x → b ≡ y → x ≡ y
told p q = sym p ∙ q

-- no two flags have one number
pub bit_one : (a b : Bool) → bit a ≡ bit b → a ≡ b
bit_one true true e = refl
bit_one true false e = absurd (omega arith)
bit_one false true e = absurd (omega arith)
bit_one false false e = refl

-- where both of two tests are true, the first is
pub and_left : (a b : Bool) → (a && b) ≡ true → a ≡ true
and_left true b e = refl
and_left false b e = e

-- where both of two tests are true, the second is
pub and_right : (a b : Bool) → (a && b) ≡ true → b ≡ true
and_right true b e = e
and_right false b e = cc

-- two tests of which the second is false are not both true
pub and_false : (b : Bool) → (b && false) ≡ false
and_false true = refl
and_false false = refl

-- where neither of two tests is true, the first is false
pub or_left : (a b : Bool) → (a || b) ≡ false → a ≡ false
or_left true b e = e
or_left false b e = refl

-- where neither of two tests is true, the second is false
pub or_right : (a b : Bool) → (a || b) ≡ false → b ≡ false
or_right true b e = cc
or_right false b e = e

-- tests joined by `||`: one that is true ends them, one that is false hands on to the rest
pub hit : {a : Bool} (b : Bool) → a ≡ true → true ≡ (a || b)
hit b e = simp e

-- behind a test that is false, the value of the rest is that of the whole
pub pass : {a b r : Bool} → a ≡ false → r ≡ b → r ≡ (a || b)
pass e q = simp e q

-- two numbers that are to be equal
pub same : {a b : ℕ} → a ≡ b → not (eqb a b) ≡ false
same {a} {b} e = rw (eq-eqb a b e)

-- of two numbers that differ, the test that they differ is true
pub other : {a b : ℕ} → (a ≡ b → ⊥) → not (eqb a b) ≡ true
other {a} {b} e = rw (ne_eqb a b e)

-- where the test that they differ is false, two numbers are equal
pub same_from : {a b : ℕ} → not (eqb a b) ≡ false → a ≡ b
same_from {a} {b} e = eqb-true a b (not-false (eqb a b) e)
