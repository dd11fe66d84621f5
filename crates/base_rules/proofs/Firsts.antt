-- Laws of `first`: which number is due, and what is known where none is. Assumes nothing.
use mathlib.Core.Path.{◌≡◌, refl}
use mathlib.Core.Bool.{Bool, true, false}
use mathlib.Core.List.{List, [], ◌∷◌}
use Prim.Native.Nat.{ℕ}
use Rattle.base_rules.specs.Tests.{first}

-- a test that is true gives its number,
pub due : {b : Bool} (n : ℕ) (ts : List (Bool × ℕ)) → b ≡ true → n ≡ first ((b, n) ∷ ts)
unfolding first
due n ts e = simp e

-- one that is false hands on to the rest,
pub skip : {b : Bool} {r : ℕ} (n : ℕ) (ts : List (Bool × ℕ)) → b ≡ false → r ≡ first ts → r ≡ first ((b, n) ∷ ts)
unfolding first
skip n ts e q = simp e q

-- and after the last test nothing is due
pub none_due : 0 ≡ first []
unfolding first
none_due = refl

-- where nothing is due, the first test was false, and nothing is due of the rest
pub clear : (b : Bool) (n : ℕ) (ts : List (Bool × ℕ)) → (n ≡ 0 → ⊥) → first ((b, n) ∷ ts) ≡ 0 → b ≡ false
unfolding first
clear true n ts p e = absurd (p e)
clear false n ts p e = refl

-- where nothing is due of all the tests, nothing is due of those behind the first
pub clear_rest : (b : Bool) (n : ℕ) (ts : List (Bool × ℕ)) → (n ≡ 0 → ⊥) → first ((b, n) ∷ ts) ≡ 0 → first ts ≡ 0
unfolding first
clear_rest true n ts p e = absurd (p e)
clear_rest false n ts p e = e
