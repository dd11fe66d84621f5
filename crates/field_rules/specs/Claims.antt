-- What the field is (clause 7.3.1 of TS 102 821; document 01, "The code"), as it can be held against the documents. Its elements are the numbers
-- below 256; a law that names no bound holds of every number. Each claim is proved in proofs/Proved.antt.
use Rattle.std.specs.Prelude.{◌≡◌, List, [], ◌∷◌, ℕ, ◌+◌, ◌*◌, ◌^◌, ◌≤◌, ◌<◌, get_or}
use Rattle.base_rules.specs.Answer.{granted, refused}
use Rattle.field_rules.specs.Calls.{quotient_of}
use Rattle.field_rules.specs.Field.{◌⊕◌, ◌⊗◌, pow, alpha, inv, log_of}
use Rattle.field_rules.specs.inner.Tables.{Exps, Logs}

-- clause 7.3.1: the laws of the sum; each element is its own inverse, so that the difference is the sum
pub record Sum : Type 0 where
  pub element : (a b : ℕ) → a < 256 → b < 256 → a ⊕ b < 256
  pub assoc : (a b c : ℕ) → (a ⊕ b) ⊕ c ≡ a ⊕ (b ⊕ c)
  pub comm : (a b : ℕ) → a ⊕ b ≡ b ⊕ a
  pub zero : (a : ℕ) → a ⊕ 0 ≡ a
  pub inverse : (a : ℕ) → a ⊕ a ≡ 0

-- clause 7.3.1: the laws of the product; each element but 0 has an inverse, so that no product of two elements but 0 is 0
pub record Product : Type 0 where
  pub element : (a b : ℕ) → a ⊗ b < 256
  pub assoc : (a b c : ℕ) → (a ⊗ b) ⊗ c ≡ a ⊗ (b ⊗ c)
  pub comm : (a b : ℕ) → a ⊗ b ≡ b ⊗ a
  pub one : (a : ℕ) → a < 256 → a ⊗ 1 ≡ a
  pub spread : (a b c : ℕ) → a ⊗ (b ⊕ c) ≡ a ⊗ b ⊕ a ⊗ c
  pub inverse : (a : ℕ) → 0 < a → a < 256 → (inv a < 256) × (a ⊗ inv a ≡ 1)
  pub not-zero : (a b : ℕ) → 0 < a → a < 256 → 0 < b → b < 256 → 0 < a ⊗ b

-- document 01, "over x^8 + x^4 + x^3 + x^2 + 1, α = 2": bit i is the coefficient of α^i, and 2 times x is reduced by 11D hex where it leaves the byte
pub record Reduction : Type 0 where
  pub hex : 2 ^ 8 + 2 ^ 4 + 2 ^ 3 + 2 ^ 2 + 1 ≡ 0x11D
  pub root : alpha 8 ⊕ alpha 4 ⊕ alpha 3 ⊕ alpha 2 ⊕ 1 ≡ 0
  pub bits : (i : ℕ) → i < 8 → alpha i ≡ 2 ^ i
  pub kept : (x : ℕ) → x < 128 → 2 ⊗ x ≡ x * 2
  pub reduced : (x : ℕ) → 128 ≤ x → x < 256 → 2 ⊗ x ≡ x * 2 ⊕ 0x11D

-- document 01, 44: b times the quotient of a and b is a, and no other element is the quotient; by 0 there is none
pub record Quotient : Type 0 where
  pub back : (a b q : ℕ) → a < 256 → 0 < b → b < 256 → quotient_of a b ≡ granted (q ∷ []) → b ⊗ q ≡ a
  pub only : (a b q : ℕ) → 0 < b → b < 256 → q < 256 → b ⊗ q ≡ a → quotient_of a b ≡ granted (q ∷ [])
  pub by_zero : (a : ℕ) → quotient_of a 0 ≡ refused 44

-- document 01, "α = 2": the first 255 powers of α differ, and the next is 1 again
pub record Powers : Type 0 where
  pub power : (n : ℕ) → alpha n ≡ pow 2 n
  pub apart : (i j : ℕ) → i < 255 → j < 255 → alpha i ≡ alpha j → i ≡ j
  pub round : alpha 255 ≡ 1

-- so each element but 0 has a logarithm, and below 255 only one
pub record Logarithm : Type 0 where
  pub power : (a : ℕ) → 0 < a → a < 256 → (log_of a < 255) × (alpha (log_of a) ≡ a)
  pub only : (a l : ℕ) → l < 255 → alpha l ≡ a → l ≡ log_of a

-- document 01, "The tables of powers and logarithms of α have their rule proved over the whole table": what they hold at every entry,
pub record Tables (e l : List ℕ) : Type 0 where
  pub powers : (i : ℕ) → i < 255 → get_or e i 0 ≡ alpha i
  pub logarithms : (x : ℕ) → 0 < x → x < 256 → get_or l x 0 ≡ log_of x
  -- and that each is the inverse of the other
  pub log_of_power : (i : ℕ) → i < 255 → get_or l (get_or e i 0) 0 ≡ i
  pub power_of_log : (x : ℕ) → 0 < x → x < 256 → get_or e (get_or l x 0) 0 ≡ x

-- of every two that keep the rules
abbrev pub Ruled : Type 0
Ruled = (e l : List ℕ) → Exps e → Logs l → Tables e l
