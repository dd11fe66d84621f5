-- Texts of the listing (document 01, "On each side of the edge") and of the console are read back, so no two numbers and no two runs of bytes
-- have the same text; a writer touches nothing but what it wrote. Proved in proofs/Proved.antt.
use Rattle.std.specs.Prelude.{◌≡◌, cond, List, [], ◌∷◌, ℕ, ◌+◌, ◌-◌, ◌*◌, ◌≤◌, ◌<◌, ltb, length, get_or}
use Rattle.text_rules.specs.Text.{decimal_of, hex_of}
use Rattle.text_rules.specs.Wrote.{Wrote}

-- the number that decimal digits say behind a number x that was read before them
unfoldable pub number_from : ℕ → List ℕ → ℕ
number_from x [] = x
number_from x (a ∷ t) = number_from (x * 10 + (a - 48)) t

-- what a letter of `0` to `9` and `a` to `f` says
unfoldable pub digit_in : ℕ → ℕ
digit_in a = cond (ltb a 97) (a - 48) (a - 87)

-- the bytes that hex digits say, two digits a byte
unfoldable pub from_hex : List ℕ → List ℕ
from_hex [] = []
from_hex (a ∷ []) = []
from_hex (a ∷ b ∷ t) = (digit_in a * 16 + digit_in b) ∷ from_hex t

-- the digits of a number are read back, so no two numbers have the same; no number but 0 has a `0` in front
pub record Decimal : Type 0 where
  pub back : (x : ℕ) → number_from 0 (decimal_of x) ≡ x
  pub one : (x y : ℕ) → decimal_of x ≡ decimal_of y → x ≡ y
  pub front : (x : ℕ) → 0 < x → 48 < get_or (decimal_of x) 0 0

-- bytes in hex are read back, so no two runs of bytes have the same
pub record Hex : Type 0 where
  pub back : (s : List ℕ) → from_hex (hex_of s) ≡ s
  pub one : (s t : List ℕ) → hex_of s ≡ hex_of t → s ≡ t

-- what a writer leaves: where it wrote nothing the buffer is as it was, and what it wrote is within the buffer and before each byte that stayed
pub record Bounded : Type 0 where
  pub none : (before after : List ℕ) (at : ℕ) → Wrote before at at after → after ≡ before
  pub inside : (before after : List ℕ) (from to : ℕ) → Wrote before from to after → to ≤ length after
  pub behind : (before after : List ℕ) (from to i : ℕ) → Wrote before from to after → to ≤ i → get_or after i 0 ≡ get_or before i 0
