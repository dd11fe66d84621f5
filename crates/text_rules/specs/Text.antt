-- Text in a lent buffer, and numbers and bytes as text (ASCII), for the listing of document 01 and the console.
use Rattle.std.specs.Prelude.{cond, List, [], ◌∷◌, ◌++◌, ℕ, zero, suc, ◌+◌, ◌-◌, ◌/◌, ◌%◌, min, ltb, length, take}
use Rattle.base_rules.specs.Bytes.{splice}

-- the buffer d with the text t from `at` on, as much of t as d has room for
unfoldable pub laid : List ℕ → ℕ → List ℕ → List ℕ
laid d at t = splice d at (take (length d - at) t)

-- the place behind that text
unfoldable pub behind : List ℕ → ℕ → List ℕ → ℕ
behind d at t = at + min (length t) (length d - at)

-- the letter of a digit below 16: `0` to `9`, then `a` to `f`
unfoldable pub letter_of : ℕ → ℕ
letter_of x = cond (ltb x 10) (48 + x) (87 + x)

-- the decimal digits of a number that has at most n of them, with no zeros in front
unfoldable pub digits_of : ℕ → ℕ → List ℕ
digits_of zero x = []
digits_of (suc n) x = cond (ltb x 10) (letter_of x ∷ []) (digits_of n (x / 10) ++ (letter_of (x % 10) ∷ []))

-- a number in decimal; x has at most x + 1 digits
unfoldable pub decimal_of : ℕ → List ℕ
decimal_of x = digits_of (suc x) x

-- bytes in hex, two digits a byte
unfoldable pub hex_of : List ℕ → List ℕ
hex_of [] = []
hex_of (b ∷ s) = letter_of (b / 16) ∷ letter_of (b % 16) ∷ hex_of s
