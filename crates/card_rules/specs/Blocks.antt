-- What the filling's call for C answers, as card.h says it: the answer of `code_decoder::fill` as one number, and what is kept as bytes.
use Rattle.base_rules.specs.declared.Refusal.{Refusal}
use Rattle.std.specs.Prelude.{◌≡◌, Bool, not, List, [], ◌∷◌, ℕ, zero, suc, eqb, get_or, Result}
use Rattle.base_rules.specs.Bounds.{most_f}
use Rattle.base_rules.specs.Answer.{Answer, granted, refused}
use Rattle.code_rules.specs.Calls.{number_of, BlockFilled}
use Rattle.code_rules.specs.declared.Filled.{Filled}

-- test a, test (a + 1), .., n of them
unfoldable pub flags : (ℕ → Bool) → ℕ → ℕ → List Bool
flags test a zero = []
flags test a (suc n) = test a ∷ flags test (suc a) n

-- fragment i is kept where byte i is not 0; past the end of the bytes there are zeros
abbrev pub is_kept : List ℕ → ℕ → Bool
is_kept bytes i = not (eqb (get_or bytes i 0) 0)

-- the same for each of the 256 fragments that can be
unfoldable pub kept_of : List ℕ → List Bool
kept_of bytes = flags (is_kept bytes) 0 most_f

-- an answer as one number: the refusal's, else the first value, and 0 where there is none
unfoldable pub one_number : Answer → ℕ
one_number (granted []) = 0
one_number (granted (v ∷ values)) = v
one_number (refused n) = n

-- that of a filling: 256 and 257 are its values
abbrev pub filled_number : Result Filled Refusal → ℕ
filled_number a = one_number (number_of a)

-- `code_decoder::fill` was answered, and r is the number of its answer
pub record CardFilled (kept : List ℕ) (f s k : ℕ) (block after : List ℕ) (r : ℕ) : Type 0 where
  pub answer : Result Filled Refusal
  pub left : BlockFilled (kept_of kept) f s k block after answer
  pub number : r ≡ filled_number answer
