-- How the missing bytes are found: by the polynomial whose roots are the missing places' locators.
use Rattle.std.specs.Prelude.{◌≡◌, List, [], ◌∷◌, ℕ, ◌+◌, ◌*◌, ◌≤◌, ◌<◌, length, take, get_or}
use Rattle.base_rules.specs.Bounds.{parity}
use Rattle.field_rules.specs.Field.{◌⊕◌, ◌⊗◌, inv}
use Rattle.codeword.specs.Code.{horner, value, times_root}
use Rattle.code_rules.specs.inner.Words.{table}
use Rattle.code_rules.specs.inner.Kernel.{Doubles}

-- p times z + x for each x
unfoldable pub roots_times : List ℕ → List ℕ → List ℕ
roots_times p [] = p
roots_times p (x ∷ xs) = roots_times (times_root x p) xs

-- the polynomial whose roots are xs
unfoldable pub locator_of : List ℕ → List ℕ
locator_of xs = roots_times (1 ∷ []) xs

-- what Horner's rule comes to after each coefficient
unfoldable pub prefixes : ℕ → ℕ → List ℕ → List ℕ
prefixes x h [] = []
prefixes x h (c ∷ cs) = h ⊗ x ⊕ c ∷ prefixes x (h ⊗ x ⊕ c) cs

-- the locator polynomial divided by z + x
unfoldable pub column : List ℕ → ℕ → List ℕ
column xs x = prefixes x 0 (take (length xs) (locator_of xs))

-- the sum of the coefficients, each times the member of s of its exponent
unfoldable pub mix : List ℕ → List ℕ → ℕ
mix s [] = 0
mix s (c ∷ cs) = get_or s (length cs) 0 ⊗ c ⊕ mix s cs

-- a list has the members of another, and 0 past its end
unfoldable pub Same : List ℕ → List ℕ → Type 0
Same a b = (m : ℕ) → get_or a m 0 ≡ get_or b m 0

-- p times z + x, in 49 places from the highest coefficient down
unfoldable pub root_step : List ℕ → ℕ → List ℕ
root_step p x = table (parity + 1) (λ m. get_or p m 0 ⊕ x ⊗ get_or (0 ∷ p) m 0)

-- 48 members of q from row m on
unfoldable pub row_of : List ℕ → ℕ → List ℕ
row_of q m = table parity (λ j. get_or q (m * parity + j) 0)

-- the member j of each of the e rows of q
unfoldable pub col_of : List ℕ → ℕ → ℕ → List ℕ
col_of q e j = table e (λ m. get_or q (m * parity + j) 0)

-- the sum `mix` of s and each of 48 columns of q
unfoldable pub mixed : List ℕ → List ℕ → ℕ → List ℕ
mixed s q e = table parity (λ j. mix s (col_of q e j))

-- a list of rows of 48 with s put in as row m, as far as the list goes, and all else as it was
pub record Put (q : List ℕ) (m : ℕ) (s q' : List ℕ) : Type 0 where
  pub size : length q' ≡ length q
  pub row : (j : ℕ) → j < parity → m * parity + j < length q → get_or q' (m * parity + j) 0 ≡ get_or s j 0
  pub before : (i : ℕ) → i < m * parity → get_or q' i 0 ≡ get_or q i 0
  pub behind : (i : ℕ) → m * parity + parity ≤ i → get_or q' i 0 ≡ get_or q i 0

-- e rows in place of q's, as far as q goes: Horner's rule at the 48 first members of k after each of e coefficients p, and the rest of q as it
-- was; and d is Horner's rule over these in each column
pub record Columns (k p : List ℕ) (e : ℕ) (q q' d : List ℕ) : Type 0 where
  pub size : length q' ≡ length q
  pub rows : (m j : ℕ) → m < e → j < parity → m * parity + j < length q
      → get_or q' (m * parity + j) 0 ≡ horner (get_or k j 0) 0 (take (m + 1) p)
  pub rest : (i : ℕ) → e * parity ≤ i → get_or q' i 0 ≡ get_or q i 0
  pub last : d ≡ table parity (λ j. horner (get_or k j 0) 0 (prefixes (get_or k j 0) 0 (take e p)))

-- the factor of each missing byte: the inverse of x d
unfoldable pub scales_of : List ℕ → List ℕ → List ℕ
scales_of x d = table parity (λ j. inv (get_or x j 0 ⊗ get_or d j 0))

-- all that depends on the missing places alone: xs their locators
pub record Pattern (xs q sc : List ℕ) : Type 0 where
  pub few : length xs ≤ parity
  pub cols : (j : ℕ) → j < length xs → col_of q (length xs) j ≡ column xs (get_or xs j 0)
  pub scales : (j : ℕ) → j < length xs → get_or sc j 0 ≡ inv (get_or xs j 0 ⊗ value (get_or xs j 0) (column xs (get_or xs j 0)))
  pub twos : Doubles sc
  pub bytes : (j : ℕ) → j < parity → get_or sc j 0 < 256

-- a b in each of 48 lanes
unfoldable pub times_all : List ℕ → List ℕ → List ℕ
times_all a b = table parity (λ i. get_or b i 0 ⊗ get_or a i 0)

-- the inverse in each of 48 lanes
unfoldable pub inverses_of : List ℕ → List ℕ
inverses_of x = table parity (λ i. inv (get_or x i 0))
