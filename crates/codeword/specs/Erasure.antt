-- Missing bytes (clause 7.4.4; document 01, "The four places"). A mask has a truth value for each place of a word: true where the byte is missing.
use Rattle.std.specs.Prelude.{Bool, true, false, not, List, [], ◌∷◌, ℕ, zero, suc, eqb, length, get_or, drop}
use Rattle.base_rules.specs.Bounds.{parity}
use Rattle.base_rules.specs.Table.{table}
use Rattle.field_rules.specs.Field.{alpha}
use Rattle.codeword.specs.Code.{value}

-- clause 7.4.4: the word with 0 at each missing place
unfoldable pub erase : List Bool → List ℕ → List ℕ
erase [] w = w
erase (m ∷ mask) [] = []
erase (true ∷ mask) (c ∷ w) = 0 ∷ erase mask w
erase (false ∷ mask) (c ∷ w) = c ∷ erase mask w

-- document 01: how many bytes a chunk misses
unfoldable pub count : List Bool → ℕ
count [] = 0
count (true ∷ mask) = suc (count mask)
count (false ∷ mask) = count mask

-- document 01: the mask of the n places from a on, of which `there` says which bytes are there
unfoldable pub mask_of : (ℕ → Bool) → ℕ → ℕ → List Bool
mask_of there a zero = []
mask_of there a (suc n) = not (there a) ∷ mask_of there (suc a) n

-- a mask that comes as bytes: missing where its byte is not 0 (document 01, "The four places")
unfoldable pub marks : List ℕ → List Bool
marks [] = []
marks (b ∷ mask) = not (eqb b 0) ∷ marks mask

-- clause 7.4.4, for "the remaining bytes": the word with the values vs at the missing places, and 0 past their end
unfoldable pub fill : List Bool → List ℕ → List ℕ → List ℕ
fill [] w vs = w
fill (m ∷ mask) [] vs = []
fill (true ∷ mask) (c ∷ w) vs = get_or vs 0 0 ∷ fill mask w (drop 1 vs)
fill (false ∷ mask) (c ∷ w) vs = c ∷ fill mask w vs

-- clause 7.3.1, the powers of x that the bytes belong to: the locators of the missing places, α^n for the coefficient of x^n
unfoldable pub locators : List Bool → List ℕ
locators [] = []
locators (true ∷ mask) = alpha (length mask) ∷ locators mask
locators (false ∷ mask) = locators mask

-- clause 7.3.1: the values of a word at the 48 roots of G(x)
unfoldable pub syndromes : List ℕ → List ℕ
syndromes w = table (λ j. value (alpha (suc j)) w) 0 parity
