-- What the calls that find missing bytes give for any input: for rows that are no multiples, for numbers that are too large, for masks that
-- fit no chunk.
use Rattle.std.specs.Prelude.{◌≡◌, Bool, cond, List, [], ◌∷◌, ℕ, ◌+◌, ◌*◌, ◌≤◌, ◌<◌, min, eqb, ltb, length, take, get_or, replicate}
use Rattle.base_rules.specs.Bounds.{most_k, parity}
use Rattle.base_rules.specs.Bytes.{splice}
use Rattle.weave_rules.specs.Calls.{bad_count}
use Rattle.codeword.specs.Code.{horner}
use Rattle.code_rules.specs.Calls.{lost_cells}
use Rattle.code_rules.specs.inner.Words.{table}
use Rattle.code_rules.specs.inner.Kernel.{Multiples, lane_by}
use Rattle.code_rules.specs.inner.Patterns.{locator_of, prefixes, mixed, scales_of}
use Rattle.code_rules.specs.inner.Sharing.{locs}

-- Horner's rule in 48 lanes by any eight rows of 48, from s on
unfoldable pub horner_by : List ℕ → List ℕ → List ℕ → List ℕ
horner_by k s [] = s
horner_by k s (c ∷ cs) = horner_by k (lane_by k s (replicate parity c)) cs

-- the same from zeros on: the syndromes, where the rows are the multiples of the roots
unfoldable pub syndromes_by : List ℕ → List ℕ → List ℕ
syndromes_by k r = horner_by k (replicate parity 0) r

-- how many missing places are looked at: at most 48
abbrev pub looked : ℕ → ℕ
looked e = min e parity

-- the polynomial whose roots are the first e of x, divided by z + x for each x of 48, at this x
unfoldable pub slopes : List ℕ → ℕ → List ℕ
slopes x e = table parity (λ j. horner (get_or x j 0) 0 (prefixes (get_or x j 0) 0 (take e (locator_of (take e x)))))

-- what is made of the locators x of e missing places: in place of q's first rows, as far as q goes, the coefficients of the quotients, the
-- rest of q as it was, and the multiples of the factors
pub record PatternMade (x : List ℕ) (e : ℕ) (q q' sc : List ℕ) : Type 0 where
  pub size : length q' ≡ length q
  pub rows : (m j : ℕ) → m < looked e → j < parity → m * parity + j < length q
      → get_or q' (m * parity + j) 0 ≡ horner (get_or x j 0) 0 (take (m + 1) (locator_of (take (looked e) x)))
  pub rest : (i : ℕ) → looked e * parity ≤ i → get_or q' i 0 ≡ get_or q i 0
  pub eight : length sc ≡ 8 * parity
  pub scales : Multiples (scales_of x (slopes x (looked e))) sc

-- the missing bytes by the rows q of the pattern and any eight rows sc
unfoldable pub solved_by : List ℕ → List ℕ → ℕ → List ℕ → List ℕ
solved_by q sc e s = lane_by sc (mixed s q (looked e)) (replicate parity 0)

-- the first 48 members of a list, 0 behind its end
unfoldable pub lanes_of : List ℕ → List ℕ
lanes_of l = table parity (λ j. get_or l j 0)

-- the first 48 locators of the places that a mask of k data bytes and 48 parity bytes marks; zeros where it is no such mask
unfoldable pub locators_by : ℕ → List ℕ → List ℕ
locators_by k mask =
    cond (ltb most_k k) (replicate parity 0) (cond (eqb (length mask) (k + parity)) (lanes_of (locs k mask)) (replicate parity 0))

-- the mask with its first n bytes 1 for each cell whose fragment is not kept and 0 for each other; as it was where f is no count of fragments, or
-- it has not n bytes
unfoldable pub lost_by : List Bool → ℕ → ℕ → List ℕ → List ℕ
lost_by kept f n mask = cond (bad_count f) mask (cond (ltb (length mask) n) mask (splice mask 0 (lost_cells kept f 0 n)))
