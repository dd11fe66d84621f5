-- What the register computes with any table lent to it. With the rows that are made it is the remainder by the generator
-- (proofs/TableLaws.antt).
use Rattle.std.specs.Prelude.{cond, List, ℕ, zero, suc, ◌+◌, ◌-◌, ◌*◌, ◌/◌, ◌%◌, ltb, eqb, length, take, drop, get_or, replicate}
use Rattle.base_rules.specs.Bounds.{most_k, parity}
use Rattle.field_rules.specs.Field.{◌⊕◌}
use Rattle.code_rules.specs.inner.Words.{table, power_size, half_size}
use Rattle.code_rules.specs.inner.Kernel.{back, laid, sum_of}

-- q, and of the rows of power n in t that for the low half of x and that for the high half added
unfoldable pub byte_by : List ℕ → ℕ → ℕ → List ℕ → List ℕ
byte_by t n x q =
    table parity
    (λ j. get_or q j 0 ⊕ (get_or t (n * power_size + x % 16 * parity + j) 0 ⊕ get_or t (n * power_size + half_size + x / 16 * parity + j) 0))

-- the register p moved eight places, when the last n of the eight bytes of d from `at` on are in
unfoldable pub last_by : List ℕ → List ℕ → List ℕ → ℕ → ℕ → List ℕ
last_by t p d at zero = back 8 p
last_by t p d at (suc n) = byte_by t n (get_or p (7 - n) 0 ⊕ get_or d (at + (7 - n)) 0) (last_by t p d at n)

-- the register p when the eight bytes of d from `at` on are in
unfoldable pub eight_by : List ℕ → List ℕ → List ℕ → ℕ → List ℕ
eight_by t p d at = last_by t p d at 8

-- the register after i steps of eight bytes of d
unfoldable pub register_by : List ℕ → List ℕ → ℕ → List ℕ
register_by t d zero = replicate parity 0
register_by t d (suc i) = eight_by t (register_by t d i) d (i * 8)

-- the register after the data bytes d in their 208 places
unfoldable pub parity_by : List ℕ → List ℕ → List ℕ
parity_by t d = register_by t (laid d) ((most_k + 1) / 8)

-- the sum of that for the first k bytes of c and the 48 behind them; 255 in every place, so never zeros, where c is no chunk of k data bytes
unfoldable pub remainder_by : List ℕ → ℕ → List ℕ → List ℕ
remainder_by t k c =
    cond (ltb most_k k) (replicate parity 255)
    (cond (eqb (length c) (k + parity)) (sum_of (parity_by t (take k c)) (drop k c)) (replicate parity 255))
