-- Maps of the register that keep sums: one shift is such a map, and so is any number of shifts. Assumes nothing.
use mathlib.Core.Path.{◌≡◌, refl, sym, ap, ap₂, ◌∙◌}
use Prim.Native.Nat.{ℕ, zero, suc, ◌-◌, ◌*◌, ◌/◌, ◌%◌, ◌<◌, ◌≤◌}
use native.Mathlib.Nat.{mul-mod_left}
use native.Mathlib.Omega.{arith}
use borrow.Author.Tests.{lt-ltb, le-ltb, ltb-true, ltb-false}
use lib.Bits.{bit_xor, xor_zero_r, xor_self, xor_lt, xor_mod, xor_shr}
use lib.Dec.{ltb}
use Rattle.base_rules.proofs.Logic.{either}
use Rattle.base_rules.proofs.Xor.{bit_ind, xor_swap, xor_double, eq_of_xor-zero}
use Rattle.crc_rules.specs.Crc.{polynomial}
use Rattle.crc_rules.specs.inner.Shifts.{shift, shift8}
use Rattle.crc_rules.specs.inner.Halves.{rounds}

-- f keeps sums and the width, and takes only 0 to 0
pub record Linear (f : ℕ → ℕ) : Type 0 where
  pub sum : (x y : ℕ) → x < 65536 → y < 65536 → f (bit_xor x y) ≡ bit_xor (f x) (f y)
  pub stays : (x : ℕ) → x < 65536 → f x < 65536
  pub null : (x : ℕ) → x < 65536 → f x ≡ 0 → x ≡ 0

-- so it takes no two registers to one
pub one_to_one : {f : ℕ → ℕ} → Linear f → (x y : ℕ) → x < 65536 → y < 65536 → f x ≡ f y → x ≡ y
one_to_one {f} l x y hx hy e =
    eq_of_xor-zero x y
    (l.null (bit_xor x y) (xor_lt 16 x y hx hy) (l.sum x y hx hy ∙ ap (λ z. bit_xor z (f y)) e ∙ xor_self (f y)))

-- one such map after another, and one twice
pub after : {f g : ℕ → ℕ} → Linear g → Linear f → Linear (λ x. g (f x))
after {f} {g} m l =
    record {
      sum = λ x y hx hy. ap g (l.sum x y hx hy) ∙ m.sum (f x) (f y) (l.stays x hx) (l.stays y hy);
      stays = λ x hx. m.stays (f x) (l.stays x hx);
      null = λ x hx e. l.null x hx (m.null (f x) (l.stays x hx) e);
    }

-- such a map taken twice keeps sums and the width, and takes only 0 to 0
pub twice : {f : ℕ → ℕ} → Linear f → Linear (λ x. f (f x))
twice l = after l l

-- where no bit falls out
pub shift_low : (x : ℕ) → x < 32768 → shift x ≡ x * 2
unfolding shift
shift_low x h = simp (lt-ltb x 32768 h)

-- where one falls out
pub shift_high : (x : ℕ) → 32768 ≤ x → shift x ≡ bit_xor ((x - 32768) * 2) polynomial
unfolding shift
shift_high x h = simp (le-ltb x 32768 h)

-- the two cases, by the low bits and the high bit
cases : {P : Type 0} (x : ℕ) → x < 65536
    → (x < 32768 → x % 32768 ≡ x → x / 32768 ≡ 0 → P) → (32768 ≤ x → x % 32768 ≡ x - 32768 → x / 32768 ≡ 1 → P) → P
cases x h p q =
    either (ltb x 32768) (λ e. let l : x < 32768 = ltb-true x 32768 e in p l (omega arith) (omega arith))
    (λ e. let l : 32768 ≤ x = ltb-false x 32768 e in q l (omega arith) (omega arith))

-- a shift as a sum: the low bits doubled, and the polynomial where the high bit is set
pub parts : (x : ℕ) → x < 65536 → shift x ≡ bit_xor (x % 32768 * 2) (x / 32768 * polynomial)
parts x h = cases x h (λ l u v. shift_low x l ∙ simp (u, v, xor_zero_r)) (λ l u v. shift_high x l ∙ simp (u, v))

-- the polynomial is added where one of two high bits is set, and not where both are
times : (a b : ℕ) → a < 2 → b < 2 → bit_xor a b * polynomial ≡ bit_xor (a * polynomial) (b * polynomial)
times a b ha hb =
    bit_ind (λ a. bit_xor a b * polynomial ≡ bit_xor (a * polynomial) (b * polynomial)) refl
    (bit_ind (λ b. bit_xor 1 b * polynomial ≡ bit_xor (1 * polynomial) (b * polynomial)) refl refl b hb) a ha

-- a doubled number is not the polynomial, which is odd
odd : (n : ℕ) → n * 2 ≡ polynomial → ⊥
odd n e = let z : 0 ≡ polynomial % 2 = sym (mul-mod_left n 2) ∙ ap (λ k. k % 2) e in omega arith

pub shift_linear : Linear shift
shift_linear =
    record {
      sum = λ x y hx hy. parts (bit_xor x y) (xor_lt 16 x y hx hy)
          ∙ ap₂ (λ u v. bit_xor (u * 2) (v * polynomial)) (xor_mod x y 15) (xor_shr x y 15)
          ∙ ap₂ bit_xor (xor_double (x % 32768) (y % 32768)) (times (x / 32768) (y / 32768) (omega arith) (omega arith))
          ∙ xor_swap (x % 32768 * 2) (y % 32768 * 2) (x / 32768 * polynomial) (y / 32768 * polynomial)
          ∙ sym (ap₂ bit_xor (parts x hx) (parts y hy));
      stays = λ x h. rw (parts x h) (xor_lt 16 (x % 32768 * 2) (x / 32768 * polynomial) (omega arith) (omega arith));
      null = λ x h e. let z : x % 32768 * 2 ≡ x / 32768 * polynomial =
          eq_of_xor-zero (x % 32768 * 2) (x / 32768 * polynomial) (sym (parts x h) ∙ e) in
          cases x h (λ l u v. omega arith) (λ l u v. absurd (odd (x % 32768) (omega arith)));
    }

pub shift_one_to_one : (x y : ℕ) → x < 65536 → y < 65536 → shift x ≡ shift y → x ≡ y
shift_one_to_one = one_to_one shift_linear

-- eight shifts of the register keep sums and the width, and take only 0 to 0
pub shift8_linear : Linear shift8
unfolding shift8
shift8_linear = twice (twice (twice shift_linear))

-- so do the shifts that any number of zero bytes make
pub rounds_linear : (n : ℕ) → Linear (rounds n)
unfolding rounds
rounds_linear zero = record { sum = λ x y hx hy. refl; stays = λ x h. h; null = λ x h e. e }
rounds_linear (suc n) = after (rounds_linear n) shift8_linear
