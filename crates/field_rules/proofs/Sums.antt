-- Laws of the field's sum, which is the exclusive or of two numbers. Assumes nothing.
use mathlib.Core.Path.{◌≡◌}
use Prim.Native.Nat.{ℕ, ◌*◌, ◌/◌, ◌%◌, ◌^◌, ◌<◌}
use native.Mathlib.Nat.{zero-mul, one-mul, mod-lt, zero-lt-suc}
use lib.Bits.{differ, xor_zero_l, xor_zero_r, xor_comm, xor_self, xor_shr, xor_mod, xor_lt}
use Rattle.base_rules.proofs.Xor.{xor_odd, xor_assoc, xor_left_comm, xor_cancel, xor_double, eq_of_xor-zero}
use Rattle.base_rules.proofs.Xor as xor
use Rattle.field_rules.specs.Field.{◌⊕◌}

-- what holds of 0 and of 1 holds of a bit
pub bit_ind : (P : ℕ → Type 0) → P 0 → P 1 → (x : ℕ) → x < 2 → P x
bit_ind = xor.bit_ind

-- the lowest bit of a number is a bit
pub bit : (n : ℕ) → n % 2 < 2
bit n = mod-lt n (zero-lt-suc 1)

-- the sum goes by either grouping
pub add_assoc : (a b c : ℕ) → (a ⊕ b) ⊕ c ≡ a ⊕ (b ⊕ c)
unfolding ◌⊕◌
add_assoc = xor_assoc

-- the sum goes in either order
pub add_comm : (a b : ℕ) → a ⊕ b ≡ b ⊕ a
unfolding ◌⊕◌
add_comm = xor_comm

-- 0 and an element add up to that element
pub add_0_l : (a : ℕ) → 0 ⊕ a ≡ a
unfolding ◌⊕◌
add_0_l = xor_zero_l

-- an element and 0 add up to that element
pub add_0_r : (a : ℕ) → a ⊕ 0 ≡ a
unfolding ◌⊕◌
add_0_r = xor_zero_r

-- an element added to itself gives 0
pub add_self : (a : ℕ) → a ⊕ a ≡ 0
unfolding ◌⊕◌
add_self = xor_self

-- the sum of two bytes is a byte
pub add_lt : {a b : ℕ} → a < 256 → b < 256 → a ⊕ b < 256
unfolding ◌⊕◌
add_lt {a} {b} h k = xor_lt 8 a b h k

-- of three summands, the first two may change places
pub add_left_comm : (a b c : ℕ) → a ⊕ (b ⊕ c) ≡ b ⊕ (a ⊕ c)
unfolding ◌⊕◌
add_left_comm = xor_left_comm

pub add_cancel_l : (a b : ℕ) → a ⊕ (a ⊕ b) ≡ b
unfolding ◌⊕◌
add_cancel_l = xor_cancel

-- simp with this set sorts sums, and cancels what stands twice
pub ruleset sums = (add_assoc, add_comm, add_left_comm, add_0_l, add_0_r, add_self, add_cancel_l)

-- of two sums, the second part of the one and the first of the other may change places
pub add_swap : (a b c d : ℕ) → (a ⊕ b) ⊕ (c ⊕ d) ≡ (a ⊕ c) ⊕ (b ⊕ d)
add_swap a b c d = simp sums

-- two elements whose sum is 0 are equal
pub eq_of_add-zero : (a b : ℕ) → a ⊕ b ≡ 0 → a ≡ b
unfolding ◌⊕◌
eq_of_add-zero = eq_of_xor-zero

-- ---- a bit times a number

-- a bit times a sum is the sum of the parts, each times the bit
pub bit_scale : (c a b : ℕ) → c < 2 → c * (a ⊕ b) ≡ c * a ⊕ c * b
bit_scale c a b h =
    bit_ind (λ c. c * (a ⊕ b) ≡ c * a ⊕ c * b)
    (simp (zero-mul, add_self)) (simp (one-mul)) c h

-- a number, taken where two bits differ, is the sum of the number times each bit
pub differ_scale : (c d a : ℕ) → c < 2 → d < 2 → differ c d * a ≡ c * a ⊕ d * a
differ_scale c d a hc hd =
    bit_ind (λ c. differ c d * a ≡ c * a ⊕ d * a) (simp (zero-mul, add_0_l))
    (bit_ind (λ d. differ 1 d * a ≡ 1 * a ⊕ d * a) (simp (zero-mul, add_0_r)) (simp (zero-mul, add_self)) d hd)
    c hc

-- ---- the sum and the digits

-- a sum moved up one bit is the sum of its parts moved up
pub add_dbl : (a b : ℕ) → (a ⊕ b) * 2 ≡ a * 2 ⊕ b * 2
unfolding ◌⊕◌
add_dbl = xor_double

-- the k low bits of a sum are the sum of the k low bits of its parts
pub add-mod : (a b k : ℕ) → (a ⊕ b) % 2 ^ k ≡ a % 2 ^ k ⊕ b % 2 ^ k
unfolding ◌⊕◌
add-mod = xor_mod

-- a sum moved down k bits is the sum of its parts moved down
pub add_shr : (a b k : ℕ) → (a ⊕ b) / 2 ^ k ≡ a / 2 ^ k ⊕ b / 2 ^ k
unfolding ◌⊕◌
add_shr = xor_shr

-- the lowest bit of a sum is 1 where the lowest bits of its parts differ, else 0
pub add_odd : (a b : ℕ) → (a ⊕ b) % 2 ≡ differ (a % 2) (b % 2)
unfolding ◌⊕◌
add_odd = xor_odd
