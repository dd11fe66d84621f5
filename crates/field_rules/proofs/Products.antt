-- The field's product: bilinear by its digits, and from there commutative and associative by a test on the powers of two.
-- Assumes nothing.
use mathlib.Core.Path.{◌≡◌, refl, sym, ap, ap₂, ◌∙◌, subst}
use mathlib.Core.Bool.{Bool, cond}
use Prim.Native.Nat.{ℕ, zero, suc, ◌+◌, ◌*◌, ◌/◌, ◌%◌, ◌^◌, ◌<◌}
use native.Mathlib.Nat.{zero-mul, one-mul, mod-lt, zero-lt-suc, mod-eq_of_lt}
use native.Mathlib.Omega.{arith}
use native.Mathlib.Numerals.{add-one}
use lib.Arith.{lt-one}
use lib.Dec.{T, eqb, eqb→eq, lit<, ltb}
use lib.Pow.{pow_pos, split, shr_lt, mod-mod-pow, field}
use lib.Bits.{xor_shifted}
use Rattle.base_rules.proofs.Every.{below, at}
use Rattle.field_rules.specs.Field.{◌⊕◌, times2, mul_bits, ◌⊗◌}
use Rattle.field_rules.proofs.Sums.{bit, bit_ind, add_self, add_lt, add_swap, add-mod, add_shr, add_odd, add_dbl, bit_scale, differ_scale}

-- the part of a sum that falls out of the byte, times what it adds
fall_add : (m a b : ℕ) → (a ⊕ b) / 128 % 2 * m ≡ a / 128 % 2 * m ⊕ b / 128 % 2 * m
fall_add m a b =
    ap (λ x. x % 2 * m) (add_shr a b 7) ∙ ap (λ x. x * m) (add_odd (a / 128) (b / 128))
    ∙ differ_scale (a / 128 % 2) (b / 128 % 2) m (bit (a / 128)) (bit (b / 128))

-- a sum times α is the sum of its parts times α
pub times2-add : (a b : ℕ) → times2 (a ⊕ b) ≡ times2 a ⊕ times2 b
unfolding times2
times2-add a b =
    ap₂ ◌⊕◌ (ap (λ x. x % 256) (add_dbl a b) ∙ add-mod (a * 2) (b * 2) 8) (fall_add _ a b)
    ∙ add_swap (a * 2 % 256) (b * 2 % 256) _ _

-- any number times α is a byte
pub times2_lt : (a : ℕ) → times2 a < 256
unfolding times2
times2_lt a = add_lt (omega arith) (omega arith)

mul_bits-add-l : (n a b c : ℕ) → mul_bits n (a ⊕ b) c ≡ mul_bits n a c ⊕ mul_bits n b c
unfolding mul_bits
mul_bits-add-l zero a b c = sym (add_self 0)
mul_bits-add-l (suc n) a b c =
    ap₂ ◌⊕◌ (bit_scale (c % 2) a b (bit c))
    (ap times2 (mul_bits-add-l n a b (c / 2)) ∙ times2-add (mul_bits n a (c / 2)) (mul_bits n b (c / 2)))
    ∙ add_swap (c % 2 * a) (c % 2 * b) (times2 (mul_bits n a (c / 2))) (times2 (mul_bits n b (c / 2)))

mul_bits-add_r : (n a b c : ℕ) → mul_bits n a (b ⊕ c) ≡ mul_bits n a b ⊕ mul_bits n a c
unfolding mul_bits
mul_bits-add_r zero a b c = sym (add_self 0)
mul_bits-add_r (suc n) a b c =
    ap₂ ◌⊕◌ (ap (λ x. x * a) (add_odd b c) ∙ differ_scale (b % 2) (c % 2) a (bit b) (bit c))
    (ap times2 (ap (mul_bits n a) (add_shr b c 1) ∙ mul_bits-add_r n a (b / 2) (c / 2)) ∙ times2-add (mul_bits n a (b / 2)) (mul_bits n a (c / 2)))
    ∙ add_swap (b % 2 * a) (c % 2 * a) (times2 (mul_bits n a (b / 2))) (times2 (mul_bits n a (c / 2)))

mul_bits_lt : (n a b : ℕ) → a < 256 → mul_bits n a b < 256
unfolding mul_bits
mul_bits_lt zero a b h = lit< tt
mul_bits_lt (suc n) a b h =
    add_lt (bit_ind (λ c. c * a < 256) (simp zero-mul (lit< tt)) (simp one-mul h) (b % 2) (bit b)) (times2_lt (mul_bits n a (b / 2)))

byte : (a : ℕ) → a % 256 < 256
byte a = mod-lt a (zero-lt-suc 255)

-- the product of any two numbers is a byte
pub mul_lt : (a b : ℕ) → a ⊗ b < 256
unfolding ◌⊗◌
mul_lt a b = mul_bits_lt 8 (a % 256) b (byte a)

-- a sum as the first factor may be multiplied part by part
pub mul-add-l : (a b c : ℕ) → (a ⊕ b) ⊗ c ≡ a ⊗ c ⊕ b ⊗ c
unfolding ◌⊗◌
mul-add-l a b c = ap (λ x. mul_bits 8 x c) (add-mod a b 8) ∙ mul_bits-add-l 8 (a % 256) (b % 256) c

-- a sum as the second factor may be multiplied part by part
pub mul-add_r : (a b c : ℕ) → a ⊗ (b ⊕ c) ≡ a ⊗ b ⊕ a ⊗ c
unfolding ◌⊗◌
mul-add_r a b c = mul_bits-add_r 8 (a % 256) b c

-- the product goes by the 8 low bits
mul_bits-mod : (n a b : ℕ) → mul_bits n a (b % 2 ^ n) ≡ mul_bits n a b
unfolding mul_bits
mul_bits-mod zero a b = refl
mul_bits-mod (suc n) a b =
    ap (λ m. mul_bits (suc n) a (b % 2 ^ m)) (sym (add-one n))
    ∙ ap₂ (λ x y. x * a ⊕ times2 (mul_bits n a y)) (mod-mod-pow b n 1) (field b n 1)
    ∙ ap (λ x. b % 2 * a ⊕ times2 x) (mul_bits-mod n a (b / 2))

mul-mod : (a b : ℕ) → (a % 256) ⊗ (b % 256) ≡ a ⊗ b
unfolding ◌⊗◌
mul-mod a b = ap (λ x. mul_bits 8 x (b % 256)) (mod-eq_of_lt (byte a)) ∙ mul_bits-mod 8 (a % 256) b

-- ---- two additive functions that agree on the powers of two agree on every byte

Additive : (ℕ → ℕ) → Type 0
Additive f = (a b : ℕ) → f (a ⊕ b) ≡ f a ⊕ f b

additive_0 : (f : ℕ → ℕ) → Additive f → f 0 ≡ 0
unfolding Additive
additive_0 f h = ap f (sym (add_self 0)) ∙ h 0 0 ∙ add_self (f 0)

-- a number is the sum of its k low bits and of the bits above them
pub split_add : (a k : ℕ) → a / 2 ^ k * 2 ^ k ⊕ a % 2 ^ k ≡ a
unfolding ◌⊕◌
split_add a k = xor_shifted (a / 2 ^ k) k (a % 2 ^ k) (mod-lt a (pow_pos k)) ∙ split a k

agree : (f g : ℕ → ℕ) → Additive f → Additive g → (k : ℕ) → ((i : ℕ) → i < k → f (2 ^ i) ≡ g (2 ^ i))
    → (a : ℕ) → a < 2 ^ k → f a ≡ g a
unfolding Additive
agree f g hf hg zero h a l = ap f (lt-one l) ∙ additive_0 f hf ∙ sym (additive_0 g hg) ∙ ap g (sym (lt-one l))
agree f g hf hg (suc k) h a l =
    ap f (sym (split_add a k)) ∙ hf (a / 2 ^ k * 2 ^ k) (a % 2 ^ k)
    ∙ ap₂ ◌⊕◌
    (bit_ind (λ c. f (c * 2 ^ k) ≡ g (c * 2 ^ k))
    (ap f (zero-mul (2 ^ k)) ∙ additive_0 f hf ∙ sym (additive_0 g hg) ∙ ap g (sym (zero-mul (2 ^ k))))
    (ap f (one-mul (2 ^ k)) ∙ h k (omega arith) ∙ ap g (sym (one-mul (2 ^ k))))
    (a / 2 ^ k) (shr_lt 1 k (subst (λ m. a < 2 ^ m) (sym (one_add k)) l)))
    (agree f g hf hg k (λ i m. h i (omega arith)) (a % 2 ^ k) (mod-lt a (pow_pos k)))
    ∙ sym (hg (a / 2 ^ k * 2 ^ k) (a % 2 ^ k)) ∙ ap g (split_add a k)
  where
    one_add : (k : ℕ) → 1 + k ≡ suc k
    one_add k = omega arith

agree8 : (f g : ℕ → ℕ) → Additive f → Additive g → ((i : ℕ) → i < 8 → f (2 ^ i) ≡ g (2 ^ i)) → (a : ℕ) → a < 256 → f a ≡ g a
agree8 f g hf hg h a l = agree f g hf hg 8 h a l

-- ---- commutative: 64 cases

comm_test : T (below 8 (λ i. below 8 (λ j. eqb (2 ^ i ⊗ 2 ^ j) (2 ^ j ⊗ 2 ^ i))))
unfolding ◌⊗◌ mul_bits times2 ◌⊕◌
comm_test = tt

comm_basis : (i j : ℕ) → i < 8 → j < 8 → 2 ^ i ⊗ 2 ^ j ≡ 2 ^ j ⊗ 2 ^ i
comm_basis i j hi hj =
    eqb→eq (2 ^ i ⊗ 2 ^ j) (2 ^ j ⊗ 2 ^ i)
    (at 8 (λ j. eqb (2 ^ i ⊗ 2 ^ j) (2 ^ j ⊗ 2 ^ i)) (at 8 (λ i. below 8 (λ j. eqb (2 ^ i ⊗ 2 ^ j) (2 ^ j ⊗ 2 ^ i))) comm_test i hi) j hj)

comm-bytes : (a b : ℕ) → a < 256 → b < 256 → a ⊗ b ≡ b ⊗ a
unfolding Additive
comm-bytes a b ha hb =
    agree8 (λ x. x ⊗ b) (λ x. b ⊗ x) (λ x y. mul-add-l x y b) (λ x y. mul-add_r b x y)
    (λ i hi. agree8 (λ y. 2 ^ i ⊗ y) (λ y. y ⊗ 2 ^ i) (λ x y. mul-add_r (2 ^ i) x y) (λ x y. mul-add-l x y (2 ^ i))
    (λ j hj. comm_basis i j hi hj) b hb) a ha

-- the product goes in either order
pub mul_comm : (a b : ℕ) → a ⊗ b ≡ b ⊗ a
mul_comm a b = sym (mul-mod a b) ∙ comm-bytes (a % 256) (b % 256) (byte a) (byte b) ∙ mul-mod b a

-- ---- associative: 512 cases

abbrev assoc_at : ℕ → ℕ → ℕ → Bool
assoc_at i j k = eqb (2 ^ i ⊗ 2 ^ j ⊗ 2 ^ k) (2 ^ i ⊗ (2 ^ j ⊗ 2 ^ k))

assoc_test : T (below 8 (λ i. below 8 (λ j. below 8 (λ k. assoc_at i j k))))
unfolding ◌⊗◌ mul_bits times2 ◌⊕◌
assoc_test = tt

assoc_basis : (i j k : ℕ) → i < 8 → j < 8 → k < 8 → 2 ^ i ⊗ 2 ^ j ⊗ 2 ^ k ≡ 2 ^ i ⊗ (2 ^ j ⊗ 2 ^ k)
assoc_basis i j k hi hj hk =
    eqb→eq (2 ^ i ⊗ 2 ^ j ⊗ 2 ^ k) (2 ^ i ⊗ (2 ^ j ⊗ 2 ^ k))
    (at 8 (λ k. assoc_at i j k)
    (at 8 (λ j. below 8 (λ k. assoc_at i j k)) (at 8 (λ i. below 8 (λ j. below 8 (λ k. assoc_at i j k))) assoc_test i hi) j hj) k hk)

assoc-bytes : (a b c : ℕ) → a < 256 → b < 256 → c < 256 → a ⊗ b ⊗ c ≡ a ⊗ (b ⊗ c)
unfolding Additive
assoc-bytes a b c ha hb hc =
    agree8 (λ x. x ⊗ b ⊗ c) (λ x. x ⊗ (b ⊗ c))
    (λ x y. ap (λ z. z ⊗ c) (mul-add-l x y b) ∙ mul-add-l (x ⊗ b) (y ⊗ b) c) (λ x y. mul-add-l x y (b ⊗ c))
    (λ i hi. agree8 (λ y. 2 ^ i ⊗ y ⊗ c) (λ y. 2 ^ i ⊗ (y ⊗ c))
    (λ x y. ap (λ z. z ⊗ c) (mul-add_r (2 ^ i) x y) ∙ mul-add-l (2 ^ i ⊗ x) (2 ^ i ⊗ y) c)
    (λ x y. ap (λ z. 2 ^ i ⊗ z) (mul-add-l x y c) ∙ mul-add_r (2 ^ i) (x ⊗ c) (y ⊗ c))
    (λ j hj. agree8 (λ z. 2 ^ i ⊗ 2 ^ j ⊗ z) (λ z. 2 ^ i ⊗ (2 ^ j ⊗ z))
    (λ x y. mul-add_r (2 ^ i ⊗ 2 ^ j) x y)
    (λ x y. ap (λ z. 2 ^ i ⊗ z) (mul-add_r (2 ^ j) x y) ∙ mul-add_r (2 ^ i) (2 ^ j ⊗ x) (2 ^ j ⊗ y))
    (λ k hk. assoc_basis i j k hi hj hk) c hc) b hb) a ha

-- a factor may be taken to its low byte
mul-mod_r : (a b : ℕ) → a ⊗ (b % 256) ≡ a ⊗ b
unfolding ◌⊗◌
mul-mod_r a b = mul_bits-mod 8 (a % 256) b

mul-mod-l : (a b : ℕ) → (a % 256) ⊗ b ≡ a ⊗ b
mul-mod-l a b = mul_comm (a % 256) b ∙ mul-mod_r b a ∙ mul_comm b a

-- the product goes by either grouping
pub mul_assoc : (a b c : ℕ) → a ⊗ b ⊗ c ≡ a ⊗ (b ⊗ c)
mul_assoc a b c =
    sym (ap₂ ◌⊗◌ (mul-mod a b) refl ∙ mul-mod_r (a ⊗ b) c)
    ∙ assoc-bytes (a % 256) (b % 256) (c % 256) (byte a) (byte b) (byte c)
    ∙ mul-mod-l a ((b % 256) ⊗ (c % 256)) ∙ ap (λ x. a ⊗ x) (mul-mod b c)

-- of three factors, the first two may change places
pub mul_left_comm : (a b c : ℕ) → a ⊗ (b ⊗ c) ≡ b ⊗ (a ⊗ c)
mul_left_comm a b c = sym (mul_assoc a b c) ∙ ap (λ x. x ⊗ c) (mul_comm a b) ∙ mul_assoc b a c

-- anything times 0 is 0
pub mul_0_r : (a : ℕ) → a ⊗ 0 ≡ 0
unfolding Additive
mul_0_r a = additive_0 (λ x. a ⊗ x) (λ x y. mul-add_r a x y)

-- 0 times anything is 0
pub mul_0_l : (a : ℕ) → 0 ⊗ a ≡ 0
mul_0_l a = mul_comm 0 a ∙ mul_0_r a

unit_test : T (below 256 (λ a. eqb (1 ⊗ a) a))
unfolding ◌⊗◌ mul_bits times2 ◌⊕◌
unit_test = tt

-- 1 times an element is that element
pub mul_1_l : (a : ℕ) → a < 256 → 1 ⊗ a ≡ a
mul_1_l a h = eqb→eq (1 ⊗ a) a (at 256 (λ a. eqb (1 ⊗ a) a) unit_test a h)

-- an element times 1 is that element
pub mul_1_r : (a : ℕ) → a < 256 → a ⊗ 1 ≡ a
mul_1_r a h = mul_comm a 1 ∙ mul_1_l a h

times2_test : T (below 8 (λ i. eqb (times2 (2 ^ i)) (2 ⊗ 2 ^ i)))
unfolding ◌⊗◌ mul_bits times2 ◌⊕◌
times2_test = tt

-- times2 is the product with alpha
pub times2-mul : (a : ℕ) → a < 256 → times2 a ≡ 2 ⊗ a
unfolding Additive
times2-mul a h =
    agree8 times2 (λ x. 2 ⊗ x) times2-add (λ x y. mul-add_r 2 x y)
    (λ i hi. eqb→eq (times2 (2 ^ i)) (2 ⊗ 2 ^ i) (at 8 (λ i. eqb (times2 (2 ^ i)) (2 ⊗ 2 ^ i)) times2_test i hi)) a h

-- the definition as the standard has it: doubled, and reduced by 0x11D where it leaves the byte
times2_standard_test : T (below 256 (λ x. eqb (times2 x) (cond (ltb x 128) (x * 2) (x * 2 ⊕ 285))))
unfolding times2 ◌⊕◌
times2_standard_test = tt

pub times2_standard : (x : ℕ) → x < 256 → times2 x ≡ cond (ltb x 128) (x * 2) (x * 2 ⊕ 285)
times2_standard x h =
    eqb→eq _ _ (at 256 (λ x. eqb (times2 x) (cond (ltb x 128) (x * 2) (x * 2 ⊕ 285))) times2_standard_test x h)
