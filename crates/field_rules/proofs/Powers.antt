-- Powers of an element, the powers of α, logarithms and inverses. Assumes nothing.
use mathlib.Core.Path.{◌≡◌, refl, sym, ap, ap₂, ◌∙◌, subst}
use mathlib.Core.Bool.{Bool}
use mathlib.Core.List.{List, [], ◌∷◌}
use Prim.Native.Nat.{ℕ, zero, suc, ◌+◌, ◌-◌, ◌*◌, ◌/◌, ◌%◌, ◌≤◌, ◌<◌}
use native.Mathlib.Nat.{zero-add, suc-add, add-zero, add-suc, not-suc-le-zero, le_of_suc-le-suc, div-add-mod'}
use native.Mathlib.Decide.{dec_lt}
use native.Mathlib.Omega.{arith}
use borrow.Author.Tests.{eqb-true, eq-eqb}
use lib.Dec.{T, eqb, lit<}
use lib.ListN.{get_or}
use Rattle.base_rules.specs.Tests.{among}
use Rattle.base_rules.proofs.Every.{below, at}
use Rattle.base_rules.proofs.Logic.{either, clash}
use Rattle.field_rules.specs.Field.{◌⊕◌, times2, ◌⊗◌, pow, alpha, inv, log_from, log_of}
use Rattle.field_rules.proofs.Products.{mul_lt, mul_comm, mul_assoc, mul_left_comm, mul_0_l, mul_1_l, mul_1_r, times2_lt, times2-mul}

pub pow_lt : (x n : ℕ) → pow x n < 256
unfolding pow
pow_lt x zero = lit< tt
pow_lt x (suc n) = mul_lt x (pow x n)

-- the power with exponent 0 is 1
pub pow_0 : (x : ℕ) → pow x 0 ≡ 1
unfolding pow
pow_0 x = refl

-- one more in the exponent is one factor more
pub pow_s : (x n : ℕ) → pow x (suc n) ≡ x ⊗ pow x n
unfolding pow
pow_s x n = refl

pub pow_1 : (x : ℕ) → x < 256 → pow x 1 ≡ x
unfolding pow
pow_1 x h = mul_1_r x h

-- the power to a sum of exponents is the product of the powers
pub pow-add : (x m n : ℕ) → pow x (m + n) ≡ pow x m ⊗ pow x n
unfolding pow
pow-add x zero n = ap (pow x) (zero-add n) ∙ sym (mul_1_l (pow x n) (pow_lt x n))
pow-add x (suc m) n =
    ap (pow x) (suc-add m n) ∙ ap (λ y. x ⊗ y) (pow-add x m n) ∙ sym (mul_assoc x (pow x m) (pow x n))

pub one_pow : (n : ℕ) → pow 1 n ≡ 1
unfolding pow
one_pow zero = refl
one_pow (suc n) = ap (λ y. 1 ⊗ y) (one_pow n) ∙ mul_1_l 1 (lit< tt)

pub mul-pow : (a b n : ℕ) → pow (a ⊗ b) n ≡ pow a n ⊗ pow b n
unfolding pow
mul-pow a b zero = sym (mul_1_l 1 (lit< tt))
mul-pow a b (suc n) = ap (λ y. a ⊗ b ⊗ y) (mul-pow a b n) ∙ simp (mul_assoc, mul_comm)

pub pow-pow : (a m n : ℕ) → pow (pow a m) n ≡ pow (pow a n) m
unfolding pow
pow-pow a m zero = sym (one_pow m)
pow-pow a m (suc n) = ap (λ y. pow a m ⊗ y) (pow-pow a m n) ∙ sym (mul-pow a (pow a n) m)

-- ---- the powers of α

-- each power of α is a byte
pub alpha_lt : (n : ℕ) → alpha n < 256
unfolding alpha
alpha_lt zero = lit< tt
alpha_lt (suc n) = times2_lt (alpha n)

pub alpha-pow : (n : ℕ) → alpha n ≡ pow 2 n
unfolding alpha pow
alpha-pow zero = refl
alpha-pow (suc n) = times2-mul (alpha n) (alpha_lt n) ∙ ap (λ x. 2 ⊗ x) (alpha-pow n)

pub alpha-add : (m n : ℕ) → alpha (m + n) ≡ alpha m ⊗ alpha n
alpha-add m n = alpha-pow (m + n) ∙ pow-add 2 m n ∙ sym (ap₂ ◌⊗◌ (alpha-pow m) (alpha-pow n))

-- the n-th power of α^m is the m-th power of α^n
pub pow-alpha : (m n : ℕ) → pow (alpha m) n ≡ pow (alpha n) m
pow-alpha m n = ap (λ x. pow x n) (alpha-pow m) ∙ pow-pow 2 m n ∙ ap (λ x. pow x m) (sym (alpha-pow n))

pub alpha_255 : alpha 255 ≡ 1
unfolding alpha times2 ◌⊕◌
alpha_255 = refl

-- document 01, "On each side of the edge": α^8 = 29, α^9 = 58
pub alpha_8 : alpha 8 ≡ 29
unfolding alpha times2 ◌⊕◌
alpha_8 = refl

pub alpha_9 : alpha 9 ≡ 58
unfolding alpha times2 ◌⊕◌
alpha_9 = refl

-- they come round after 255: once,
pub alpha_wrap : (n : ℕ) → alpha (255 + n) ≡ alpha n
alpha_wrap n = alpha-add 255 n ∙ ap (λ x. x ⊗ alpha n) alpha_255 ∙ mul_1_l (alpha n) (alpha_lt n)

-- any number of times,
pub alpha_period : (k n : ℕ) → alpha (k * 255 + n) ≡ alpha n
alpha_period zero n = ap alpha (omega arith)
alpha_period (suc k) n = ap alpha (omega arith) ∙ alpha_wrap (k * 255 + n) ∙ alpha_period k n

-- so that an exponent goes by its rest
pub alpha-mod : (n : ℕ) → alpha (n % 255) ≡ alpha n
alpha-mod n = sym (alpha_period (n / 255) (n % 255)) ∙ ap alpha (div-add-mod' n 255)

-- ---- one walk along the powers shows what they are

-- x, x α, x α^2, .., n of them
unfoldable pub powers : ℕ → ℕ → List ℕ
powers zero x = []
powers (suc n) x = x ∷ powers n (times2 x)

-- by their place
pub powers_at : (n l i : ℕ) → i < n → get_or (powers n (alpha l)) i 0 ≡ alpha (l + i)
unfolding powers alpha
powers_at zero l i h = absurd (not-suc-le-zero h)
powers_at (suc n) l zero h = ap alpha (sym (add-zero l))
powers_at (suc n) l (suc i) h = powers_at n (suc l) i (le_of_suc-le-suc h) ∙ ap alpha (suc-add l i ∙ sym (add-suc l i))

-- each power is one of them
among_powers : (n l i a : ℕ) → i < n → alpha (l + i) ≡ a → T (among a (powers n (alpha l)))
unfolding powers alpha among
among_powers zero l i a h e = absurd (not-suc-le-zero h)
among_powers (suc n) l zero a h e = simp (eq-eqb (alpha l) a (ap alpha (sym (add-zero l)) ∙ e)) tt
among_powers (suc n) l (suc i) a h e =
    let ih = among_powers n (suc l) i a (le_of_suc-le-suc h) (ap alpha (suc-add l i ∙ sym (add-suc l i)) ∙ e) in
    either (eqb (alpha l) a) (λ q. simp q tt) (λ q. simp q ih)

-- where a is one of them, the search finds it
log_found : (n l a : ℕ) → T (among a (powers n (alpha l))) → (log_from n l a < l + n) × (alpha (log_from n l a) ≡ a)
unfolding powers alpha among log_from
log_found zero l a t = absurd t
log_found (suc n) l a t =
    either (eqb (alpha l) a) (λ e. simp e (omega arith, eqb-true (alpha l) a e))
    (λ e. let r = log_found n (suc l) a (simp e at t) in simp e (omega arith, r.1))

-- and nothing before it has that power
log_first : (n l a k : ℕ) → l ≤ k → alpha k ≡ a → log_from n l a ≤ k
unfolding log_from
log_first zero l a k h e = h
log_first (suc n) l a k h e =
    either (eqb (alpha l) a) (λ q. simp q h)
    (λ q. let r : suc l ≤ k → log_from n (suc l) a ≤ k = λ m. log_first n (suc l) a k m e in
    simp q (go (dec_lt l k) r (λ m. clash (eq-eqb (alpha l) a (ap alpha m ∙ e)) q)))
  where
    go : {P : Type 0} → Dec (l < k) → (suc l ≤ k → P) → (l ≡ k → P) → P
    go (yes m) p q = p m
    go (no m) p q = q (omega arith)

-- α^255 is the first power that is 1 again
pub alpha_order : (d : ℕ) → 0 < d → d < 255 → alpha d ≡ 1 → ⊥
unfolding powers alpha among times2 ◌⊕◌
alpha_order zero p h e = absurd (not-suc-le-zero p)
alpha_order (suc i) p h e = among_powers 254 1 i 1 (le_of_suc-le-suc h) (ap alpha (one_add i) ∙ e)
  where
    one_add : (i : ℕ) → 1 + i ≡ suc i
    one_add i = omega arith

-- so the powers below 255 differ
apart : (i j : ℕ) → i < j → j < 255 → alpha i ≡ alpha j → ⊥
apart i j l h e =
    alpha_order (j - i) (omega arith) (omega arith)
    (sym (alpha_wrap (j - i)) ∙ ap alpha on ∙ alpha-add (255 - i) j ∙ ap (λ x. alpha (255 - i) ⊗ x) (sym e)
    ∙ sym (alpha-add (255 - i) i) ∙ ap alpha back ∙ alpha_255)
  where
    on : 255 + (j - i) ≡ 255 - i + j
    on = omega arith

    back : 255 - i + i ≡ 255
    back = omega arith

-- no two exponents below 255 have the same power of α
pub alpha_inj : (i j : ℕ) → i < 255 → j < 255 → alpha i ≡ alpha j → i ≡ j
alpha_inj i j hi hj e = go (dec_lt i j) (dec_lt j i)
  where
    go : Dec (i < j) → Dec (j < i) → i ≡ j
    go (yes l) m = absurd (apart i j l hj e)
    go (no l) (yes m) = absurd (apart j i m hi (sym e))
    go (no l) (no m) = omega arith

-- ---- logarithms

-- every element but 0 is in the list
abbrev all_among : List ℕ → Bool
all_among xs = below 255 (λ a. among (suc a) xs)

all_powers : T (all_among (powers 255 1))
unfolding powers among times2 ◌⊕◌
all_powers = tt

found : (a : ℕ) → 0 < a → a < 256 → (log_of a < 255) × (alpha (log_of a) ≡ a)
unfolding alpha log_of
found zero p h = absurd (not-suc-le-zero p)
found (suc a) p h = log_found 255 0 (suc a) (at 255 (λ a. among (suc a) (powers 255 1)) all_powers a (le_of_suc-le-suc h))

-- each element but 0 is a power of α, whose exponent is its logarithm,
pub log_lt : (x : ℕ) → 0 < x → x < 256 → log_of x < 255
log_lt x p h = (found x p h).0

-- α to the power of the logarithm of an element but 0 is that element
pub alpha_log : (x : ℕ) → 0 < x → x < 256 → alpha (log_of x) ≡ x
alpha_log x p h = (found x p h).1

-- and no lesser exponent has it
pub log_least : (x k : ℕ) → alpha k ≡ x → log_of x ≤ k
unfolding log_of
log_least x k e = log_first 255 0 x k (omega arith) e

-- ---- inverses

pub mul-inv : (a : ℕ) → 0 < a → a < 256 → a ⊗ inv a ≡ 1
unfolding inv
mul-inv a p h =
    sym (pow_s a 254) ∙ ap (λ x. pow x 255) (sym (alpha_log a p h)) ∙ pow-alpha (log_of a) 255
    ∙ ap (λ x. pow x (log_of a)) alpha_255 ∙ one_pow (log_of a)

pub inv_lt : (a : ℕ) → inv a < 256
unfolding inv
inv_lt a = pow_lt a 254

pub inv_0 : inv 0 ≡ 0
unfolding inv
inv_0 = pow_s 0 253 ∙ mul_0_l (pow 0 253)

pub div-mul : (a b : ℕ) → a < 256 → 0 < b → b < 256 → b ⊗ (a ⊗ inv b) ≡ a
div-mul a b ha pb hb = mul_left_comm b a (inv b) ∙ ap (λ x. a ⊗ x) (mul-inv b pb hb) ∙ mul_1_r a ha

-- a product divided by one factor, which is not 0, is the other
pub mul-div : (a b : ℕ) → a < 256 → 0 < b → b < 256 → (a ⊗ b) ⊗ inv b ≡ a
mul-div a b ha pb hb = mul_assoc a b (inv b) ∙ ap (λ x. a ⊗ x) (mul-inv b pb hb) ∙ mul_1_r a ha

-- no zero divisors
pub mul-zero : (a b : ℕ) → a < 256 → 0 < b → b < 256 → a ⊗ b ≡ 0 → a ≡ 0
mul-zero a b ha pb hb e = sym (mul-div a b ha pb hb) ∙ ap (λ x. x ⊗ inv b) e ∙ mul_0_l (inv b)

-- the product of two elements but 0 is not 0
pub mul-pos : (a b : ℕ) → a < 256 → 0 < a → 0 < b → b < 256 → 0 < a ⊗ b
mul-pos a b ha pa pb hb = pos (a ⊗ b) refl
  where
    pos : (x : ℕ) → a ⊗ b ≡ x → 0 < x
    pos zero e = absurd (let z : a ≡ 0 = mul-zero a b ha pb hb e in omega arith)
    pos (suc x) e = omega arith

-- no power of α is 0
pub alpha_pos : (i : ℕ) → 0 < alpha i
unfolding alpha
alpha_pos zero = lit< tt
alpha_pos (suc i) = subst (λ x. 0 < x) (sym (times2-mul (alpha i) (alpha_lt i))) (mul-pos 2 (alpha i) (lit< tt) (lit< tt) (alpha_pos i) (alpha_lt i))

-- the logarithm of a power, and no second one below 255
pub log_alpha : (i : ℕ) → i < 255 → log_of (alpha i) ≡ i
log_alpha i h =
    alpha_inj (log_of (alpha i)) i (log_lt (alpha i) (alpha_pos i) (alpha_lt i)) h (alpha_log (alpha i) (alpha_pos i) (alpha_lt i))

-- ---- a quotient by logarithms

-- the dividend's logarithm less the divisor's, modulo 255, is a logarithm of the quotient
pub log_div : {a b : ℕ} (k l : ℕ) → k < 255 → l < 255 → alpha k ≡ a → alpha l ≡ b → alpha ((k + 255 - l) % 255) ≡ a ⊗ inv b
log_div {a} {b} k l hk hl ea eb =
    alpha-mod (k + 255 - l) ∙ sym (mul-div (alpha (k + 255 - l)) b (alpha_lt (k + 255 - l)) pb hb)
    ∙ ap (λ x. x ⊗ inv b) (ap (λ x. alpha (k + 255 - l) ⊗ x) (sym eb) ∙ sym (alpha-add (k + 255 - l) l) ∙ ap alpha back ∙ alpha_wrap k ∙ ea)
  where
    pb : 0 < b
    pb = subst (λ x. 0 < x) eb (alpha_pos l)

    hb : b < 256
    hb = subst (λ x. x < 256) eb (alpha_lt l)

    back : k + 255 - l + l ≡ 255 + k
    back = omega arith
