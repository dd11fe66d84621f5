-- The encoder's register holds a parity that makes a word of the code (R1). Assumes nothing.
use mathlib.Core.Path.{◌≡◌, refl, sym, ap, ap₂, ◌∙◌}
use mathlib.Core.List.{List, [], ◌∷◌, ◌++◌, append_assoc}
use Prim.Native.Nat.{ℕ, zero, suc, ◌+◌, ◌-◌, ◌<◌}
use native.Mathlib.Nat.{suc-ne-zero, not-suc-le-zero, le_of_suc-le-suc}
use native.Mathlib.Decide.{ℕ_discrete}
use native.Mathlib.Numerals.{add-one}
use native.Mathlib.Omega.{arith}
use lib.Arith.{lt_of_le-ne}
use lib.Dec.{lit<}
use lib.ListN.{length, get_or, take, drop, replicate, length-append, length-replicate}
use lib.Seq.{take_at, drop_at}
use Rattle.base_rules.specs.Bounds.{most_k, parity}
use Rattle.base_rules.specs.Bytes.{Bytes}
use Rattle.base_rules.proofs.ByteLaws.{bytes-append, bytes_zeros}
use Rattle.field_rules.specs.Field.{◌⊕◌, ◌⊗◌, alpha}
use Rattle.field_rules.proofs.Sums.{add_assoc, add_comm, add_0_l, add_0_r, add_self, add_lt, eq_of_add-zero}
use Rattle.field_rules.proofs.Products.{mul_comm, mul-add-l, mul_0_l, mul_0_r, mul_lt}
use Rattle.field_rules.proofs.Powers.{alpha_lt}
use Rattle.codeword.specs.Code.{horner, value, plus, Codeword, full, times_root, product, generator, step, run, parity_of, encode}
use Rattle.codeword.proofs.Poly.{raise, raise_s, raise_add, raise_out, raise_0, raise_one, value-cons, value-append, value_snoc, value_zeros}
use Rattle.codeword.proofs.Poly.{value-plus, length-plus, plus_at}

-- ---- the code polynomial has the roots

-- one coefficient more at the end makes a polynomial one longer
pub length_snoc : (p : List ℕ) (c : ℕ) → length (p ++ (c ∷ [])) ≡ suc (length p)
length_snoc p c = omega (arith, length-append p (c ∷ []))

-- p times the factor with root r has, at x, x times p's value plus r times p's value
pub value_root : (x r : ℕ) (p : List ℕ) → value x (times_root r p) ≡ value x p ⊗ x ⊕ r ⊗ value x p
unfolding times_root
value_root x r p =
    value-plus x r (0 ∷ p) (p ++ (0 ∷ [])) (sym (length_snoc p 0))
    ∙ ap₂ (λ a b. a ⊕ r ⊗ b) (value_snoc x p 0 ∙ add_0_r (value x p ⊗ x))
    (value-cons x 0 p ∙ ap (λ y. y ⊕ value x p) (raise_0 x (length p)) ∙ add_0_l (value x p))

-- each of α^1 to α^n is a root of the product of n factors
pub product_root : (n j : ℕ) → j < n → value (alpha (suc j)) (product n) ≡ 0
unfolding product
product_root zero j h = absurd (not-suc-le-zero h)
product_root (suc n) j h = value_root (alpha (suc j)) (alpha (suc n)) (product n) ∙ go (λ l. product_root n j l) (ℕ_discrete j n)
  where
    go : (j < n → value (alpha (suc j)) (product n) ≡ 0) → Dec (j ≡ n)
        → value (alpha (suc j)) (product n) ⊗ alpha (suc j) ⊕ alpha (suc n) ⊗ value (alpha (suc j)) (product n) ≡ 0
    go ih (yes e) =
        ap (λ i. value (alpha (suc j)) (product n) ⊗ alpha (suc j) ⊕ alpha (suc i) ⊗ value (alpha (suc j)) (product n)) (sym e)
        ∙ ap (λ y. y ⊕ alpha (suc j) ⊗ value (alpha (suc j)) (product n)) (mul_comm (value (alpha (suc j)) (product n)) (alpha (suc j)))
        ∙ add_self (alpha (suc j) ⊗ value (alpha (suc j)) (product n))
    go ih (no e) =
        ap (λ v. v ⊗ alpha (suc j) ⊕ alpha (suc n) ⊗ v) (ih (lt_of_le-ne (le_of_suc-le-suc h) e))
        ∙ ap₂ ◌⊕◌ (mul_0_l (alpha (suc j))) (mul_0_r (alpha (suc n))) ∙ add_self 0

-- it begins with 1, and n coefficients follow
pub product_monic : (n : ℕ) → (t : List ℕ) × (product n ≡ 1 ∷ t) × (length t ≡ n)
unfolding product times_root plus
product_monic zero = ([], refl, refl)
product_monic (suc n) = go (product_monic n)
  where
    go : (t : List ℕ) × (product n ≡ 1 ∷ t) × (length t ≡ n) → (t : List ℕ) × (times_root (alpha (suc n)) (product n) ≡ 1 ∷ t) × (length t ≡ suc n)
    go (t, e, l) = (
      plus (alpha (suc n)) (1 ∷ t) (t ++ (0 ∷ [])),
      ap (times_root (alpha (suc n))) e ∙ ap (λ h. h ∷ plus (alpha (suc n)) (1 ∷ t) (t ++ (0 ∷ []))) (ap (λ y. 1 ⊕ y) (mul_0_r (alpha (suc n)))
          ∙ add_0_r 1),
      length-plus (alpha (suc n)) (1 ∷ t) (t ++ (0 ∷ [])) (sym (length_snoc t 0)) ∙ length_snoc t 0 ∙ ap suc l,
    )

pub product-all : product parity ≡ 1 ∷ generator
unfolding generator
product-all = (product_monic parity).1 ∙ ap (λ t. 1 ∷ t) (sym (ap (drop 1) (product_monic parity).1))

-- G(x) has 48 coefficients behind its leading 1
pub length-generator : length generator ≡ parity
unfolding generator
length-generator = ap (λ p. length (drop 1 p)) (product_monic parity).1 ∙ (product_monic parity).2

-- at each root, what follows the leading x^48 is x^48
pub generator_root : (j : ℕ) → j < parity → value (alpha (suc j)) generator ≡ raise (alpha (suc j)) parity 1
generator_root j h =
    sym (eq_of_add-zero _ _
    (ap (λ n. raise (alpha (suc j)) n 1 ⊕ value (alpha (suc j)) generator) (sym length-generator)
    ∙ sym (value-cons (alpha (suc j)) 1 generator) ∙ ap (value (alpha (suc j))) (sym product-all) ∙ product_root parity j h))

-- ---- the register

-- the register fits the generator
fits : (s : ℕ) (ss : List ℕ) → length (s ∷ ss) ≡ parity → length generator ≡ length (ss ++ (0 ∷ []))
fits s ss e = length-generator ∙ sym e ∙ sym (length_snoc ss 0)

-- a register of 48 bytes has 48 still when a byte has come in
pub length-step : (s : List ℕ) (b : ℕ) → length s ≡ parity → length (step s b) ≡ parity
unfolding step
length-step [] b e = e
length-step (c ∷ ss) b e = length-plus (c ⊕ b) generator (ss ++ (0 ∷ [])) (fits c ss e) ∙ length_snoc ss 0 ∙ e

-- a register of 48 bytes has 48 still after any number of bytes
pub length_run : (s bs : List ℕ) → length s ≡ parity → length (run s bs) ≡ parity
unfolding run
length_run s [] e = e
length_run s (b ∷ bs) e = length_run (step s b) bs (length-step s b e)

-- what stands in it at a place
pub snoc_at : (l : List ℕ) (i : ℕ) → get_or (l ++ (0 ∷ [])) i 0 ≡ get_or l i 0
snoc_at [] zero = refl
snoc_at [] (suc i) = refl
snoc_at (x ∷ l) zero = refl
snoc_at (x ∷ l) (suc i) = snoc_at l i

-- when b comes in, place i takes what stood at i + 1, plus (first byte + b) times coefficient i of G(x)
pub step_at : (s : List ℕ) (b i : ℕ) → length s ≡ parity → get_or (step s b) i 0 ≡ get_or s (i + 1) 0 ⊕ (get_or s 0 0 ⊕ b) ⊗ get_or generator i 0
unfolding step
step_at [] b i e = absurd (suc-ne-zero (parity - 1) (sym e))
step_at (c ∷ ss) b i e =
    plus_at (c ⊕ b) generator (ss ++ (0 ∷ [])) i (fits c ss e)
    ∙ ap (λ y. y ⊕ (c ⊕ b) ⊗ get_or generator i 0) (snoc_at ss i ∙ ap (λ n. get_or (c ∷ ss) n 0) (sym (add-one i)))

-- 0 past the end is 0 in the zeros that follow the data
pub padded_at : (d : List ℕ) (n i : ℕ) → get_or (d ++ replicate n 0) i 0 ≡ get_or d i 0
padded_at [] zero i = refl
padded_at [] (suc n) zero = refl
padded_at [] (suc n) (suc i) = padded_at [] n i
padded_at (x ∷ d) n zero = refl
padded_at (x ∷ d) n (suc i) = padded_at d n i

-- one byte more at the end
pub run_snoc : (s l : List ℕ) (b : ℕ) → run s (l ++ (b ∷ [])) ≡ step (run s l) b
unfolding run
run_snoc s [] b = refl
run_snoc s (c ∷ l) b = run_snoc (step s c) l b

-- ---- its value at a root

zeros_long : length {A = ℕ} (replicate parity 0) ≡ parity
zeros_long = length-replicate {A = ℕ} parity 0

module _ (x : ℕ) (hx : x < 256) (root : value x generator ≡ raise x parity 1) where
  pub scaled : (f : ℕ) → f ⊗ value x generator ≡ raise x parity f
  scaled f = ap (λ y. f ⊗ y) root ∙ raise_one x (parity - 1) f hx

  pub value-step : (s : List ℕ) (b : ℕ) → length s ≡ parity → value x (step s b) ≡ value x s ⊗ x ⊕ raise x parity b
  unfolding step
  value-step [] b e = absurd (suc-ne-zero (parity - 1) (sym e))
  value-step (c ∷ ss) b e =
      value-plus x (c ⊕ b) generator (ss ++ (0 ∷ [])) (fits c ss e)
      ∙ ap₂ ◌⊕◌ (value_snoc x ss 0 ∙ add_0_r (value x ss ⊗ x)) (scaled (c ⊕ b) ∙ raise_add x parity c b)
      ∙ sym (add_assoc (value x ss ⊗ x) (raise x parity c) (raise x parity b))
      ∙ ap (λ y. y ⊕ raise x parity b)
      (add_comm (value x ss ⊗ x) (raise x parity c)
      ∙ ap (λ y. y ⊕ value x ss ⊗ x) (ap (λ n. raise x n c) (sym e) ∙ raise_out x (length ss) c)
      ∙ sym (mul-add-l (raise x (length ss) c) (value x ss) x) ∙ ap (λ y. y ⊗ x) (sym (value-cons x c ss)))

  -- x^48 times what came in
  pub value-run : (s bs : List ℕ) (h : ℕ) → length s ≡ parity → value x s ≡ raise x parity h → value x (run s bs) ≡ raise x parity (horner x h bs)
  unfolding run horner
  value-run s [] h e v = v
  value-run s (b ∷ bs) h e v =
      value-run (step s b) bs (h ⊗ x ⊕ b) (length-step s b e)
      (value-step s b e ∙ ap (λ y. y ⊗ x ⊕ raise x parity b) v
      ∙ ap (λ y. y ⊕ raise x parity b) (sym (raise_out x parity h) ∙ raise_s x parity h) ∙ sym (raise_add x parity (h ⊗ x) b))

  -- so bytes with the register after them vanish
  pub vanishes : (m : List ℕ) → value x (m ++ run (replicate parity 0) m) ≡ 0
  unfolding value
  vanishes m =
      value-append x m (run (replicate parity 0) m)
      ∙ ap₂ (λ n y. raise x n (value x m) ⊕ y) (length_run (replicate parity 0) m zeros_long)
      (value-run (replicate parity 0) m 0 zeros_long (value_zeros x parity ∙ sym (raise_0 x parity)))
      ∙ add_self (raise x parity (value x m))

-- ---- the encoder

-- what is encoded is a word of the code
pub encode_codeword : (d : List ℕ) (k : ℕ) → length d ≡ k → Codeword (full 0 k (encode d))
unfolding Codeword full encode parity_of
encode_codeword d k e j h =
    ap₂ (λ a b. value (alpha (suc j)) (a ++ (replicate (most_k - k) 0 ++ b))) (take_at d (parity_of d) k e) (drop_at d (parity_of d) k e)
    ∙ ap (λ n. value (alpha (suc j)) (d ++ (replicate (most_k - n) 0 ++ parity_of d))) (sym e)
    ∙ ap (value (alpha (suc j))) (sym (append_assoc d (replicate (most_k - length d) 0) (parity_of d)))
    ∙ vanishes (alpha (suc j)) (alpha_lt (suc j)) (generator_root j h) (d ++ replicate (most_k - length d) 0)

-- what is encoded begins with the data bytes, unchanged
pub encode-keeps : (d : List ℕ) (k : ℕ) → length d ≡ k → take k (encode d) ≡ d
unfolding encode
encode-keeps d k e = take_at d (parity_of d) k e

-- the parity is 48 bytes, whatever the data
pub length-parity : (d : List ℕ) → length (parity_of d) ≡ parity
unfolding parity_of
length-parity d = length_run (replicate parity 0) (d ++ replicate (most_k - length d) 0) zeros_long

-- what is encoded is 48 bytes longer than the data
pub length-encode : (d : List ℕ) → length (encode d) ≡ length d + parity
unfolding encode
length-encode d = length-append d (parity_of d) ∙ ap (λ n. length d + n) (length-parity d)

-- ---- its bytes

-- bytes to which a multiple of any polynomial is added are bytes
pub bytes-plus : (f : ℕ) (gs ss : List ℕ) → Bytes ss → Bytes (plus f gs ss)
unfolding plus
bytes-plus f [] ss b = tt
bytes-plus f (g ∷ gs) [] b = tt
bytes-plus f (g ∷ gs) (s ∷ ss) b = (add_lt b.0 (mul_lt f g), bytes-plus f gs ss b.1)

-- a register of bytes holds bytes still, whatever comes in
pub bytes-step : (s : List ℕ) (b : ℕ) → Bytes s → Bytes (step s b)
unfolding step
bytes-step [] b p = tt
bytes-step (c ∷ ss) b p = bytes-plus (c ⊕ b) generator (ss ++ (0 ∷ [])) (bytes-append ss (0 ∷ []) p.1 (lit< tt, tt))

-- a register of bytes holds bytes still after any run, whatever came in
pub bytes_run : (s d : List ℕ) → Bytes s → Bytes (run s d)
unfolding run
bytes_run s [] p = p
bytes_run s (b ∷ d) p = bytes_run (step s b) d (bytes-step s b p)

-- the parity is bytes, whatever the data
pub bytes-parity : (d : List ℕ) → Bytes (parity_of d)
unfolding parity_of
bytes-parity d = bytes_run (replicate parity 0) (d ++ replicate (most_k - length d) 0) (bytes_zeros parity)

-- data bytes with their parity are bytes
pub bytes-encode : (d : List ℕ) → Bytes d → Bytes (encode d)
unfolding encode
bytes-encode d p = bytes-append d (parity_of d) p (bytes-parity d)
