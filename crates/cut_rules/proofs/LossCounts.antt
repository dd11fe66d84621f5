-- What lost fragments take: a count over a window of a test that comes again every f cells. Assumes nothing.
use mathlib.Core.Path.{◌≡◌, refl, sym, ap, ap₂, ◌∙◌}
use mathlib.Core.Bool.{Bool, true, false}
use Prim.Native.Nat.{ℕ, zero, suc, ◌+◌, ◌-◌, ◌*◌, ◌/◌, ◌%◌, ◌≤◌, ◌<◌, min, zero-le}
use native.Mathlib.Nat.{zero-add, add-zero, suc-add, add-suc, add_assoc, zero-mul, add-mod_right, mod-eq_of_lt, mod-lt, div-add-mod', le_refl}
use native.Mathlib.Nat.{mul-pos, mul-le-mul, mul-le-mul_left, mul-le-mul_right, le_of_mul-le-mul_left, mul-div-le}
use native.Mathlib.Numerals.{add-one}
use native.Mathlib.Omega.{arith}
use borrow.Author.Tests.{lt-ltb, le-ltb}
use Rattle.base_rules.specs.Bounds.{parity}
use Rattle.base_rules.specs.Round.{ceil}
use Rattle.base_rules.specs.Tests.{bit}
use Rattle.base_rules.proofs.Ceil as ceils
use Rattle.cut_rules.specs.Missing.{count, losses, gone, missing, worst, firsts}
use Rattle.cut_rules.proofs.FragmentSizes.{f', f_some}

bit_le : (b : Bool) → bit b ≤ 1
bit_le true = omega arith
bit_le false = omega arith

module _ (p : ℕ → Bool) where
  -- of t numbers no more than t pass a test
  pub count_le : (a t : ℕ) → count p a t ≤ t
  unfolding count
  count_le a zero = zero-le
  count_le a (suc t) = omega (arith, count_le (suc a) t, bit_le (p a))

  -- two windows side by side
  pub count_add : (a t u : ℕ) → count p a (t + u) ≡ count p a t + count p (a + t) u
  unfolding count
  count_add a zero u = simp (zero-add, add-zero)
  count_add a (suc t) u = simp (suc-add, add-suc, add_assoc, count_add (suc a) t u)

  -- a longer window has no fewer
  pub longer : (a t u : ℕ) → t ≤ u → count p a t ≤ count p a u
  longer a t u h =
      let e : count p a (t + (u - t)) ≡ count p a u = ap (λ (x : ℕ). count p a x) (omega arith) in
      omega (arith, e, count_add a t (u - t))

  none : (a : ℕ) → count p a 0 ≡ 0
  unfolding count
  none a = refl

-- two tests that agree on a window
pub count_same : (p q : ℕ → Bool) (a t : ℕ) → ((i : ℕ) → i < t → p (a + i) ≡ q (a + i)) → count p a t ≡ count q a t
unfolding count
count_same p q a zero e = refl
count_same p q a (suc t) e =
    ap₂ (λ (x : Bool) (y : ℕ). bit x + y) (rw add-zero at (e 0 (omega arith)))
    (count_same p q (suc a) t (λ i (h : i < t). rw (suc-add, ← add-suc) (e (suc i) (omega arith))))

-- ---- a test that comes again every f

module _ (p : ℕ → Bool) (f : ℕ) (again : (q : ℕ) → p (q + f) ≡ p q) where
  later : (a t : ℕ) → count p (a + f) t ≡ count p a t
  unfolding count
  later a zero = refl
  later a (suc t) = ap₂ (λ (x : Bool) (y : ℕ). bit x + y) (again a) (rw (← suc-add) (later (suc a) t))

  -- all windows of f have as many
  turn : (a : ℕ) → count p a f ≡ count p 0 f
  unfolding count
  turn zero = refl
  turn (suc a) =
      let here : count p a (f + 1) ≡ bit (p a) + count p (suc a) f = ap (λ (x : ℕ). count p a x) (add-one f) in
      omega (arith, turn a, here, count_add p a f 1, ap bit (again a))

  -- so a window has that many for each f in it, and those of what is left
  window : (x a b : ℕ) → count p x (a * f + b) ≡ a * count p 0 f + count p x b
  window x zero b = simp (zero-mul, zero-add)
  window x (suc a) b =
      let first : count p x (f + (a * f + b)) ≡ count p x f + count p (x + f) (a * f + b) = count_add p x f (a * f + b) in
      let cut : suc a * f + b ≡ f + (a * f + b) = omega arith in
      ap (λ (t : ℕ). count p x t) cut ∙ omega (arith, first, turn x, later x (a * f + b), window x a b)

  -- what is left has at most as many as a window of f
  part : (x b : ℕ) → b ≤ f → count p x b ≤ count p 0 f
  part x b h =
      let all : count p x (b + (f - b)) ≡ count p x f = ap (λ (t : ℕ). count p x t) (omega arith) in
      omega (arith, all, count_add p x b (f - b), turn x)

-- ---- lost fragments, of f

module _ (lost : ℕ → Bool) (f : ℕ) (some : 0 < f) where
  again : (q : ℕ) → gone lost f (q + f) ≡ gone lost f q
  again q = ap lost (add-mod_right q f)

  -- up to f the cells are the fragments
  first : (b : ℕ) → b ≤ f → count (gone lost f) 0 b ≡ count lost 0 b
  first b h =
      count_same (gone lost f) lost 0 b (λ i (l : i < b).
      ap lost (mod-eq_of_lt (omega (arith, zero-add i))))

  all : count (gone lost f) 0 f ≡ losses lost f
  unfolding losses
  all = first f (le_refl f)

  loss : (x n : ℕ) → count (gone lost f) x n ≡ n / f * losses lost f + count (gone lost f) x (n % f)
  loss x n =
      ap (λ (t : ℕ). count (gone lost f) x t) (sym (div-add-mod' n f))
      ∙ window (gone lost f) f again x (n / f) (n % f)
      ∙ ap (λ (w : ℕ). n / f * w + count (gone lost f) x (n % f)) all

  -- the cells before n: whole turns, and the fragments of the last one
  pub upto : (n : ℕ) → count (gone lost f) 0 n ≡ n / f * losses lost f + count lost 0 (n % f)
  upto n = loss 0 n ∙ ap (λ (r : ℕ). n / f * losses lost f + r) (first (n % f) (omega (arith, mod-lt n some)))

  -- no more than `worst` from any window,
  pub most : (x n : ℕ) → count (gone lost f) x n ≤ worst n f (losses lost f)
  unfolding worst
  most x n =
      omega (arith, loss x n, count_le (gone lost f) x (n % f), part (gone lost f) f again x (n % f) (omega (arith, mod-lt n some)), all)

  -- and no less than this
  pub fewest : (x n : ℕ) → n / f * losses lost f ≤ count (gone lost f) x n
  fewest x n = omega (arith, loss x n)

  -- whole turns rounded up
  turns : (x n : ℕ) → count (gone lost f) x n ≤ losses lost f * ceil n f
  turns x n =
      let much : count (gone lost f) x n ≤ count (gone lost f) x (ceil n f * f + 0) = longer (gone lost f) x n (ceil n f * f + 0)
      (omega (arith, ceils.up n f some)) in
      omega (arith, much, window (gone lost f) f again x (ceil n f) 0, none (gone lost f) x, ap (λ (y : ℕ). ceil n f * y) all)

-- ---- what a cut bears. A fragment has at most S bytes, and S is at most t for each of c chunks: so it has at most t bytes of a chunk

share : (c n S t : ℕ) → 0 < c → 0 < n → 0 < S → S ≤ c * t → ceil n (f' (c * n) S) ≤ t
share c n S t chunks cells room thin =
    let f : ℕ = f' (c * n) S in
    let some : 0 < f = f_some (c * n) S (mul-pos chunks cells) room in
    let much : c * n ≤ c * (t * f) = omega (arith, ceils.up (c * n) S room, mul-le-mul_right f thin) in
    ceils.least n f some t (omega (arith, le_of_mul-le-mul_left {m = n} {n = t * f} {k = c} much chunks))

-- over the divisor d of 48 c: t is 48 / d rounded up
pub thin : (c d S : ℕ) → 0 < d → S ≤ parity * c / d → S ≤ c * ceil parity d
thin c d S pos h =
    let low : d * S ≤ parity * c = omega (arith, mul-le-mul_left d h, mul-div-le (parity * c) d) in
    let high : c * parity ≤ c * (d * ceil parity d) = mul-le-mul_left c (ceils.up parity d pos) in
    le_of_mul-le-mul_left {m = S} {n = c * ceil parity d} {k = d} (omega (arith, low, high)) pos

-- any w lost fragments leave each chunk at most 48 short
pub borne : (c n S t w : ℕ) → 0 < c → 0 < n → 0 < S → S ≤ c * t → w * t ≤ parity
    → (lost : ℕ → Bool) → losses lost (f' (c * n) S) ≤ w → (j : ℕ) → missing lost (f' (c * n) S) n j ≤ parity
unfolding missing
borne c n S t w chunks cells room low few lost lose j =
    let f : ℕ = f' (c * n) S in
    let some : 0 < f = f_some (c * n) S (mul-pos chunks cells) room in
    let thick : losses lost f * ceil n f ≤ w * t = mul-le-mul lose (share c n S t chunks cells room low) in
    omega (arith, thick, turns lost f some (j * n) n)

-- ---- the first w of f fragments take the most that w can, from the first chunk

-- a test that gives v all along
count-all : (p : ℕ → Bool) (v : Bool) (a t : ℕ) → ((i : ℕ) → i < t → p (a + i) ≡ v) → count p a t ≡ bit v * t
unfolding count
count-all p v a zero e = omega arith
count-all p v a (suc t) e =
    let here : p a ≡ v = rw add-zero at (e 0 (omega arith)) in
    let rest : count p (suc a) t ≡ bit v * t = count-all p v (suc a) t (λ i (h : i < t). rw (suc-add, ← add-suc) (e (suc i) (omega arith))) in
    omega (arith, ap bit here, rest)

-- w or t, whichever is less
count-firsts : (w t : ℕ) → count (firsts w) 0 t ≡ min w t
count-firsts w t =
    let m : ℕ = min w t in
    let inside : count (firsts w) 0 m ≡ 1 * m = count-all (firsts w) true 0 m (λ i (h : i < m). lt-ltb (0 + i) w (omega arith)) in
    let outside : count (firsts w) (0 + m) (t - m) ≡ 0 * (t - m) = count-all (firsts w) false (0 + m) (t - m)
    (λ i (h : i < t - m). le-ltb (0 + m + i) w (omega arith)) in
    let e : count (firsts w) 0 (m + (t - m)) ≡ count (firsts w) 0 t = ap (λ (x : ℕ). count (firsts w) 0 x) (omega arith) in
    omega (arith, inside, outside, e, count_add (firsts w) 0 m (t - m))

module _ (n f w : ℕ) (some : 0 < f) (few : w ≤ f) where
  -- where the first w fragments are lost, w at most f, there are w losses
  pub firsts-lost : losses (firsts w) f ≡ w
  unfolding losses
  firsts-lost = omega (arith, count-firsts w f)

  -- the first w fragments take from chunk 0 the most that any w lost fragments can
  pub firsts-take : missing (firsts w) f n 0 ≡ worst n f w
  unfolding missing worst
  firsts-take =
      ap (λ (x : ℕ). count (gone (firsts w) f) x n) (zero-mul n)
      ∙ omega (arith, upto (firsts w) f some n, ap (λ (x : ℕ). n / f * x) firsts-lost, count-firsts w (n % f))

-- more lost fragments take no less
pub worst_more : (n f v w : ℕ) → v ≤ w → worst n f v ≤ worst n f w
unfolding worst
worst_more n f v w h = omega (arith, mul-le-mul_right (n / f) h)
