-- The register is linear: eight bytes at once. Assumes nothing.
use mathlib.Core.Path.{◌≡◌, refl, sym, ap, ap₂, ◌∙◌}
use mathlib.Core.List.{List, [], ◌∷◌, ◌++◌}
use Prim.Native.Nat.{ℕ, zero, suc, ◌+◌, ◌-◌, ◌*◌, ◌≤◌, ◌<◌}
use native.Mathlib.Nat.{suc-ne-zero, zero-add, add-zero}
use native.Mathlib.Numerals.{add-one}
use native.Mathlib.Omega.{arith}
use lib.ListN.{length, take, drop, get_or, replicate, length-take, length-drop, drop_of_length-le}
use lib.Seq.{ext_get_or, drop-cons, take-add, take_all, get_or-take, get_or-drop}
use Rattle.field_rules.specs.Field.{◌⊕◌, ◌⊗◌}
use Rattle.field_rules.proofs.Sums.{add_assoc, add_comm, add_left_comm, add_0_l, add_0_r}
use Rattle.field_rules.proofs.Products.{mul_assoc, mul-add-l, mul-add_r, mul_0_l}
use Rattle.codeword.specs.Code.{generator, plus, step, run}
use Rattle.codeword.proofs.Poly.{length-plus, plus_at}
use Rattle.codeword.proofs.Encoder.{length-generator, length_snoc, snoc_at, length-step, step_at, length_run}
use Rattle.code_rules.specs.inner.Kernel.{shift, back, power}

-- ---- shifts

shift_at : (s : List ℕ) (i : ℕ) → get_or (shift s) i 0 ≡ get_or s (i + 1) 0
unfolding shift
shift_at [] i = refl
shift_at (c ∷ ss) i = snoc_at ss i ∙ ap (λ n. get_or (c ∷ ss) n 0) (sym (add-one i))

length_shift : (s : List ℕ) → length (shift s) ≡ length s
unfolding shift
length_shift [] = refl
length_shift (c ∷ ss) = length_snoc ss 0

-- what stands at i after n shifts
pub back_at : (n : ℕ) (s : List ℕ) (i : ℕ) → get_or (back n s) i 0 ≡ get_or s (i + n) 0
unfolding back
back_at zero s i = ap (λ m. get_or s m 0) (sym (add-zero i))
back_at (suc n) s i = shift_at (back n s) i ∙ back_at n s (i + 1) ∙ ap (λ m. get_or s m 0) (omega arith)

-- shifts keep the length
pub length_back : (n : ℕ) (s : List ℕ) → length (back n s) ≡ length s
unfolding back
length_back zero s = refl
length_back (suc n) s = length_shift (back n s) ∙ length_back n s

-- one shift
pub back_one : (s : List ℕ) → back 1 s ≡ shift s
unfolding back
back_one s = refl

-- a step is a shift and a multiple of the generator
pub step_is : (s : List ℕ) (b : ℕ) → length s ≡ 48 → step s b ≡ plus (get_or s 0 0 ⊕ b) generator (shift s)
unfolding step shift
step_is [] b e = absurd (suc-ne-zero 47 (sym e))
step_is (c ∷ ss) b e = refl

-- each power has 48 coefficients
pub length-power : (n : ℕ) → length (power n) ≡ 48
unfolding power
length-power zero = length-generator
length-power (suc n) = length-step (power n) 0 (length-power n)

-- ---- linear

step-plus : (f b : ℕ) (gs us : List ℕ) → length gs ≡ 48 → length us ≡ 48 → step (plus f gs us) b ≡ plus f (step gs 0) (step us b)
step-plus f b gs us eg eu =
    ext_get_or 0 (step (plus f gs us) b) (plus f (step gs 0) (step us b))
    (length-step (plus f gs us) b lp ∙ sym (length-plus f (step gs 0) (step us b) ls ∙ length-step us b eu))
    (λ i h. step_at (plus f gs us) b i lp
    ∙ ap₂ (λ x y. x ⊕ (y ⊕ b) ⊗ get_or generator i 0) (plus_at f gs us (i + 1) (eg ∙ sym eu)) (plus_at f gs us 0 (eg ∙ sym eu))
    ∙ mid (get_or us (i + 1) 0) (get_or gs (i + 1) 0) (get_or us 0 0) (get_or gs 0 0) (get_or generator i 0)
    ∙ sym (plus_at f (step gs 0) (step us b) i ls ∙ ap₂ (λ x y. x ⊕ f ⊗ y) (step_at us b i eu) (step_at gs 0 i eg)))
  where
    lp : length (plus f gs us) ≡ 48
    lp = length-plus f gs us (eg ∙ sym eu) ∙ eu

    ls : length (step gs 0) ≡ length (step us b)
    ls = length-step gs 0 eg ∙ sym (length-step us b eu)

    mid : (u1 g1 u0 g0 G : ℕ) → u1 ⊕ f ⊗ g1 ⊕ (u0 ⊕ f ⊗ g0 ⊕ b) ⊗ G ≡ u1 ⊕ (u0 ⊕ b) ⊗ G ⊕ f ⊗ (g1 ⊕ (g0 ⊕ 0) ⊗ G)
    mid u1 g1 u0 g0 G = simp (mul-add-l, mul-add_r, mul_assoc, mul_0_l, add_assoc, add_comm, add_left_comm, add_0_l, add_0_r)

run-plus : (f : ℕ) (gs us bs : List ℕ) → length gs ≡ 48 → length us ≡ 48
    → run (plus f gs us) bs ≡ plus f (run gs (replicate (length bs) 0)) (run us bs)
unfolding run
run-plus f gs us [] eg eu = refl
run-plus f gs us (b ∷ bs) eg eu =
    ap (λ s. run s bs) (step-plus f b gs us eg eu)
    ∙ run-plus f (step gs 0) (step us b) bs (length-step gs 0 eg) (length-step us b eu)

-- the first power is the generator
pub power_0 : generator ≡ power 0
unfolding power
power_0 = refl

-- and each next one a step more
pub power_s : (m : ℕ) → step (power m) 0 ≡ power (suc m)
unfolding power
power_s m = refl

power-run : (m n : ℕ) → run (power m) (replicate n 0) ≡ power (m + n)
unfolding run
power-run m zero = ap power (sym (add-zero m))
power-run m (suc n) = ap (λ s. run s (replicate n 0)) (power_s m) ∙ power-run (suc m) n ∙ ap power (omega arith)

run-cons : (s : List ℕ) (b : ℕ) (bs : List ℕ) → length s ≡ 48 → run s (b ∷ bs) ≡ plus (get_or s 0 0 ⊕ b) (power (length bs)) (run (shift s) bs)
unfolding run power
run-cons s b bs e =
    ap (λ t. run t bs) (step_is s b e)
    ∙ run-plus (get_or s 0 0 ⊕ b) generator (shift s) bs length-generator (length_shift s ∙ e)
    ∙ ap (λ p. plus (get_or s 0 0 ⊕ b) p (run (shift s) bs)) (power-run 0 (length bs) ∙ ap power (zero-add (length bs)))

-- ---- eight bytes

-- the register after the last n of them, from the register shifted past the others
pub behind : List ℕ → List ℕ → ℕ → List ℕ
behind s bs n = run (back (8 - n) s) (drop (8 - n) bs)

behind_0 : (s bs : List ℕ) → length bs ≡ 8 → behind s bs 0 ≡ back 8 s
unfolding behind run
behind_0 s bs e = ap (run (back 8 s)) (drop_of_length-le bs {i = 8} (omega arith))

-- all eight
pub behind_8 : (s bs : List ℕ) → behind s bs 8 ≡ run s bs
unfolding behind back
behind_8 s bs = refl

behind_more : (s bs : List ℕ) (n : ℕ) → length s ≡ 48 → length bs ≡ 8 → n < 8
    → behind s bs (n + 1) ≡ plus (get_or s (7 - n) 0 ⊕ get_or bs (7 - n) 0) (power n) (behind s bs n)
unfolding behind back
behind_more s bs n e l h =
    ap (λ m. run (back m s) (drop m bs)) m7
    ∙ ap (run (back (7 - n) s)) (drop-cons bs (7 - n) 0 (omega arith))
    ∙ run-cons (back (7 - n) s) (get_or bs (7 - n) 0) (drop (suc (7 - n)) bs) (length_back (7 - n) s ∙ e)
    ∙ ap₂ (λ x k. plus (x ⊕ get_or bs (7 - n) 0) (power k) (run (shift (back (7 - n) s)) (drop (suc (7 - n)) bs)))
    (back_at (7 - n) s 0 ∙ ap (λ m. get_or s m 0) (zero-add (7 - n))) (omega (arith, length-drop (suc (7 - n)) bs))
    ∙ ap (λ m. plus (get_or s (7 - n) 0 ⊕ get_or bs (7 - n) 0) (power n) (run (back m s) (drop m bs))) m8
  where
    m7 : 8 - (n + 1) ≡ 7 - n
    m7 = omega arith

    m8 : suc (7 - n) ≡ 8 - n
    m8 = omega arith

-- ---- the register over more and more of the bytes

run-append : (s l m : List ℕ) → run s (l ++ m) ≡ run (run s l) m
unfolding run
run-append s [] m = refl
run-append s (b ∷ l) m = run-append (step s b) l m

-- eight bytes more
pub run_eight : (s d : List ℕ) (i : ℕ) → run (run s (take (i * 8) d)) (take 8 (drop (i * 8) d)) ≡ run s (take ((i + 1) * 8) d)
run_eight s d i =
    sym (run-append s (take (i * 8) d) (take 8 (drop (i * 8) d))) ∙ ap (run s) (sym (take-add (i * 8) 8 d)) ∙ ap (λ n. run s (take n d)) next
  where
    next : i * 8 + 8 ≡ (i + 1) * 8
    next = omega arith

module _ (p d : List ℕ) (at n : ℕ) (ep : length p ≡ 48) (ed : length d ≡ 208) (ha : at + 8 ≤ 208) where
  bytes8 : length (take 8 (drop at d)) ≡ 8
  bytes8 = simp (length-take, length-drop) (omega arith)

  -- before the eight bytes
  pub eight_start : (q : List ℕ) → q ≡ back 8 p → q ≡ behind p (take 8 (drop at d)) 0
  eight_start q e = e ∙ sym (behind_0 p (take 8 (drop at d)) bytes8)

  -- the register keeps its 48 places
  pub length_eight : (q : List ℕ) → q ≡ behind p (take 8 (drop at d)) n → length q ≡ 48
  unfolding behind
  length_eight q e = ap length e ∙ length_run (back (8 - n) p) (drop (8 - n) (take 8 (drop at d))) (length_back (8 - n) p ∙ ep)

  -- one of the eight more
  pub eight_more : (q r : List ℕ) (x : ℕ) → n < 8 → q ≡ behind p (take 8 (drop at d)) n → x ≡ get_or p (7 - n) 0 ⊕ get_or d (at + (7 - n)) 0
      → r ≡ plus x (power n) q → r ≡ behind p (take 8 (drop at d)) (n + 1)
  eight_more q r x h e ex er =
      er ∙ ap₂ (λ x q. plus x (power n) q)
      (ex ∙ ap (λ y. get_or p (7 - n) 0 ⊕ y) (sym (get_or-take 8 (drop at d) (7 - n) 0 (omega arith) ∙ get_or-drop at d (7 - n) 0))) e
      ∙ sym (behind_more p (take 8 (drop at d)) n ep bytes8 h)

-- before the first byte
pub register_start : (d : List ℕ) → replicate 48 0 ≡ run (replicate 48 0) (take (0 * 8) d)
unfolding run
register_start d = refl

-- after all 208
pub register_end : (s d : List ℕ) (i : ℕ) → length d ≡ 208 → 26 ≤ i → run s (take (i * 8) d) ≡ run s d
register_end s d i e h = ap (run s) (take_all (i * 8) d (omega arith))
