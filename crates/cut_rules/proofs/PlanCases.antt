-- What settings that are taken tell, the sizes case by case, and which answer a plan gets. Assumes nothing.
use mathlib.Core.Path.{◌≡◌, refl, sym, ap, ap₂, ◌∙◌}
use mathlib.Core.Bool.{Bool, true, false, cond, not, ◌&&◌}
use mathlib.Core.List.{List, [], ◌∷◌}
use Prim.Native.Nat.{ℕ, zero, suc, ◌+◌, ◌-◌, ◌*◌, ◌/◌, ◌≤◌, ◌<◌, min}
use native.Mathlib.Nat.{mul-pos, le-div_iff_mul-le}
use native.Mathlib.Omega.{arith}
use borrow.Author.Tests.{leb-true, ltb-true, ltb-false, eqb-true, eq-eqb, ne_eqb, lt-ltb, le-ltb, le-leb, lt-leb, not-false}
use lib.Dec.{leb, ltb, eqb, lit<}
use lib.ListN.{get_or}
use Rattle.base_rules.specs.Bounds.{least_l, most_l, most_f, most_m, most_mtu, most_k, parity}
use Rattle.base_rules.specs.Answer.{granted, refused}
use Rattle.base_rules.specs.Round.{ceil}
use Rattle.base_rules.specs.Tests.{first}
use Rattle.base_rules.proofs.Logic.{either, and_left, and_right}
use Rattle.base_rules.proofs.Firsts.{due, skip, none_due, clear, clear_rest}
use Rattle.base_rules.specs.declared.Refusal.{Refusal}
use Rattle.base_rules.proofs.Answers.{grants, refuses, one_told}
use Rattle.cut_rules.specs.Sizes.{c, k, z, n, address_bytes, header_length, most_h, h, divided_by, divisor, S, L, f, s, assured}
use Rattle.cut_rules.specs.Plan.{fit, plan_fault, with_fec, figures_of, plan_of, values_of, number_of}
use Rattle.cut_rules.specs.declared.Address.{Address}
use Rattle.std.specs.Prelude.{Option, Some, None, Result}
use Rattle.cut_rules.specs.declared.Rule.{Rule}
use Rattle.cut_rules.specs.declared.Rule.TheVariants.{Older, Newer}
use Rattle.cut_rules.specs.declared.Settings.{Settings}
use Rattle.cut_rules.specs.declared.Figures.{Figures}
use Rattle.cut_rules.proofs.ChunkSizes as chunk

-- ---- what `fit` says

-- settings in bounds: m at most 5, and 0 without FEC; MTU above h and at most 16,384
pub record Fit (g : Settings) : Type 0 where
  pub m_most : g.m ≤ most_m
  pub m-fec : g.fec ≡ false → g.m ≡ 0
  pub room : h g < g.mtu
  pub mtu_most : g.mtu ≤ most_mtu

-- settings that pass the test of 40 SETTINGS are in these bounds
pub fitted : (g : Settings) → fit g ≡ true → Fit g
unfolding fit
fitted g e =
    let e₁ = and_right (leb g.m most_m) _ e in
    let e₂ = and_right (cond g.fec true (eqb g.m 0)) _ e₁ in
    record {
      m_most = leb-true _ _ (and_left _ _ e);
      m-fec = λ (no_fec : g.fec ≡ false). eqb-true _ _ (rw no_fec at (and_left (cond g.fec true (eqb g.m 0)) _ e₁));
      room = ltb-true _ _ (and_left _ _ e₂);
      mtu_most = leb-true _ _ (and_right (ltb (h g) g.mtu) _ e₂);
    }

-- ---- and how it is tested, one test after another

-- two tests that passed, and the rest
passed : {a b : Bool} (x r : Bool) → a ≡ true → b ≡ true → x ≡ r → x ≡ (a && (b && r))
passed x r p q e = rw (p, q) e

module _ (g : Settings) where
  -- settings with m over 5 do not fit
  pub fit_most : most_m < g.m → false ≡ fit g
  unfolding fit
  fit_most many = rw (lt-leb g.m most_m many)

  module _ (few : g.m ≤ most_m) where
    -- with FEC and m at most 5, the bounds of MTU alone decide whether settings fit
    pub fit-fec : (b : Bool) → g.fec ≡ true → b ≡ (ltb (h g) g.mtu && leb g.mtu most_mtu) → b ≡ fit g
    unfolding fit
    fit-fec b fec e = passed b _ (le-leb g.m most_m few) (ap (λ (x : Bool). cond x true (eqb g.m 0)) fec) e

    -- without FEC and with m 0, the bounds of MTU alone decide whether settings fit
    pub fit-plain : (b : Bool) → g.fec ≡ false → g.m ≡ 0 → b ≡ (ltb (h g) g.mtu && leb g.mtu most_mtu) → b ≡ fit g
    unfolding fit
    fit-plain b plain none e =
        passed b _ (le-leb g.m most_m few) (ap (λ (x : Bool). cond x true (eqb g.m 0)) plain ∙ eq-eqb g.m 0 none) e

    -- settings without FEC and with m above 0 do not fit
    pub fit-losses : g.fec ≡ false → (g.m ≡ 0 → ⊥) → false ≡ fit g
    unfolding fit
    fit-losses plain some = rw (le-leb g.m most_m few, plain, ne_eqb g.m 0 some)

-- ---- the header

-- no address takes more than four bytes
pub address_most : (a : Option Address) → address_bytes a ≤ 4
unfolding address_bytes
address_most None = omega arith
address_most (Some a) = omega arith

-- no header has more than 20 bytes
pub length_most : (fec : Bool) (a : Option Address) → header_length fec a ≤ most_h
length_most fec a = let four = address_most a in either fec (λ e. rw e (omega arith)) (λ e. rw e (omega arith))

pub h_most : (g : Settings) → h g ≤ most_h
unfolding h
h_most g = length_most g.fec g.address

-- ---- the divisor: these, `each_shares` of Bearing and what is claimed of one rule by itself are all that know it

-- by either rule it is m or one more
divided_within : (r : Rule) (m : ℕ) → (m ≤ divided_by r m) × (divided_by r m ≤ m + 1)
divided_within Older m = (omega arith, omega arith)
divided_within Newer m = (omega arith, omega arith)

-- at settings in bounds with m above 0, what 48 c is divided by is not 0
pub divisor_some : (g : Settings) → Fit g → (g.m ≡ 0 → ⊥) → 0 < divisor g
unfolding divisor
divisor_some g ok more = omega (arith, (divided_within g.rule g.m).0)

pub divisor_most : (g : Settings) → Fit g → divisor g ≤ most_m + 1
unfolding divisor
divisor_most g ok = omega (arith, (divided_within g.rule g.m).1, ok.m_most)

-- ---- S, where m is 0 and where it is not

-- a decision on m
pub by_m : (P : Type 0) (m : ℕ) → (m ≡ 0 → P) → ((m ≡ 0 → ⊥) → P) → P
by_m P zero a b = a refl
by_m P (suc m) a b = b (λ (e : suc m ≡ 0). omega arith)

module _ (g : Settings) (l : ℕ) where
  -- with m 0 a fragment may fill all of MTU - h
  pub S-none : g.m ≡ 0 → S g l ≡ g.mtu - h g
  unfolding S
  S-none e = rw (eq-eqb g.m 0 e)

  -- where m is not 0, S is the smaller of 48 c over the divisor and MTU - h
  pub S-both : (g.m ≡ 0 → ⊥) → S g l ≡ min (parity * c l / divisor g) (g.mtu - h g)
  unfolding S
  S-both e = rw (ne_eqb g.m 0 e)

  -- the smaller of the two, as it is worked out
  module _ (x y : ℕ) (more : g.m ≡ 0 → ⊥) (is_c : x ≡ c l) (is-d : y ≡ divisor g) where
    shared : parity * x / y ≡ parity * c l / divisor g
    shared = ap₂ (λ (u v : ℕ). parity * u / v) is_c is-d

    -- with m above 0, 48 c over the divisor is S where it is below MTU - h
    pub S-share : parity * x / y < g.mtu - h g → parity * x / y ≡ S g l
    S-share less = omega (arith, shared, S-both more)

    -- with m above 0, MTU - h is S where it is no more than 48 c over the divisor
    pub S-room : g.mtu - h g ≤ parity * x / y → g.mtu - h g ≡ S g l
    S-room less = omega (arith, shared, S-both more)

  -- the most bytes of a fragment, S, are no more than MTU - h, the room behind a header
  pub S-most : S g l ≤ g.mtu - h g
  S-most = by_m (S g l ≤ g.mtu - h g) g.m (λ e. omega (arith, S-none e)) (λ e. omega (arith, S-both e))

  -- at settings in bounds a fragment of a packet of 12 bytes or more has room for a byte
  pub S-some : Fit g → least_l ≤ l → 0 < S g l
  S-some ok from = by_m (0 < S g l) g.m
      (λ e. omega (arith, S-none e, ok.room))
      (λ e.
      let some : 1 ≤ parity * c l / divisor g =
      (le-div_iff_mul-le {k = divisor g} (divisor_some g ok e)).1 (omega (arith, chunk.c_some l (omega arith), divisor_most g ok)) in
      omega (arith, S-both e, ok.room, some))

  -- ---- L, with FEC and without

  -- with FEC the bytes that are cut are the c chunks with their parity
  pub L-fec : g.fec ≡ true → L g l ≡ c l * n l
  unfolding L
  L-fec e = rw e

  -- without FEC the bytes that are cut are the packet alone
  pub L-plain : g.fec ≡ false → L g l ≡ l
  unfolding L
  L-plain e = rw e

  -- of a packet of 12 bytes or more there is a byte to cut
  pub L-some : least_l ≤ l → 0 < L g l
  L-some from = either g.fec
      (λ e.
      let cells : 0 < n l = omega (arith, chunk.n_least l (omega arith)) in
      omega (arith, L-fec e, mul-pos (chunk.c_some l (omega arith)) cells))
      (λ e. omega (arith, L-plain e))

  -- what is cut of a packet of 12 to 8,192 bytes, zeros and parity with it, is at most 10,319 bytes
  pub L-most : least_l ≤ l → l ≤ most_l → L g l ≤ most_l + most_k + parity * 40
  unfolding n
  L-most from to =
      let some : 0 < l = omega arith in
      either g.fec
      (λ e. omega (arith, L-fec e, chunk.filled l some, chunk.z_less l some, chunk.k_most l some, chunk.c_most l to))
      (λ e. omega (arith, L-plain e))

  -- ---- the figures, as they are worked out

  module _ (p : Figures) (x y : ℕ) (is_c : x ≡ c l) (is_k : y ≡ k l) where
    -- figures that are worked out so, one by one, are the values that a plan is answered with
    pub figured : p.c ≡ cond g.fec x 0 → p.k ≡ cond g.fec y 0 → p.z ≡ cond g.fec (x * y - l) 0 → p.n ≡ cond g.fec (y + parity) 0
        → p.h ≡ h g → p.room ≡ S g l → p.total ≡ L g l → p.f ≡ f g l → p.s ≡ ceil p.total p.f → p.assured ≡ assured g l
        → values_of p ≡ figures_of g l
    unfolding values_of figures_of with_fec z n s
    figured e₁ e₂ e₃ e₄ e₅ e₆ e₇ e₈ e₉ e₁₀ = cc

  -- ---- the answers, case by case

  module _ (ok : fit g ≡ true) where
    fit_due : not (fit g) ≡ false
    fit_due = rw ok

    -- at settings that fit, a length under 12 is refused with 20
    pub plan_20 : l < least_l → refused 20 ≡ plan_of g l
    unfolding plan_of plan_fault
    plan_20 short = refuses 20 _ _ (lit< tt) (skip 40 _ fit_due (due 20 _ (lt-ltb l least_l short)))

    module _ (from : least_l ≤ l) where
      -- at settings that fit, a length over 8,192 is refused with 22
      pub plan_22 : most_l < l → refused 22 ≡ plan_of g l
      unfolding plan_of plan_fault
      plan_22 long = refuses 22 _ _ (lit< tt) (skip 40 _ fit_due (skip 20 _ (le-ltb l least_l from) (due 22 _ (lt-ltb most_l l long))))

      module _ (to : l ≤ most_l) where
        last_due : (r : ℕ) → r ≡ first ((ltb most_f (f g l), 41) ∷ []) → r ≡ plan_fault g l
        unfolding plan_fault
        last_due r e = skip 40 _ fit_due (skip 20 _ (le-ltb l least_l from) (skip 22 _ (le-ltb most_l l to) e))

        -- at settings that fit, a length in bounds that makes over 256 fragments is refused with 41
        pub plan_41 : most_f < f g l → refused 41 ≡ plan_of g l
        unfolding plan_of
        plan_41 many = refuses 41 _ _ (lit< tt) (last_due 41 (due 41 _ (lt-ltb most_f (f g l) many)))

        -- at settings that fit, a length in bounds that makes at most 256 fragments is not refused
        pub plan_taken : f g l ≤ most_f → 0 ≡ plan_fault g l
        plan_taken few = last_due 0 (skip 41 _ (le-ltb most_f (f g l) few) none_due)

        -- and is answered with its figures
        pub plan_cut : f g l ≤ most_f → granted (figures_of g l) ≡ plan_of g l
        unfolding plan_of
        plan_cut few = grants _ _ (plan_taken few)

  -- where settings do not fit, 40 is due, whatever the length
  pub fault_40 : fit g ≡ false → 40 ≡ plan_fault g l
  unfolding plan_fault
  fault_40 e = due 40 _ (rw e)

  -- and they are refused with it
  pub plan_40 : fit g ≡ false → refused 40 ≡ plan_of g l
  unfolding plan_of
  plan_40 e = refuses 40 _ _ (lit< tt) (fault_40 e)

-- ---- and what is known where nothing is refused

-- a cut in bounds: the settings fit, the packet has 12 to 8,192 bytes, and f is at most 256
pub record Within (g : Settings) (l : ℕ) : Type 0 where
  pub ok : fit g ≡ true
  pub from : least_l ≤ l
  pub to : l ≤ most_l
  pub few : f g l ≤ most_f

-- a cut that is not refused is in these bounds
pub within : (g : Settings) (l : ℕ) → plan_fault g l ≡ 0 → Within g l
unfolding plan_fault
within g l e =
    let none : (n : ℕ) → (suc n ≡ 0 → ⊥) = λ n (z : suc n ≡ 0). omega arith in
    let t₄ : List (Bool × ℕ) = (ltb most_f (f g l), 41) ∷ [] in
    let t₃ : List (Bool × ℕ) = (ltb most_l l, 22) ∷ t₄ in
    let t₂ : List (Bool × ℕ) = (ltb l least_l, 20) ∷ t₃ in
    let e₂ = clear_rest (not (fit g)) 40 t₂ (none 39) e in
    let e₃ = clear_rest (ltb l least_l) 20 t₃ (none 19) e₂ in
    let e₄ = clear_rest (ltb most_l l) 22 t₄ (none 21) e₃ in
    record {
      ok = not-false (fit g) (clear (not (fit g)) 40 t₂ (none 39) e);
      from = ltb-false _ _ (clear (ltb l least_l) 20 t₃ (none 19) e₂);
      to = ltb-false _ _ (clear (ltb most_l l) 22 t₄ (none 21) e₃);
      few = ltb-false _ _ (clear (ltb most_f (f g l)) 41 [] (none 40) e₄);
    }

-- ---- no second answer fits a plan's promise: the figures are read back off the values

figures_from : List ℕ → Figures
figures_from v =
    record {
      c = get_or v 0 0;
      k = get_or v 1 0;
      z = get_or v 2 0;
      n = get_or v 3 0;
      h = get_or v 4 0;
      room = get_or v 5 0;
      total = get_or v 6 0;
      f = get_or v 7 0;
      s = get_or v 8 0;
      assured = get_or v 9 0;
    }

read_back : (p : Figures) → figures_from (values_of p) ≡ p
unfolding figures_from values_of
read_back p = refl

-- no two answers to a plan have the same number and values
pub one_planned : (a b : Result Figures Refusal) → number_of a ≡ number_of b → a ≡ b
unfolding number_of
one_planned a b e = one_told values_of (λ (p q : Figures) same. sym (read_back p) ∙ ap figures_from same ∙ read_back q) a b e
