-- C2, C3 and C6 at the settings: the sizes of a cut that is not refused, and the losses that it bears. Assumes nothing.
use mathlib.Core.Path.{◌≡◌}
use mathlib.Core.Bool.{Bool, true}
use Prim.Native.Nat.{ℕ, ◌+◌, ◌-◌, ◌*◌, ◌/◌, ◌≤◌, ◌<◌}
use native.Mathlib.Nat.{le-mul_of_pos_right, le-div_iff_mul-le, mul-le-mul_left, mul-le-mul_right}
use native.Mathlib.Omega.{arith}
use Rattle.base_rules.specs.Bounds.{least_l, most_l, most_f, most_k, parity}
use Rattle.base_rules.proofs.Ceil as ceils
use Rattle.cut_rules.specs.Sizes.{c, k, n, h, divisor, S, L, f, s, assured, received_c}
use Rattle.cut_rules.specs.Missing.{losses, missing}
use Rattle.cut_rules.specs.Claims.{Sized}
use Rattle.cut_rules.specs.declared.Settings.{Settings}
use Rattle.cut_rules.proofs.ChunkSizes as chunk
use Rattle.cut_rules.proofs.FragmentSizes as fragment
use Rattle.cut_rules.proofs.LossCounts as loss
use Rattle.cut_rules.proofs.Shares.{each_shares, each_none}
use Rattle.cut_rules.proofs.PlanCases.{Fit, fitted, Within, by_m, divisor_some, divisor_most, S-both, S-some, L-fec, L-some, L-most}

module _ (g : Settings) (l : ℕ) (in_bounds : Within g l) where
  some : 0 < l
  some = omega (arith, in_bounds.from)

  S>0 : 0 < S g l
  S>0 = S-some g l (fitted g in_bounds.ok) in_bounds.from

  L>0 : 0 < L g l
  L>0 = L-some g l in_bounds.from

  -- a cut in bounds has at least one fragment
  pub f_some : 0 < f g l
  unfolding f
  f_some = fragment.f_some (L g l) (S g l) L>0 S>0

  -- a fragment of a cut in bounds has at least one byte
  pub s_some : 0 < s g l
  unfolding f s
  s_some = fragment.s_some (L g l) (S g l) L>0 S>0

  -- the sizes of a cut in bounds fit together, and all its fragments fit a place
  pub sized : Sized g l
  unfolding f s
  sized =
      record {
        k_least = chunk.k_some l some;
        k_most = chunk.k_most l some;
        z_less = chunk.z_less l some;
        chunks = chunk.filled l some;
        s_most = fragment.s_most (L g l) (S g l) L>0 S>0;
        all_held = fragment.holds (L g l) (S g l) L>0 S>0;
        last_held = fragment.before_last (L g l) (S g l) L>0 S>0;
        placed = omega (arith, fragment.over (L g l) (S g l) L>0 S>0, in_bounds.few, L-most g l in_bounds.from in_bounds.to);
      }

  -- with FEC the c that the receiver takes of a cut in bounds is the sender's
  pub same_c : g.fec ≡ true → received_c (f g l) (s g l) (k l) ≡ c l
  unfolding received_c f s n
  same_c fec =
      rw (L-fec g l fec) (fragment.c_same (c l) (n l) (S g l) (chunk.c_some l some) (omega (arith, chunk.n_least l some)) S>0
      (omega (arith, chunk.c_most l in_bounds.to, chunk.n_least l some)))

-- ---- the losses

-- a fragment has at most t bytes of a chunk, and so many times t is at most 48
Thin : Settings → ℕ → Type 0
Thin g l = (t : ℕ) × (S g l ≤ c l * t) × (assured g l * t ≤ parity)

each_bears : (g : Settings) (l : ℕ) → Fit g → least_l ≤ l → Thin g l
unfolding Thin assured divisor
each_bears g l ok from =
    by_m (Thin g l) g.m
    (λ (none : g.m ≡ 0).
    (S g l, omega (arith, le-mul_of_pos_right (S g l) (chunk.c_some l (omega arith))), each_none g.rule g.m (c l) (S g l) none))
    (λ (more : g.m ≡ 0 → ⊥).
    each_shares g.rule g.m (c l) (S g l) more ok.m_most (chunk.c_some l (omega arith)) (omega (arith, S-both g l more)))

-- with FEC, where a fragment of a cut in bounds has at most t bytes of a chunk and w times t is at most 48, after any w losses or fewer no chunk
-- misses more than 48 bytes
pub borne : (g : Settings) (l : ℕ) → Within g l → g.fec ≡ true → (t w : ℕ) → S g l ≤ c l * t → w * t ≤ parity
    → (lost : ℕ → Bool) → losses lost (f g l) ≤ w → (j : ℕ) → missing lost (f g l) (n l) j ≤ parity
unfolding f
borne g l in_bounds fec t w thin few =
    let l>0 : 0 < l = omega (arith, in_bounds.from) in
    let n>0 : 0 < n l = omega (arith, chunk.n_least l l>0) in
    rw (L-fec g l fec) (loss.borne (c l) (n l) (S g l) t w (chunk.c_some l l>0) n>0 (S>0 g l in_bounds) thin few)

-- with FEC, where at most as many fragments of a cut in bounds are lost as it assures, no chunk misses more than 48 bytes
pub bears : (g : Settings) (l : ℕ) → Within g l → g.fec ≡ true
    → (lost : ℕ → Bool) → losses lost (f g l) ≤ assured g l → (j : ℕ) → missing lost (f g l) (n l) j ≤ parity
unfolding Thin
bears g l in_bounds fec =
    let t = each_bears g l (fitted g in_bounds.ok) in_bounds.from in borne g l in_bounds fec t.0 (assured g l) t.1 t.2

-- ---- the fragments

-- a chunk with its parity has at most 255 bytes
cells_most : (l : ℕ) → 0 < l → c l * (k l + parity) ≤ c l * (most_k + parity)
cells_most l some = mul-le-mul_left (c l) (omega (arith, chunk.k_most l some))

-- a sixth of 48 c or more, by either rule
pub share_least : (g : Settings) (l : ℕ) → Fit g → (g.m ≡ 0 → ⊥) → 8 * c l ≤ parity * c l / divisor g
share_least g l ok more =
    (le-div_iff_mul-le {k = divisor g} (divisor_some g ok more)).1 (omega (arith, mul-le-mul_right (8 * c l) (divisor_most g ok)))

-- with FEC and room for 8 c bytes in a fragment there are 256 fragments at the most
pub few_thick : (g : Settings) (l : ℕ) → Fit g → g.fec ≡ true → least_l ≤ l → 8 * c l ≤ S g l → f g l ≤ most_f
unfolding f n
few_thick g l ok fec from thick =
    ceils.least (L g l) (S g l) (S-some g l ok from) most_f (omega (arith, L-fec g l fec, cells_most l (omega arith), thick))

-- with FEC, m above 0 and 41 bytes behind a header, a packet of 12 to 8,192 bytes is cut into 256 fragments at the most
pub few : (g : Settings) (l : ℕ) → Fit g → g.fec ≡ true → (g.m ≡ 0 → ⊥) → 41 ≤ g.mtu - h g → least_l ≤ l → l ≤ most_l → f g l ≤ most_f
unfolding f n
few g l ok fec more wide from to =
    ceils.least (L g l) (S g l) (S-some g l ok from) most_f
    (omega (arith, L-fec g l fec, L-most g l from to, S-both g l more, cells_most l (omega arith), share_least g l ok more, wide))
