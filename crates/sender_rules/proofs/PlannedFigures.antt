-- What the figures of a packet that is not refused are, and that they fit the header's fields. Assumes nothing.
use mathlib.Core.Path.{◌≡◌, sym, ap, ap₂, ◌∙◌}
use mathlib.Core.Bool.{true}
use mathlib.Core.List.{List, [], ◌∷◌}
use Prim.Native.Nat.{ℕ, ◌+◌, ◌-◌, ◌*◌, ◌≤◌, ◌<◌}
use native.Mathlib.Nat.{mul-le-mul}
use native.Mathlib.Omega.{arith}
use lib.ListN.{length, take}
use Rattle.base_rules.specs.Bounds.{most_f, most_k, most_mtu, place}
use Rattle.base_rules.proofs.Logic.{either}
use Rattle.cut_rules.specs.Plan.{with_fec, figures_of, values_of}
use Rattle.cut_rules.specs.Sizes.{c, k, z, h, L, f, s}
use Rattle.cut_rules.specs.declared.Settings.{Settings}
use Rattle.cut_rules.specs.declared.Figures.{Figures}
use Rattle.cut_rules.proofs.PlanCases.{fitted}
use Rattle.sender_rules.specs.Fragments.{payload_for, header_for, fragment_for, fragments_for}
use Rattle.sender_rules.specs.inner.Parts.{Figured, Laid}
use Rattle.sender_rules.proofs.Checks.{in_bounds}
use Rattle.sender_rules.proofs.FragmentLengths.{fragment-size, whole_size, sure, s_placed}
use Rattle.sender_rules.proofs.FragmentLengths as lengths

-- with FEC a figure of the code stays as it is
pub with_fec_lem : (g : Settings) (x : ℕ) → g.fec ≡ true → with_fec g x ≡ x
unfolding with_fec
with_fec_lem g x e = rw e

-- a figure of the code within a bound stays within it, with FEC and without
pub with_most : (g : Settings) (x most : ℕ) → x ≤ most → with_fec g x ≤ most
unfolding with_fec
with_most g x most le = either g.fec (λ e. rw e le) (λ e. rw e (omega arith))

module _ (g : Settings) (packet : List ℕ) (p : Figures) (d : Figured g packet p) where
  pub is_c : p.c ≡ with_fec g (c (length packet))
  unfolding values_of figures_of
  is_c = cc d.values

  pub is_k : p.k ≡ with_fec g (k (length packet))
  unfolding values_of figures_of
  is_k = cc d.values

  pub is_z : p.z ≡ with_fec g (z (length packet))
  unfolding values_of figures_of
  is_z = cc d.values

  -- the planned h is the header's length at the settings
  pub is_h : p.h ≡ h g
  unfolding values_of figures_of
  is_h = cc d.values

  pub is_total : p.total ≡ L g (length packet)
  unfolding values_of figures_of
  is_total = cc d.values

  -- the planned f is the count of the packet's fragments
  pub is_f : p.f ≡ f g (length packet)
  unfolding values_of figures_of
  is_f = cc d.values

  -- the planned s is that of the packet's cut
  pub is_s : p.s ≡ s g (length packet)
  unfolding values_of figures_of
  is_s = cc d.values

  -- an index that is below the count
  pub asked : (i : ℕ) → i < p.f → i < f g (length packet)
  asked i less = omega (arith, is_f)

  -- with FEC
  pub c_fec : g.fec ≡ true → p.c ≡ c (length packet)
  c_fec e = is_c ∙ with_fec_lem g _ e

  -- with FEC the planned k is the data bytes of a chunk
  pub k-fec : g.fec ≡ true → p.k ≡ k (length packet)
  k-fec e = is_k ∙ with_fec_lem g _ e

  -- RSk and RSz have a byte, Fcount three
  pub rs_most : (p.k ≤ most_k) × (p.z ≤ most_k)
  rs_most =
      let bound = sure g packet d.passed in (
        omega (arith, is_k, with_most g (k (length packet)) most_k bound.k_most),
        omega (arith, is_z, with_most g (z (length packet)) most_k (omega (arith, bound.z_less, bound.k_most))),
      )

  -- the planned f is at most 256
  pub f_most : p.f ≤ most_f
  f_most = omega (arith, is_f, (in_bounds g packet d.passed).few)

  -- the header
  pub headed : (number i plen : ℕ) → plen ≡ length (payload_for g packet i)
      → record { number = number; index = i; count = p.f; fec = g.fec; rsk = p.k; rsz = p.z; address = g.address; plen = plen } ≡ header_for
      g number packet i
  unfolding header_for
  headed number i plen e = cc (is_f, is_k, is_z, e)

  -- a header is shorter than a datagram may be, and the block than a place
  pub h_most : p.h ≤ most_mtu
  h_most =
      let fine = fitted g (in_bounds g packet d.passed).ok in
      omega (arith, is_h, fine.room, fine.mtu_most)

  -- the planned s is within a place
  pub s_most : p.s ≤ place
  s_most = omega (arith, is_s, s_placed g packet d.passed)

  -- the bytes that are planned to be cut are within a place
  pub total_most : p.total ≤ place
  total_most =
      let bound = sure g packet d.passed in
      omega (arith, is_total, bound.all_held, bound.placed)

  -- where a fragment starts among all
  pub step_is : p.h + p.s ≡ h g + s g (length packet)
  step_is = ap₂ (λ (x y : ℕ). x + y) is_h is_s

  -- where a fragment starts among all is at most 256 x (16,384 + 12,288)
  pub starts_most : (i : ℕ) → i ≤ p.f → i * (p.h + p.s) ≤ most_f * (most_mtu + place)
  starts_most i le =
      let few : i ≤ most_f = omega (arith, f_most) in
      let small : p.h + p.s ≤ most_mtu + place = omega (arith, h_most, s_most) in
      mul-le-mul few small

  -- the bytes of a fragment
  pub size_is : (number i plen : ℕ) → plen ≡ length (payload_for g packet i) → p.h + plen ≡ length (fragment_for g number packet i)
  size_is number i plen e = ap₂ (λ (x y : ℕ). x + y) is_h e ∙ sym (fragment-size g packet number i)

  -- the block, as it is handed on
  pub handed : (block : List ℕ) → Laid g packet (take (L g (length packet)) block) → Laid g packet (take p.total block)
  handed block laid fec = ap (λ (x : ℕ). take x block) is_total ∙ laid fec

  -- the last of them, and all together
  module _ (plen : ℕ) (is-plen : plen ≡ length (payload_for g packet (p.f - 1))) where
    last_is : plen ≡ length (payload_for g packet (f g (length packet) - 1))
    last_is = is-plen ∙ ap (λ (x : ℕ). length (payload_for g packet (x - 1))) is_f

    -- f - 1 fragments of h + s bytes and the last of h + Plen are as long as all fragments together
    pub whole_is : (number : ℕ) → (p.f - 1) * (p.h + p.s) + (p.h + plen) ≡ length (fragments_for g number packet)
    whole_is number =
        ap₂ (λ (x y : ℕ). x + y) (ap₂ (λ (x y : ℕ). (x - 1) * y) is_f step_is) (ap₂ (λ (x y : ℕ). x + y) is_h last_is)
        ∙ sym (whole_size g packet d.passed number)

    -- the planned f, h and s, and the last Plen, are the values that all fragments are answered with
    pub split_is : p.f ∷ p.h ∷ p.s ∷ plen ∷ []
        ≡ f g (length packet) ∷ h g ∷ s g (length packet) ∷ length (payload_for g packet (f g (length packet) - 1)) ∷ []
    split_is = cc (is_f, is_h, is_s, last_is)

  -- the planned f is at least 1
  pub f_some : 0 < p.f
  f_some = omega (arith, is_f, lengths.f_some g packet d.passed)
