-- Where a payload starts and how long it is, by the figures of the cut. Assumes nothing.
use mathlib.Core.Path.{◌≡◌, sym, ap, ◌∙◌}
use mathlib.Core.Bool.{true, false}
use mathlib.Core.List.{List}
use Prim.Native.Nat.{ℕ, ◌+◌, ◌-◌, ◌*◌, ◌≤◌, ◌<◌}
use native.Mathlib.Omega.{arith}
use lib.ListN.{length}
use Rattle.base_rules.specs.Bounds.{place}
use Rattle.cut_rules.specs.Sizes.{f, s}
use Rattle.cut_rules.specs.declared.Settings.{Settings}
use Rattle.cut_rules.specs.declared.Figures.{Figures}
use Rattle.cut_rules.proofs.PlanCases.{L-plain}
use Rattle.sender_rules.specs.Fragments.{payload_for}
use Rattle.sender_rules.specs.inner.Parts.{Figured}
use Rattle.sender_rules.proofs.FragmentLengths.{size-fec, size-plain, s_placed, sure, starts}
use Rattle.sender_rules.proofs.PlannedFigures.{is_s}

module _ (g : Settings) (packet : List ℕ) (p : Figures) (d : Figured g packet p) (i : ℕ) where
  start : i * p.s ≡ i * s g (length packet)
  start = ap (λ (x : ℕ). i * x) (is_s g packet p d)

  -- a fragment below f starts, at i s, within the bytes of a place
  pub start_within : i < f g (length packet) → i * p.s < place
  start_within less =
      let bound = sure g packet d.passed in
      omega (arith, start, starts g packet d.passed i less, bound.all_held, bound.placed)

  -- without FEC a fragment below f starts, at i s, no later than the packet ends
  pub start_plain : i < f g (length packet) → g.fec ≡ false → i * p.s ≤ length packet
  start_plain less plain = omega (arith, start, starts g packet d.passed i less, L-plain g (length packet) plain)

  -- with FEC every payload has the planned s bytes, and s is within a place
  pub sized_fec : g.fec ≡ true → (p.s ≡ length (payload_for g packet i)) × (p.s ≤ place)
  sized_fec fec =
      let e : p.s ≡ s g (length packet) = is_s g packet p d in
      (e ∙ sym (size-fec g packet fec i), omega (arith, s_placed g packet d.passed))

  module _ (plain : g.fec ≡ false) where
    -- without FEC, with fewer than s bytes left from i s on, the payload is as long as those, within a place
    pub sized_rest : length packet - i * p.s < p.s
        → (length packet - i * p.s ≡ length (payload_for g packet i)) × (length packet - i * p.s ≤ place)
    sized_rest less =
        let e : p.s ≡ s g (length packet) = is_s g packet p d in
        (omega (arith, start, size-plain g packet plain i), omega (arith, s_placed g packet d.passed))

    -- without FEC, with s bytes or more left from i s on, the payload has s bytes, within a place
    pub sized_whole : p.s ≤ length packet - i * p.s → (p.s ≡ length (payload_for g packet i)) × (p.s ≤ place)
    sized_whole more =
        let e : p.s ≡ s g (length packet) = is_s g packet p d in
        (omega (arith, start, size-plain g packet plain i), omega (arith, s_placed g packet d.passed))

    -- it ends within the packet
    pub ends_plain : (size : ℕ) → i < f g (length packet) → size ≡ length (payload_for g packet i) → i * p.s + size ≤ length packet
    ends_plain size less e = omega (arith, start, start_plain less plain, size-plain g packet plain i)
