-- The claims of specs/Claims.antt on the sender. Assumes nothing.
use mathlib.Core.Path.{◌≡◌, refl, sym, subst}
use mathlib.Core.Bool.{Bool, true, false, cond}
use mathlib.Core.List.{List}
use Prim.Native.Nat.{ℕ, zero, suc, ◌+◌, ◌-◌, ◌≤◌, ◌<◌}
use native.Mathlib.Omega.{arith}
use lib.ListN.{length}
use Rattle.base_rules.specs.Answer.{granted, answered, settled, answer_in}
use Rattle.base_rules.specs.Tests.{first}
use Rattle.cut_rules.specs.Plan.{with_fec, figures_of}
use Rattle.cut_rules.specs.Sizes.{c, k, z, n, h, S, L, f, s, assured}
use Rattle.cut_rules.specs.declared.Settings.{Settings}
use Rattle.cut_rules.proofs.ChunkSizes.{c_most}
use Rattle.cut_rules.proofs.Editions.{assured_most}
use Rattle.cut_rules.proofs.PlanCases.{within, fitted, S-most, L-most}
use Rattle.cut_rules.proofs.Proved.{c2}
use Rattle.code_rules.proofs.CallCases.{granted_by}
use Rattle.sender_rules.specs.Calls.{checks, packet_fault, fragment_fault, fragment_call, fragments_fault, fragments_call}
use Rattle.sender_rules.specs.Fragments.{payload_for}
use Rattle.sender_rules.proofs.Checks.{none_more, taken}
use Rattle.sender_rules.proofs.FragmentLengths.{fragment-size, size_most}
use Rattle.card_rules.specs.Claims.{InTwo, none, more, PlanWhole, LengthWhole, SplitWhole}

-- ---- the plan

-- a figure that is 0 without FEC
pub at_most : (b : Bool) (x : ℕ) → cond b x 0 ≤ x
at_most true x = omega arith
at_most false x = omega arith

-- each figure of a plan that is not refused fits the two bytes in which it is told
pub plan_whole : PlanWhole
unfolding figures_of with_fec n
plan_whole g l fault =
    let there = within g l fault in
    let sizes = c2 g l fault in
    let ok = fitted g there.ok in
    let room = S-most g l in
    let chunks : with_fec g (c l) < 65536 = omega (arith, at_most g.fec (c l), c_most l there.to) in
    let data-bytes : with_fec g (k l) < 65536 = omega (arith, at_most g.fec (k l), sizes.k_most) in
    let zeros : with_fec g (z l) < 65536 = omega (arith, at_most g.fec (z l), sizes.z_less, sizes.k_most) in
    let cells : with_fec g (n l) < 65536 = omega (arith, at_most g.fec (n l), sizes.k_most) in
    let header : h g < 65536 = omega (arith, ok.room, ok.mtu_most) in
    let most : S g l < 65536 = omega (arith, room, ok.mtu_most) in
    let all : L g l < 65536 = omega (arith, L-most g l there.from there.to) in
    let few : f g l < 65536 = omega (arith, there.few) in
    let each : s g l < 65536 = omega (arith, sizes.s_most, room, ok.mtu_most) in
    let losses : assured g l < 65536 = omega (arith, ok.m_most, assured_most g l) in
    more chunks (more data-bytes (more zeros (more cells (more header (more most (more all (more few (more each (more losses none)))))))))

-- ---- the fragments

-- a call that grants values has no fault, and the values are its own
granted_own : (fault : ℕ) (own written before values : List ℕ) → answer_in (settled fault own written before) ≡ granted values → (fault ≡ 0)
    × (own ≡ values)
unfolding answer_in settled answered
granted_own zero own written before values e = (refl, (granted_by 0 own values e).1)
granted_own (suc fault) own written before values e = absurd (omega (arith, (granted_by (suc fault) values own (sym e)).0))

module _ (g : Settings) (packet : List ℕ) (rest : List (Bool × ℕ)) (fault : first (checks g packet rest) ≡ 0) where
  passed : packet_fault g packet ≡ 0
  passed = none_more g packet rest fault

  sizes_fit : (i : ℕ) → (f g (length packet) < 65536) × (h g < 65536) × (s g (length packet) < 65536)
      × (h g + length (payload_for g packet i) < 65536)
  sizes_fit i =
      let there = within g (length packet) (taken g packet passed) in
      let ok = fitted g there.ok in
      let sizes = c2 g (length packet) (taken g packet passed) in
      let room = S-most g (length packet) in (
        omega (arith, there.few),
        omega (arith, ok.room, ok.mtu_most),
        omega (arith, sizes.s_most, room, ok.mtu_most),
        omega (arith, size_most g packet passed i, sizes.s_most, room, ok.room, ok.mtu_most),
      )

-- the length of a fragment that is granted fits the two bytes in which it is told
pub length_whole : LengthWhole
unfolding fragment_call fragment_fault
length_whole g number packet i out values e =
    let both = granted_own (fragment_fault g number packet i (length out)) _ _ _ values e in
    let fit = sizes_fit g packet _ both.0 i in
    subst InTwo both.1 (more (omega (arith, fit.3, fragment-size g packet number i)) none)

-- of all fragments, where they are granted, f, h, s and the last Plen fit two bytes each
pub split_whole : SplitWhole
unfolding fragments_call fragments_fault
split_whole g number packet out values e =
    let both = granted_own (fragments_fault g number packet (length out)) _ _ _ values e in
    let fit = sizes_fit g packet _ both.0 (f g (length packet) - 1) in
    subst InTwo both.1 (more fit.0 (more fit.1 (more fit.2 (more (omega (arith, fit.3)) none))))
