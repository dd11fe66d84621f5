-- T3: what is lost of a packet, at most as many fragments as its plan assures, leaves enough. Assumes nothing.
use mathlib.Core.Path.{ap, ◌∙◌}
use mathlib.Core.Bool.{Bool, cond}
use Prim.Native.Nat.{ℕ}
use native.Mathlib.Omega.{arith}
use borrow.Author.Tests.{eq-eqb}
use lib.Dec.{eqb}
use lib.ListN.{length}
use Rattle.base_rules.proofs.Logic.{either}
use Rattle.cut_rules.specs.Missing.{losses, suffice}
use Rattle.cut_rules.specs.Sizes as cut
use Rattle.cut_rules.proofs.Editions.{assured_is, assured_most}
use Rattle.cut_rules.proofs.PlanCases.{fitted}
use Rattle.cut_rules.proofs.Proved.{c6}
use Rattle.cut_rules.proofs.Sufficing.{suffice_from}
use Rattle.sender_rules.proofs.Checks.{taken, in_bounds}
use Rattle.link.specs.Run.{lost}
use Rattle.link.specs.Demand.{count, key_for, chunks, enough_after, T3, T3m}

-- with FEC no chunk misses more than 48 bytes, by C6; without it 40 leaves m 0, so that none is lost
pub survives : T3
unfolding enough_after
survives g n packet es takes few =
    let gone : ℕ → Bool = lost (key_for g n) es in
    let coded : Bool = suffice gone (count g packet) (cut.n (length packet)) (chunks g packet) in
    let plain : Bool = eqb (losses gone (count g packet)) 0 in
    either g.fec
    (λ fec.
    ap (λ (b : Bool). cond b coded plain) fec
    ∙ suffice_from gone (count g packet) (cut.n (length packet)) (chunks g packet)
    (λ j l. (c6 g (length packet) (taken g packet takes.passed) fec gone few).0 j))
    (λ fec.
    let none = (fitted g (in_bounds g packet takes.passed).ok).m-fec fec in
    ap (λ (b : Bool). cond b coded plain) fec
    ∙ eq-eqb (losses gone (count g packet)) 0 (omega (arith, few, assured_most g (length packet), none)))

-- where the plan's figure is m, so many
pub survives_m : T3m
survives_m g n packet es takes sure few = survives g n packet es takes (omega (arith, few, (assured_is g (length packet)).m_sure sure))
