-- `payload_length` meets its contract: s bytes, or without FEC what is left of the packet where that is less. Assumes nothing.
use Prim.Native.Nat.{ℕ, ◌-◌, ◌*◌, ◌≤◌, ◌<◌}
use native.Mathlib.Omega.{arith}
use borrow.Author.Tests.{ltb-true, ltb-false}
use lib.Dec.{ltb}
use lib.ListN.{length}
use Rattle.base_rules.proofs.Logic.{either}
use Rattle.sender_rules.proofs.PayloadPlaces as places
use Rattle.sender_rules.proofs.PlannedFigures as figures
use Rattle.sender.proofs.parts.Sending.payload_length.Goals as goal

pub returns-then-self : goal.returns-then-self
returns-then-self c =
    let s = c.args.self.now in
    let a = c.args in
    places.sized_fec s.g s.packet.now s.p s.figured a.i c.if-self.true

pub overflow_mul-i : goal.overflow_mul-i
overflow_mul-i c =
    let s = c.args.self.now in
    let a = c.args in
    record { fits = omega (arith, places.start_within s.g s.packet.now s.p s.figured a.i (figures.asked s.g s.packet.now s.p s.figured a.i c.requires)) }

pub overflow_sub-self : goal.overflow_sub-self
overflow_sub-self c =
    let s = c.args.self.now in
    let a = c.args in
    places.start_plain s.g s.packet.now s.p s.figured a.i (figures.asked s.g s.packet.now s.p s.figured a.i c.requires) c.if-self.false

pub returns : goal.returns
returns c =
    let s = c.args.self.now in
    let a = c.args in
    let left : ℕ = length s.packet.now - a.i * s.p.s in
    either (ltb left s.p.s)
    (λ e.
    let less : left < s.p.s = ltb-true left s.p.s e in
    let t = places.sized_rest s.g s.packet.now s.p s.figured a.i c.if-self.false less in
    (omega (arith, t.0, c.min.ensures), omega (arith, t.1, c.min.ensures)))
    (λ e.
    let more : s.p.s ≤ left = ltb-false left s.p.s e in
    let t = places.sized_whole s.g s.packet.now s.p s.figured a.i c.if-self.false more in
    (omega (arith, t.0, c.min.ensures), omega (arith, t.1, c.min.ensures)))
