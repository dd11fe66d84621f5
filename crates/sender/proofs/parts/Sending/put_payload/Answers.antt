-- `put_payload` meets its contract: with FEC what is interleaved, without FEC what is copied. Assumes nothing.
use native.Mathlib.Omega.{arith}
use Rattle.sender_rules.proofs.Laying.{interleaved, copied}
use Rattle.sender_rules.proofs.PayloadPlaces.{start_within, ends_plain}
use Rattle.sender_rules.proofs.PlannedFigures.{asked}
use Rattle.sender.proofs.parts.Sending.put_payload.Goals as goal

pub returns-then-self : goal.returns-then-self
returns-then-self c =
    let s = c.args.self.now in
    let P = c.requires in
    let a = c.args in
    let fec = c.if-self.true in
    interleaved s.g s.packet.now s.p s.figured fec a.block.now a.out.now _ _ a.i (P.0 fec) (asked s.g s.packet.now s.p s.figured a.i P.1) P.2
    c.interleave.ensures

pub overflow_mul-from : goal.overflow_mul-from
overflow_mul-from c =
    let s = c.args.self.now in
    let P = c.requires in
    let a = c.args in
    omega (arith, start_within s.g s.packet.now s.p s.figured a.i (asked s.g s.packet.now s.p s.figured a.i P.1))

pub overflow_add-end : goal.overflow_add-end
overflow_add-end c =
    let s = c.args.self.now in
    let P = c.requires in
    let a = c.args in
    omega (arith, start_within s.g s.packet.now s.p s.figured a.i (asked s.g s.packet.now s.p s.figured a.i P.1), c.payload_length.ensures.1)

pub slice_bounds-put-end : goal.slice_bounds-put-end
slice_bounds-put-end c =
    let s = c.args.self.now in
    let P = c.requires in
    let a = c.args in
    ends_plain s.g s.packet.now s.p s.figured a.i c.if-self.false _ (asked s.g s.packet.now s.p s.figured a.i P.1) c.payload_length.ensures.0

pub returns : goal.returns
returns c =
    let s = c.args.self.now in
    let P = c.requires in
    let If1 = c.if-self in
    let a = c.args in
    copied s.g s.packet.now s.p s.figured a.out.now _ _ a.i _ If1.false
    c.payload_length.ensures.0 P.2 c.put.ensures
