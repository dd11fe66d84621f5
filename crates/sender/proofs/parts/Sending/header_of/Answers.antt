-- `header_of` meets its contract: the figures fit the header's fields, and are those of the packet. Assumes nothing.
use native.Mathlib.Omega.{arith}
use Rattle.sender_rules.proofs.PlannedFigures as figures
use Rattle.sender.proofs.parts.Sending.header_of.Goals as goal

pub overflow_cast-result : goal.overflow_cast-result
overflow_cast-result c =
    let s = c.args.self.now in
    omega (arith, c.requires, figures.f_most s.g s.packet.now s.p s.figured)

pub overflow_cast-result-2 : goal.overflow_cast-result-2
overflow_cast-result-2 c =
    let s = c.args.self.now in
    omega (arith, figures.f_most s.g s.packet.now s.p s.figured)

pub overflow_cast-result-3 : goal.overflow_cast-result-3
overflow_cast-result-3 c =
    let s = c.args.self.now in
    let most = figures.rs_most s.g s.packet.now s.p s.figured in
    omega (arith, most.0, most.1)

pub overflow_cast-result-4 : goal.overflow_cast-result-4
overflow_cast-result-4 c =
    let s = c.args.self.now in
    let most = figures.rs_most s.g s.packet.now s.p s.figured in
    omega (arith, most.0, most.1)

pub returns : goal.returns
returns c =
    let s = c.args.self.now in
    let a = c.args in
    figures.headed s.g s.packet.now s.p s.figured s.number a.i _
    c.payload_length.ensures.0
