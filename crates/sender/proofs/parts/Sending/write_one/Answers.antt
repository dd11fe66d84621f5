-- `write_one` meets its contract: each return is the law for its number. Assumes nothing.
use mathlib.Core.Path.{sym}
use native.Mathlib.Omega.{arith}
use lib.Seq.{length-take-le}
use Rattle.base_rules.specs.Refusal.{number, told}
use Rattle.sender_rules.specs.Calls.{sent_number}
use Rattle.sender_rules.proofs.Cases as cases
use Rattle.sender_rules.proofs.PlannedFigures as figures
use Rattle.sender.proofs.parts.Sending.write_one.Goals as goal

pub returns-then-self-index : goal.returns-then-self-index
unfolding sent_number told number
returns-then-self-index c =
    let s = c.args.self.now in
    let P = s.figured in
    let a = c.args in
    cases.one_42 s.g s.number s.packet.now a.out.now a.index P.passed
    (omega (arith, c.if-self-index.true, figures.is_f _ _ _ P))

pub overflow_add-size : goal.overflow_add-size
overflow_add-size c =
    let s = c.args.self.now in
    let P = s.figured in
    omega (arith, figures.h_most _ _ _ P, c.payload_length.ensures.1)

pub returns-then-out-size : goal.returns-then-out-size
unfolding sent_number told number
returns-then-out-size c =
    let s = c.args.self.now in
    let a = c.args in
    let P = s.figured in
    let less = figures.asked _ _ _ P a.index c.if-self-index.false in
    let size = figures.size_is _ _ _ P s.number a.index _ c.payload_length.ensures.0 in
    cases.one_1 s.g s.number s.packet.now a.out.now a.index P.passed less (omega (arith, size, c.if-out-size.true))

pub slice_bounds-block-end : goal.slice_bounds-block-end
slice_bounds-block-end c =
    let s = c.args.self.now in
    omega (arith, figures.total_most _ _ _ s.figured)

pub slice_bounds-put_fragment-end : goal.slice_bounds-put_fragment-end
slice_bounds-put_fragment-end c =
    let s = c.args.self.now in
    sym (length-take-le _ _ (omega (arith, figures.total_most _ _ _ s.figured)))

pub put_fragment-requires : goal.put_fragment-requires
put_fragment-requires c =
    let s = c.args.self.now in
    let size = figures.size_is _ _ _ s.figured s.number c.args.index _ c.payload_length.ensures.0 in
    (figures.handed _ _ _ s.figured _ c.lay_block.ensures, c.if-self-index.false, omega (arith, size, c.if-out-size.false))

pub returns : goal.returns
unfolding sent_number told
returns c =
    let s = c.args.self.now in
    let a = c.args in
    let less = figures.asked _ _ _ s.figured a.index c.if-self-index.false in
    let size = figures.size_is _ _ _ s.figured s.number a.index _ c.payload_length.ensures.0 in
    cases.one_done s.g s.number s.packet.now a.out.now a.index s.figured.passed less _ _ size (omega (arith, size, c.if-out-size.false))
    c.put_fragment.ensures
