-- `write_all` meets its contract: each return is the law for its number. Assumes nothing.
use mathlib.Core.Path.{sym}
use Prim.Native.Nat.{◌-◌}
use native.Mathlib.Omega.{arith}
use lib.Seq.{length-take-le}
use Rattle.base_rules.specs.Refusal.{number, told}
use Rattle.sender_rules.specs.Calls.{split_values, all_number}
use Rattle.sender_rules.proofs.Cases as cases
use Rattle.sender_rules.proofs.PlannedFigures as figures
use Rattle.sender.proofs.parts.Sending.write_all.Goals as goal

pub overflow_sub-full : goal.overflow_sub-full
overflow_sub-full c =
    let s = c.args.self.now in
    figures.f_some _ _ _ s.figured

pub payload_length-last-requires : goal.payload_length-last-requires
payload_length-last-requires c =
    let s = c.args.self.now in
    let some = figures.f_some _ _ _ s.figured in
    omega (arith, some)

pub overflow_add-h : goal.overflow_add-h
overflow_add-h c =
    let s = c.args.self.now in
    let P = s.figured in
    omega (arith, figures.h_most _ _ _ P, figures.s_most _ _ _ P)

pub overflow_mul-full : goal.overflow_mul-full
overflow_mul-full c =
    let s = c.args.self.now in
    omega (arith, figures.starts_most _ _ _ s.figured (s.p.f - 1) (omega arith))

pub overflow_add-h-2 : goal.overflow_add-h-2
overflow_add-h-2 c =
    let s = c.args.self.now in
    let P = s.figured in
    omega (arith, figures.h_most _ _ _ P, c.payload_length-last.ensures.1)

pub overflow_add-full : goal.overflow_add-full
overflow_add-full c =
    let s = c.args.self.now in
    let P = s.figured in
    omega (
      arith,
      figures.starts_most _ _ _ P (s.p.f - 1) (omega arith),
      figures.h_most _ _ _ P,
      c.payload_length-last.ensures.1,
    )

pub returns-then-out-full : goal.returns-then-out-full
unfolding all_number told number
returns-then-out-full c =
    let s = c.args.self.now in
    let a = c.args in
    let P = s.figured in
    let size = figures.whole_is _ _ _ P _ c.payload_length-last.ensures.0 s.number in
    cases.all_1 s.g s.number s.packet.now a.out.now P.passed (omega (arith, size, c.if-out-full.true))

pub slice_bounds-block-end : goal.slice_bounds-block-end
slice_bounds-block-end c =
    let s = c.args.self.now in
    omega (arith, figures.total_most _ _ _ s.figured)

pub slice_bounds-put_fragments-end : goal.slice_bounds-put_fragments-end
slice_bounds-put_fragments-end c =
    let s = c.args.self.now in
    sym (length-take-le _ _ (omega (arith, figures.total_most _ _ _ s.figured)))

pub put_fragments-requires : goal.put_fragments-requires
put_fragments-requires c =
    let s = c.args.self.now in
    let size = figures.whole_is _ _ _ s.figured _ c.payload_length-last.ensures.0 s.number in
    (figures.handed _ _ _ s.figured _ c.lay_block.ensures, omega (arith, size, c.if-out-full.false))

pub returns : goal.returns
unfolding all_number split_values told
returns c =
    let s = c.args.self.now in
    let a = c.args in
    let last = c.payload_length-last.ensures.0 in
    let size = figures.whole_is _ _ _ s.figured _ last s.number in
    cases.all_done s.g s.number s.packet.now a.out.now s.figured.passed _ _ (figures.split_is _ _ _ s.figured _ last)
    (omega (arith, size, c.if-out-full.false)) c.put_fragments.ensures
