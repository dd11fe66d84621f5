use native.Mathlib.Omega.{arith}
use Rattle.sender_rules.proofs.PlannedFigures as figures
use Rattle.sender_rules.proofs.Run as run
use Rattle.sender.proofs.parts.Sending.put_fragments.Goals as goal

pub overflow_add-step : goal.overflow_add-step
overflow_add-step c =
    let s = c.args.self.now in
    omega (arith, figures.h_most s.g s.packet.now s.p s.figured, figures.s_most s.g s.packet.now s.p s.figured)

pub loop-i-init : goal.loop-i-init
loop-i-init c =
    let s = c.args.self.now in
    let a = c.args in
    (omega arith, run.run_none s.g s.packet.now s.p s.figured s.number a.out.now)

pub slice_bounds-put_fragment-count : goal.slice_bounds-put_fragment-count
slice_bounds-put_fragment-count c =
    let s = c.args.self.now in
    let P = c.requires in
    let L = c.loop-i in
    let a = c.args in
    let inv = L.invariant in
    run.run_start s.g s.packet.now s.p s.figured s.number a.out.now P.1 L.i L.at L.out c.loop-i-test.true inv.0
    inv.1

pub slice_bounds-put_fragment-start : goal.slice_bounds-put_fragment-start
slice_bounds-put_fragment-start c = slice_bounds-put_fragment-count c

pub put_fragment-requires : goal.put_fragment-requires
put_fragment-requires c =
    let s = c.args.self.now in
    let P = c.requires in
    let L = c.loop-i in
    let Loop-test = c.loop-i-test in
    let a = c.args in
    let inv = L.invariant in
    let room = run.run_room s.g s.packet.now s.p s.figured s.number a.out.now P.1 L.i L.at L.out
    Loop-test.true inv.0 inv.1 in
    (P.0, Loop-test.true, room)

pub overflow_add-at : goal.overflow_add-at
overflow_add-at c =
    let s = c.args.self.now in
    let L = c.loop-i in
    let d = s.figured in
    omega (
      arith,
      L.invariant.0,
      figures.starts_most s.g s.packet.now s.p d L.i (omega arith),
      figures.h_most s.g s.packet.now s.p d,
      figures.s_most s.g s.packet.now s.p d,
    )

pub loop-i-preserved : goal.loop-i-preserved
loop-i-preserved c =
    let s = c.args.self.now in
    let P = c.requires in
    let L = c.loop-i in
    let a = c.args in
    let inv = L.invariant in
    let more = run.run_more s.g s.packet.now s.p s.figured s.number a.out.now P.1 L.i L.at L.out
    c.loop-i-test.true inv.0 inv.1 _ c.put_fragment.ensures in
    (omega (arith, inv.0), more)

pub shape_of-out : goal.shape_of-out
shape_of-out c =
    let s = c.args.self.now in
    let P = c.requires in
    let L = c.loop-i in
    let a = c.args in
    run.whole_length s.g s.packet.now s.p s.figured s.number a.out.now P.1 L.out
    (run.run_whole s.g s.packet.now s.p s.figured s.number a.out.now L.i L.out (omega arith) c.loop-i-test.false L.invariant.1)

pub returns : goal.returns
returns c =
    let s = c.args.self.now in
    let L = c.loop-i in
    let a = c.args in
    run.run_whole s.g s.packet.now s.p s.figured s.number a.out.now L.i L.out (omega arith) c.loop-i-test.false L.invariant.1
