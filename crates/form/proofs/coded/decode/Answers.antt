-- `decode` meets its contract: what the calls leave is handed to the laws of decoding. Assumes nothing.
use mathlib.Core.Path.{◌≡◌, ap, ◌∙◌}
use native.Mathlib.Omega.{arith}
use borrow.Author.Rules.{rules}
use lib.ListN.{length}
use Rattle.base_rules.specs.Bounds.{place}
use Rattle.base_rules.proofs.Logic.{clash}
use Rattle.cut_rules.specs.Sizes.{received_c}
use Rattle.code_rules.specs.declared.Filled.TheVariants.{Done, Nothing, NotEnough}
use Rattle.std.specs.Prelude.{Ok, Err}
use Rattle.form_rules.proofs.Decoding as laws
use Rattle.form.proofs.coded.decode.Goals as goal

pub overflow_mul-c : goal.overflow_mul-c
overflow_mul-c c =
    let size : length c.deinterleave.new.out ≡ place = search rules in
    let d : laws.Decoding c.args.p c.args.held.now c.deinterleave.new.out c.fill.new.block (Ok Done) =
    laws.decoding _ _ c.fill.result c.requires.0 c.requires.1 (search rules) size c.deinterleave.ensures c.fill.ensures (c.in-Ok-Done.is ∙ ap Ok c.in-Ok-Done.field-0-is) in
    omega (arith, (laws.figured d).placed)

pub gather-requires : goal.gather-requires
unfolding received_c
gather-requires c =
    let size : length c.deinterleave.new.out ≡ place = search rules in
    let d : laws.Decoding c.args.p c.args.held.now c.deinterleave.new.out c.fill.new.block (Ok Done) =
    laws.decoding _ _ c.fill.result c.requires.0 c.requires.1 (search rules) size c.deinterleave.ensures c.fill.ensures (c.in-Ok-Done.is ∙ ap Ok c.in-Ok-Done.field-0-is) in
    let room = laws.chunks_room d in
    (room.0, omega (arith, room.1, c.requires.2), omega (arith, room.2))

pub overflow_sub-l : goal.overflow_sub-l
unfolding received_c
overflow_sub-l c =
    let size : length c.deinterleave.new.out ≡ place = search rules in
    let d : laws.Decoding c.args.p c.args.held.now c.deinterleave.new.out c.fill.new.block (Ok Done) =
    laws.decoding _ _ c.fill.result c.requires.0 c.requires.1 (search rules) size c.deinterleave.ensures c.fill.ensures (c.in-Ok-Done.is ∙ ap Ok c.in-Ok-Done.field-0-is) in
    laws.zeros_within d

pub slice_bounds-all_zero-end : goal.slice_bounds-all_zero-end
unfolding received_c
slice_bounds-all_zero-end c =
    let size : length c.deinterleave.new.out ≡ place = search rules in
    let d : laws.Decoding c.args.p c.args.held.now c.deinterleave.new.out c.fill.new.block (Ok Done) =
    laws.decoding _ _ c.fill.result c.requires.0 c.requires.1 (search rules) size c.deinterleave.ensures c.fill.ensures (c.in-Ok-Done.is ∙ ap Ok c.in-Ok-Done.field-0-is) in
    omega (arith, (laws.chunks_room d).1, laws.result_room d _ _ c.requires.2 c.gather.ensures)

pub returns-then-all_zero : goal.returns-then-all_zero
unfolding received_c
returns-then-all_zero c =
    let size : length c.deinterleave.new.out ≡ place = search rules in
    let d : laws.Decoding c.args.p c.args.held.now c.deinterleave.new.out c.fill.new.block (Ok Done) =
    laws.decoding _ _ c.fill.result c.requires.0 c.requires.1 (search rules) size c.deinterleave.ensures c.fill.ensures (c.in-Ok-Done.is ∙ ap Ok c.in-Ok-Done.field-0-is) in
    let zero = c.all_zero.ensures in
    (laws.proposes d _ _ c.requires.2 c.gather.ensures (zero.0 c.if-all_zero.true), laws.result_room d _ _ c.requires.2 c.gather.ensures)

pub returns-else-all_zero : goal.returns-else-all_zero
unfolding received_c
returns-else-all_zero c =
    let size : length c.deinterleave.new.out ≡ place = search rules in
    let d : laws.Decoding c.args.p c.args.held.now c.deinterleave.new.out c.fill.new.block (Ok Done) =
    laws.decoding _ _ c.fill.result c.requires.0 c.requires.1 (search rules) size c.deinterleave.ensures c.fill.ensures (c.in-Ok-Done.is ∙ ap Ok c.in-Ok-Done.field-0-is) in
    let zero = c.all_zero.ensures in
    (laws.damaged d _ _ c.requires.2 c.gather.ensures (λ e. clash (zero.1 e) c.if-all_zero.false), laws.result_room d _ _ c.requires.2 c.gather.ensures)

pub returns-in-Ok-Nothing : goal.returns-in-Ok-Nothing
returns-in-Ok-Nothing c =
    let size : length c.deinterleave.new.out ≡ place = search rules in
    let d : laws.Decoding c.args.p c.args.held.now c.deinterleave.new.out c.fill.new.block (Ok Nothing) =
    laws.decoding _ _ c.fill.result c.requires.0 c.requires.1 (search rules) size c.deinterleave.ensures c.fill.ensures (c.in-Ok-Nothing.is ∙ ap Ok c.in-Ok-Nothing.field-0-is) in
    (laws.nothing_agrees d, c.requires.2)

pub returns-in-Ok-NotEnough : goal.returns-in-Ok-NotEnough
returns-in-Ok-NotEnough c =
    let size : length c.deinterleave.new.out ≡ place = search rules in
    let d : laws.Decoding c.args.p c.args.held.now c.deinterleave.new.out c.fill.new.block (Ok NotEnough) =
    laws.decoding _ _ c.fill.result c.requires.0 c.requires.1 (search rules) size c.deinterleave.ensures c.fill.ensures (c.in-Ok-NotEnough.is ∙ ap Ok c.in-Ok-NotEnough.field-0-is) in
    (laws.short_agrees d, c.requires.2)

pub returns-in-Err : goal.returns-in-Err
returns-in-Err c =
    let size : length c.deinterleave.new.out ≡ place = search rules in
    let d : laws.Decoding c.args.p c.args.held.now c.deinterleave.new.out c.fill.new.block (Err c.in-Err.field-0) =
    laws.decoding _ _ c.fill.result c.requires.0 c.requires.1 (search rules) size c.deinterleave.ensures c.fill.ensures c.in-Err.is in
    (laws.refused-agrees d, c.requires.2)
