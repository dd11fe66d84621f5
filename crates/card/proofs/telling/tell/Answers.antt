use mathlib.Core.Path.{ap, ◌∙◌}
use Prim.Native.Nat.{ℕ, ◌+◌, ◌-◌, ◌≤◌}
use native.Mathlib.Omega.{arith}
use borrow.Author.Rules.{rules}
use lib.ListN.{length, length-append}
use Rattle.std.proofs.lemmas.Slice.Zip.{zip_turn, zip_end}
use Rattle.base_rules.specs.Bytes.{splice, bytes_of}
use Rattle.card_rules.proofs.TellLaws.{tells_none, tells_room, tells_more, tells_all, tells_short}
use Rattle.card.proofs.telling.tell.Goals as goal

pub returns-then-told-n : goal.returns-then-told-n
returns-then-told-n c =
    tells_short c.args.widths.now c.args.values.now c.args.told.now c.args.n c.requires (omega arith)

pub loop-width-init : goal.loop-width-init
loop-width-init c =
    tells_none c.args.widths.now c.args.values.now c.args.told.now c.args.n c.requires

pub overflow_add-end : goal.overflow_add-end
overflow_add-end c =
    let L = c.loop-width in
    let turn = zip_turn c.args.widths.now c.args.values.now L.yielded c.into_iter-width-iterator.result L.width-iterator c.next.new.self
    c.next.result (search rules) (search rules) L.yielded_by _ c.in-Some.is c.next.ensures.steps in
    let room = tells_room _ _ _ _ c.requires L.invariant (omega arith) turn.0 turn.1 in
    let within : L.at + c.in-Some.width.now ≤ length L.told = omega (arith, room, turn.2 0) in
    search rules

pub put_number-requires : goal.put_number-requires
put_number-requires c =
    let L = c.loop-width in
    let turn = zip_turn c.args.widths.now c.args.values.now L.yielded c.into_iter-width-iterator.result L.width-iterator c.next.new.self
    c.next.result (search rules) (search rules) L.yielded_by _ c.in-Some.is c.next.ensures.steps in
    let room = tells_room _ _ _ _ c.requires L.invariant (omega arith) turn.0 turn.1 in
    (omega arith, omega (arith, room, turn.2 0))

pub loop-width-preserved : goal.loop-width-preserved
loop-width-preserved c =
    let L = c.loop-width in
    let turn = zip_turn c.args.widths.now c.args.values.now L.yielded c.into_iter-width-iterator.result L.width-iterator c.next.new.self
    c.next.result (search rules) (search rules) L.yielded_by _ c.in-Some.is c.next.ensures.steps in
    let end : ℕ = L.at + c.in-Some.width.now in
    let put = c.put_number.ensures ∙ ap (λ (v : ℕ). splice L.told L.at (bytes_of (end - L.at) v)) (turn.3 0) in
    rw length-append
    (tells_more _ _ _ _ c.requires L.invariant end (omega arith) turn.0 turn.1 (ap (λ (w : ℕ). L.at + w) (turn.2 0)) put)

pub returns : goal.returns
returns c =
    let L = c.loop-width in
    let all = zip_end c.args.widths.now c.args.values.now L.yielded c.into_iter-width-iterator.result L.width-iterator c.next.new.self
    c.next.result (search rules) (search rules) L.yielded_by c.in-None.is c.next.ensures.steps in
    tells_all _ _ _ _ c.requires L.invariant (omega arith) (omega (arith, all, c.requires.0))
