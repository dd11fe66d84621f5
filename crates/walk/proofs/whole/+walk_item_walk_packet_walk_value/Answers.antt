use borrow.Author.Tests.{eqb-false}
use native.Mathlib.Omega.{arith}
use Prim.Native.Nat.{ℕ, ◌%◌}
use mathlib.Core.Bool.{Bool, false, not, ◌&&◌}
use mathlib.Core.List.{List}
use mathlib.Core.Path.{◌≡◌, refl, sym, ap, ◌∙◌}
use lib.Dec.{eqb}
use lib.ListN.{length, length-replicate}
use borrow.Author.Rules.{rules}
use Rattle.std.specs.Prelude.{Ok, Err}
use Rattle.base_rules.specs.Refusal.{number, fault_in}
use Rattle.base_rules.proofs.Answers.{number-positive}
use Rattle.base_rules.specs.Tests.{among}
use Rattle.item_rules.specs.declared.Item.{Item}
use Rattle.item_rules.specs.Run.{run_of, first_of, is_before, slots}
use Rattle.item_rules.proofs.Steps.{item_fits}
use Rattle.item_rules.proofs.Runs.{item_begins, falls}
use Rattle.item_rules.proofs.Seen.{seen_none}
use Rattle.walk_rules.specs.Names.{names_of}
use Rattle.walk_rules.proofs.Refusals.{own_first, not_whole, too_deep, no_fault, container_whole, no_container, own, contents, no_contents}
use Rattle.walk_rules.proofs.Refusals.{one_deeper, walk_ends, walk_refused, walk_turn, walk_stops}
use Rattle.walk.proofs.whole.+walk_item_walk_packet_walk_value.Goals as goal
use Rattle.walk.proofs.whole.+walk_item_walk_packet_walk_value.Goals.{walk_item-else-inside-via-then-inside+else-i-ne0, walk_item-else-inside-via-else-inside}

-- whether the item's name has stood before, as the code tells it
abbrev stood : List ℕ → ℕ → ℕ → Bool → Item → Bool
stood s from end mark i = mark && is_before (first_of i.name (run_of s from end)) i.from

pub walk_item-returns-in_err-fault_of : goal.walk_item-returns-in_err-fault_of
unfolding fault_in
walk_item-returns-in_err-fault_of t c =
    let r : c.from_residual.result ≡ Err c.in_err-fault_of.field-0.0 = search rules in
    let n = number-positive c.in_err-fault_of.field-0.0 in
    let fault = sym (ap fault_in c.in_err-fault_of.was) ∙ c.fault_of.ensures in
    ap fault_in r ∙ own _ _ _ _ _ _ _ _ (own_first _ _ _ _ _ fault (λ z. omega (arith, n, z))) (λ z. omega (arith, n, z))

pub walk_item-returns-then-i-ne0 : goal.walk_item-returns-then-i-ne0
unfolding fault_in number
walk_item-returns-then-i-ne0 t c =
    let a = c.args in
    let b = stood a.s.now a.from a.end a.mark a.i in
    own _ _ _ _ b _ _ _ (not_whole _ _ b _ _ (sym (ap fault_in c.in_ok-fault_of.was) ∙ c.fault_of.ensures) refl (sym c.is_container-inside.ensures
    ∙ c.if-inside.true) c.if-i-ne0.true) (eqb-false 35 0 refl)

pub walk_item-returns-then-depth-gt-DEEPEST : goal.walk_item-returns-then-depth-gt-DEEPEST
unfolding fault_in number
walk_item-returns-then-depth-gt-DEEPEST t c =
    let a = c.args in
    let b = stood a.s.now a.from a.end a.mark a.i in
    let q = sym c.is_container-inside.ensures in
    let w : among a.i.name (names_of a.names.now) && not (eqb (a.i.bits.0 % 8) 0) ≡ false = elim c.else-inside.branch [
      | walk_item-else-inside-via-then-inside+else-i-ne0 w ↦ container_whole _ a.i (q ∙ w.if-inside.true) w.if-i-ne0.false
      | walk_item-else-inside-via-else-inside w ↦ no_container _ a.i (q ∙ w.if-inside.false)
    ] in
    own _ _ _ _ b _ _ _ (too_deep _ _ b _ _ (sym (ap fault_in c.in_ok-fault_of.was) ∙ c.fault_of.ensures) refl w (omega arith)) (eqb-false 32 0 refl)

pub walk_item-walk_value-requires : goal.walk_item-walk_value-requires
walk_item-walk_value-requires t c = (omega arith, (omega arith, omega arith))

pub walk_item-returns-then-inside-2 : goal.walk_item-returns-then-inside-2
unfolding fault_in
walk_item-returns-then-inside-2 t c =
    let a = c.args in
    let b = stood a.s.now a.from a.end a.mark a.i in
    let q = sym c.is_container-inside.ensures in
    let w : among a.i.name (names_of a.names.now) && not (eqb (a.i.bits.0 % 8) 0) ≡ false = elim c.else-inside.branch [
      | walk_item-else-inside-via-then-inside+else-i-ne0 w ↦ container_whole _ a.i (q ∙ w.if-inside.true) w.if-i-ne0.false
      | walk_item-else-inside-via-else-inside w ↦ no_container _ a.i (q ∙ w.if-inside.false)
    ] in
    let z = no_fault _ a.depth b _ _ (sym (ap fault_in c.in_ok-fault_of.was) ∙ c.fault_of.ensures) refl w (omega arith) in
    contents _ _ _ _ b _ _ z (q ∙ c.if-inside-2.true) (omega arith) c.walk_value.ensures

pub walk_item-returns-else-inside-2 : goal.walk_item-returns-else-inside-2
unfolding fault_in
walk_item-returns-else-inside-2 t c =
    let a = c.args in
    let b = stood a.s.now a.from a.end a.mark a.i in
    let q = sym c.is_container-inside.ensures in
    let w : among a.i.name (names_of a.names.now) && not (eqb (a.i.bits.0 % 8) 0) ≡ false = elim c.else-inside.branch [
      | walk_item-else-inside-via-then-inside+else-i-ne0 w ↦ container_whole _ a.i (q ∙ w.if-inside.true) w.if-i-ne0.false
      | walk_item-else-inside-via-else-inside w ↦ no_container _ a.i (q ∙ w.if-inside.false)
    ] in
    let z = no_fault _ a.depth b _ _ (sym (ap fault_in c.in_ok-fault_of.was) ∙ c.fault_of.ensures) refl w (omega arith) in
    no_contents _ _ _ _ b _ z (q ∙ c.if-inside-2.false) (omega arith)

pub walk_packet-loop-step-init : goal.walk_packet-loop-step-init
walk_packet-loop-step-init t c = (omega arith, seen_none _ _ _ _ _ (ap length c.no_marks-marks.ensures ∙ length-replicate slots false))

pub walk_packet-bounds-marks-h : goal.walk_packet-bounds-marks-h
walk_packet-bounds-marks-h t c = omega (arith, c.slot-h.ensures.1, c.loop-step.invariant.1.long)

pub walk_packet-walk_item-requires : goal.walk_packet-walk_item-requires
walk_packet-walk_item-requires t c =
    let e = sym c.step_in.ensures.0 ∙ c.in_ok-step.was ∙ ap Ok c.in-Item.is in
    let h = item_fits _ _ _ _ e in
    let b = item_begins _ _ _ _ e in
    (omega arith, (omega arith, omega arith))

pub walk_packet-returns-in_err-walk_item-in-Item : goal.walk_packet-returns-in_err-walk_item-in-Item
unfolding fault_in
walk_packet-returns-in_err-walk_item-in-Item t c =
    let e = sym c.step_in.ensures.0 ∙ c.in_ok-step.was ∙ ap Ok c.in-Item.is in
    let r : c.from_residual-in_err-walk_item-in-Item.result ≡ Err c.in_err-walk_item-in-Item.field-0.0 = search rules in
    let n = number-positive c.in_err-walk_item-in-Item.field-0.0 in
    ap fault_in r
    ∙ walk_stops _ _ _ _ _ _ _ _ _ c.loop-step.invariant.1 _ e _ _ _
    c.slot-h.ensures.0 c.marked-mark.ensures (sym (ap fault_in c.in_err-walk_item-in-Item.was) ∙ c.walk_item.ensures) (λ z. omega (arith, n, z))

pub walk_packet-bounds-marks-h-in-Item : goal.walk_packet-bounds-marks-h-in-Item
walk_packet-bounds-marks-h-in-Item t c = omega (arith, c.slot-h.ensures.1, c.loop-step.invariant.1.long)

pub walk_packet-overflow_add-at : goal.walk_packet-overflow_add-at
walk_packet-overflow_add-at t c =
    let e = sym c.step_in.ensures.0 ∙ c.in_ok-step.was ∙ ap Ok c.in-Item.is in
    omega (arith, item_fits _ _ _ _ e, item_begins _ _ _ _ e)

pub walk_packet-loop-step-smaller : goal.walk_packet-loop-step-smaller
walk_packet-loop-step-smaller t c = omega (arith, falls _ _ _ _ (sym c.step_in.ensures.0 ∙ c.in_ok-step.was ∙ ap Ok c.in-Item.is))

pub walk_packet-loop-step-preserved : goal.walk_packet-loop-step-preserved
unfolding fault_in
walk_packet-loop-step-preserved t c =
    let e = sym c.step_in.ensures.0 ∙ c.in_ok-step.was ∙ ap Ok c.in-Item.is in
    let v = c.loop-step.invariant in
    let b = item_begins _ _ _ _ e in (
      omega (arith, v.0),
      walk_turn _ _ _ _ _ _ _ _ _ v.1 _ e _ _ _ c.slot-h.ensures.0 c.marked-mark.ensures (sym (ap fault_in c.in_ok-walk_item-in-Item.was) ∙ c.walk_item.ensures) refl,
    )

pub walk_packet-returns-in-End : goal.walk_packet-returns-in-End
unfolding fault_in
walk_packet-returns-in-End t c = walk_ends _ _ _ _ _ _ _ _ _ c.loop-step.invariant.1 _ (sym c.step_in.ensures.0 ∙ c.in_ok-step.was ∙ ap Ok c.in-End.is)

pub walk_packet-returns-in_err-step : goal.walk_packet-returns-in_err-step
unfolding fault_in
walk_packet-returns-in_err-step t c =
    let r : c.from_residual.result ≡ Err c.in_err-step.field-0.0 = search rules in
    ap fault_in r ∙ walk_refused _ _ _ _ _ _ _ _ _ c.loop-step.invariant.1 _ (sym c.step_in.ensures.0 ∙ c.in_err-step.was)

pub walk_value-walk_packet-requires : goal.walk_value-walk_packet-requires
walk_value-walk_packet-requires t c = (omega arith, omega arith)

pub walk_value-returns : goal.walk_value-returns
walk_value-returns t c = one_deeper _ _ _ _ _ _ _ c.walk_packet.ensures
