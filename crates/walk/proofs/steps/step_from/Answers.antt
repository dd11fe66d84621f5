use native.Mathlib.Omega.{arith}
use Prim.Native.Nat.{ℕ}
use mathlib.Core.Path.{refl, sym, ap, ◌∙◌}
use Rattle.std.specs.Prelude.{Err}
use Rattle.item_rules.proofs.Steps.{item_fits}
use Rattle.item_rules.proofs.Runs.{item_begins}
use Rattle.walk_rules.specs.Names.{names_of}
use Rattle.walk_rules.specs.Step.{end_of, step_from}
use Rattle.walk_rules.proofs.StepCases.{step-item, step_end, step_up, step-refused}
use Rattle.walk.proofs.steps.step_from.Goals as goal

pub loop-i-init : goal.loop-i-init
loop-i-init c = (omega arith, refl)

pub goes_on-next-requires : goal.goes_on-next-requires
goes_on-next-requires c =
    let e = sym (rw c.in-Ok-Item.field-0-is at c.in-Ok-Item.ensures).0 in
    (omega arith, omega (arith, item_fits _ _ _ _ e, item_begins _ _ _ _ e))

pub returns-in-Ok-Item : goal.returns-in-Ok-Item
unfolding end_of
returns-in-Ok-Item c =
    let e = sym (rw c.in-Ok-Item.field-0-is at c.in-Ok-Item.ensures).0 in
    let a = c.args in
    sym (ap (λ (d : ℕ). step_from a.s.now (names_of a.names.now) a.from d a.ends) (sym c.min-d.ensures) ∙ c.loop-i.invariant.1
    ∙ step-item a.s.now (names_of a.names.now) c.loop-i.at a.ends c.loop-i.d _ _ _ c.min-end.ensures e
    c.goes_on-next.ensures)

pub returns-then-d-eq0 : goal.returns-then-d-eq0
unfolding end_of
returns-then-d-eq0 c =
    let e = sym (rw c.in-Ok-End.field-0-is at c.in-Ok-End.ensures).0 in
    let a = c.args in
    c.stays.ensures
    ∙ sym (ap (λ (d : ℕ). step_from a.s.now (names_of a.names.now) a.from d a.ends) (sym c.min-d.ensures) ∙ c.loop-i.invariant.1
    ∙ step_end a.s.now (names_of a.names.now) c.loop-i.at a.ends c.loop-i.d _ _ c.min-end.ensures e
    (omega (arith, c.if-d-eq0.true)))

pub loop-i-preserved : goal.loop-i-preserved
unfolding end_of
loop-i-preserved c =
    let e = sym (rw c.in-Ok-End.field-0-is at c.in-Ok-End.ensures).0 in
    let a = c.args in (
      omega arith,
      c.loop-i.invariant.1 ∙ step_up a.s.now (names_of a.names.now) c.loop-i.at a.ends c.loop-i.d _ _
          c.min-end.ensures e c.if-d-eq0.false,
    )

pub returns-in-Err : goal.returns-in-Err
unfolding end_of
returns-in-Err c =
    let e = sym c.step_in.ensures.0 ∙ c.in-Err.is in
    let a = c.args in
    c.stays-in-Err.ensures ∙ ap (λ (n : ℕ). record { handed = Err n; next = record { refusal = 0; at = c.loop-i.at; depth = c.loop-i.d; ends = a.ends } }) c.from.ensures
    ∙ sym (ap (λ (d : ℕ). step_from a.s.now (names_of a.names.now) a.from d a.ends) (sym c.min-d.ensures) ∙ c.loop-i.invariant.1
    ∙ step-refused a.s.now (names_of a.names.now) c.loop-i.at a.ends c.loop-i.d _ _ c.min-end.ensures e)
