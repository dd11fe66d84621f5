-- `bad_size_in` meets its contract. Assumes nothing.
use mathlib.Core.Path.{ap, ◌∙◌}
use mathlib.Core.Bool.{not}
use mathlib.Core.Logic.{inl, inr}
use borrow.Author.Tests.{eq-eqb}
use Rattle.base_rules.proofs.Logic.{other}
use Rattle.places_rules.proofs.Checks.{size-coded, last-any, last_known, inner_any, inner_same, inner_other}
use Rattle.places.proofs.faults.bad_size_in.Goals.{then-p-ne0-2, else-p-ne0-2}
use Rattle.places.proofs.faults.bad_size_in.Goals as goal

pub returns-then-h : goal.returns-then-h
returns-then-h c = size-coded _ _ c.if-h.true

pub returns-then-p-ne0 : goal.returns-then-p-ne0
returns-then-p-ne0 c = last_known _ _ c.if-h.false c.is_last.ensures c.if-is_last.true c.if-p-ne0.true

pub returns-else-p-ne0 : goal.returns-else-p-ne0
returns-else-p-ne0 c = ap not (eq-eqb _ _ c.if-p-ne0.false) ∙ last-any _ _ c.if-h.false c.is_last.ensures c.if-is_last.true c.if-p-ne0.false

pub returns-then-p-h : goal.returns-then-p-h
returns-then-p-h c =
    let If1 = c.if-h in
    elim c.if-p-ne0-2.branch [
      | then-p-ne0-2 w ↦
          w.t-7-is ∙ (other c.if-p-h.true.1 ∙ inner_other _ _ If1.false c.is_last.ensures c.if-is_last.false c.if-p-h.true.0 c.if-p-h.true.1)
      | else-p-ne0-2 w ↦ absurd (c.if-p-h.true.0 w.if-p-ne0-2.false)
    ]

pub returns-else-p-h : goal.returns-else-p-h
returns-else-p-h c =
    let If1 = c.if-h in
    elim c.if-p-h.either [
      | inl e ↦ inner_same _ _ If1.false c.is_last.ensures c.if-is_last.false e.0 e.1
      | inr e ↦ inner_any _ _ If1.false c.is_last.ensures c.if-is_last.false e
    ]
