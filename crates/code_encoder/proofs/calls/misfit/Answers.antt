-- `misfit` meets its contract. Assumes nothing.
use mathlib.Core.Path.{◌≡◌, sym, ◌∙◌}
use mathlib.Core.Bool.{true, false}
use Prim.Native.Nat.{◌*◌}
use lib.Dec.{ltb}
use borrow.Author.Tests.{eq-eqb, ne_eqb}
use Rattle.code_rules.specs.Calls.{misfits}
use Rattle.code_encoder.proofs.calls.misfit.Goals as goal
use Rattle.code_encoder.proofs.calls.misfit.Goals.{then-c-eq0, else-c-eq0}

pub returns-then-c-k : goal.returns-then-c-k
unfolding misfits
returns-then-c-k c =
    let a = c.args in
    let yes = c.if-c-k.true in
    elim c.if-c-eq0.branch [
      | then-c-eq0 w ↦
          let none : true ≡ misfits a.l a.k a.c = rw (eq-eqb a.c 0 w.if-c-eq0.true) in
          yes ∙ none
      | else-c-eq0 w ↦
          let long : ltb (a.c * a.k) a.l ≡ true = sym w.value-is ∙ yes in
          let more : true ≡ misfits a.l a.k a.c = rw (ne_eqb a.c 0 w.if-c-eq0.false, long) in
          yes ∙ more
    ]

pub returns-else-c-k : goal.returns-else-c-k
unfolding misfits
returns-else-c-k c =
    let a = c.args in
    elim c.if-c-eq0.branch [
      | then-c-eq0 w ↦ cc (w.value-is, eq-eqb a.c 0 w.if-c-eq0.true, c.if-c-k.false)
      | else-c-eq0 w ↦
          let short : ltb (a.c * a.k) a.l ≡ false = sym w.value-is ∙ c.if-c-k.false in
          rw (ne_eqb a.c 0 w.if-c-eq0.false, short)
    ]
