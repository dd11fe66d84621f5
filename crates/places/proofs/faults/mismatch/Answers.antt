-- `mismatch` meets its contract, test by test. Assumes nothing.
use mathlib.Core.Path.{◌≡◌, ◌∙◌}
use mathlib.Core.Bool.{Bool, not, beq, ◌||◌}
use lib.Dec.{eqb}
use Rattle.base_rules.proofs.Logic.{hit, pass, same, other}
use Rattle.places_rules.specs.Faults.{mismatch, bad_size_in}
use Rattle.places.proofs.Chains.{of_3, of_4, of_5}
use Rattle.places.proofs.faults.mismatch.Goals.{then-p-h, else-p-h, then-p-h-2, else-p-h-2, then-p-h-3, else-p-h-3}
use Rattle.places.proofs.faults.mismatch.Goals as goal

pub returns-then-p-h-4 : goal.returns-then-p-h-4
unfolding mismatch
returns-then-p-h-4 c =
    let p = c.args.p in
    let h = c.args.h in
    let A : Bool = not (eqb p.count h.count) in
    let B : Bool = not (beq p.fec h.fec) in
    let C : Bool = not (eqb p.rsk h.rsk) in
    let D : Bool = not (eqb p.rsz h.rsz) in
    let E : Bool = bad_size_in p h in
    let second : c.if-p-h.value ≡ (A || B) = elim c.if-p-h.branch [
      | then-p-h w ↦ w.value-is ∙ (other w.if-p-h.true ∙ hit B (other w.if-p-h.true))
      | else-p-h w ↦ pass (same w.if-p-h.false) w.value-is
    ] in
    let third : c.if-p-h-2.value ≡ (c.if-p-h.value || C) = elim c.if-p-h-2.branch [
      | then-p-h-2 w ↦ w.value-is ∙ (w.if-p-h-2.true ∙ hit C w.if-p-h-2.true)
      | else-p-h-2 w ↦ pass w.if-p-h-2.false w.value-is
    ] in
    let fourth : c.if-p-h-3.value ≡ (c.if-p-h-2.value || D) = elim c.if-p-h-3.branch [
      | then-p-h-3 w ↦ w.value-is ∙ (w.if-p-h-3.true ∙ hit D w.if-p-h-3.true)
      | else-p-h-3 w ↦ pass w.if-p-h-3.false w.value-is
    ] in
    let whole : (c.if-p-h-3.value || E) ≡ mismatch p h = of_5 A B C D E (fourth ∙ of_4 A B C D (third ∙ of_3 A B C second)) in
    c.if-p-h-4.true ∙ (hit E c.if-p-h-4.true ∙ whole)

pub returns-else-p-h-4 : goal.returns-else-p-h-4
unfolding mismatch
returns-else-p-h-4 c =
    let p = c.args.p in
    let h = c.args.h in
    let A : Bool = not (eqb p.count h.count) in
    let B : Bool = not (beq p.fec h.fec) in
    let C : Bool = not (eqb p.rsk h.rsk) in
    let D : Bool = not (eqb p.rsz h.rsz) in
    let E : Bool = bad_size_in p h in
    let second : c.if-p-h.value ≡ (A || B) = elim c.if-p-h.branch [
      | then-p-h w ↦ w.value-is ∙ (other w.if-p-h.true ∙ hit B (other w.if-p-h.true))
      | else-p-h w ↦ pass (same w.if-p-h.false) w.value-is
    ] in
    let third : c.if-p-h-2.value ≡ (c.if-p-h.value || C) = elim c.if-p-h-2.branch [
      | then-p-h-2 w ↦ w.value-is ∙ (w.if-p-h-2.true ∙ hit C w.if-p-h-2.true)
      | else-p-h-2 w ↦ pass w.if-p-h-2.false w.value-is
    ] in
    let fourth : c.if-p-h-3.value ≡ (c.if-p-h-2.value || D) = elim c.if-p-h-3.branch [
      | then-p-h-3 w ↦ w.value-is ∙ (w.if-p-h-3.true ∙ hit D w.if-p-h-3.true)
      | else-p-h-3 w ↦ pass w.if-p-h-3.false w.value-is
    ] in
    let whole : (c.if-p-h-3.value || E) ≡ mismatch p h = of_5 A B C D E (fourth ∙ of_4 A B C D (third ∙ of_3 A B C second)) in
    pass c.if-p-h-4.false c.bad_size_in.ensures ∙ whole
