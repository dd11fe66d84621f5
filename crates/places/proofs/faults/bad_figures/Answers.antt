-- `bad_figures` meets its contract. Assumes nothing.
use mathlib.Core.Path.{◌≡◌, sym, ap, ◌∙◌}
use mathlib.Core.Bool.{Bool, true, not, ◌&&◌, ◌||◌}
use Prim.Native.Nat.{◌*◌}
use borrow.Author.Tests.{eq-eqb, ne_eqb, lt-ltb, le-ltb}
use lib.Dec.{ltb, eqb}
use Rattle.base_rules.specs.Bounds.{most_f, place}
use Rattle.base_rules.proofs.Logic.{hit, pass}
use Rattle.places_rules.specs.Faults.{bad_figures}
use Rattle.places.proofs.Chains.{of_3, of_4}
use Rattle.places.proofs.faults.bad_figures.Goals.{then-count-gt-MOST_F, else-count-gt-MOST_F, then-count-size-gt-PLACE, else-count-size-gt-PLACE}
use Rattle.places.proofs.faults.bad_figures.Goals as goal

pub returns-then-last-gt-PLACE : goal.returns-then-last-gt-PLACE
unfolding bad_figures
returns-then-last-gt-PLACE c =
    let p = c.args.p in
    let count : c.if-count-gt-MOST_F.value ≡ (ltb most_f p.count || ltb place (p.count * p.size)) = elim c.if-count-gt-MOST_F.branch [
      | then-count-gt-MOST_F w ↦ w.value-is ∙ (lt-ltb _ _ w.if-count-gt-MOST_F.true ∙ hit _ (lt-ltb _ _ w.if-count-gt-MOST_F.true))
      | else-count-gt-MOST_F w ↦ pass (le-ltb _ _ w.if-count-gt-MOST_F.false) w.value-is
    ] in
    let size : c.if-count-size-gt-PLACE.value ≡ (c.if-count-gt-MOST_F.value || ltb place p.last) = elim c.if-count-size-gt-PLACE.branch [
      | then-count-size-gt-PLACE w ↦ w.value-is ∙ (w.if-count-size-gt-PLACE.true ∙ hit _ w.if-count-size-gt-PLACE.true)
      | else-count-size-gt-PLACE w ↦ pass w.if-count-size-gt-PLACE.false w.value-is
    ] in
    let rest : Bool = not (eqb p.size 0) && ltb p.size p.last in
    let whole : (c.if-count-size-gt-PLACE.value || rest) ≡ bad_figures p =
    of_4 (ltb most_f p.count) (ltb place (p.count * p.size)) (ltb place p.last) rest
    (size ∙ of_3 (ltb most_f p.count) (ltb place (p.count * p.size)) (ltb place p.last) count) in
    c.if-last-gt-PLACE.true ∙ (hit rest c.if-last-gt-PLACE.true ∙ whole)

pub returns-then-size-ne0 : goal.returns-then-size-ne0
unfolding bad_figures
returns-then-size-ne0 c =
    let p = c.args.p in
    let count : c.if-count-gt-MOST_F.value ≡ (ltb most_f p.count || ltb place (p.count * p.size)) = elim c.if-count-gt-MOST_F.branch [
      | then-count-gt-MOST_F w ↦ w.value-is ∙ (lt-ltb _ _ w.if-count-gt-MOST_F.true ∙ hit _ (lt-ltb _ _ w.if-count-gt-MOST_F.true))
      | else-count-gt-MOST_F w ↦ pass (le-ltb _ _ w.if-count-gt-MOST_F.false) w.value-is
    ] in
    let size : c.if-count-size-gt-PLACE.value ≡ (c.if-count-gt-MOST_F.value || ltb place p.last) = elim c.if-count-size-gt-PLACE.branch [
      | then-count-size-gt-PLACE w ↦ w.value-is ∙ (w.if-count-size-gt-PLACE.true ∙ hit _ w.if-count-size-gt-PLACE.true)
      | else-count-size-gt-PLACE w ↦ pass w.if-count-size-gt-PLACE.false w.value-is
    ] in
    let rest : Bool = not (eqb p.size 0) && ltb p.size p.last in
    let whole : (c.if-count-size-gt-PLACE.value || rest) ≡ bad_figures p =
    of_4 (ltb most_f p.count) (ltb place (p.count * p.size)) (ltb place p.last) rest
    (size ∙ of_3 (ltb most_f p.count) (ltb place (p.count * p.size)) (ltb place p.last) count) in
    pass c.if-last-gt-PLACE.false (ap (λ (b : Bool). not b && ltb p.size p.last) (sym (ne_eqb p.size 0 c.if-size-ne0.true))) ∙ whole

pub returns-else-size-ne0 : goal.returns-else-size-ne0
unfolding bad_figures
returns-else-size-ne0 c =
    let p = c.args.p in
    let count : c.if-count-gt-MOST_F.value ≡ (ltb most_f p.count || ltb place (p.count * p.size)) = elim c.if-count-gt-MOST_F.branch [
      | then-count-gt-MOST_F w ↦ w.value-is ∙ (lt-ltb _ _ w.if-count-gt-MOST_F.true ∙ hit _ (lt-ltb _ _ w.if-count-gt-MOST_F.true))
      | else-count-gt-MOST_F w ↦ pass (le-ltb _ _ w.if-count-gt-MOST_F.false) w.value-is
    ] in
    let size : c.if-count-size-gt-PLACE.value ≡ (c.if-count-gt-MOST_F.value || ltb place p.last) = elim c.if-count-size-gt-PLACE.branch [
      | then-count-size-gt-PLACE w ↦ w.value-is ∙ (w.if-count-size-gt-PLACE.true ∙ hit _ w.if-count-size-gt-PLACE.true)
      | else-count-size-gt-PLACE w ↦ pass w.if-count-size-gt-PLACE.false w.value-is
    ] in
    let rest : Bool = not (eqb p.size 0) && ltb p.size p.last in
    let whole : (c.if-count-size-gt-PLACE.value || rest) ≡ bad_figures p =
    of_4 (ltb most_f p.count) (ltb place (p.count * p.size)) (ltb place p.last) rest
    (size ∙ of_3 (ltb most_f p.count) (ltb place (p.count * p.size)) (ltb place p.last) count) in
    let none : eqb p.size 0 ≡ true = eq-eqb p.size 0 c.if-size-ne0.false in
    pass c.if-last-gt-PLACE.false (ap not none ∙ ap (λ (b : Bool). not b && ltb p.size p.last) (sym none)) ∙ whole
