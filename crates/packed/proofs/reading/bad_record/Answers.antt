-- `bad_record` meets its contract, place by place. Assumes nothing.
use mathlib.Core.Path.{◌≡◌, ◌∙◌}
use mathlib.Core.Bool.{Bool, ◌||◌}
use Prim.Native.Nat.{◌*◌}
use Rattle.base_rules.proofs.Logic.{told, hit, pass}
use Rattle.places.proofs.Chains.{of_3, of_4}
use Rattle.packed_rules.specs.Packed.{place-bytes, bad_place_at, bad_record}
use Rattle.packed.proofs.reading.bad_record.Goals.{then-bad_place_at, else-bad_place_at, then-bad_place_at-2, else-bad_place_at-2}
use Rattle.packed.proofs.reading.bad_record.Goals as goal

pub returns-then-bad_place_at-3 : goal.returns-then-bad_place_at-3
unfolding bad_record
returns-then-bad_place_at-3 c =
    let s = c.args.s.now in
    let A : Bool = bad_place_at s 0 in
    let B : Bool = bad_place_at s place-bytes in
    let C : Bool = bad_place_at s (2 * place-bytes) in
    let D : Bool = bad_place_at s (3 * place-bytes) in
    let second : c.if-bad_place_at.value ≡ (A || B) = elim c.if-bad_place_at.branch [
      | then-bad_place_at w ↦ w.value-is ∙ (w.if-bad_place_at.true ∙ hit B (told c.bad_place_at.ensures w.if-bad_place_at.true))
      | else-bad_place_at w ↦ pass (told c.bad_place_at.ensures w.if-bad_place_at.false) (w.value-is ∙ w.bad_place_at-else-bad_place_at.ensures)
    ] in
    let third : c.if-bad_place_at-2.value ≡ (c.if-bad_place_at.value || C) = elim c.if-bad_place_at-2.branch [
      | then-bad_place_at-2 w ↦ w.value-is ∙ (w.if-bad_place_at-2.true ∙ hit C w.if-bad_place_at-2.true)
      | else-bad_place_at-2 w ↦ pass w.if-bad_place_at-2.false (w.value-is ∙ w.bad_place_at-else-bad_place_at-2.ensures)
    ] in
    let whole : (c.if-bad_place_at-2.value || D) ≡ bad_record s = of_4 A B C D (third ∙ of_3 A B C second) in
    c.if-bad_place_at-3.true ∙ (hit D c.if-bad_place_at-3.true ∙ whole)

pub returns-else-bad_place_at-3 : goal.returns-else-bad_place_at-3
unfolding bad_record
returns-else-bad_place_at-3 c =
    let s = c.args.s.now in
    let A : Bool = bad_place_at s 0 in
    let B : Bool = bad_place_at s place-bytes in
    let C : Bool = bad_place_at s (2 * place-bytes) in
    let D : Bool = bad_place_at s (3 * place-bytes) in
    let second : c.if-bad_place_at.value ≡ (A || B) = elim c.if-bad_place_at.branch [
      | then-bad_place_at w ↦ w.value-is ∙ (w.if-bad_place_at.true ∙ hit B (told c.bad_place_at.ensures w.if-bad_place_at.true))
      | else-bad_place_at w ↦ pass (told c.bad_place_at.ensures w.if-bad_place_at.false) (w.value-is ∙ w.bad_place_at-else-bad_place_at.ensures)
    ] in
    let third : c.if-bad_place_at-2.value ≡ (c.if-bad_place_at.value || C) = elim c.if-bad_place_at-2.branch [
      | then-bad_place_at-2 w ↦ w.value-is ∙ (w.if-bad_place_at-2.true ∙ hit C w.if-bad_place_at-2.true)
      | else-bad_place_at-2 w ↦ pass w.if-bad_place_at-2.false (w.value-is ∙ w.bad_place_at-else-bad_place_at-2.ensures)
    ] in
    let whole : (c.if-bad_place_at-2.value || D) ≡ bad_record s = of_4 A B C D (third ∙ of_3 A B C second) in
    pass c.if-bad_place_at-3.false c.bad_place_at-else-bad_place_at-3.ensures ∙ whole
