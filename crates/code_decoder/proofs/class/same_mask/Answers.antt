use mathlib.Core.Path.{◌≡◌, refl, sym, ◌∙◌}
use mathlib.Core.Bool.{Bool, true, false}
use mathlib.Core.List.{List}
use Prim.Native.Nat.{ℕ, ◌+◌}
use native.Mathlib.Omega.{arith}
use native.Mathlib.Nat.{not-suc-le-zero}
use borrow.Author.Count.{below_more}
use lib.ListN.{get_or}
use Rattle.base_rules.proofs.Logic.{clash}
use Rattle.code_rules.specs.inner.Block.{SameTest}
use Rattle.code_rules.proofs.ClassLaws.{same_end, differ}
use Rattle.code_decoder.proofs.class.same_mask.Goals as goal
use Rattle.code_decoder.proofs.class.same_mask.Goals.{then-mask-a, else-mask-a}

-- what is so by the flag
told : (s : Bool) {p q : List ℕ} → (s ≡ true → p ≡ q) → (s ≡ false → p ≡ q → ⊥) → SameTest s p q
told true h d = h refl
told false h d = d refl

pub loop-x-init : goal.loop-x-init
loop-x-init c = (λ _ i h. absurd (not-suc-le-zero h), λ e. clash refl e)

pub loop-x-preserved : goal.loop-x-preserved
loop-x-preserved c =
    let A = c.args in
    let L = c.loop-x in
    let P : ℕ → Type 0 = λ i. get_or A.mask.now (A.a + i) 0 ≡ get_or A.mask.now (A.b + i) 0 in (
      elim c.if-mask-a.branch [
        | then-mask-a w ↦ λ e. clash e w.same-is
        | else-mask-a w ↦ λ e. below_more P L.x (L.invariant.0 (sym w.same-is ∙ e)) w.if-mask-a.false
      ],
      elim c.if-mask-a.branch [
        | then-mask-a w ↦ λ _. differ A.mask.now A.a A.b A.n L.x c.loop-x-test.true w.if-mask-a.true
        | else-mask-a w ↦ λ e. L.invariant.1 (sym w.same-is ∙ e)
      ],
    )

pub returns : goal.returns
returns c =
    let A = c.args in
    let L = c.loop-x in
    told L.same
    (λ e. same_end A.mask.now A.a A.b A.n c.requires.0 c.requires.1 (λ i l. L.invariant.0 e i (omega arith)))
    L.invariant.1
