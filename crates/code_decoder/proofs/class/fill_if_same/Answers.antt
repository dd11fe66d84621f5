-- `fill_if_same` meets its contract. Assumes nothing.
use mathlib.Core.Path.{◌≡◌, refl, sym, ap, ◌∙◌, subst}
use mathlib.Core.Bool.{Bool, true, false, not}
use mathlib.Core.List.{List}
use Prim.Native.Nat.{ℕ, ◌+◌, ◌*◌, ◌≤◌}
use native.Mathlib.Omega.{arith}
use borrow.Author.Rules.{rules}
use mir.Val.{bool_byte}
use lib.ListN.{length, take, drop, get_or}
use Rattle.code_rules.specs.inner.Block.{SameTest, answer_of}
use Rattle.code_rules.proofs.BlockLaws.{one_turn, later_refl}
use Rattle.code_rules.proofs.ClassLaws.{in_mask, chunk_long, shared_same}
use Rattle.code_decoder.proofs.class.fill_if_same.Goals as goal

as_answer : (b : Bool) → bool_byte (not b) ≡ answer_of b
as_answer true = refl
as_answer false = refl

pub overflow_mul-a : goal.overflow_mul-a
overflow_mul-a c =
    let S = c in
    omega (arith, in_mask S.args.j S.requires.ready.0 S.requires.ready.2)

pub overflow_add-e : goal.overflow_add-e
overflow_add-e c =
    let S = c in
    omega (arith, in_mask S.args.j S.requires.ready.0 S.requires.ready.2)

pub overflow_mul-from : goal.overflow_mul-from
overflow_mul-from c =
    let S = c in
    omega (arith, in_mask S.args.from S.requires.ready.0 S.requires.ready.1)

pub same_mask-requires : goal.same_mask-requires
same_mask-requires c =
    let S = c in
    let P = S.requires.ready in
    (in_mask S.args.from P.0 P.1, in_mask S.args.j P.0 P.2)

pub slice_bounds-fill_chunk_by-end : goal.slice_bounds-fill_chunk_by-end
slice_bounds-fill_chunk_by-end c =
    let S = c in
    omega (arith, in_mask S.args.j S.requires.ready.0 S.requires.ready.2)

pub fill_chunk_by-found-requires : goal.fill_chunk_by-found-requires
fill_chunk_by-found-requires c =
    let A = c.args in
    let P = c.requires in
    let n : ℕ = A.k + 48 in
    let at : ℕ → List ℕ = λ i. take n (drop (i * n) A.mask.now) in
    let same = subst (λ b. SameTest b (at A.from) (at A.j)) c.if-same_mask.true c.same_mask.ensures in
    (shared_same A.mask.now A.from A.j P.shared same, chunk_long A.j P.ready.0 P.ready.2)

pub returns-then-same_mask : goal.returns-then-same_mask
returns-then-same_mask c =
    let F = c.fill_chunk_by-found in
    let A = c.args in
    let P = c.requires.ready in
    let new : List ℕ = F.new.chunk in
    let size : length new ≡ A.k + 48 = search rules in
    let unset : 2 ≤ get_or A.ans.now A.j 0 = search rules in
    let R = c.from in
    one_turn A.k A.j R.result A.mask.now A.block.now A.ans.now new F.result P.0 P.2 size (R.ensures ∙ as_answer F.result)
    A.from unset F.ensures

pub returns-else-same_mask : goal.returns-else-same_mask
returns-else-same_mask c =
    let A = c.args in
    let n : ℕ = A.k + 48 in
    let at : ℕ → List ℕ = λ i. take n (drop (i * n) A.mask.now) in
    let other = subst (λ b. SameTest b (at A.from) (at A.j)) c.if-same_mask.false c.same_mask.ensures in
    record { later = later_refl A.k A.mask.now A.block.now A.ans.now; done = λ e. absurd (other (sym (ap at e))) }

pub returns-else-ans-j-gt1 : goal.returns-else-ans-j-gt1
returns-else-ans-j-gt1 c =
    let A = c.args in
    record { later = later_refl A.k A.mask.now A.block.now A.ans.now; done = λ _. search rules }
