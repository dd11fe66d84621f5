-- `fill_cells` meets its contract. Assumes nothing.
use mathlib.Core.Path.{◌≡◌, refl, sym, ◌∙◌}
use Prim.Native.Nat.{ℕ, ◌+◌, ◌*◌, ◌/◌, ◌≤◌}
use mathlib.Core.List.{List}
use native.Mathlib.Omega.{arith}
use native.Mathlib.Nat.{div-mul-le_self}
use borrow.Author.Rules.{rules}
use lib.ListN.{length, take}
use lib.Seq.{length-take-le}
use Rattle.weave_rules.proofs.CallCases.{chunk_some, f_some, f_most, fits_place}
use Rattle.code_rules.proofs.CellLaws as laws
use Rattle.code_decoder.proofs.calls.fill_cells.Goals as goal

-- the call leaves as many bytes as it was lent
size : (all : ℕ) (block new : List ℕ) → length new ≡ length (take all block) → all ≤ length block → length new ≡ all
size all block new same h = same ∙ length-take-le all block h

pub overflow_add-n : goal.overflow_add-n
overflow_add-n c = omega (arith, chunk_some c.args.f c.args.s c.args.k c.requires.sound)

pub overflow_mul-c : goal.overflow_mul-c
overflow_mul-c c = omega (arith, fits_place c.args.f c.args.s c.requires.placed)

pub overflow_mul-all : goal.overflow_mul-all
overflow_mul-all c =
    let A = c.args in
    omega (arith, fits_place A.f A.s c.requires.placed, div-mul-le_self (A.f * A.s) (A.k + 48))

pub returns-then-block-all : goal.returns-then-block-all
returns-then-block-all c =
    let A = c.args in
    laws.fill_room A.kept A.f A.s A.k A.block.now A.enough c.requires c.if-block-all.true

pub slice_bounds-fill_lost-end-then-enough : goal.slice_bounds-fill_lost-end-then-enough
slice_bounds-fill_lost-end-then-enough c =
    let A = c.args in
    sym (length-take-le (A.f * A.s / (A.k + 48) * (A.k + 48)) A.block.now c.if-block-all.false)

pub fill_lost-requires : goal.fill_lost-requires
fill_lost-requires c =
    let A = c.args in
    let P = c.requires in
    record {
      some = f_some A.f P.counted;
      most = f_most A.f P.counted;
      short = (chunk_some A.f A.s A.k P.sound).1;
      within = omega (arith, fits_place A.f A.s P.placed, div-mul-le_self (A.f * A.s) (A.k + 48));
      chunks = length-take-le (A.f * A.s / (A.k + 48) * (A.k + 48)) A.block.now c.if-block-all.false;
      enough = P.told ∙ c.if-enough.true;
    }

pub returns-then-fill_lost : goal.returns-then-fill_lost
returns-then-fill_lost c =
    let F = c in
    let E = F in
    laws.fill_done _ _ _ _ _ _ E.requires E.if-block-all.false F.fill_lost.new.block _ (size _ E.args.block.now F.fill_lost.new.block (search rules) E.if-block-all.false) refl
    E.if-enough.true (rw c.if-fill_lost.true at F.fill_lost.ensures)

pub returns-then-enough : goal.returns-then-enough
returns-then-enough c =
    let F = c in
    let E = F in
    laws.fill_nothing _ _ _ _ _ _ E.requires E.if-block-all.false F.fill_lost.new.block _ (size _ E.args.block.now F.fill_lost.new.block (search rules) E.if-block-all.false) refl
    E.if-enough.true (rw c.if-fill_lost.false at F.fill_lost.ensures)

pub returns : goal.returns
returns c =
    let E = c in
    let A = E.args in
    laws.fill-not-enough A.kept A.f A.s A.k A.block.now A.enough E.requires E.if-block-all.false c.if-enough.false
