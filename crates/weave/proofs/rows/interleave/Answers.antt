-- `interleave` meets its contract: each return is the law for its number; the bytes picked and the zeros are the fragment. Assumes nothing.
use mathlib.Core.Path.{◌≡◌}
use mathlib.Core.List.{List, ◌++◌}
use Prim.Native.Nat.{ℕ, ◌+◌, ◌-◌, ◌≤◌}
use native.Mathlib.Omega.{arith}
use lib.ListN.{length, take, drop, replicate, length-drop, length-replicate}
use lib.Seq.{drop-drop, length-take-le}
use Rattle.base_rules.specs.Bytes.{splice}
use Rattle.base_rules.proofs.Logic.{told}
use Rattle.weave_rules.proofs.CallCases as cases
use Rattle.weave.proofs.rows.interleave.Goals as goal

pub returns-then-bad_count : goal.returns-then-bad_count
returns-then-bad_count c =
    let a = c.args in
    cases.weave_7 a.block.now a.out.now a.f a.s a.i (told c.bad_count.ensures c.if-bad_count.true)

pub too_much-requires : goal.too_much-requires
too_much-requires c = (told c.bad_count.ensures c.if-bad_count.false)

pub returns-then-too_much : goal.returns-then-too_much
returns-then-too_much c =
    let a = c.args in
    cases.weave_8 a.block.now a.out.now a.f a.s a.i (told c.bad_count.ensures c.if-bad_count.false)
    (told c.too_much.ensures c.if-too_much.true)

pub overflow_mul-f : goal.overflow_mul-f
overflow_mul-f c =
    let a = c.args in
    omega (arith, cases.fits_place a.f a.s (told c.too_much.ensures c.if-too_much.false))

pub returns-then-f-s : goal.returns-then-f-s
returns-then-f-s c =
    let a = c.args in
    cases.weave_long a.block.now a.out.now a.f a.s a.i (told c.bad_count.ensures c.if-bad_count.false) (told c.too_much.ensures c.if-too_much.false)
    (cases.passes_cells (length a.block.now) a.f a.s c.if-f-s.true)

pub returns-then-f-i : goal.returns-then-f-i
returns-then-f-i c =
    let a = c.args in
    cases.weave_42 a.block.now a.out.now a.f a.s a.i (told c.bad_count.ensures c.if-bad_count.false) (told c.too_much.ensures c.if-too_much.false)
    (let a = c.args in cases.fits_cells (length a.block.now) a.f a.s c.if-f-s.false) (omega arith)

pub returns-then-out-s : goal.returns-then-out-s
returns-then-out-s c =
    let a = c.args in
    cases.weave_1 a.block.now a.out.now a.f a.s a.i (told c.bad_count.ensures c.if-bad_count.false)
    (told c.too_much.ensures c.if-too_much.false) (let a = c.args in cases.fits_cells (length a.block.now) a.f a.s c.if-f-s.false) c.if-f-i.false c.if-out-s.true

pub pick-requires : goal.pick-requires
pick-requires c =
    let Rows-within = c.rows_within-rows in
    let d = c in (
      cases.f_most d.args.f (told d.bad_count.ensures d.if-bad_count.false),
      omega (arith, Rows-within.ensures.0, c.if-out-s.false),
      Rows-within.ensures.1,
    )

-- the part lent to `fill` comes back as zeros
blanked : (d y : List ℕ) (at n : ℕ) → at + n ≤ length d → y ≡ replicate (length (take n (drop at d))) 0
    → take at d ++ (y ++ drop n (drop at d)) ≡ splice d at (replicate n 0)
unfolding splice
blanked d y at n h e =
    let l : length (take n (drop at d)) ≡ n = length-take-le n (drop at d) (omega (arith, length-drop at d)) in
    simp (e, l, drop-drop, length-replicate)

pub returns : goal.returns
returns c =
    let a = c.args in
    let rows = c.rows_within-rows in
    let front = c.pick.new.out in
    cases.weave_done a.block.now a.out.now a.f a.s a.i (told c.bad_count.ensures c.if-bad_count.false)
    (told c.too_much.ensures c.if-too_much.false) (cases.fits_cells (length a.block.now) a.f a.s c.if-f-s.false) c.if-f-i.false _ c.if-out-s.false
    (cases.both_written a.block.now a.f a.s a.i rows.result rows.ensures.0 rows.ensures.2 a.out.now _ _
    c.pick.ensures (blanked front c.fill.new.self rows.result (a.s - rows.result) (omega arith) (c.fill.ensures.after (λ y h. h))))
