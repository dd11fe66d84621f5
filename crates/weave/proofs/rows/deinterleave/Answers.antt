-- `deinterleave` meets its contract: each return is the law for its number. Assumes nothing.
use native.Mathlib.Omega.{arith}
use Rattle.base_rules.proofs.Logic.{told}
use Rattle.weave_rules.proofs.CallCases as cases
use Rattle.weave.proofs.rows.deinterleave.Goals as goal

pub returns-then-bad_count : goal.returns-then-bad_count
returns-then-bad_count c =
    let a = c.args in
    cases.cells_7 a.held.now a.out.now a.f a.s (told c.bad_count.ensures c.if-bad_count.true)

pub too_much-requires : goal.too_much-requires
too_much-requires c = (told c.bad_count.ensures c.if-bad_count.false)

pub returns-then-too_much : goal.returns-then-too_much
returns-then-too_much c =
    let a = c.args in
    cases.cells_8 a.held.now a.out.now a.f a.s (told c.bad_count.ensures c.if-bad_count.false) (told c.too_much.ensures c.if-too_much.true)

pub overflow_mul-all : goal.overflow_mul-all
overflow_mul-all c =
    let a = c.args in
    omega (arith, cases.fits_place a.f a.s (told c.too_much.ensures c.if-too_much.false))

pub returns-then-held-all : goal.returns-then-held-all
returns-then-held-all c =
    let a = c.args in
    cases.cells_held a.held.now a.out.now a.f a.s (told c.bad_count.ensures c.if-bad_count.false) (told c.too_much.ensures c.if-too_much.false) c.if-held-all.true

pub returns-then-out-all : goal.returns-then-out-all
returns-then-out-all c =
    let a = c.args in
    cases.cells_room a.held.now a.out.now a.f a.s (told c.bad_count.ensures c.if-bad_count.false) (told c.too_much.ensures c.if-too_much.false)
    c.if-held-all.false c.if-out-all.true

pub lay-requires : goal.lay-requires
lay-requires c =
    let a = c.args in
    (cases.fits_place a.f a.s (told c.too_much.ensures c.if-too_much.false), c.if-held-all.false, c.if-out-all.false)

pub returns : goal.returns
returns c =
    let d = c in
    let a = d.args in
    cases.cells_done a.held.now a.out.now a.f a.s (told d.bad_count.ensures d.if-bad_count.false) (told d.too_much.ensures d.if-too_much.false)
    d.if-held-all.false _ d.if-out-all.false c.lay.ensures
