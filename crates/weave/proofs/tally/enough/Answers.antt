-- `enough` meets its contract: each return is the law for its number. Assumes nothing.
use Prim.Native.Nat.{◌+◌, ◌*◌}
use native.Mathlib.Omega.{arith}
use native.Mathlib.Nat.{div-mul-le_self}
use Rattle.base_rules.specs.Bounds.{parity}
use Rattle.base_rules.proofs.Logic.{told}
use Rattle.weave_rules.proofs.CallCases as cases
use Rattle.weave.proofs.tally.enough.Goals as goal

pub returns-then-bad_count : goal.returns-then-bad_count
returns-then-bad_count c =
    let a = c.args in
    cases.held_7 a.kept a.f a.s a.k (told c.bad_count.ensures c.if-bad_count.true)

pub too_much-requires : goal.too_much-requires
too_much-requires c = (told c.bad_count.ensures c.if-bad_count.false)

pub returns-then-too_much : goal.returns-then-too_much
returns-then-too_much c =
    let a = c.args in
    cases.held_8 a.kept a.f a.s a.k (told c.bad_count.ensures c.if-bad_count.false) (told c.too_much.ensures c.if-too_much.true)

pub bad_chunk-requires : goal.bad_chunk-requires
bad_chunk-requires c =
    let a = c.args in
    cases.fits_place a.f a.s (told c.too_much.ensures c.if-too_much.false)

pub returns-then-bad_chunk : goal.returns-then-bad_chunk
returns-then-bad_chunk c =
    let A = c.args in
    let a = A in
    cases.held_chunk a.kept a.f a.s a.k (told c.bad_count.ensures c.if-bad_count.false) (told c.too_much.ensures c.if-too_much.false)
    (told c.bad_chunk.ensures c.if-bad_chunk.true)

pub overflow_add-n : goal.overflow_add-n
overflow_add-n c =
    let a = c.args in
    omega (arith, cases.chunk_some a.f a.s a.k (told c.bad_chunk.ensures c.if-bad_chunk.false))

pub overflow_mul-f : goal.overflow_mul-f
overflow_mul-f c =
    let a = c.args in
    omega (arith, cases.fits_place a.f a.s (told c.too_much.ensures c.if-too_much.false))

pub suffices-requires : goal.suffices-requires
suffices-requires c =
    let A = c.args in
    let Before = c in
    let a = A in (
      cases.f_some a.f (told Before.bad_count.ensures Before.if-bad_count.false),
      cases.f_most a.f (told Before.bad_count.ensures Before.if-bad_count.false),
      omega (arith, cases.fits_place a.f a.s (told c.too_much.ensures c.if-too_much.false), div-mul-le_self (a.f * a.s) (a.k + parity)),
    )

pub returns-then-suffices : goal.returns-then-suffices
returns-then-suffices c =
    let A = c.args in
    let a = A in
    cases.held_enough a.kept a.f a.s a.k (told c.bad_count.ensures c.if-bad_count.false)
    (told c.too_much.ensures c.if-too_much.false) (told c.bad_chunk.ensures c.if-bad_chunk.false) _ c.suffices.ensures c.if-suffices.true

pub returns-else-suffices : goal.returns-else-suffices
returns-else-suffices c =
    let A = c.args in
    let a = A in
    cases.held_not a.kept a.f a.s a.k (told c.bad_count.ensures c.if-bad_count.false)
    (told c.too_much.ensures c.if-too_much.false) (told c.bad_chunk.ensures c.if-bad_chunk.false) _ c.suffices.ensures c.if-suffices.false
