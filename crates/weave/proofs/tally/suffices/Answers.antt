use mathlib.Core.Path.{◌≡◌, refl, ap}
use mathlib.Core.List.{List}
use mathlib.Core.Bool.{Bool}
use Prim.Native.Nat.{ℕ, ◌+◌, ◌*◌, ◌≤◌, ◌<◌}
use native.Mathlib.Omega.{arith}
use native.Mathlib.Nat.{mul-le-mul_right, zero-mul, not-suc-le-zero}
use borrow.Author.Count.{below_more}
use Rattle.weave_rules.specs.Calls.{not_kept}
use Rattle.weave_rules.proofs.PrefixSums.{Sums, reading, reading_le, misses, suffice_read, suffice_fails}
use Rattle.weave.proofs.tally.suffices.Goals as goal

-- where the next chunk ends
next : (j n : ℕ) → (j + 1) * n ≡ j * n + n
next j n = omega arith

-- what is read there fits a place as the chunks do
fits : (lost : ℕ → Bool) (f n c j : ℕ) (xs : List ℕ) → 0 < f → Sums lost xs f → j < c → reading xs f ((j + 1) * n) ≤ c * n
fits lost f n c j xs some sums below =
    let far : (j + 1) * n ≤ c * n = mul-le-mul_right n (omega arith) in
    omega (arith, reading_le lost f n some xs sums ((j + 1) * n), far)

pub loop-j-init : goal.loop-j-init
loop-j-init c =
    let a = c.args in
    let xs = c.sums_of-sums.result in
    let sums : Sums (not_kept a.kept) xs a.f = record { at = c.sums_of-sums.ensures } in (
      omega (arith, zero-mul a.n, reading_le (not_kept a.kept) a.f a.n (omega arith) xs sums (0 * a.n)),
      λ i (h : i < 0). absurd (not-suc-le-zero h),
    )

pub overflow_mul-upto : goal.overflow_mul-upto
overflow_mul-upto c =
    let a = c.args in
    let xs = c.sums_of-sums.result in
    omega (arith, fits (not_kept a.kept) a.f a.n a.c c.loop-j.j xs (omega arith) record { at = c.sums_of-sums.ensures } (omega arith))

pub overflow_add-upto : goal.overflow_add-upto
overflow_add-upto c =
    let a = c.args in
    let xs = c.sums_of-sums.result in
    omega (arith, fits (not_kept a.kept) a.f a.n a.c c.loop-j.j xs (omega arith) record { at = c.sums_of-sums.ensures } (omega arith))

pub overflow_sub-upto : goal.overflow_sub-upto
overflow_sub-upto c =
    let a = c.args in
    let L = c.loop-j in
    let xs = c.sums_of-sums.result in
    let sums : Sums (not_kept a.kept) xs a.f = record { at = c.sums_of-sums.ensures } in
    omega (arith, ap (reading xs a.f) (next L.j a.n), misses (not_kept a.kept) a.f a.n (omega arith) xs sums L.j, L.invariant.0)

pub returns-then-upto-before-gt-MISSED : goal.returns-then-upto-before-gt-MISSED
returns-then-upto-before-gt-MISSED c =
    let a = c.args in
    let L = c.loop-j in
    let xs = c.sums_of-sums.result in
    let sums : Sums (not_kept a.kept) xs a.f = record { at = c.sums_of-sums.ensures } in
    suffice_fails (not_kept a.kept) a.f a.n (omega arith) xs sums a.c L.j c.loop-j-test.true
    (omega (arith, ap (reading xs a.f) (next L.j a.n), L.invariant.0, c.if-upto-before-gt-MISSED.true))

pub loop-j-preserved : goal.loop-j-preserved
loop-j-preserved c =
    let a = c.args in
    let L = c.loop-j in
    let e = ap (reading c.sums_of-sums.result a.f) (next L.j a.n) in
    (refl, below_more _ _ L.invariant.1 (omega (arith, e, L.invariant.0, c.if-upto-before-gt-MISSED.false)))

pub returns : goal.returns
returns c =
    let a = c.args in
    let xs = c.sums_of-sums.result in
    let sums : Sums (not_kept a.kept) xs a.f = record { at = c.sums_of-sums.ensures } in
    suffice_read (not_kept a.kept) a.f a.n (omega arith) xs sums a.c (λ j (h : j < a.c). c.loop-j.invariant.1 j (omega arith))
