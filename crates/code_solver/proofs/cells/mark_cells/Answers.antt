use mathlib.Core.Path.{◌≡◌, sym, ap, ◌∙◌}
use Prim.Native.Nat.{ℕ, ◌+◌, ◌*◌, ◌/◌, ◌%◌, ◌≤◌, ◌<◌}
use native.Mathlib.Nat.{zero-mul, zero-mod, add-zero, mul-le-mul_right, div-mul-le_self, mod-lt, mul-add-mod_self_right}
use native.Mathlib.Omega.{arith}
use Rattle.base_rules.specs.Bytes.{splice}
use Rattle.base_rules.proofs.Tables.{filled_none}
use Rattle.code_rules.specs.Calls.{lost_cells}
use Rattle.code_rules.proofs.CellLaws.{lost_on}
use Rattle.code_solver.proofs.cells.mark_cells.Goals as goal

-- a row begins at a multiple of f
at_start : (o f : ℕ) → o * f % f ≡ 0
at_start o f = ap (λ (x : ℕ). x % f) (sym (add-zero (o * f))) ∙ mul-add-mod_self_right o f 0 ∙ zero-mod f

-- and a whole row ends within the n cells
row_within : (o n f : ℕ) → o < n / f → o * f + f ≤ n
row_within o n f h =
    let on : (o + 1) * f ≤ n / f * f = mul-le-mul_right f (omega arith) in
    omega (arith, on, div-mul-le_self n f)

pub loop-o-init : goal.loop-o-init
unfolding lost_cells
loop-o-init c =
    let A = c.args in
    filled_none _ 0 A.mask.now 0 ∙ ap (λ (x : ℕ). splice A.mask.now 0 (lost_cells A.kept A.f 0 x)) (sym (zero-mul A.f))

pub mark_row-requires : goal.mark_row-requires
mark_row-requires c =
    let A = c.args in
    let o : ℕ = c.loop-o.o in
    (at_start o A.f, omega arith, c.requires.1, omega (arith, row_within o A.n A.f (omega arith)))

pub loop-o-preserved : goal.loop-o-preserved
loop-o-preserved c =
    let A = c.args in
    let L = c.loop-o in
    let on : L.o * A.f + A.f ≡ (L.o + 1) * A.f = omega arith in
    lost_on A.kept A.f A.mask.now (L.o * A.f) A.f L.invariant c.mark_row.ensures
    ∙ ap (λ (x : ℕ). splice A.mask.now 0 (lost_cells A.kept A.f 0 x)) on

-- the whole rows and the rest are all n cells
all : (n f : ℕ) → 0 < f → n / f * f + n % f ≡ n
all n f h = omega arith

pub mark_row-requires-2 : goal.mark_row-requires-2
mark_row-requires-2 c =
    let A = c.args in
    (at_start (A.n / A.f) A.f, omega (arith, mod-lt A.n {m = A.f} (omega arith)), c.requires.1, omega (arith, all A.n A.f (omega arith)))

pub returns : goal.returns
returns c =
    let A = c.args in
    let L = c.loop-o in
    let e : L.o ≡ A.n / A.f = omega arith in
    let whole = L.invariant ∙ ap (λ (x : ℕ). splice A.mask.now 0 (lost_cells A.kept A.f 0 (x * A.f))) e in
    lost_on A.kept A.f A.mask.now (A.n / A.f * A.f) (A.n % A.f) whole c.mark_row-2.ensures
    ∙ ap (λ (x : ℕ). splice A.mask.now 0 (lost_cells A.kept A.f 0 x)) (all A.n A.f (omega arith))
