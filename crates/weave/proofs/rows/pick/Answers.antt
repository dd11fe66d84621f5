use mathlib.Core.Path.{◌≡◌, ap, sym, ◌∙◌}
use Prim.Native.Nat.{ℕ, ◌+◌, ◌*◌}
use native.Mathlib.Omega.{arith}
use native.Mathlib.Nat.{zero-add}
use lib.ListN.{get_or}
use Rattle.base_rules.specs.Bytes.{splice}
use Rattle.base_rules.specs.Table.{table}
use Rattle.base_rules.proofs.Tables as tables
use Rattle.cut_rules.specs.Cells.{fragment_of}
use Rattle.weave.proofs.rows.pick.Goals as goal
use Rattle.weave.proofs.rows.pick.Invariants.{rule}

pub loop-t-init : goal.loop-t-init
loop-t-init c = let a = c.args in tables.filled_none (rule a.block.now a.f a.i) 0 a.out.now 0

pub loop-t-preserved : goal.loop-t-preserved
loop-t-preserved c =
    let L = c.loop-t in
    let a = c.args in
    let v = ap (λ (x : ℕ). get_or a.block.now (a.i + a.f * x) 0) (sym (zero-add L.t)) in
    tables.filled_more (rule a.block.now a.f a.i) 0 a.out.now 0 L.t L.invariant (omega arith) v (omega arith)

pub returns : goal.returns
unfolding fragment_of
returns c = let a = c.args in
    let e : c.loop-t.t ≡ a.rows = omega arith in
    c.loop-t.invariant ∙ ap (λ (x : ℕ). splice a.out.now 0 (table (rule a.block.now a.f a.i) 0 x)) e
