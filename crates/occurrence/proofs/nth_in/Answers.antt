use native.Mathlib.Omega.{arith}
use mathlib.Core.Path.{◌≡◌, sym, ap, ◌∙◌}
use Prim.Native.Nat.{ℕ, ◌+◌, ◌-◌}
use Rattle.std.specs.Prelude.{◌≢◌}
use lib.ListN.{length}
use Rattle.item_rules.specs.Run.{run_of, nth_of}
use Rattle.item_rules.proofs.Steps.{item_fits}
use Rattle.item_rules.proofs.Runs.{item_begins}
use Rattle.item_rules.proofs.Occurrences.{nth_past, nth_none}
use Rattle.item_rules.proofs.FirstOccurrence.{first_is_nth}
use Rattle.item_rules.proofs.Finds.{found_stands}
use Rattle.occurrence.proofs.nth_in.Goals as goal

pub returns-in_default : goal.returns-in_default
returns-in_default c = sym (c.loop.invariant ∙ nth_none _ _ _ _ _ (sym c.in_default.ensures.0))

pub overflow_add-at : goal.overflow_add-at
overflow_add-at c =
    let here = (found_stands _ _ _ _ _ (sym c.in-Some.ensures.0)).here in
    omega (arith, item_begins _ _ _ _ here, item_fits _ _ _ _ here)

pub loop-preserved : goal.loop-preserved
loop-preserved c =
    let a = c.args in
    let s = a.packet.now in
    let i = c.in-Some.i in
    let left : a.number - c.loop.counter ≢ 0 = omega arith in
    let less : a.number - c.loop.counter - 1 ≡ a.number - (c.loop.counter + 1) = omega arith in
    c.loop.invariant
    ∙ nth_past _ _ _ _ _ _ (sym c.in-Some.ensures.0) left
    ∙ ap (λ (k : ℕ). nth_of a.name k (run_of s (i.from + i.len.0) (length s))) less

pub returns : goal.returns
returns c =
    let a = c.args in
    let s = a.packet.now in
    let none : 0 ≡ a.number - c.loop.counter = omega arith in
    c.first_in-2.ensures.0
    ∙ first_is_nth _ _
    ∙ ap (λ (k : ℕ). nth_of a.name k (run_of s c.loop.at (length s))) none
    ∙ sym c.loop.invariant
