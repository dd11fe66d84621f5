use mathlib.Core.Path.{sym, ◌∙◌}
use Rattle.item_rules.proofs.Faults.{fault_dmy, fault_again, fault_ptr, fault_none}
use Rattle.base_rules.specs.Refusal.{number, fault_in}
use Rattle.item.proofs.fault_of.Goals as goal

pub returns-then-i-eq-DMY : goal.returns-then-i-eq-DMY
unfolding fault_in number
returns-then-i-eq-DMY c = fault_dmy _ _ c.if-i-eq-DMY.true

pub returns-then-again : goal.returns-then-again
unfolding fault_in number
returns-then-again c = fault_again _ _ c.if-i-eq-DMY.false (sym c.again.ensures ∙ c.if-again.true)

pub returns-then-bad_ptr : goal.returns-then-bad_ptr
unfolding fault_in number
returns-then-bad_ptr c =
    fault_ptr _ _ (sym c.again.ensures ∙ c.if-again.false) (sym c.bad_ptr.ensures ∙ c.if-bad_ptr.true)

pub returns-else-bad_ptr : goal.returns-else-bad_ptr
unfolding fault_in number
returns-else-bad_ptr c =
    fault_none _ _ (sym c.again.ensures ∙ c.if-again.false) (sym c.bad_ptr.ensures ∙ c.if-bad_ptr.false)
