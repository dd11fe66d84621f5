-- `item::bad_ptr` meets its contract: where the name is not "*ptr" the bits do not matter.
use borrow.Author.Tests.{eq-eqb, ne_eqb}
use Rattle.item_rules.specs.Run.{bad_ptr}
use Rattle.item.proofs.bad_ptr.Goals as goal

pub returns-then-name-eq-PTR : goal.returns-then-name-eq-PTR
unfolding bad_ptr
returns-then-name-eq-PTR c = simp (eq-eqb _ _ c.if-name-eq-PTR.true)

pub returns-else-name-eq-PTR : goal.returns-else-name-eq-PTR
unfolding bad_ptr
returns-else-name-eq-PTR c = simp (ne_eqb _ _ c.if-name-eq-PTR.false)
