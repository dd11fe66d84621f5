use native.Mathlib.Omega.{arith}
use native.Mathlib.Nat.{sub-eq-zero_of_le, le_of_lt}
use borrow.Author.Tests.{lt-ltb}
use Rattle.item_rules.specs.Item.{step_in}
use Rattle.item_rules.proofs.Steps.{is_item, is_overrun}
use Rattle.item_rules.proofs.Numbers.{step_told}
use Rattle.item.proofs.step_in.Goals as goal

pub returns-then-end-at : goal.returns-then-end-at
unfolding step_in
returns-then-end-at c = step_told _ _ _ _ (simp (sub-eq-zero_of_le (le_of_lt c.if-end-at.true)))

pub returns-then-left-lt-HEAD : goal.returns-then-left-lt-HEAD
unfolding step_in
returns-then-left-lt-HEAD c = step_told _ _ _ _ (simp (lt-ltb _ _ c.if-left-lt-HEAD.true))

pub returns-then-left-len : goal.returns-then-left-len
returns-then-left-len c =
    let h = c.if-left-lt-HEAD.false in let f = c.if-left-len.true in step_told _ _ _ _ (is_overrun _ _ _ _ _ h
    c.read4.ensures c.bytes_of-len.ensures (omega arith))

pub returns : goal.returns
returns c =
    let k = c in
    let h = k.if-left-lt-HEAD.false in
    let f = k.if-left-len.false in
    step_told _ _ _ _ (is_item _ _ _ _ _ _ _ h k.read4-name.ensures k.read4.ensures
    k.bytes_of-len.ensures c.unused_of-unused.ensures (omega arith))
