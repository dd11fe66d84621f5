-- `place_fault` meets its contract. Assumes nothing.
use Rattle.base_rules.specs.Refusal.{number, fault_in}
use Rattle.base_rules.proofs.Logic.{told}
use Rattle.places_rules.proofs.Checks.{due_9, due_10, due_11, due_12, due_none}
use Rattle.places.proofs.faults.place_fault.Goals as goal

pub returns-then-mismatch : goal.returns-then-mismatch
unfolding fault_in number
returns-then-mismatch c = due_9 _ _ (told c.mismatch.ensures c.if-mismatch.true)

pub returns-then-p-eq-SPOILED : goal.returns-then-p-eq-SPOILED
unfolding fault_in number
returns-then-p-eq-SPOILED c = due_10 _ _ (told c.mismatch.ensures c.if-mismatch.false) c.if-p-eq-SPOILED.true

pub returns-then-p-eq-DELIVERED : goal.returns-then-p-eq-DELIVERED
unfolding fault_in number
returns-then-p-eq-DELIVERED c =
    due_11 _ _ (told c.mismatch.ensures c.if-mismatch.false)
    c.if-p-eq-SPOILED.false c.if-p-eq-DELIVERED.true

pub returns-then-is_kept : goal.returns-then-is_kept
unfolding fault_in number
returns-then-is_kept c =
    let Mismatch = c.mismatch in
    let If1 = c.if-mismatch in
    due_12 _ _ (told Mismatch.ensures If1.false) c.if-p-eq-SPOILED.false
    c.if-p-eq-DELIVERED.false (told c.is_kept.ensures c.if-is_kept.true)

pub returns : goal.returns
unfolding fault_in
returns c =
    let Mismatch = c.mismatch in
    let If1 = c.if-mismatch in
    due_none _ _ (told Mismatch.ensures If1.false) c.if-p-eq-SPOILED.false
    c.if-p-eq-DELIVERED.false (told c.is_kept.ensures c.if-is_kept.false)
