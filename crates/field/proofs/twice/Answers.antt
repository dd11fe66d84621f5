-- `twice` meets its contract: below 128 nothing falls out of the byte, from there on x^8 does. Assumes nothing.
use mathlib.Core.Path.{◌≡◌, ◌∙◌}
use Prim.Native.Nat.{ℕ, ◌*◌, ◌%◌, ◌<◌}
use borrow.Author.Rules.{rules}
use Rattle.field_rules.specs.Field.{◌⊕◌, reduced}
use Rattle.field_rules.proofs.Shifts.{stays, falls}
use Rattle.field.proofs.twice.Goals as goal

pub returns-then-x-lt128 : goal.returns-then-x-lt128
returns-then-x-lt128 c = stays c.args.x c.if-x-lt128.true

pub returns-else-x-lt128 : goal.returns-else-x-lt128
returns-else-x-lt128 c =
    let x : ℕ = c.args.x in
    let h : x < 256 = search rules in
    let summed : c.sum.result ≡ x % 128 * 2 ⊕ reduced = c.sum.ensures in
    summed ∙ falls x c.if-x-lt128.false h
