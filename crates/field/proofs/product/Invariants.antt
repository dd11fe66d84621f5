-- `product` meets its contract: what is added so far and what the bits that are left give are together a times b. Assumes nothing.
use mathlib.Core.Path.{◌≡◌}
use Prim.Native.Nat.{◌-◌, ◌≤◌}
use Rattle.field_rules.specs.Field.{◌⊕◌, mul_bits}
use Rattle.field.proofs.product.Given as goal

abbrev pub invariant-loop : goal.invariant-loop
invariant-loop l = (l.counter ≤ 8) × (l.r ⊕ mul_bits (8 - l.counter) l.x l.y ≡ mul_bits 8 l.a l.b)

abbrev pub decreases-loop : goal.decreases-loop
decreases-loop l = 8 - l.counter
