-- The numbers and values of two steps are the same only where the same was handed out.
use Prim.Native.Nat.{ℕ}
use mathlib.Core.Path.{◌≡◌, ap, ◌∙◌}
use Rattle.std.specs.Prelude.{Result}
use Rattle.base_rules.proofs.Refusals.{one_numbered}
use Rattle.item_rules.specs.declared.Item.{Item}
use Rattle.item_rules.proofs.Proved.{one_item}
use Rattle.walk_rules.specs.declared.Visit.{Visit}
use Rattle.walk_rules.specs.declared.Handed.{Handed}
use Rattle.walk_rules.specs.declared.Handed.TheVariants as handed
use Rattle.walk_rules.specs.Step.{values_out, handed_number}

same-visit : (v w : Visit) → v.depth ≡ w.depth → v.item ≡ w.item → v ≡ w
same-visit v w d i = ap (λ (x : ℕ). record { depth = x; item = v.item }) d ∙ ap (λ (x : Item). record { depth = w.depth; item = x }) i

-- no two things that a step hands out have the same values,
one_values : (a b : Handed) → values_out a ≡ values_out b → a ≡ b
unfolding values_out
one_values (handed.Item v) (handed.Item w) e = ap handed.Item (same-visit v w (cc) (one_item v.item w.item (cc)))
one_values (handed.Item v) (handed.End q) e = cc
one_values (handed.End p) (handed.Item w) e = cc
one_values (handed.End p) (handed.End q) e = ap (λ (x : ℕ). handed.End (record { 0 = x })) (let z : p.0 ≡ q.0 = cc in z)

-- nor two answers of a step, refused ones too
pub number_tells : (a b : Result Handed ℕ) → handed_number a ≡ handed_number b → a ≡ b
unfolding handed_number
number_tells a b e = one_numbered values_out one_values a b e
