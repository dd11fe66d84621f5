-- The claims of specs/Claims.antt. Assumes nothing.
use Prim.Native.Nat.{ℕ}
use mathlib.Core.Path.{◌≡◌, refl, ap}
use Rattle.std.specs.Prelude.{Some, None}
use Rattle.base_rules.proofs.Answers.{one_told}
use Rattle.item_rules.specs.declared.Item.{Item}
use Rattle.item_rules.specs.declared.Step.{Step}
use Rattle.item_rules.specs.declared.Step.TheVariants as step
use Rattle.item_rules.specs.Item.{values_of, values_in, number_of}
use Rattle.item_rules.specs.Run.{found_number}
use Rattle.item_rules.specs.Claims.{OneStep, OneFound, FirstIsNth, AsItWas, Twice, NeverTwice}
use Rattle.item_rules.specs.Claims.{StartsAt, RawItem, UnusedIs}
use Rattle.item_rules.proofs.FirstOccurrence as first_occurrence
use Rattle.item_rules.proofs.Repeated as repeated
use Rattle.item_rules.proofs.Starts as starts

-- an item is what it tells
abbrev made : ℕ → ℕ → ℕ → ℕ → ℕ → ℕ → Item
made name bits from len start unused = record {
  name = name;
  bits = record { 0 = bits };
  from = from;
  len = record { 0 = len };
  start = start;
  unused = record { 0 = unused };
}

same : (n n' b b' f f' l l' s s' u u' : ℕ) → n ≡ n' → b ≡ b' → f ≡ f' → l ≡ l' → s ≡ s' → u ≡ u' → made n b f l s u ≡ made n' b' f' l' s' u'
same n n' b b' f f' l l' s s' u u' p q r t v w = cc

-- so no two items tell the same
pub one_item : (i j : Item) → values_of i ≡ values_of j → i ≡ j
one_item i j e =
    same i.name j.name i.bits.0 j.bits.0 i.from j.from i.len.0 j.len.0 i.start j.start i.unused.0 j.unused.0
    (cc) (cc) (cc) (cc) (cc) (cc)

-- nor do an item and an end, or two ends
one_values : (a b : Step) → values_in a ≡ values_in b → a ≡ b
unfolding values_in
one_values (step.Item i) (step.Item j) e = ap step.Item (one_item i j (cc))
one_values (step.Item i) (step.End q) e = cc
one_values (step.End p) (step.Item j) e = cc
one_values (step.End p) (step.End q) e = ap (λ (n : ℕ). step.End (record { 0 = n })) (let z : p.0 ≡ q.0 = cc in z)

-- no two answers of a step have the same number and values
pub one_step : OneStep
unfolding number_of
one_step a b e = one_told values_in one_values a b e

-- nor have two of a search
pub one_found : OneFound
unfolding found_number
one_found (Some i) (Some j) e = ap Some (one_item i j (cc))
one_found (Some i) None e = cc
one_found None (Some j) e = cc
one_found None None e = refl

-- the first of a name is its occurrence 0
pub first_is_nth : FirstIsNth
first_is_nth = first_occurrence.first_is_nth

-- where repeats are forbidden the leftmost item at fault is the one that it was,
pub as_it_was : AsItWas
as_it_was = repeated.as_it_was

-- a name that has stood before refuses its item,
pub twice : Twice
twice = repeated.faults_twice

-- and none where they may
pub never_twice : NeverTwice
never_twice = repeated.faults_never

-- an item that a step hands out starts where the step was made, spelt by the bytes from there on,
pub starts_at : StartsAt
starts_at = starts.starts_at

-- which are its name, its bits and its value,
pub raw_item : RawItem
raw_item = starts.raw_item

-- and its unused bits fill the last of them
pub unused_is : UnusedIs
unused_is = starts.unused_is
