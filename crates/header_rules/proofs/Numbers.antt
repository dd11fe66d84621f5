-- The number and values of a datagram that is read, by its header's faults. Assumes nothing.
use mathlib.Core.Bool.{true}
use mathlib.Core.List.{List}
use mathlib.Core.Path.{◌≡◌, refl, ap, ◌∙◌}
use Prim.Native.Nat.{ℕ}
use Rattle.std.specs.Prelude.{Option, Result}
use Rattle.base_rules.specs.Answer.{answered}
use Rattle.base_rules.specs.Refusal.{number, refusal_of, told}
use Rattle.base_rules.specs.declared.Refusal.{Refusal}
use Rattle.base_rules.proofs.ByFault.{named, all_named, first_named, told_by}
use Rattle.cut_rules.specs.declared.Address.{Address}
use Rattle.header_rules.specs.declared.Header.{Header}
use Rattle.header_rules.specs.Read.{fields_of, fault_of, parsed_of, header_values, number_of, parse_call}

module _ (own : Option Address) (s : List ℕ) where
  -- the numbers 2 to 8 stand for refusals,
  pub fault_named : named (fault_of own s) ≡ true
  unfolding fault_of all_named named number refusal_of
  fault_named = first_named _ refl

  -- so a datagram that is read is answered by its header's fault, with whatever values of a header
  pub told_by_lem : (values : Header → List ℕ) → told values (parsed_of own s) ≡ answered (fault_of own s) (values (fields_of s))
  unfolding parsed_of
  told_by_lem values = told_by (fault_of own s) values (fields_of s) fault_named

  -- the number of a datagram that is read is that of its header's fault
  pub parse_number : number_of (parsed_of own s) ≡ parse_call own s
  unfolding parse_call number_of
  parse_number = told_by_lem header_values

  -- so an answer that is the defined one has that number
  pub parse_told : (p : Result Header Refusal) → p ≡ parsed_of own s → (p ≡ parsed_of own s) × (number_of p ≡ parse_call own s)
  parse_told p e = (e, ap number_of e ∙ parse_number)
