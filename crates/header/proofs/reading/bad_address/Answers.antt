-- `bad_address` meets its contract, by the address that the fragment carries. Assumes nothing.
use mathlib.Core.Path.{◌≡◌, refl, sym, ◌∙◌}
use mathlib.Core.Bool.{true, false, not}
use Rattle.std.specs.Prelude.{Option, Some, None, is_some}
use Rattle.std.specs.Option.{option_eq}
use Rattle.cut_rules.specs.declared.Address.{Address}
use Rattle.cut_rules.specs.contracts.AddressPartialEq.TheImpl.{eq-value}
use Rattle.header_rules.specs.Read.{bad_address}
use Rattle.header.proofs.reading.bad_address.Goals as goal

-- an address is refused where it is not the configured one, or none is configured
differs : (own a : Option Address) → is_some a ≡ true → not (option_eq eq-value.it own a) ≡ bad_address own a
unfolding bad_address
differs own None e = cc
differs None (Some a) e = refl
differs (Some o) (Some a) e = refl

-- no address is never refused
absent : (own a : Option Address) → is_some a ≡ false → false ≡ bad_address own a
unfolding bad_address
absent own None e = refl
absent own (Some a) e = cc

pub returns-then-is_some : goal.returns-then-is_some
returns-then-is_some c = c.ne.ensures ∙ differs c.args.own c.args.a (sym c.if-is_some.ensures)

pub returns-else-is_some : goal.returns-else-is_some
returns-else-is_some c = c.if-is_some.false ∙ absent c.args.own c.args.a (sym c.if-is_some.ensures)
