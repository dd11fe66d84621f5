-- What several calls for C share: the address that C gives, as card.h says it.
use Rattle.std.specs.Prelude.{cond, ℕ, eqb, Option, Some, None}
use Rattle.cut_rules.specs.declared.Address.{Address}

-- the address in the header where `addressed` is not 0
unfoldable pub address_of : ℕ → ℕ → ℕ → Option Address
address_of addressed source dest = cond (eqb addressed 0) None (Some (record { source = source; dest = dest }))
