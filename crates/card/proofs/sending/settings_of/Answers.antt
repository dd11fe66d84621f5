-- `settings_of` meets its contract: the address and the rule are those of its calls. Assumes nothing.
use mathlib.Core.Path.{ap₂}
use mathlib.Core.Bool.{not}
use Prim.Native.Nat.{ℕ}
use lib.Dec.{eqb}
use Rattle.std.specs.Prelude.{Option}
use Rattle.cut_rules.specs.declared.Address.{Address}
use Rattle.cut_rules.specs.declared.Rule.{Rule}
use Rattle.cut_rules.specs.declared.Settings.{Settings}
use Rattle.card_rules.specs.Sending.{settings_of}
use Rattle.card.proofs.sending.settings_of.Goals as goal

abbrev with : ℕ → ℕ → ℕ → Option Address → Rule → Settings
with fec m mtu a r = record { fec = not (eqb fec 0); m = m; mtu = mtu; address = a; rule = r }

pub returns : goal.returns
unfolding settings_of
returns c =
    let a = c.args in
    ap₂ (with a.fec a.m a.mtu) c.address_of.ensures c.rule_of.ensures
