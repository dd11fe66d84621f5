-- What the sender's calls for C answer (clause 7; document 01, "PFT layer"): C's numbers as settings.
use Rattle.std.specs.Prelude.{cond, not, List, ℕ, eqb, replicate}
use Rattle.cut_rules.specs.declared.Rule.{Rule}
use Rattle.cut_rules.specs.declared.Rule.TheVariants.{Older, Newer}
use Rattle.cut_rules.specs.declared.Settings.{Settings}
use Rattle.card_rules.specs.Calls.{address_of}

-- document 02, Item 6: the newer rule where `newer` is not 0
unfoldable pub rule_of : ℕ → Rule
rule_of newer = cond (eqb newer 0) Older Newer

-- the settings by C's numbers: FEC where `fec` is not 0
unfoldable pub settings_of : ℕ → ℕ → ℕ → ℕ → ℕ → ℕ → ℕ → Settings
settings_of fec m newer mtu addressed source dest =
    record { fec = not (eqb fec 0); m = m; mtu = mtu; address = address_of addressed source dest; rule = rule_of newer }

-- the widths of n numbers that are told in two bytes each
abbrev pub twos : ℕ → List ℕ
twos n = replicate n 2
