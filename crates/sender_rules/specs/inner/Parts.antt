-- What the parts of a sender are handed: a cut that is not refused, and the block.
use Rattle.std.specs.Prelude.{◌≡◌, true, List, ℕ, length}
use Rattle.cut_rules.specs.declared.Settings.{Settings}
use Rattle.cut_rules.specs.declared.Figures.{Figures}
use Rattle.cut_rules.specs.Plan.{figures_of, values_of}
use Rattle.sender_rules.specs.Fragments.{block_for}
use Rattle.sender_rules.specs.Calls.{packet_fault}

-- clause 7.2: p has the figures of a packet that is not refused
pub record Figured (g : Settings) (packet : List ℕ) (p : Figures) : Type 0 where
  pub values : values_of p ≡ figures_of g (length packet)
  pub passed : packet_fault g packet ≡ 0

-- clause 7.3.1: with FEC the block is the packet's
abbrev pub Laid : Settings → List ℕ → List ℕ → Type 0
Laid g packet block = g.fec ≡ true → block ≡ block_for packet
