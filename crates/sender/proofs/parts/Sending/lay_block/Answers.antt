-- `lay_block` meets its contract: with FEC the encoder's block, without FEC nothing is asked. Assumes nothing.
use mathlib.Core.Path.{◌≡◌}
use mathlib.Core.Bool.{true}
use Rattle.base_rules.proofs.Logic.{clash}
use Rattle.sender_rules.proofs.Laying.{block_laid}
use Rattle.sender.proofs.parts.Sending.lay_block.Goals as goal

pub returns-then-self : goal.returns-then-self
returns-then-self c =
    let s = c.args.self.now in
    let P = c.requires in
    let a = c.args in
    λ (fec : s.g.fec ≡ true). block_laid s.g s.packet.now s.p s.figured fec a.block.now _ _ P c.encode.ensures

pub returns-else-self : goal.returns-else-self
returns-else-self c =
    let s = c.args.self.now in
    λ (fec : s.g.fec ≡ true). clash fec c.if-self.false
