-- `share` is what the table says of the two halves of a byte. Assumes nothing.
use mathlib.Core.Path.{ap, ◌∙◌}
use Prim.Native.Nat.{◌-◌, ◌*◌}
use borrow.Author.Rules.{rules}
use Rattle.crc_rules.specs.inner.Halves.{rounds}
use Rattle.crc_rules.proofs.Halves.{share_law}
use Rattle.crc.proofs.HalfBytes.share.Goals as goal

pub returns : goal.returns
returns c =
    let A = c.args in
    let x = c.from-v in
    let right = A.self.now.right in
    share_law A.self.now.entries A.b x.result right c.requires (search rules)
    ∙ ap (λ k. rounds (8 - A.b) (k * 256)) x.ensures
