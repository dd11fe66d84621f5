-- `product` meets its contract: eight doubles, of which the bits of the other factor choose. Assumes nothing.
use mathlib.Core.Path.{◌∙◌}
use Prim.Native.Nat.{◌<◌}
use borrow.Author.Rules.{rules}
use Rattle.code_rules.proofs.BitLaws.{dot_is}
use Rattle.code_lanes.proofs.product.Goals as goal

pub returns : goal.returns
returns c =
    let A = c.args in
    let h : A.x < 256 = search rules in
    c.dot.ensures ∙ dot_is A.a A.x _ _ _ _ _ _ _ h
    record {
      c1 = c.twice-c1.ensures;
      c2 = c.twice-c2.ensures;
      c3 = c.twice-c3.ensures;
      c4 = c.twice-c4.ensures;
      c5 = c.twice-c5.ensures;
      c6 = c.twice-c6.ensures;
      c7 = c.twice-c7.ensures;
    }
