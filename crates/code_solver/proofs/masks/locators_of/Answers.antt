-- `locators_of` meets its contract. Assumes nothing.
use mathlib.Core.Path.{sym, ap, ◌∙◌}
use Prim.Native.Nat.{◌≤◌}
use borrow.Author.Rules.{rules}
use lib.ListN.{length}
use Rattle.codeword.proofs.Chunk.{length-full}
use Rattle.code_rules.specs.inner.Solving.{lanes_of}
use Rattle.code_rules.proofs.FillLaws.{locs-full}
use Rattle.code_rules.proofs.SolvingLaws.{locators_long, locators_misfit, locators-first}
use Rattle.code_solver.proofs.masks.locators_of.Goals as goal

pub returns-then-k-gt-MOST_K : goal.returns-then-k-gt-MOST_K
returns-then-k-gt-MOST_K c =
    sym (locators_long c.args.k c.args.mask.now (search rules))

pub returns-then-mask-k : goal.returns-then-mask-k
returns-then-mask-k c =
    sym (locators_misfit c.args.k c.args.mask.now (search rules) c.if-mask-k.true)

pub locate-requires : goal.locate-requires
locate-requires c =
    let A = c.args in
    ap length c.spread-m.ensures ∙ length-full 0 A.k A.mask.now (search rules) (search rules)

pub returns : goal.returns
returns c =
    let A = c.args in
    let h : A.k ≤ 207 = search rules in
    let e = locs-full A.k A.mask.now c.spread-m.result c.spread-m.ensures in
    c.locate.ensures ∙ ap lanes_of e ∙ sym (locators-first A.k A.mask.now h (search rules))
