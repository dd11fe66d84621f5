-- `one` meets its contract. Assumes nothing.
use borrow.Author.Rules.{rules}
use Rattle.code_rules.proofs.PatternLaws.{same_one}
use Rattle.code_solver.proofs.patterns.one.Goals as goal

pub returns : goal.returns
returns c =
    (search rules, same_one)
