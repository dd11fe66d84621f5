-- `logs` meets its contract: each of the two is a logarithm. Assumes nothing.
use mathlib.Core.Path.{◌∙◌}
use borrow.Author.Rules.{rules}
use Rattle.field_rules.proofs.Rules.{logged}
use Rattle.field.proofs.logs.Goals as goal

pub returns : goal.returns
returns c =
    let s = c in
    let p = c.from-j.ensures ∙ c.entry-2.ensures in
    let q = c.from-i.ensures ∙ c.entry.ensures in
    (logged s.requires.0 (search rules) q, logged s.requires.1 (search rules) p)
