-- `bad_code` meets its contract. Assumes nothing.
use mathlib.Core.Path.{◌∙◌}
use Rattle.base_rules.proofs.Logic.{told}
use Rattle.places_rules.proofs.Checks.{no_code, k-out, z_over}
use Rattle.places.proofs.faults.bad_code.Goals as goal

pub returns-then-bad_k : goal.returns-then-bad_k
returns-then-bad_k c = c.if-bad_k.true ∙ k-out _ c.if-p.true (told c.bad_k.ensures c.if-bad_k.true)

pub returns-else-bad_k : goal.returns-else-bad_k
returns-else-bad_k c = z_over _ c.if-p.true (told c.bad_k.ensures c.if-bad_k.false)

pub returns-else-p : goal.returns-else-p
returns-else-p c = c.if-p.false ∙ no_code _ c.if-p.false
