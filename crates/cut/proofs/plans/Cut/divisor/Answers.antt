-- `divisor` meets its contract by either rule: m is small, so m + 1 fits. Assumes nothing.
use native.Mathlib.Omega.{arith}
use Rattle.std.proofs.Common.{rules}
use Rattle.cut_rules.specs.Sizes.{divisor}
use Rattle.cut_rules.proofs.PlanCases as cases
use Rattle.cut.proofs.plans.Cut.divisor.Goals as goal

pub overflow_add-result : goal.overflow_add-result
overflow_add-result c = let cut = c.args.self in omega (arith, (cases.fitted cut.g cut.in_bounds.0).m_most)

pub returns-in-Older : goal.returns-in-Older
unfolding divisor
returns-in-Older c = search rules

pub returns-in-Newer : goal.returns-in-Newer
unfolding divisor
returns-in-Newer c = search rules
