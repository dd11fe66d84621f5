-- `make_roots` meets its contract. Assumes nothing.
use mathlib.Core.Path.{subst}
use Rattle.code_rules.specs.inner.Kernel.{Multiples}
use Rattle.code_solver.proofs.syndromes.make_roots.Goals as goal

pub returns : goal.returns
returns c =
    subst (λ x. Multiples x c.multiples.result) c.roots.ensures c.multiples.ensures
