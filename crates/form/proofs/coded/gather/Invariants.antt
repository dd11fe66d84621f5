-- `gather` meets its contract: a chunk's data a turn. Assumes nothing.
use mathlib.Core.Path.{◌≡◌}
use Rattle.base_rules.specs.Bytes.{splice}
use Rattle.form_rules.specs.inner.Proposals.{data_of}
use Rattle.form.proofs.coded.gather.Given as goal

abbrev pub invariant-loop-j : goal.invariant-loop-j
invariant-loop-j l = l.buffer ≡ splice l.initial.buffer 0 (data_of l.cells l.k l.j)
