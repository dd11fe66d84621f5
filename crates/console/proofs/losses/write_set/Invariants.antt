-- At each turn the fragments so far stand behind `at`.
use Rattle.text_rules.specs.Wrote.{Wrote}
use Rattle.console.proofs.losses.write_set.Given as goal

abbrev pub invariant-loop-i : goal.invariant-loop-i
invariant-loop-i l = Wrote l.initial.out l.at l.to l.out
