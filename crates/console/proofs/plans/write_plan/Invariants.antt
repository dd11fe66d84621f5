-- At each turn the figures so far stand behind the word.
use Rattle.text_rules.specs.Wrote.{Wrote}
use Rattle.console.proofs.plans.write_plan.Given as goal

abbrev pub invariant-loop-name : goal.invariant-loop-name
invariant-loop-name l = Wrote l.initial.out l.initial.at l.at l.out
