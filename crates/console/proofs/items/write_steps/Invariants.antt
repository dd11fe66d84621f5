-- At each turn the items so far stand behind the word.
use Rattle.text_rules.specs.Wrote.{Wrote}
use Rattle.console.proofs.items.write_steps.Given as goal

abbrev pub invariant-loop : goal.invariant-loop
invariant-loop l = Wrote l.initial.out l.initial.to l.to l.out
