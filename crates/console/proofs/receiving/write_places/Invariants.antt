-- At each turn the places so far stand behind the word.
use Rattle.text_rules.specs.Wrote.{Wrote}
use Rattle.console.proofs.receiving.write_places.Given as goal

abbrev pub invariant-loop-seen : goal.invariant-loop-seen
invariant-loop-seen l = Wrote l.initial.out l.initial.at l.at l.out
