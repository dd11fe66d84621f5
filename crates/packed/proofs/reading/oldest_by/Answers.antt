-- `oldest_by` meets its contract, case by case. Assumes nothing.
use mathlib.Core.Path.{refl}
use Rattle.packed.proofs.reading.oldest_by.Goals as goal

pub returns-then-not-taken : goal.returns-then-not-taken
returns-then-not-taken c = rw c.if-not-taken.true refl

pub returns : goal.returns
returns c = rw c.if-not-taken.false c.byte_at.ensures
