-- `seen_at` meets its contract. Assumes nothing.
use mathlib.Core.Path.{ap, ◌∙◌}
use native.Mathlib.Omega.{arith}
use Rattle.places_rules.specs.Faults.{bad_place}
use Rattle.receiver_rules.specs.Calls.{shown_of}
use Rattle.receiver_rules.proofs.Ranges.{any_fine}
use Rattle.receiver.proofs.table.seen_at.Goals as goal

pub seen-requires : goal.seen-requires
seen-requires c =
    let A = c.args in
    ap bad_place c.place_at.ensures ∙ any_fine A.t c.requires (omega arith) A.i

pub returns : goal.returns
returns c = c.seen.ensures ∙ ap shown_of c.place_at.ensures
