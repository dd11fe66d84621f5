-- `worst_in` meets its contract: the most that a chunk misses tells whether the fragments suffice.
use Rattle.std.proofs.Common.{sym, ap, ◌∙◌, arith, ℕ, ◌+◌, ◌*◌, leb}
use native.Mathlib.Nat.{div-mul-le_self}
use Rattle.base_rules.specs.Bounds.{parity}
use Rattle.cut_rules.specs.Sizes.{received_c}
use Rattle.places_rules.proofs.Ranges.{range_from}
use Rattle.form_rules.specs.Agree.{lost_in}
use Rattle.form_rules.proofs.Unique.{enough-coded}
use Rattle.relay.proofs.Most.{most_tells}
use Rattle.relay.proofs.drawing.worst_in.Goals as goal

pub most_missing-requires : goal.most_missing-requires
most_missing-requires c =
    let p = c.args.p in
    let ranged = range_from p c.requires.0 in
    (c.requires.1, ranged.count, omega (arith, ranged.size, div-mul-le_self (p.count * p.size) (p.rsk + parity)))

pub returns : goal.returns
unfolding received_c
returns c =
    let p = c.args.p in
    let most = c.most_missing.ensures in
    let tells = most_tells (lost_in p) p.count (p.rsk + parity) (received_c p.count p.size p.rsk) in (
      most.0,
      omega (arith, most.1, ((range_from p c.requires.0).coded c.requires.2).1),
      ap (λ (r : ℕ). leb r parity) most.0 ∙ tells ∙ sym (enough-coded p c.requires.2),
    )
