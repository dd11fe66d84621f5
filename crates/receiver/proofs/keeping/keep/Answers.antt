-- `keep` meets its contract: the payload stands in its place, and then the place settles. Assumes nothing.
use mathlib.Core.Path.{ap, ◌∙◌}
use native.Mathlib.Omega.{arith}
use Rattle.places_rules.specs.Faults.{bad_place}
use Rattle.receiver_rules.proofs.Offsets.{offset_fits, kept_long, keeps_at}
use Rattle.receiver.proofs.keeping.keep.Goals as goal

pub overflow_add-i : goal.overflow_add-i
overflow_add-i c =
    omega (
      arith,
      c.offset_of.ensures,
      offset_fits c.args.h
          c.requires.2.sound,
    )

pub settle-requires : goal.settle-requires
settle-requires c =
    let A = c.args in
    let P = c.requires in
    let Offset-of = c.offset_of in
    let a = A in
    let p = P in (
      p.0,
      record {
        all = kept_long a.i a.h a.lent.now a.payload.now p.0 p.1.all p.2 Offset-of.ensures
            c.put.ensures;
        room = p.1.room;
      },
      ap bad_place c.kept_in.ensures ∙ p.3,
    )

pub returns : goal.returns
returns c =
    let A = c.args in
    let P = c.requires in
    let Offset-of = c.offset_of in
    let Put = c.put in
    λ t size turn.
    let a = A in
    let p = P in
    keeps_at a.i a.h a.lent.now a.payload.now p.0 p.1.all p.2 Offset-of.ensures Put.ensures t a.p a.d
    c.kept_in.ensures (c.settle.ensures t size turn)
