-- `join` meets its contract: two copies, one behind the other. Assumes nothing.
use mathlib.Core.Path.{sym}
use native.Mathlib.Omega.{arith}
use lib.Seq.{length-take-le}
use Rattle.form_rules.proofs.Joining.{joined_length, joined_put}
use Rattle.form.proofs.plain.join.Goals as goal

pub slice_bounds-put-end : goal.slice_bounds-put-end
slice_bounds-put-end c =
    let A = c.args in
    sym (length-take-le _ A.held.now (omega (arith, c.before_last-front.ensures.1)))

pub returns : goal.returns
returns c =
    let Before = c in
    let Before-last = c.before_last-front in
    let Put = c.put in
    let s = Before in
    let p = s.args.p in
    let held = s.args.held.now in
    let front = Before-last.ensures in (
      joined_length p held s.requires.1 _ front,
      joined_put p held s.requires.1 _ front s.args.buffer.now _ _ _ _ s.requires.2 Put.ensures
          c.put-2.ensures,
    )
