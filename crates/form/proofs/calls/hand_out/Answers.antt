-- `hand_out` meets its contract: what is proposed is handed out where the AF checks pass it. Assumes nothing.
use mathlib.Core.Path.{◌≡◌, sym, subst}
use mathlib.Core.List.{List}
use Prim.Native.Nat.{ℕ, ◌≤◌}
use lib.ListN.{length, take}
use lib.Seq.{length-take-le}
use Rattle.base_rules.proofs.Logic.{told}
use Rattle.places_rules.proofs.Ranges.{range_from}
use Rattle.form_rules.specs.inner.Proposals.{Only, Proposal}
use Rattle.std.specs.Prelude.{Option, Some}
use Rattle.places_rules.specs.declared.Place.{Place}
use Rattle.form_rules.proofs.Handing.{form_nothing, not-accepted, form_packet}
use Rattle.form.proofs.calls.hand_out.Goals as goal

-- the bytes proposed are the one packet which can agree
module _ (p : Place) (held buffer : List ℕ) (n : ℕ) (r : Option ℕ) (is : r ≡ Some n) (told-proposal : Proposal p held buffer r) where
  one : (n ≤ length buffer) × Only p held (take n buffer)
  one = subst (Proposal p held buffer) is told-proposal

  long : n ≡ length (take n buffer)
  long = sym (length-take-le n buffer one.0)

pub slice_bounds-buffer-end : goal.slice_bounds-buffer-end
slice_bounds-buffer-end c = (one c.args.p c.args.held.now c.propose.new.buffer c.in-Some.n c.propose.result c.in-Some.is c.propose.ensures.0).0

pub slice_bounds-accepted-end : goal.slice_bounds-accepted-end
slice_bounds-accepted-end c = long c.args.p c.args.held.now c.propose.new.buffer c.in-Some.n c.propose.result c.in-Some.is c.propose.ensures.0

pub returns-then-not-accepted : goal.returns-then-not-accepted
returns-then-not-accepted c =
    let Before = c in
    let Accepted = c.accepted in
    let s = Before in
    not-accepted s.args.p s.args.held.now s.args.out.now s.requires.0 s.requires.1 _ (one c.args.p c.args.held.now c.propose.new.buffer c.in-Some.n c.propose.result c.in-Some.is c.propose.ensures.0).1
    (told Accepted.ensures c.if-not-accepted.true)

pub slice_bounds-buffer-end-in-Some : goal.slice_bounds-buffer-end-in-Some
slice_bounds-buffer-end-in-Some c = (one c.args.p c.args.held.now c.propose.new.buffer c.in-Some.n c.propose.result c.in-Some.is c.propose.ensures.0).0

pub slice_bounds-put-end : goal.slice_bounds-put-end
slice_bounds-put-end c = long c.args.p c.args.held.now c.propose.new.buffer c.in-Some.n c.propose.result c.in-Some.is c.propose.ensures.0

pub missing_in-requires : goal.missing_in-requires
missing_in-requires c =
    let A = c.args in
    let P = c.requires in
    (range_from A.p P.0.ranged).count

pub returns-in-None : goal.returns-in-None
returns-in-None c =
    let Before = c in
    let Propose = c.propose in
    let s = Before in
    let none = subst (Proposal s.args.p s.args.held.now Propose.new.buffer) c.in-None.is Propose.ensures.0 in
    form_nothing s.args.p s.args.held.now s.args.out.now s.requires.0 s.requires.1 none

pub returns-else-not-accepted : goal.returns-else-not-accepted
returns-else-not-accepted c =
    let Before = c in
    let Accepted = c.accepted in
    let If1 = c.if-not-accepted in
    let s = Before in
    let asked = Accepted in
    form_packet s.args.p s.args.held.now s.args.out.now s.requires.0 s.requires.1 _ (one c.args.p c.args.held.now c.propose.new.buffer c.in-Some.n c.propose.result c.in-Some.is c.propose.ensures.0).1
    (told asked.ensures If1.false) _ _ _ _ (long c.args.p c.args.held.now c.propose.new.buffer c.in-Some.n c.propose.result c.in-Some.is c.propose.ensures.0) c.missing_in.ensures
    c.put.ensures
