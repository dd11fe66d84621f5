-- What a place holds came since it was opened, and stays until it is displaced, for any datagrams. Assumes nothing.
use mathlib.Core.Path.{◌≡◌, refl, sym, ap, ◌∙◌, subst}
use mathlib.Core.Bool.{true, false}
use mathlib.Core.List.{List, [], ◌∷◌}
use Prim.Native.Nat.{ℕ, ◌<◌}
use native.Mathlib.Omega.{arith}
use borrow.Author.Tests.{eq-eqb}
use lib.ListN.{get_or, replicate, length-replicate, get_or-replicate, get_or-eq_default}
use Rattle.std.specs.Prelude.{Option, None}
use Rattle.base_rules.specs.Bounds.{most_f}
use Rattle.base_rules.specs.Bytes.{Bytes}
use Rattle.base_rules.proofs.Logic.{clash}
use Rattle.header_rules.specs.declared.Header.{Header}
use Rattle.header_rules.specs.Read.{fields_of, fault_of}
use Rattle.header_rules.specs.Claims.{Sound}
use Rattle.header_rules.proofs.Proved.{passed_sound}
use Rattle.places_rules.specs.declared.Place.{Place}
use Rattle.places_rules.specs.Places.{four, place_at, key_in, key_of, holds, held_at, open_at, turned, opened_by}
use Rattle.places_rules.specs.Places.{kept_in}
use Rattle.places_rules.specs.Faults.{place_fault}
use Rattle.places_rules.proofs.Ranges.{InRange, Belongs, range_from, belongs, belongs_opened, range_kept, range_opened}
use Rattle.places_rules.proofs.Keys.{key_opened}
use Rattle.receiver_rules.specs.Promise.{Reception, refused_as, State, payload_of, keep_at, SettledAfter}
use Rattle.receiver_rules.proofs.Ranges.{place_fine, opens_below}
use Rattle.link.specs.Run.{Call, after, Made, Run, start, next, Reached}
use Rattle.link.specs.Reached.{HeldCame, Stays, displaced, stays, StaysKept}
use Rattle.link.proofs.Basic.{same_or_not, less_or-not, held_found, holds_number, holds_some, holds_yes}
use Rattle.link.proofs.View.{Good, View, unheard, refuses, keeps, opens}
use Rattle.link.proofs.Frame.{Wrote, wrote_held, wrote_opened, Spared, wrote_spares, see}
use Rattle.link.proofs.Frame.{good_run, good_fresh, good_reached}
use Rattle.link.proofs.Ring.{none_held}
use Rattle.link.proofs.Fitting.{Fits, is_new, of_cut, itself_fits, still_fits}
use Rattle.link.proofs.Standing.{stood_old, stood-new, Stood, stands_there, part_there, stood_spared, unchanged, Put, put_in, number_here, old_here}

-- ---- each fragment that place i keeps came

-- each fragment that place i keeps came in one of these calls, and stands there
abbrev pub At : List Call → State → ℕ → Type 0
At es s i =
    (n j : ℕ) → holds (place_at s.table i) n ≡ true → get_or (place_at s.table i).kept j false ≡ true
    → (k : Call) × Stood k es (place_at s.table i) s.bytes i n j

at_spared : {es : List Call} {s : State} (e : Call) (i : ℕ) → Spared s i e.left → At es s i → At (e ∷ es) (after e) i
at_spared e i spared all n j a b =
    let old = all n j (sym (ap (λ (p : Place). holds p n) spared.kept-place) ∙ a)
    (sym (ap (λ (p : Place). get_or p.kept j false) spared.kept-place) ∙ b) in
    (old.0, stood_spared e spared old.1 a)

-- the place that holds the number keeps one fragment more
module _ (e : Call) (es : List Call) (s : State) (good : Good s) (bytes : Bytes e.datagram) (passes : fault_of e.own e.datagram ≡ 0)
    (low : held_at s.table (key_of (fields_of e.datagram)) < four)
    (fine : place_fault (place_at s.table (held_at s.table (key_of (fields_of e.datagram)))) (fields_of e.datagram) ≡ 0)
    (settled : SettledAfter (keep_at s.table (held_at s.table (key_of (fields_of e.datagram)))
    (place_at s.table (held_at s.table (key_of (fields_of e.datagram)))) None (fields_of e.datagram) s.bytes
    (payload_of e.datagram)) e.lent e.left) where
  abbrev h' : Header
  h' = fields_of e.datagram

  abbrev at : ℕ
  at = held_at s.table (key_of h')

  abbrev p : Place
  p = place_at s.table at

  held : holds p (key_of h') ≡ true
  held = held_found s.table (key_of h') low

  numbered : key_in p ≡ key_of h'
  numbered = holds_number p (key_of h') held

  sound : Sound h'
  sound = passed_sound e.own e.datagram bytes passes

  was : InRange p
  was = range_from p (place_fine s.table good.ranged at low)

  fit_in : Belongs p h'
  fit_in = belongs p h' sound was fine

  put : Put e s p at
  put = put_in e s s.table at p None good.places low (holds_some p (key_of h') held) was.condition settled

  range : InRange (kept_in p h')
  range = range_kept p h' sound was fit_in

  fit : Fits (kept_in p h') h'
  fit = itself_fits p h' sound (of_cut p h' fine)

  not_it : (j : ℕ) → get_or p.kept j false ≡ true → j ≡ h'.index → ⊥
  not_it j b q = clash b (ap (λ (x : ℕ). get_or p.kept x false) q ∙ is_new p h' fine)

  stood_on : (k : Call) (n j : ℕ) → Stood k es p s.bytes at n j → get_or p.kept j false ≡ true → holds (place_at e.left.table at) n ≡ true
      → Stood k (e ∷ es) (place_at e.left.table at) e.left.bytes at n j
  stood_on k n j z b =
      stood_old e es s good bytes passes p at low put range fit k n j z
      (still_fits p h' (fields_of k.datagram) z.fits (λ q. not_it j b (sym z.index ∙ q)) sound fine) (not_it j b)

  at_held : At es s at → At (e ∷ es) (after e) at
  at_held all n j a b =
      same_or_not j h'.index
      (λ q. (e, stood-new e es s good bytes passes p at low put range fit n j numbered (sym q) a))
      (λ other.
      let b' : get_or p.kept j false ≡ true = sym (old_here e es s good bytes passes p at low put j other) ∙ b in
      let is : key_in p ≡ n = sym (number_here e es s good bytes passes p at low put) ∙ holds_number _ _ a in
      let old = all n j (holds_yes p n (holds_some p (key_of h') held) is) b' in
      (old.0, stood_on old.0 n j old.1 b' a))

  -- what stood there stays
  held_stays : (n j : ℕ) → holds p n ≡ true → get_or p.kept j false ≡ true → (k : Call) → Stood k es p s.bytes at n j
      → Wrote s s.table h' at e.left → Stays s e at n j
  held_stays n j a b k z w =
      let is : key_in w.place_now ≡ n = w.number ∙ sym numbered ∙ holds_number p n a in
      let now : holds (place_at e.left.table at) n ≡ true = ap (λ (q : Place). holds q n) w.here ∙ holds_yes w.place_now n w.some is in
      stays now (old_here e es s good bytes passes p at low put j (not_it j b) ∙ b) (part_there (stood_on k n j z b now) ∙ sym (part_there z))

-- a place that was just opened keeps the fragment alone
none_kept : (x : Header) (j : ℕ) → get_or (opened_by x).kept j false ≡ false
unfolding opened_by
none_kept x j =
    less_or-not j most_f
    (λ l. get_or-replicate most_f j false false l)
    (λ l. get_or-eq_default (replicate most_f false) false {n = j} (omega (arith, length-replicate most_f false)))

module _ (e : Call) (es : List Call) (s : State) (good : Good s) (bytes : Bytes e.datagram) (passes : fault_of e.own e.datagram ≡ 0)
    (l : Option ℕ)
    (settled : SettledAfter (keep_at (turned s.table (open_at s.table)) (open_at s.table) (opened_by (fields_of e.datagram)) l
    (fields_of e.datagram) s.bytes (payload_of e.datagram)) e.lent e.left) where
  abbrev new : Header
  new = fields_of e.datagram

  new-sound : Sound new
  new-sound = passed_sound e.own e.datagram bytes passes

  put_new : Put e s (opened_by new) (open_at s.table)
  unfolding opened_by turned
  put_new =
      put_in e s (turned s.table (open_at s.table)) (open_at s.table) (opened_by new) l good.places (opens_below s.table good.ranged)
      (λ z. omega arith) (omega arith) settled

  new_fits : Fits (kept_in (opened_by new) new) new
  unfolding opened_by
  new_fits = itself_fits (opened_by new) new new-sound (record { count = refl; fec = refl; rsk = refl; rsz = refl })

  at_opened : At (e ∷ es) (after e) (open_at s.table)
  at_opened n j a b =
      let low : open_at s.table < four = opens_below s.table good.ranged in
      same_or_not j new.index
      (λ q. (
        e,
        stood-new e es s good bytes passes (opened_by new) (open_at s.table) low put_new
            (range_kept (opened_by new) new new-sound (range_opened new new-sound) (belongs_opened new)) new_fits n j
            (key_opened new) (sym q) a,
      ))
      (λ other. clash (sym (old_here e es s good bytes passes (opened_by new) (open_at s.table) low put_new j other) ∙ b) (none_kept new j))

-- ---- in every reached state

at_view : {es : List Call} {s : State} {e : Call} → Good s → Made s e → ((i : ℕ) → i < four → At es s i)
    → View e.own s e.datagram e.lent e.left → (i : ℕ) → i < four → At (e ∷ es) (after e) i
unfolding refused_as
at_view {es} {s} {e} r m all (unheard n q) i l = at_spared e i
    (unchanged i e.left (ap (λ (y : Reception). y.table) q) (ap (λ (y : Reception). y.bytes) q)) (all i l)
at_view {es} {s} {e} r m all (refuses passes low fault q) i l = at_spared e i
    (unchanged i e.left (ap (λ (y : Reception). y.table) q) (ap (λ (y : Reception). y.bytes) q)) (all i l)
at_view {es} {s} {e} r m all (keeps passes low fine settled) i l =
    same_or_not i (held_at s.table (key_of (fields_of e.datagram)))
    (λ q. subst (At (e ∷ es) (after e)) (sym q) (at_held e es s r m.bytes passes low fine settled (all _ low)))
    (λ other. at_spared e i (wrote_spares (wrote_held e.own s r e.datagram e.lent m.bytes passes e.left _ refl low fine settled)
    i other) (all i l))
at_view {es} {s} {e} r m all (opens passes high settled) i l =
    same_or_not i (open_at s.table)
    (λ q. subst (At (e ∷ es) (after e)) (sym q) (at_opened e es s r m.bytes passes _ settled))
    (λ other. at_spared e i (wrote_spares (wrote_opened e.own s r e.datagram e.lent m.bytes passes e.left _ settled) i other)
    (all i l))

at_run : {s u : State} {es : List Call} → Good s → ((i : ℕ) → i < four → At [] s i) → Run s es u → (i : ℕ) → i < four → At es u i
at_run r all start = all
at_run r all (next e run m) = let g = good_run r run in at_view g m (at_run r all run) (see g m)

-- in every reached state, each fragment that a place keeps came and stands there
pub at_reached : {s : State} (c : Reached s) (i : ℕ) → i < four → At c.calls s i
at_reached c = at_run (good_fresh c.lent c.all) (λ i l n j a b. clash a (none_held i n l)) c.run

-- each fragment that a place keeps came since the place was opened for its number, and its payload is held
pub held_came : HeldCame
held_came s c i n j l a b =
    let one = at_reached c i l n j a b in
    record {
      call = one.0;
      since = one.1.since;
      passed = one.1.passed;
      number = one.1.number;
      index = one.1.index;
      count = sym one.1.fits.cut.count;
      fec = sym one.1.fits.cut.fec;
      rsk = sym one.1.fits.cut.rsk;
      rsz = sym one.1.fits.cut.rsz;
      stands = stands_there one.1;
      part = part_there one.1;
    }

-- ---- and stays

abbrev StaysAt : State → Call → ℕ → Type 0
StaysAt s e i = (n j : ℕ) → holds (place_at s.table i) n ≡ true → get_or (place_at s.table i).kept j false ≡ true → Stays s e i n j

spared_stays : {es : List Call} {s : State} (e : Call) (i : ℕ) → Spared s i e.left → At es s i → StaysAt s e i
spared_stays e i spared all n j a b =
    let one = all n j a b in
    let now : holds (place_at e.left.table i) n ≡ true = ap (λ (p : Place). holds p n) spared.kept-place ∙ a in
    stays now (ap (λ (p : Place). get_or p.kept j false) spared.kept-place ∙ b) (part_there (stood_spared e spared one.1 now)
    ∙ sym (part_there one.1))

stays_view : {es : List Call} {s : State} {e : Call} → Good s → Made s e → ((i : ℕ) → i < four → At es s i)
    → View e.own s e.datagram e.lent e.left → (i : ℕ) → i < four → StaysAt s e i
unfolding refused_as key_of
stays_view {es} {s} {e} r m all (unheard n q) i l =
    spared_stays e i (unchanged i e.left (ap (λ (y : Reception). y.table) q) (ap (λ (y : Reception). y.bytes) q)) (all i l)
stays_view {es} {s} {e} r m all (refuses passes low fault q) i l =
    spared_stays e i (unchanged i e.left (ap (λ (y : Reception). y.table) q) (ap (λ (y : Reception). y.bytes) q)) (all i l)
stays_view {es} {s} {e} r m all (keeps passes low fine settled) i l =
    let w = wrote_held e.own s r e.datagram e.lent m.bytes passes e.left _ refl low fine settled in
    same_or_not i (held_at s.table (key_of (fields_of e.datagram)))
    (λ q.
    subst (StaysAt s e) (sym q)
    (λ n j a b. let one = all _ low n j a b in held_stays e es s r m.bytes passes low fine settled n j a b one.0 one.1 w))
    (λ other. spared_stays e i (wrote_spares w i other) (all i l))
stays_view {es} {s} {e} r m all (opens passes high settled) i l =
    same_or_not i (open_at s.table)
    (λ q n j a b. displaced (eq-eqb _ _ passes) (λ z. omega arith) (sym q))
    (λ other.
    spared_stays e i (wrote_spares (wrote_opened e.own s r e.datagram e.lent m.bytes passes e.left _ settled) i other) (all i l))

-- a kept fragment stays, with its bytes, until its place is opened for another number
pub stays_kept : StaysKept
stays_kept s c e m i n j l = let r = good_reached c in stays_view r m (at_reached c) (see r m) i l n j
