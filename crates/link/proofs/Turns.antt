-- Which numbers the four places hold after a run: the last four that opened one. Assumes nothing.
use mathlib.Core.Path.{◌≡◌, refl, sym, ap, ◌∙◌, subst}
use mathlib.Core.Bool.{Bool, true, false, not, cond, ◌||◌, ◌&&◌}
use mathlib.Core.List.{List, [], ◌∷◌}
use Prim.Native.Nat.{ℕ, zero, suc, ◌-◌, ◌%◌, ◌≤◌, ◌<◌}
use native.Mathlib.Omega.{arith}
use borrow.Author.Tests.{eqb-true, eq-eqb, ne_eqb}
use lib.Dec.{eqb}
use lib.ListN.{length, get_or, take}
use Rattle.base_rules.specs.Tests.{among}
use Rattle.base_rules.proofs.Logic.{either, clash, hit, pass}
use Rattle.header_rules.specs.Read.{fields_of}
use Rattle.places_rules.specs.Places.{four, place_at, key_in, key_of, holds, held_at, open_at, turned, all_places}
use Rattle.places_rules.specs.Claims.{Opened}
use Rattle.places_rules.proofs.Proved.{fresh_is_opened, opens_in_turn}
use Rattle.receiver_rules.specs.Promise.{Reception, refused_as, State}
use Rattle.link.specs.Run.{Call, after, Made, Run, start, next, fresh_with, Holds, heard, number_in}
use Rattle.link.proofs.Basic.{same_or_not, less_or-not, held_found, held_some, holds_yes, holds_number, holds_some}
use Rattle.link.proofs.View.{Good, View, unheard, refuses, keeps, opens}
use Rattle.link.proofs.Frame.{left_by_call, Wrote, wrote_held, wrote_opened, see, good_run, good_fresh}
use Rattle.link.proofs.Ring.{ring_kept, ring_opened}

-- ---- one of the last of a list of numbers

among_at : (k j : ℕ) (ns : List ℕ) → j < k → j < length ns → among (get_or ns j 0) (take k ns) ≡ true
unfolding among
among_at zero j ns h l = absurd (omega arith)
among_at (suc k) j [] h l = absurd (omega arith)
among_at (suc k) zero (x ∷ ns) h l = simp (eq-eqb x x refl)
among_at (suc k) (suc j) (x ∷ ns) h l =
    either (eqb x (get_or ns j 0)) (λ e. sym (hit _ e)) (λ e. sym (pass e (sym (among_at k j ns (omega arith) (omega arith)))))

at_among : (k n : ℕ) (ns : List ℕ) → among n (take k ns) ≡ true → (j : ℕ) × (j < k) × (j < length ns) × (get_or ns j 0 ≡ n)
unfolding among
at_among zero n ns t = clash t refl
at_among (suc k) n [] t = clash t refl
at_among (suc k) n (x ∷ ns) t =
    either (eqb x n)
    (λ e. (0, omega arith, omega arith, eqb-true x n e))
    (λ e.
    let r = at_among k n ns (sym (ap (λ (b : Bool). b || among n (take k ns)) e) ∙ t) in
    (suc r.0, omega (arith, r.1), omega (arith, r.2), r.3))

-- ---- the numbers stand in their places

-- the number n is one of the last four
abbrev pub lately : ℕ → List ℕ → Bool
lately n ns = among n (take four ns)

-- the numbers ns opened a place each, the last one first: each of the last four stands in its own
pub record Stands (ns : List ℕ) (s : State) : Type 0 where
  pub ring : Opened (length ns) s.table
  pub number : (j : ℕ) → j < length ns → j < four → key_in (place_at s.table ((length ns - 1 - j) % four)) ≡ get_or ns j 0

module _ {ns : List ℕ} {s : State} (r : Stands ns s) (n : ℕ) where
  -- each of the last four is held
  pub stands_held : lately n ns ≡ true → Holds s n
  stands_held t =
      let x = at_among four n ns t in
      let i : ℕ = (length ns - 1 - x.0) % four in
      held_some s.table n i (omega arith)
      (holds_yes (place_at s.table i) n (r.ring.held i (omega arith) (omega (arith, x.2))) (r.number x.0 x.2 x.1 ∙ x.3))

  -- and no other number is
  pub stands_only : Holds s n → lately n ns ≡ true
  stands_only h =
      let i : ℕ = held_at s.table n in
      let e : holds (place_at s.table i) n ≡ true = held_found s.table n h in
      less_or-not i (length ns)
      (λ l.
      let j : ℕ = (length ns - 1 - i) % four in
      let back : (length ns - 1 - j) % four ≡ i = omega arith in
      let is : get_or ns j 0 ≡ n =
      sym (r.number j (omega arith) (omega arith)) ∙ ap (λ (x : ℕ). key_in (place_at s.table x)) back ∙ holds_number _ n e in
      ap (λ (m : ℕ). lately m ns) (sym is) ∙ among_at four j ns (omega arith) (omega arith))
      (λ l. absurd (holds_some _ n e (r.ring.left i h (λ (k : i < length ns). omega arith))))

-- a fresh table is one after no opening
stands_fresh : (b : List ℕ) → Stands [] (fresh_with b)
stands_fresh b = record { ring = fresh_is_opened; number = λ j (h : j < 0) l. absurd (omega arith) }

-- ---- one call

-- a number that is heard and is none of the last four opens a place
unfoldable pub turn : Bool → ℕ → List ℕ → List ℕ
turn hears n ns = cond (hears && not (lately n ns)) (n ∷ ns) ns

module _ {ns : List ℕ} {s : State} {e : Call} (r : Stands ns s) (good : Good s) (made : Made s e) where
  same_stands : (x : ℕ) → e.left ≡ refused_as x s.table s.bytes e.lent → Stands ns (after e)
  unfolding refused_as
  same_stands x q = subst (λ (y : Reception). Stands ns (left_by_call y)) (sym q) r

  kept_stands : {j : ℕ} → Wrote s s.table (fields_of e.datagram) j e.left → holds (place_at s.table j) (number_in e) ≡ true
      → Stands ns (after e)
  kept_stands {j} w held =
      let key : (i : ℕ) → key_in (place_at e.left.table i) ≡ key_in (place_at s.table i) = λ i.
      same_or_not i j
      (λ q.
      ap (λ (x : ℕ). key_in (place_at e.left.table x)) q ∙ ap key_in w.here ∙ w.number ∙ sym (holds_number _ _ held)
      ∙ ap (λ (x : ℕ). key_in (place_at s.table x)) (sym q))
      (λ q. ap key_in (w.others i q)) in
      record {
        ring = ring_kept (length ns) r.ring w (holds_some _ _ held);
        number = λ j h l. key ((length ns - 1 - j) % four) ∙ r.number j h l;
      }

  opened_stands : Wrote s (turned s.table (open_at s.table)) (fields_of e.datagram) (open_at s.table) e.left
      → Stands (number_in e ∷ ns) (after e)
  opened_stands w =
      let m : ℕ = length ns in
      let at : open_at s.table ≡ m % four = opens_in_turn m s.table r.ring in
      record { ring = subst (λ (k : ℕ). Opened k e.left.table) (omega arith) (ring_opened m r.ring w); number = number_now at }
    where
      number_now : open_at s.table ≡ length ns % four → (j : ℕ) → j < suc (length ns) → j < four
          → key_in (place_at e.left.table ((suc (length ns) - 1 - j) % four)) ≡ get_or (number_in e ∷ ns) j 0
      number_now at zero h l =
          let here : (suc (length ns) - 1 - 0) % four ≡ open_at s.table = omega arith in
          ap (λ (x : ℕ). key_in (place_at e.left.table x)) here ∙ ap key_in w.here ∙ w.number
      number_now at (suc j) h l =
          let there : (suc (length ns) - 1 - suc j) % four ≡ (length ns - 1 - j) % four = omega arith in
          ap (λ (x : ℕ). key_in (place_at e.left.table x)) there
          ∙ ap key_in (w.others ((length ns - 1 - j) % four) (λ z. elsewhere (length ns) j (omega arith) (omega arith) (z ∙ at)))
          ∙ r.number j (omega arith) (omega arith)
        where
          elsewhere : (m j : ℕ) → j < m → j < 3 → (m - 1 - j) % 4 ≡ m % 4 → ⊥
          elsewhere m j h l z = omega arith

  stands_view : View e.own s e.datagram e.lent e.left → Stands (turn (heard e) (number_in e) ns) (after e)
  unfolding turn key_of
  stands_view (unheard f q) = rw (ne_eqb _ 0 f) (same_stands _ q)
  stands_view (refuses passed low f q) = rw (eq-eqb _ _ passed, stands_only r (number_in e) low) (same_stands _ q)
  stands_view (keeps passed low f z) =
      rw (eq-eqb _ _ passed, stands_only r (number_in e) low)
      (kept_stands (wrote_held e.own s good e.datagram e.lent made.bytes passed e.left _ refl low f z) (held_found s.table _ low))
  stands_view (opens passed high z) =
      rw (eq-eqb _ _ passed, not_lately high)
      (opened_stands (wrote_opened e.own s good e.datagram e.lent made.bytes passed e.left _ z))
    where
      not_lately : four ≤ held_at s.table (number_in e) → lately (number_in e) ns ≡ false
      not_lately high = either (lately (number_in e) ns) (λ t. absurd (omega (arith, high, stands_held r (number_in e) t))) (λ t. t)

-- ---- a run

-- the numbers that opened a place in these calls, the last one first
unfoldable pub turns_of : List Call → List ℕ
turns_of [] = []
turns_of (e ∷ es) = turn (heard e) (number_in e) (turns_of es)

-- from a fresh table on they stand in their places
pub stands : {b : List ℕ} {es : List Call} {s : State} → length b ≡ all_places → Run (fresh_with b) es s → Stands (turns_of es) s
unfolding turns_of
stands {b} all start = stands_fresh b
stands {b} all (next e run made) =
    let good = good_run (good_fresh b all) run in
    stands_view (stands all run) good made (see good made)
