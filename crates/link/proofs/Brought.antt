-- A call that brings one of the packet's fragments: what it is answered, and how the packet stands after it. Assumes nothing.
use mathlib.Core.Path.{◌≡◌, refl, sym, ap, ap₂, ◌∙◌, subst}
use mathlib.Core.Bool.{Bool, true, false, not, ◌||◌}
use mathlib.Core.List.{List, [], ◌∷◌}
use Prim.Native.Nat.{ℕ, ◌+◌, ◌*◌, ◌≤◌}
use native.Mathlib.Omega.{arith}
use lib.Dec.{eqb}
use lib.ListN.{length, get_or, length-set}
use Rattle.std.specs.Prelude.{Option, None, Ok, Err}
use Rattle.base_rules.specs.Bounds.{place}
use Rattle.base_rules.specs.Bytes.{splice}
use Rattle.base_rules.specs.Refusal.{number}
use Rattle.base_rules.specs.declared.Refusal.{Refusal}
use Rattle.base_rules.specs.declared.Refusal.TheVariants as refusal
use Rattle.base_rules.proofs.Logic.{either, clash}
use Rattle.cut_rules.specs.declared.Settings.{Settings}
use Rattle.cut_rules.specs.Missing.{losses}
use Rattle.header_rules.specs.declared.Header.{Header}
use Rattle.header_rules.specs.Read.{fields_of}
use Rattle.places_rules.specs.declared.Place.{Place}
use Rattle.places_rules.specs.declared.Table.{Table}
use Rattle.places_rules.specs.Places.{four, delivered, place_at, with_place, key_of, holds, held_at, open_at, displaced_at, turned, opened_by, offset_of}
use Rattle.places_rules.specs.Places.{kept_in, in_condition}
use Rattle.places_rules.specs.Faults.{place_fault}
use Rattle.receiver_rules.specs.declared.Received.TheVariants.{Delivered}
use Rattle.receiver_rules.specs.Promise.{number_of, Reception, refused_as, State, payload_of, keep_at, closed_at, Settled, SettledAfter}
use Rattle.receiver_rules.proofs.Ranges.{written_place}
use Rattle.sender_rules.specs.Fragments.{payload_for, header_for}
use Rattle.link.specs.Run.{Call, after, Made, come, lost}
use Rattle.link.specs.Demand.{Takes, count, key_for, enough_after}
use Rattle.link.specs.Steps.{FirstOnly, Answered}
use Rattle.link.proofs.Basic.{held_absent}
use Rattle.link.proofs.View.{Good, View, unheard, refuses, keeps, opens}
use Rattle.link.proofs.Frame.{left_by_call, Wrote, wrote_held, wrote_opened, see}
use Rattle.link.proofs.Enough.{suffices, enough_is, enough_more}
use Rattle.link.proofs.Own.{Mine, Full, SizeKnown, opened_full, kept_sized, kept_full}
use Rattle.link.proofs.Fault.{fault_none, fault_12, fault_11}
use Rattle.link.proofs.Settle.{Waited, Handed, waited, handed}
use Rattle.link.proofs.Heard.{Brings, brings_number, come_own, come_it, come_again}
use Rattle.link.proofs.Stage.{Alone, OpenAt, DoneAt, Stage, not_yet, open_at_lem, done_at, open_held, done_held, mine_closed, sized_closed}
use Rattle.link.proofs.Stage.{condition_closed, enough_with, enough_none, moved_stage, refused_stage}

-- its answer, and how the packet stands after it
pub record Next (g : Settings) (n : ℕ) (packet : List ℕ) (es : List Call) (e : Call) (i : ℕ) : Type 0 where
  pub answered : Answered g n packet es e i
  pub stage : Stage g n packet (e ∷ es) (after e)

not_more : (a b : Bool) → not (a || b) ≡ true → not b ≡ true
not_more true b e = clash e refl
not_more false b e = e

length_with : (u : Table) (i : ℕ) (p : Place) → length (with_place u i p).places ≡ length u.places
unfolding with_place
length_with u i p = length-set u.places i p

turned_four : (t : Table) (i : ℕ) → length t.places ≡ four → length (turned t i).places ≡ four
unfolding turned
turned_four t i e = e

module _ (g : Settings) (n : ℕ) (packet : List ℕ) (takes : Takes g n packet) (es : List Call) (s : State) (r : Good s) (e : Call) (made : Made s e)
    (i : ℕ) (b : Brings g n packet e i) where
  -- what came, with it
  abbrev more : ℕ → Bool
  more j = eqb i j || come (key_for g n) es j

  came_now : come (key_for g n) (e ∷ es) ≡ more
  came_now = come_own g n packet e es i b

  enough_now : enough_after g n packet (e ∷ es) ≡ suffices g packet more
  enough_now = enough_with g n packet takes (e ∷ es) more came_now

  lost_now : losses (λ j. not (more j)) (count g packet) ≡ losses (lost (key_for g n) (e ∷ es)) (count g packet)
  lost_now = ap (λ (came : ℕ → Bool). losses (λ j. not (came j)) (count g packet)) (sym came_now)

  -- ---- it is kept in place `at`, which was p

  module _ (u : Table) (size-u : length u.places ≡ four) (at : ℕ) (p : Place) (d : Option ℕ) (only : FirstOnly (key_for g n) es d)
      (full : Full g n packet (come (key_for g n) es) at p s.bytes) (alone : Alone (key_for g n) s.table at)
      (new : come (key_for g n) es i ≡ false) (before : enough_after g n packet es ≡ false) (w : Wrote s u (fields_of e.datagram) at e.left)
      (settled : SettledAfter (keep_at u at p d (header_for g n packet i) s.bytes (payload_for g packet i)) e.lent e.left) where
    abbrev t : Table
    t = with_place u at (kept_in p (header_for g n packet i))

    abbrev held : List ℕ
    held = splice s.bytes (at * place + offset_of (header_for g n packet i)) (payload_for g packet i)

    settled_t : Settled t at d held e.lent e.left
    unfolding keep_at
    settled_t = settled

    was : place_at t at ≡ kept_in p (header_for g n packet i)
    was = written_place u at (kept_in p (header_for g n packet i)) size-u w.below

    full_t : Full g n packet more at (place_at t at) held
    full_t =
        subst (λ (q : Place). Full g n packet more at q held) (sym was)
        (kept_full g packet takes.passed n i b.below p (come (key_for g n) es) at s.bytes w.below r.whole full)

    sized_t : SizeKnown g packet (place_at t at)
    sized_t = subst (SizeKnown g packet) (sym was) (kept_sized g packet takes.passed n i b.below p)

    alone_now : Alone (key_for g n) e.left.table at
    alone_now j k other = ap (λ (q : Place). holds q (key_for g n)) (w.others j other) ∙ alone j k other

    -- it waits for more
    module _ (f : suffices g packet more ≡ false) where
      waits_now : Waited t d held e.lent e.left
      waits_now = waited g n packet takes more t at d held e.lent full_t sized_t settled_t f

      open_now_at : OpenAt g n packet more (after e) at
      open_now_at =
          record {
            low = w.below;
            some = λ none. clash (come_it g n packet e es i b) (ap (λ (came : ℕ → Bool). came i) (came_now ∙ none));
            full =
                subst (λ (l : List ℕ). Full g n packet more at (place_at e.left.table at) l) (sym waits_now.bytes)
                (subst (λ (v : Table). Full g n packet more at (place_at v at) held) (sym waits_now.table) full_t);
            sized = subst (λ (v : Table). SizeKnown g packet (place_at v at)) (sym waits_now.table) sized_t;
            alone = alone_now;
          }

    -- it is handed out
    module _ (f : suffices g packet more ≡ true) where
      hands_now : Handed g packet more t at d held e.lent e.left
      hands_now = handed g n packet takes more t at d held e.lent full_t sized_t settled_t f

      closed-place : place_at (closed_at t at delivered) at ≡ in_condition (place_at t at) delivered
      unfolding closed_at
      closed-place =
          written_place t at (in_condition (place_at t at) delivered) (length_with u at (kept_in p (header_for g n packet i)) ∙ size-u) w.below

      done_place : place_at e.left.table at ≡ in_condition (place_at t at) delivered
      done_place = ap (λ (v : Table). place_at v at) hands_now.table ∙ closed-place

      done_now_at : DoneAt g n packet (after e) at
      done_now_at =
          record {
            low = w.below;
            mine = subst (Mine g n packet) (sym done_place) (mine_closed g n packet (place_at t at) delivered full_t.mine);
            sized = subst (SizeKnown g packet) (sym done_place) (sized_closed g packet (place_at t at) delivered sized_t);
            is_done = ap (λ (q : Place). q.condition) done_place ∙ condition_closed (place_at t at) delivered;
            alone = alone_now;
          }

    kept_next : Next g n packet es e i
    kept_next =
        record {
          answered =
              record {
                kept = λ c f. let v = waits_now (sym enough_now ∙ f) in ((d, v.answer, only), v.out);
                again = λ c f. clash c new;
                delivered = λ c f.
                    let v = hands_now (sym enough_now ∙ f) in
                    let told = v.answer ∙ ap (λ (x : ℕ). number_of (Ok (Delivered (length packet) x d))) lost_now in
                    (record { displaced = d; told = told; written = v.out }, only);
                late = λ f. clash f before;
              };
          stage =
              either (enough_after g n packet (e ∷ es))
              (λ f. done_at at (done_now_at (sym enough_now ∙ f)) f)
              (λ f. open_at_lem at (subst (λ (came : ℕ → Bool). OpenAt g n packet came (after e) at) (sym came_now)
              (open_now_at (sym enough_now ∙ f))) f);
        }

  -- ---- its number

  key_is : key_of (fields_of e.datagram) ≡ key_for g n
  key_is = brings_number g n packet e i b

  -- what is kept is its fragment
  its_settled : (u : Table) (at : ℕ) (p : Header → Place) (d : Option ℕ)
      → SettledAfter (keep_at u at (p (fields_of e.datagram)) d (fields_of e.datagram) s.bytes (payload_of e.datagram)) e.lent e.left
      → SettledAfter (keep_at u at (p (header_for g n packet i)) d (header_for g n packet i) s.bytes (payload_for g packet i)) e.lent e.left
  its_settled u at p d z =
      subst (λ (l : List ℕ). SettledAfter (keep_at u at (p (header_for g n packet i)) d (header_for g n packet i) s.bytes l) e.lent
      e.left) b.payload
      (subst (λ (h : Header). SettledAfter (keep_at u at (p h) d h s.bytes (payload_of e.datagram)) e.lent e.left) b.fields z)

  refused-answer : (x : ℕ) (y : Refusal) → e.left ≡ refused_as x s.table s.bytes e.lent → x ≡ number y
      → (e.left.answer ≡ number_of (Err y)) × (e.left.out ≡ e.lent)
  unfolding refused_as number_of
  refused-answer x y q is = (ap (λ (z : Reception). z.answer) q ∙ ap (λ (k : ℕ). (k, [])) is, ap (λ (z : Reception). z.out) q)

  -- ---- where nothing of it came

  absent_step : four ≤ held_at s.table (key_for g n) → come (key_for g n) es ≡ (λ j. false) → View e.own s e.datagram e.lent e.left
      → Next g n packet es e i
  absent_step absent none (unheard fault q) = absurd (fault b.passes)
  absent_step absent none (refuses passes low fault q) = absurd (omega (arith, low, absent, ap (held_at s.table) key_is))
  absent_step absent none (keeps passes low fault z) = absurd (omega (arith, low, absent, ap (held_at s.table) key_is))
  absent_step absent none (opens passes high z) =
      kept_next (turned s.table (open_at s.table)) (turned_four s.table (open_at s.table) r.places) (open_at s.table)
      (opened_by (header_for g n packet i))
      (displaced_at s.table (open_at s.table))
      (λ j c. clash c (ap (λ (came : ℕ → Bool). came j) none))
      (subst (λ (came : ℕ → Bool). Full g n packet came (open_at s.table) (opened_by (header_for g n packet i)) s.bytes) (sym none)
      (opened_full g packet takes.passed n i b.below (open_at s.table) s.bytes))
      (λ j k other. held_absent s.table (key_for g n) absent j k)
      (ap (λ (came : ℕ → Bool). came i) none)
      (enough_none g n packet takes es none)
      (wrote_opened e.own s r e.datagram e.lent made.bytes passes e.left _ z)
      (its_settled (turned s.table (open_at s.table)) (open_at s.table) opened_by _ z)

  -- ---- where its place is open

  module _ (at : ℕ) (o : OpenAt g n packet (come (key_for g n) es) s at) (before : enough_after g n packet es ≡ false) where
    at_is : held_at s.table (key_of (fields_of e.datagram)) ≡ at
    at_is = ap (held_at s.table) key_is ∙ open_held g n packet (come (key_for g n) es) s at o

    kept_is : get_or (place_at s.table at).kept i false ≡ come (key_for g n) es i
    kept_is = o.full.kept i b.below

    fault_is : place_fault (place_at s.table (held_at s.table (key_of (fields_of e.datagram)))) (fields_of e.datagram) ≡ place_fault
        (place_at s.table at) (header_for g n packet i)
    fault_is = ap₂ (λ (x : ℕ) (h : Header). place_fault (place_at s.table x) h) at_is b.fields

    new_fault : come (key_for g n) es i ≡ false → place_fault (place_at s.table at) (header_for g n packet i) ≡ 0
    new_fault c = fault_none g n packet takes.passed i (place_at s.table at) o.full.mine o.sized o.full.is_open (kept_is ∙ c)

    old_fault : come (key_for g n) es i ≡ true → place_fault (place_at s.table at) (header_for g n packet i) ≡ 12
    old_fault c = fault_12 g n packet takes.passed i (place_at s.table at) o.full.mine o.sized o.full.is_open (kept_is ∙ c)

    open_step : View e.own s e.datagram e.lent e.left → Next g n packet es e i
    unfolding number
    open_step (unheard fault q) = absurd (fault b.passes)
    open_step (refuses passes low fault q) =
        let old : come (key_for g n) es i ≡ true = either (come (key_for g n) es i) (λ c. c) (λ c. absurd (fault (fault_is ∙ new_fault c))) in
        let same : come (key_for g n) (e ∷ es) ≡ come (key_for g n) es = come_again g n packet e es i b old in
        record {
          answered =
              record {
                kept = λ c f. clash old c;
                again = λ c f. refused-answer _ refusal.Repeat q (fault_is ∙ old_fault old);
                delivered = λ c f. clash f (enough_with g n packet takes (e ∷ es) (come (key_for g n) es) same
                    ∙ sym (enough_is g packet takes.passed n es) ∙ before);
                late = λ f. clash f before;
              };
          stage = moved_stage g n packet takes es s e (after e) same (refused_stage g n packet takes es s e _ q (open_at_lem at o before));
        }
    open_step (keeps passes low fault z) =
        let new : come (key_for g n) es i ≡ false = either (come (key_for g n) es i) (λ c. absurd (omega (arith, fault, fault_is, old_fault c))) (λ c. c) in
        let here : SettledAfter (keep_at s.table at (place_at s.table at) None (fields_of e.datagram) s.bytes
        (payload_of e.datagram)) e.lent e.left =
        subst (λ (x : ℕ). SettledAfter (keep_at s.table x (place_at s.table x) None (fields_of e.datagram) s.bytes
        (payload_of e.datagram)) e.lent e.left) at_is z in
        kept_next s.table r.places at (place_at s.table at) None (λ j c. refl) o.full o.alone new before
        (wrote_held e.own s r e.datagram e.lent made.bytes passes e.left at (sym at_is) o.low
        (ap (λ (x : ℕ). place_fault (place_at s.table x) (fields_of e.datagram)) (sym at_is) ∙ fault) here)
        (its_settled s.table at (λ h. place_at s.table at) None here)
    open_step (opens passes high z) = absurd (omega (arith, high, at_is, o.low))

  -- ---- where it was handed out

  module _ (at : ℕ) (o : DoneAt g n packet s at) (yet : enough_after g n packet es ≡ true) where
    done_at_is : held_at s.table (key_of (fields_of e.datagram)) ≡ at
    done_at_is = ap (held_at s.table) key_is ∙ done_held g n packet s at o

    done_fault : place_fault (place_at s.table (held_at s.table (key_of (fields_of e.datagram)))) (fields_of e.datagram) ≡ 11
    done_fault =
        ap₂ (λ (x : ℕ) (h : Header). place_fault (place_at s.table x) h) done_at_is b.fields
        ∙ fault_11 g n packet takes.passed i (place_at s.table at) o.mine o.sized o.is_done

    -- what sufficed still does
    still : enough_after g n packet (e ∷ es) ≡ true
    unfolding suffices
    still =
        enough_now
        ∙ enough_more (λ j. not (more j)) (lost (key_for g n) es) (count g packet) (λ j z. not_more (eqb i j) (come (key_for g n) es j) z) g.fec _ _
        (sym (enough_is g packet takes.passed n es) ∙ yet)

    done_step : View e.own s e.datagram e.lent e.left → Next g n packet es e i
    unfolding refused_as number
    done_step (unheard fault q) = absurd (fault b.passes)
    done_step (refuses passes low fault q) =
        record {
          answered =
              record {
                kept = λ c f. clash still f;
                again = λ c f. clash yet f;
                delivered = λ c f. clash yet c;
                late = λ f. refused-answer _ refusal.Late q done_fault;
              };
          stage = done_at at (subst (λ (y : Reception). DoneAt g n packet (left_by_call y) at) (sym q) o) still;
        }
    done_step (keeps passes low fault z) = absurd (omega (arith, fault, done_fault))
    done_step (opens passes high z) = absurd (omega (arith, high, done_at_is, o.low))

  -- at whatever stage the packet is, fragment i is answered as promised and leads to the next stage
  pub own_step : Stage g n packet es s → Next g n packet es e i
  own_step (not_yet absent none) = absent_step absent none (see r made)
  own_step (open_at_lem at o before) = open_step at o before (see r made)
  own_step (done_at at o yet) = done_step at o yet (see r made)
