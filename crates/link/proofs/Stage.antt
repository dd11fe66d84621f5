-- One call: how the packet stands after it, and what its own fragment is answered. Assumes nothing.
use mathlib.Core.Logic.{◌⊎◌, inl, inr}
use mathlib.Core.Path.{◌≡◌, refl, sym, ap, ◌∙◌, subst}
use mathlib.Core.Bool.{Bool, true, false, cond}
use mathlib.Core.List.{List, ◌∷◌}
use Prim.Native.Nat.{ℕ, ◌+◌, ◌*◌, ◌≤◌, ◌<◌}
use native.Mathlib.Omega.{arith}
use borrow.Author.Tests.{eq-eqb, ne_eqb}
use lib.ListN.{length}
use Rattle.std.specs.Prelude.{Option, Some, None}
use Rattle.base_rules.specs.Bounds.{place}
use Rattle.base_rules.proofs.Logic.{clash}
use Rattle.cut_rules.specs.declared.Settings.{Settings}
use Rattle.header_rules.specs.declared.Header.{Header}
use Rattle.header_rules.specs.Read.{fields_of}
use Rattle.places_rules.specs.declared.Place.{Place}
use Rattle.places_rules.specs.declared.Table.{Table}
use Rattle.places_rules.specs.Places.{four, open_now, delivered, place_at, key_of, key_in, holds, held_at, open_at, displaced_at, turned, in_condition}
use Rattle.places_rules.proofs.Keys.{key-closed}
use Rattle.receiver_rules.specs.Promise.{Reception, reception, refused_as, State, keep_at, Settled, waits, delivers, damaged}
use Rattle.sender_rules.specs.Fragments.{payload_for}
use Rattle.link.specs.Run.{Call, after, Made, Holds, number_in, come}
use Rattle.link.specs.Demand.{Takes, key_for, enough_after, Names, by_kept, by_delivered, by_damaged}
use Rattle.link.specs.Steps.{DisplacedBy}
use Rattle.link.proofs.Basic.{same_or_not, held_found, held_absent, held_none, held_only, holds_yes, holds_number, holds_other}
use Rattle.link.proofs.View.{Good, View, unheard, refuses, keeps, opens}
use Rattle.link.proofs.Frame.{left_by_call, Wrote, wrote_held, wrote_opened, Spared, wrote_spares, wrote_strange, see}
use Rattle.link.proofs.Enough.{suffices, enough_is, begins}
use Rattle.link.proofs.Own.{offset, Mine, Full, SizeKnown, inside}
use Rattle.link.proofs.Heard.{Foreign, come_foreign}

-- ---- how the packet stands

-- no place but i holds the number
abbrev pub Alone : ℕ → Table → ℕ → Type 0
Alone n t i = (j : ℕ) → j < four → (j ≡ i → ⊥) → holds (place_at t j) n ≡ false

-- its place is open and holds what came, which is not nothing
pub record OpenAt (g : Settings) (n : ℕ) (packet : List ℕ) (came : ℕ → Bool) (s : State) (i : ℕ) : Type 0 where
  pub low : i < four
  pub some : came ≡ (λ j. false) → ⊥
  pub full : Full g n packet came i (place_at s.table i) s.bytes
  pub sized : SizeKnown g packet (place_at s.table i)
  pub alone : Alone (key_for g n) s.table i

-- it was handed out from its place
pub record DoneAt (g : Settings) (n : ℕ) (packet : List ℕ) (s : State) (i : ℕ) : Type 0 where
  pub low : i < four
  pub mine : Mine g n packet (place_at s.table i)
  pub sized : SizeKnown g packet (place_at s.table i)
  pub is_done : (place_at s.table i).condition ≡ delivered
  pub alone : Alone (key_for g n) s.table i

-- after these calls: nothing of it came, it is open, or it is done
pub data Stage (g : Settings) (n : ℕ) (packet : List ℕ) (es : List Call) (s : State) : Type 0 where
  not_yet : four ≤ held_at s.table (key_for g n) → come (key_for g n) es ≡ (λ i. false) → Stage g n packet es s
  open_at_lem : (i : ℕ) → OpenAt g n packet (come (key_for g n) es) s i → enough_after g n packet es ≡ false → Stage g n packet es s
  done_at : (i : ℕ) → DoneAt g n packet s i → enough_after g n packet es ≡ true → Stage g n packet es s

-- or the call e displaced it
pub record Gone (g : Settings) (n : ℕ) (packet : List ℕ) (es : List Call) (e : Call) : Type 0 where
  pub gone : Holds (after e) (key_for g n) → ⊥
  pub by : DisplacedBy g n packet es e

-- ---- it is held there

-- while its place is open, the number is held there
pub open_held : (g : Settings) (n : ℕ) (packet : List ℕ) (came : ℕ → Bool) (s : State) (i : ℕ) → OpenAt g n packet came s i → held_at s.table (key_for g n) ≡ i
open_held g n packet came s i o =
    held_only s.table (key_for g n) i o.low (holds_yes _ _ (λ z. omega (arith, o.full.is_open)) o.full.mine.number) o.alone

-- so it is once the packet was handed out
pub done_held : (g : Settings) (n : ℕ) (packet : List ℕ) (s : State) (i : ℕ) → DoneAt g n packet s i → held_at s.table (key_for g n) ≡ i
done_held g n packet s i o =
    held_only s.table (key_for g n) i o.low (holds_yes _ _ (λ z. omega (arith, o.is_done)) o.mine.number) o.alone

-- ---- laws of a place and of an answer

-- a place in another condition still has the figures of the packet
pub mine_closed : (g : Settings) (n : ℕ) (packet : List ℕ) (p : Place) (c : ℕ) → Mine g n packet p → Mine g n packet (in_condition p c)
unfolding in_condition
mine_closed g n packet p c m = record {
  number = key-closed p c ∙ m.number;
  count = m.count;
  fec = m.fec;
  rsk = m.rsk;
  rsz = m.rsz;
  size = m.size;
  last =
      m.last;
}

-- and the size, where it was known
pub sized_closed : (g : Settings) (packet : List ℕ) (p : Place) (c : ℕ) → SizeKnown g packet p → SizeKnown g packet (in_condition p c)
unfolding in_condition SizeKnown
sized_closed g packet p c m = m

-- a place that is put in a condition is in it
pub condition_closed : (p : Place) (c : ℕ) → (in_condition p c).condition ≡ c
unfolding in_condition
condition_closed p c = refl

-- however it settles, the answer names the displaced number
pub settled_names : {t : Table} {j : ℕ} {d : Option ℕ} {b o : List ℕ} {y : Reception} → Settled t j d b o y → Names d y.answer
unfolding reception
settled_names (waits e) = by_kept
settled_names (delivers P e a) = by_delivered _ _
settled_names (damaged e a) = by_damaged

displaced_open : (t : Table) (i n : ℕ) → (place_at t i).condition ≡ open_now → key_in (place_at t i) ≡ n → displaced_at t i ≡ Some n
unfolding displaced_at
displaced_open t i n c e = ap (λ (v : Bool). cond v (Some (key_in (place_at t i))) None) (eq-eqb _ _ c) ∙ ap (λ (k : ℕ). Some k) e

displaced_done : (t : Table) (i : ℕ) → (place_at t i).condition ≡ delivered → displaced_at t i ≡ None
unfolding displaced_at
displaced_done t i c = ap (λ (v : Bool). cond v (Some (key_in (place_at t i))) None) (ne_eqb (place_at t i).condition open_now (λ z. omega arith))

module _ (g : Settings) (n : ℕ) (packet : List ℕ) (takes : Takes g n packet) where
  -- it is enough after the calls just where the fragments that came in them suffice
  pub enough_with : (es : List Call) (came : ℕ → Bool) → come (key_for g n) es ≡ came → enough_after g n packet es ≡ suffices g packet came
  enough_with es came e = enough_is g packet takes.passed n es ∙ ap (suffices g packet) e

  -- where none of its fragments came it is not enough
  pub enough_none : (es : List Call) → come (key_for g n) es ≡ (λ i. false) → enough_after g n packet es ≡ false
  enough_none es e = enough_with es (λ i. false) e ∙ begins g packet takes.passed

  -- ---- a call that spares the place

  module _ (s : State) (i : ℕ) (y : Reception) (spared : Spared s i y) (alone : Alone (key_for g n) y.table i) where
    open_spared : (came : ℕ → Bool) → OpenAt g n packet came s i → OpenAt g n packet came (left_by_call y) i
    open_spared came o =
        record {
          low = o.low;
          some = o.some;
          full = subst (λ (p : Place). Full g n packet came i p y.bytes) (sym spared.kept-place) moved;
          sized = subst (SizeKnown g packet) (sym spared.kept-place) o.sized;
          alone = alone;
        }
      where
        moved : Full g n packet came i (place_at s.table i) y.bytes
        moved =
            record {
              mine = o.full.mine;
              is_open = o.full.is_open;
              marks = o.full.marks;
              kept = o.full.kept;
              size_known = o.full.size_known;
              last_known = o.full.last_known;
              bytes = λ j k f.
                  spared.kept-bytes (i * place + offset g packet j) (length (payload_for g packet j)) (omega arith)
                  (omega (arith, inside g packet takes.passed j k))
                  ∙ o.full.bytes j k f;
            }

    done_spared : DoneAt g n packet s i → DoneAt g n packet (left_by_call y) i
    done_spared o =
        record {
          low = o.low;
          mine = subst (Mine g n packet) (sym spared.kept-place) o.mine;
          sized = subst (SizeKnown g packet) (sym spared.kept-place) o.sized;
          is_done = ap (λ (p : Place). p.condition) spared.kept-place ∙ o.is_done;
          alone = alone;
        }

  -- ---- a foreign call

  module _ (es : List Call) (s : State) (e : Call) where
    -- where nothing more came
    pub moved_stage : (u : State) → come (key_for g n) (e ∷ es) ≡ come (key_for g n) es → Stage g n packet es u → Stage g n packet (e ∷ es) u
    moved_stage u c (not_yet a none) = not_yet a (c ∙ none)
    moved_stage u c (open_at_lem i o z) =
        open_at_lem i (subst (λ (came : ℕ → Bool). OpenAt g n packet came u i) (sym c) o)
        (enough_with (e ∷ es) (come (key_for g n) es) c ∙ sym (enough_is g packet takes.passed n es) ∙ z)
    moved_stage u c (done_at i o z) = done_at i o (enough_with (e ∷ es) (come (key_for g n) es) c ∙ sym (enough_is g packet takes.passed n es) ∙ z)

    -- a refusal leaves all as it was
    pub refused_stage : (x : ℕ) → e.left ≡ refused_as x s.table s.bytes e.lent → Stage g n packet es s
        → Stage g n packet es (after e)
    unfolding refused_as
    refused_stage x q st = subst (λ (y : Reception). Stage g n packet es (left_by_call y)) (sym q) st

    -- a fragment of another number is kept in place j; it is the packet's own only where it displaces it
    module _ (u : Table) (h : Header) (j : ℕ) (other : key_of h ≡ key_for g n → ⊥) (w : Wrote s u h j e.left)
        (names : (i : ℕ) → key_in (place_at s.table i) ≡ key_for g n → i ≡ j → Names (displaced_at s.table i) e.left.answer) where
      still_alone : (i : ℕ) → Alone (key_for g n) s.table i → Alone (key_for g n) e.left.table i
      still_alone i alone k a b = wrote_strange w (key_for g n) other k (alone k a b)

      gone_from : (i : ℕ) → Alone (key_for g n) s.table i → i ≡ j → Holds (after e) (key_for g n) → ⊥
      gone_from i alone q held =
          let none : four ≤ held_at e.left.table (key_for g n) =
          held_none e.left.table (key_for g n)
          (λ k a.
          same_or_not k i
          (λ z.
          ap (λ (x : ℕ). holds (place_at e.left.table x) (key_for g n)) (z ∙ q) ∙ ap (λ (p : Place). holds p (key_for g n)) w.here
          ∙ holds_other w.place_now (key_for g n) (λ is. other (sym w.number ∙ is)))
          (λ z. still_alone i alone k a z)) in
          omega (arith, none, held)

      wrote_stage : Stage g n packet es s → Stage g n packet es (after e) ⊎ Gone g n packet es e
      wrote_stage (not_yet absent none) =
          inl (not_yet (held_none e.left.table (key_for g n)
          (λ k a. wrote_strange w (key_for g n) other k (held_absent s.table (key_for g n) absent k a))) none)
      wrote_stage (open_at_lem i o z) =
          same_or_not i j
          (λ q.
          inr (record {
            gone = gone_from i o.alone q;
            by = record {
              named = λ f.
                  subst (λ (d : Option ℕ). Names d e.left.answer) (displaced_open s.table i (key_for g n) o.full.is_open o.full.mine.number)
                  (names i o.full.mine.number q);
              silent = λ f. clash f z;
            };
          }))
          (λ q. inl (open_at_lem i (open_spared s i e.left (wrote_spares w i q) (still_alone i o.alone) (come (key_for g n) es) o) z))
      wrote_stage (done_at i o z) =
          same_or_not i j
          (λ q.
          inr (record {
            gone = gone_from i o.alone q;
            by = record {
              named = λ f. clash z f;
              silent = λ f.
                  subst (λ (d : Option ℕ). Names d e.left.answer) (displaced_done s.table i o.is_done) (names i o.mine.number q);
            };
          }))
          (λ q. inl (done_at i (done_spared s i e.left (wrote_spares w i q) (still_alone i o.alone) o) z))

    module _ (foreign : Foreign (key_for g n) e) where
      same_came : Stage g n packet es (after e) ⊎ Gone g n packet es e → Stage g n packet (e ∷ es) (after e) ⊎ Gone g n packet es e
      same_came (inl st) = inl (moved_stage (after e) (come_foreign (key_for g n) e es foreign) st)
      same_came (inr x) = inr x

      -- a foreign call leaves the packet at its stage, or displaces it
      pub foreign_step : Good s → Made s e → Stage g n packet es s → Stage g n packet (e ∷ es) (after e) ⊎ Gone g n packet es e
      unfolding keep_at
      foreign_step r made st = go (see r made)
        where
          go : View e.own s e.datagram e.lent e.left → Stage g n packet (e ∷ es) (after e) ⊎ Gone g n packet es e
          go (unheard fault q) = same_came (inl (refused_stage _ q st))
          go (refuses passes low fault q) = same_came (inl (refused_stage _ q st))
          go (keeps passes low fault z) =
              same_came
              (wrote_stage s.table (fields_of e.datagram) (held_at s.table (number_in e)) (foreign passes)
              (wrote_held e.own s r e.datagram e.lent made.bytes passes e.left _ refl low fault z)
              (λ i is q.
              absurd (foreign passes (sym (holds_number _ _ (held_found s.table (number_in e) low))
              ∙ ap (λ (x : ℕ). key_in (place_at s.table x)) (sym q) ∙ is)))
              st)
          go (opens passes high z) =
              same_came
              (wrote_stage (turned s.table (open_at s.table)) (fields_of e.datagram) (open_at s.table) (foreign passes)
              (wrote_opened e.own s r e.datagram e.lent made.bytes passes e.left _ z)
              (λ i is q. subst (λ (x : ℕ). Names (displaced_at s.table x) e.left.answer) (sym q) (settled_names z))
              st)
