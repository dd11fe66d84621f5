-- Where at most three other numbers come, the packet's place is not displaced. Assumes nothing.
use mathlib.Core.Logic.{◌⊎◌, inl, inr}
use mathlib.Core.Path.{◌≡◌, refl, sym, ap, ◌∙◌, subst}
use mathlib.Core.Bool.{Bool, true, cond, ◌||◌}
use mathlib.Core.List.{List, [], ◌∷◌}
use Prim.Native.Nat.{ℕ, suc, ◌+◌, ◌%◌, ◌≤◌, ◌<◌}
use native.Mathlib.Omega.{arith}
use borrow.Author.Tests.{eqb-true, ne_eqb, eq-eqb}
use lib.Dec.{eqb}
use lib.ListN.{length}
use Rattle.base_rules.specs.Tests.{among}
use Rattle.base_rules.proofs.Logic.{either, clash}
use Rattle.header_rules.specs.declared.Header.{Header}
use Rattle.places_rules.specs.declared.Place.{Place}
use Rattle.places_rules.specs.declared.Table.{Table}
use Rattle.places_rules.specs.Places.{four, place_at, key_in, key_of, holds, held_at, open_at, turned}
use Rattle.places_rules.specs.Claims.{Opened}
use Rattle.places_rules.proofs.Proved.{opens_in_turn}
use Rattle.receiver_rules.specs.Promise.{Reception, refused_as, State}
use Rattle.link.specs.Run.{Call, after, Made, Run, start, next, Reached, Holds, heard, number_in, All}
use Rattle.link.specs.Demand.{Among, Begins}
use Rattle.link.proofs.Basic.{same_or_not, held_found, held_some, holds_yes, holds_number, holds_some}
use Rattle.link.proofs.View.{Good, View, unheard, refuses, keeps, opens}
use Rattle.link.proofs.Frame.{left_by_call, Wrote, wrote_held, wrote_opened, see, good_run, good_reached}
use Rattle.link.proofs.Ring.{ring_kept, ring_opened, goes-round}

-- ---- what stays held

module _ {s : State} {u : Table} {h : Header} {j : ℕ} {y : Reception} (w : Wrote s u h j y) where
  -- the fragment's own number, in place j
  holds_now : holds (place_at y.table j) (key_of h) ≡ true
  holds_now = ap (λ (p : Place). holds p (key_of h)) w.here ∙ holds_yes w.place_now (key_of h) w.some w.number

  -- and what was held, where place j had that number
  holds_still : (k n : ℕ) → (k ≡ j → key_in (place_at s.table j) ≡ key_of h) → holds (place_at s.table k) n ≡ true
      → holds (place_at y.table k) n ≡ true
  holds_still k n same e =
      same_or_not k j
      (λ q.
      let is : key_of h ≡ n = sym (same q) ∙ holds_number _ n (sym (ap (λ (i : ℕ). holds (place_at s.table i) n) q) ∙ e) in
      ap (λ (i : ℕ). holds (place_at y.table i) n) q ∙ ap (holds (place_at y.table j)) (sym is) ∙ holds_now)
      (λ q. ap (λ (p : Place). holds p n) (w.others k q) ∙ e)

-- ---- a list without a number

without : ℕ → List ℕ → List ℕ
without n [] = []
without n (m ∷ ms) = cond (eqb m n) ms (m ∷ without n ms)

without_less : (n : ℕ) (ms : List ℕ) → among n ms ≡ true → suc (length (without n ms)) ≡ length ms
unfolding among without
without_less n [] e = clash e refl
without_less n (m ∷ ms) e =
    either (eqb m n)
    (λ q. ap (λ (b : Bool). suc (length (cond b ms (m ∷ without n ms)))) q)
    (λ q. ap (λ (b : Bool). suc (length (cond b ms (m ∷ without n ms)))) q
    ∙ ap suc (without_less n ms (sym (ap (λ (b : Bool). b || among n ms) q) ∙ e)))

without_keeps : (n k : ℕ) (ms : List ℕ) → (k ≡ n → ⊥) → among k ms ≡ true → among k (without n ms) ≡ true
unfolding among without
without_keeps n k [] d e = e
without_keeps n k (m ∷ ms) d e =
    either (eqb m n)
    (λ q.
    ap (λ (b : Bool). among k (cond b ms (m ∷ without n ms))) q
    ∙ sym (ap (λ (b : Bool). b || among k ms) (ne_eqb m k (λ z. d (sym z ∙ eqb-true m n q)))) ∙ e)
    (λ q.
    ap (λ (b : Bool). among k (cond b ms (m ∷ without n ms))) q
    ∙ either (eqb m k)
    (λ z. ap (λ (b : Bool). b || among k (without n ms)) z)
    (λ z. ap (λ (b : Bool). b || among k (without n ms)) z ∙ without_keeps n k ms d (sym (ap (λ (b : Bool). b || among k ms) z) ∙ e)))

-- ---- the packet of number n was opened by opening m, and since then others opened, each once

-- the number k was held by opening a since then
abbrev Since : ℕ → ℕ → State → ℕ → Type 0
Since m since s k = (a : ℕ) × (a < since) × (holds (place_at s.table ((m + 1 + a) % four)) k ≡ true)

record Three (n m : ℕ) (others : List ℕ) (s : State) : Type 0 where
  pub since : ℕ
  pub left : List ℕ
  pub ring : Opened (m + 1 + since) s.table
  pub few : since + length left ≤ 3
  pub its : holds (place_at s.table (m % four)) n ≡ true
  pub each : (k : ℕ) → among k others ≡ true → (among k left ≡ true) ⊎ Since m since s k

three_held : (n m : ℕ) (others : List ℕ) (s : State) → Three n m others s → Holds s n
three_held n m others s r = held_some s.table n (m % four) (omega arith) r.its

module _ {n m : ℕ} {others : List ℕ} {s : State} (r : Three n m others s) {h : Header} {y : Reception} where
  three_kept : {j : ℕ} → Wrote s s.table h j y → holds (place_at s.table j) (key_of h) ≡ true → Three n m others (left_by_call y)
  three_kept w held =
      record {
        since = r.since;
        left = r.left;
        ring = ring_kept (m + 1 + r.since) r.ring w (holds_some _ _ held);
        few = r.few;
        its = holds_still w (m % four) n (λ q. holds_number _ _ held) r.its;
        each = λ k a. keep k (r.each k a);
      }
    where
      keep : (k : ℕ) → (among k r.left ≡ true) ⊎ Since m r.since s k → (among k r.left ≡ true) ⊎ Since m r.since (left_by_call y) k
      keep k (inl a) = inl a
      keep k (inr (a, b, c)) = inr (a, b, holds_still w ((m + 1 + a) % four) k (λ q. holds_number _ _ held) c)

  module _ (w : Wrote s (turned s.table (open_at s.table)) h (open_at s.table) y) (new : four ≤ held_at s.table (key_of h))
      (one : among (key_of h) others ≡ true) where
    is_left_lem : among (key_of h) r.left ≡ true
    is_left_lem = pick (r.each (key_of h) one)
      where
        pick : (among (key_of h) r.left ≡ true) ⊎ Since m r.since s (key_of h) → among (key_of h) r.left ≡ true
        pick (inl a) = a
        pick (inr (a, b, c)) = absurd (omega (arith, new, held_some s.table (key_of h) ((m + 1 + a) % four) (omega arith) c))

    less : suc (length (without (key_of h) r.left)) ≡ length r.left
    less = without_less (key_of h) r.left is_left_lem

    turn : open_at s.table ≡ (m + 1 + r.since) % four
    turn = opens_in_turn (m + 1 + r.since) s.table r.ring

    three_opened : Three n m others (left_by_call y)
    three_opened =
        record {
          since = r.since + 1;
          left = without (key_of h) r.left;
          ring = subst (λ (k : ℕ). Opened k y.table) (omega arith) (ring_opened (m + 1 + r.since) r.ring w);
          few = omega (arith, r.few, less);
          its = holds_still w (m % four) n (λ q. absurd (omega (arith, turn, less, r.few))) r.its;
          each = λ k a. keep k (r.each k a);
        }
      where
        keep : (k : ℕ) → (among k r.left ≡ true) ⊎ Since m r.since s k
            → (among k (without (key_of h) r.left) ≡ true) ⊎ Since m (r.since + 1) (left_by_call y) k
        keep k (inl a) =
            same_or_not k (key_of h)
            (λ q. inr (
              r.since,
              omega arith,
              ap (λ (i : ℕ). holds (place_at y.table i) k) (sym turn)
                  ∙ ap (holds (place_at y.table (open_at s.table))) q ∙ holds_now w,
            ))
            (λ q. inl (without_keeps (key_of h) k r.left q a))
        keep k (inr (a, b, c)) = inr (a, omega arith, holds_still w ((m + 1 + a) % four) k (λ q. absurd (omega (arith, turn, less, r.few))) c)

-- ---- runs

-- opening it
three_first : {n m : ℕ} {others : List ℕ} {s : State} {h : Header} {y : Reception} → length others ≤ 3 → Opened m s.table → key_of h ≡ n
    → Wrote s (turned s.table (open_at s.table)) h (open_at s.table) y → Three n m others (left_by_call y)
three_first {n} {m} {others} {s} {h} {y} few ring is_n w =
    record {
      since = 0;
      left = others;
      ring = subst (λ (k : ℕ). Opened k y.table) (omega arith) (ring_opened m ring w);
      few = omega arith;
      its = ap (λ (i : ℕ). holds (place_at y.table i) n) (sym (opens_in_turn m s.table ring))
          ∙ ap (holds (place_at y.table (open_at s.table))) (sym is_n) ∙ holds_now w;
      each = λ k a. inl a;
    }

module _ (n m : ℕ) (others : List ℕ) {s : State} {e : Call} (good : Good s) (made : Made s e) where
  first_view : length others ≤ 3 → Opened m s.table → four ≤ held_at s.table n → (heard e ≡ true) × (number_in e ≡ n)
      → View e.own s e.datagram e.lent e.left → Three n m others (after e)
  unfolding key_of
  first_view few ring absent begins (unheard f q) = absurd (f (eqb-true _ _ begins.0))
  first_view few ring absent begins (refuses passed low f q) = absurd (omega (arith, low, absent, ap (held_at s.table) begins.1))
  first_view few ring absent begins (keeps passed low f z) = absurd (omega (arith, low, absent, ap (held_at s.table) begins.1))
  first_view few ring absent begins (opens passed high z) =
      three_first few ring begins.1 (wrote_opened e.own s good e.datagram e.lent made.bytes passed e.left _ z)

  next_view : Three n m others s → Among n others e → View e.own s e.datagram e.lent e.left → Three n m others (after e)
  unfolding refused_as key_of Among
  next_view r am (unheard f q) = subst (λ (y : Reception). Three n m others (left_by_call y)) (sym q) r
  next_view r am (refuses passed low f q) = subst (λ (y : Reception). Three n m others (left_by_call y)) (sym q) r
  next_view r am (keeps passed low f z) =
      three_kept r (wrote_held e.own s good e.datagram e.lent made.bytes passed e.left _ refl low f z) (held_found s.table _ low)
  next_view r am (opens passed high z) =
      three_opened r (wrote_opened e.own s good e.datagram e.lent made.bytes passed e.left _ z) high
      (am (eq-eqb _ _ passed) (λ q. omega (arith, high, three_held n m others s r, ap (held_at s.table) q)))

module _ (n m : ℕ) (others : List ℕ) (few : length others ≤ 3) (s₀ : State) (good : Good s₀) (ring : Opened m s₀.table)
    (absent : four ≤ held_at s₀.table n) where
  three_run : {e : Call} {es : List Call} {s : State} → Run s₀ (e ∷ es) s → Begins n (e ∷ es) → All (Among n others) (e ∷ es)
      → Three n m others s × All (λ e. Holds (after e) n) (e ∷ es)
  unfolding All Begins
  three_run (next e start made) b am =
      let t = first_view n m others good made few ring absent b (see good made) in
      (t, (three_held n m others (after e) t, tt))
  three_run (next e (next d run made') made) b am =
      let before = three_run (next d run made') b am.1 in
      let g = good_run good (next d run made') in
      let t = next_view n m others g made before.0 am.0 (see g made) in
      (t, (three_held n m others (after e) t, before.1))

-- where at most three other numbers come, the number is held after every call
pub stays : (n : ℕ) (others : List ℕ) → length others ≤ 3 → (first : State) → Reached first → four ≤ held_at first.table n
    → (es : List Call) (now : State) → Run first es now → Begins n es → All (Among n others) es → All (λ e. Holds (after e) n) es
unfolding All
stays n others few first c absent [] now run b am = tt
stays n others few first c absent (e ∷ es) now run b am =
    let ring = goes-round first c in
    (three_run n ring.0 others few first (good_reached c) ring.1 absent run b am).1
