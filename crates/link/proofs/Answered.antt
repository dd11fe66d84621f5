-- What each line of a run is answered, by T2 for the number of the line and for the one that it displaces. Assumes nothing.
use mathlib.Core.Path.{◌≡◌, refl, sym, ap, ◌∙◌, subst}
use mathlib.Core.Bool.{Bool, true, false, not, cond, ◌&&◌, ◌||◌}
use mathlib.Core.List.{List, [], ◌∷◌, map}
use Prim.Native.Nat.{ℕ, ◌%◌, ◌≤◌, ◌<◌}
use native.Mathlib.Omega.{arith}
use borrow.Author.Tests.{eqb-false, ne_eqb, ltb-true, not-true}
use lib.Dec.{ltb}
use lib.ListN.{length, get_or, take}
use Rattle.std.specs.Prelude.{Option, Some, None, Result, Ok, Err}
use Rattle.base_rules.specs.declared.Refusal.{Refusal}
use Rattle.base_rules.specs.declared.Refusal.TheVariants as refusal
use Rattle.base_rules.specs.Refusal.{number, refusal_of}
use Rattle.base_rules.proofs.Refusals.{named_is}
use Rattle.base_rules.proofs.Logic.{either, and_left, and_right}
use Rattle.header_rules.specs.Read.{fault_of}
use Rattle.header_rules.proofs.Numbers.{fault_named}
use Rattle.places_rules.specs.declared.Table.{Table}
use Rattle.places_rules.specs.Places.{four, free, open_now, place_at, key_in, key_of, held_at, open_at, displaced_at, all_places}
use Rattle.places_rules.proofs.Proved.{opens_in_turn}
use Rattle.receiver_rules.specs.declared.Received.{Received}
use Rattle.receiver_rules.specs.declared.Received.TheVariants.{Kept, Delivered, Damaged}
use Rattle.receiver_rules.specs.Promise.{displaced_values, number_of, Reception, refused_as, State, keep_at}
use Rattle.receiver_rules.proofs.Proved.{one_received}
use Rattle.link.specs.Run.{Call, Made, Run, start, next, fresh_with, Holds, number_in, come}
use Rattle.link.specs.Demand.{key_for, Names, by_kept, by_delivered, by_damaged, enough_after}
use Rattle.link.specs.Steps.{Answered, DisplacedBy}
use Rattle.link.specs.Examples.{settings_of, packet_under, datagram_at, packet_at, Line, out_after, Answers, Beside, none, one_more}
use Rattle.link.proofs.View.{View, unheard, refuses, keeps, opens}
use Rattle.link.proofs.Frame.{see, good_run, good_fresh}
use Rattle.link.proofs.Stage.{settled_names}
use Rattle.link.proofs.Turns.{lately, stands_held}
use Rattle.link.proofs.Packets.{size_under, sent_size, its_key}
use Rattle.link.proofs.Brings.{fault_at, hears, number_at, index_at, Kind, fault_is, index_below, number_below, matches}
use Rattle.link.proofs.Brings.{heard_fragment, number_is, own_is}
use Rattle.link.proofs.Arrivals.{or_false, Kinds, beside_take, came, missed, enough_in, come-key, lost_is, enough_told}
use Rattle.link.proofs.Threads.{turns, since, some_since, stand, free_now, promised}

-- ---- the answer that the lines tell

-- the lines since which the number n is held
abbrev thread : ℕ → List Line → List Line
thread n ls = take (since n ls) ls

-- the number that is displaced by the next one that opens a place, if all four are taken
abbrev oldest : List Line → ℕ
oldest ls = get_or (turns ls) 3 0

-- what is named as displaced where n opens a place: none if one was free, and none if the oldest was handed out
unfoldable pub displaced_in : List Line → Option ℕ
displaced_in ls = cond (ltb (length (turns ls)) four) None (cond (enough_in (oldest ls) (thread (oldest ls) ls)) None (Some (oldest ls)))

-- and where n comes: none if it is held
unfoldable pub displaced_by : ℕ → List Line → Option ℕ
displaced_by n ls = cond (lately n (turns ls)) None (displaced_in ls)

-- what is answered where a fragment is kept, the last of these lines
unfoldable pub settles : ℕ → List Line → Option ℕ → Result Received Refusal
settles n ls d = cond (enough_in n ls) (Ok (Delivered (size_under n) (missed n ls) d)) (Ok (Kept d))

-- what is answered to a fragment of n that is heard
unfoldable pub answer_of : ℕ → Line → List Line → Result Received Refusal
answer_of n l ls =
    cond (enough_in n (thread n ls)) (Err refusal.Late)
    (cond (came n (thread n ls) (index_at l.0)) (Err refusal.Repeat) (settles n (l ∷ thread n ls) (displaced_by n ls)))

-- what is answered to a line after these
unfoldable pub answer_to : Line → List Line → Result Received Refusal
answer_to l ls = cond (hears l.0) (answer_of (number_at l.0) l ls) (Err (refusal_of (fault_at l.0)))

-- what is answered to each
unfoldable pub answers_to : List Line → List (Result Received Refusal)
answers_to [] = []
answers_to (l ∷ ls) = answer_to l ls ∷ answers_to ls

-- the line opens no place, or a free one,
abbrev spares : Line → List Line → Bool
spares l ls = not (hears l.0) || (lately (number_at l.0) (turns ls) || ltb (length (turns ls)) four)

-- or just the oldest is held before it and not after it
unfoldable pub turns_out : Line → List Line → Bool
turns_out l ls = spares l ls || (lately (oldest ls) (turns ls) && (ltb (oldest ls) 65536 && not (lately (oldest ls) (turns (l ∷ ls)))))

-- ---- answers that name a displaced number

-- what an answer names
unfoldable named_by : Result Received Refusal → Option ℕ
named_by (Ok (Kept d)) = d
named_by (Ok (Delivered l m d)) = d
named_by (Ok (Damaged d)) = d
named_by (Err n) = None

names_what : {d : Option ℕ} {x : ℕ × List ℕ} → Names d x → (r : Result Received Refusal) × (number_of r ≡ x) × (named_by r ≡ d)
unfolding named_by
names_what {d} by_kept = (Ok (Kept d), refl, refl)
names_what {d} (by_delivered l m) = (Ok (Delivered l m d), refl, refl)
names_what {d} by_damaged = (Ok (Damaged d), refl, refl)

-- no answer names two
names_one : {d d' : Option ℕ} {x : ℕ × List ℕ} → Names d x → Names d' x → d ≡ d'
names_one p q =
    let a = names_what p in
    let b = names_what q in
    sym a.2 ∙ ap named_by (one_received a.0 b.0 (a.1 ∙ sym b.1)) ∙ b.2

-- a displaced number has values, also where there is none
some_values : (d : Option ℕ) → length (displaced_values d) ≡ 0 → ⊥
unfolding displaced_values
some_values None e = omega (arith, e)
some_values (Some n) e = omega (arith, e)

-- a refusal names none
names_not_refused : (n : ℕ) {d : Option ℕ} {x : ℕ × List ℕ} → Names d x → x ≡ (n, []) → ⊥
unfolding number_of
names_not_refused n {d} by_kept e = some_values d (ap (λ (a : ℕ × List ℕ). length a.1) e)
names_not_refused n {d} (by_delivered l m) e =
    let z : ◌≡◌ {A = ℕ} (length (l ∷ m ∷ displaced_values d)) 0 = ap (λ (a : ℕ × List ℕ). length a.1) e in omega arith
names_not_refused n {d} by_damaged e = some_values d (ap (λ (a : ℕ × List ℕ). length a.1) e)

-- ---- one call

delivered-same : {l l' m m' : ℕ} {d d' : Option ℕ} → l ≡ l' → m ≡ m' → d ≡ d' → number_of (Ok (Delivered l m d)) ≡ number_of (Ok (Delivered l' m' d'))
delivered-same p q r = cc

module _ {lent : List ℕ} (all : length lent ≡ all_places) {ls : List Line} {es : List Call} {s : State} (run : Run (fresh_with lent) es s)
    (ks : Kinds ls es) (l : Line) {e : Call} (made : Made s e) (k : Kind l.0 e) where
  seen : View e.own s e.datagram e.lent e.left
  seen = see (good_run (good_fresh lent all) run) made

  -- it is refused by its header
  unheard_answer : hears l.0 ≡ false → (e.left.answer ≡ number_of (Err (refusal_of (fault_at l.0)))) × (e.left.out ≡ e.lent)
  unfolding refused_as number_of
  unheard_answer h = go seen
    where
      wrong : fault_of e.own e.datagram ≡ 0 → ⊥
      wrong passes = eqb-false (fault_at l.0) 0 h (sym (fault_is k) ∙ passes)

      go : View e.own s e.datagram e.lent e.left → (e.left.answer ≡ number_of (Err (refusal_of (fault_at l.0)))) × (e.left.out ≡ e.lent)
      go (unheard f q) =
          let due : number (refusal_of (fault_at l.0)) ≡ fault_of e.own e.datagram =
          ap (λ (n : ℕ). number (refusal_of n)) (sym (fault_is k)) ∙ named_is _ (fault_named e.own e.datagram) f in
          (ap (λ (y : Reception). y.answer) q ∙ ap (λ (n : ℕ). (n, [])) (sym due), ap (λ (y : Reception). y.out) q)
      go (refuses passes low f q) = absurd (wrong passes)
      go (keeps passes low f z) = absurd (wrong passes)
      go (opens passes high z) = absurd (wrong passes)

  -- ---- what is displaced

  module _ {d : Option ℕ} (names : Names d e.left.answer) where
    not-refused : (n : ℕ) → e.left ≡ refused_as n s.table s.bytes e.lent → ⊥
    unfolding refused_as
    not-refused n q = names_not_refused n names (ap (λ (y : Reception). y.answer) q)

    -- where the number is held, or a place is free, none is
    names_none : (four ≤ held_at s.table (number_in e) → displaced_at s.table (open_at s.table) ≡ None) → Names None e.left.answer
    unfolding key_of keep_at
    names_none none-there = go seen
      where
        go : View e.own s e.datagram e.lent e.left → Names None e.left.answer
        go (unheard f q) = absurd (not-refused _ q)
        go (refuses passes low f q) = absurd (not-refused _ q)
        go (keeps passes low f z) = settled_names z
        go (opens passes high z) = subst (λ (x : Option ℕ). Names x e.left.answer) (none-there high) (settled_names z)

  free_place_lem : length (turns ls) < four → displaced_at s.table (open_at s.table) ≡ None
  unfolding displaced_at
  free_place_lem few =
      let ring = (stand all run ks).ring in
      let t : Table = s.table in
      let at : open_at t ≡ length (turns ls) % four = opens_in_turn (length (turns ls)) t ring in
      let is_free : (place_at t (open_at t)).condition ≡ free = ring.left (open_at t) (omega arith) (λ (h : open_at t < length (turns ls)). omega arith) in
      ap (λ (b : Bool). cond b (Some (key_in (place_at t (open_at t)))) None) (ne_eqb (place_at t (open_at t)).condition open_now (λ z. omega arith))

  -- where it is not held and none is free, it is the oldest
  names_oldest : lately (oldest ls) (turns ls) ≡ true → oldest ls < 65536 → lately (oldest ls) (turns (l ∷ ls)) ≡ false
      → Names (cond (enough_in (oldest ls) (thread (oldest ls) ls)) None (Some (oldest ls))) e.left.answer
  names_oldest held small gone =
      let p : ℕ = oldest ls in
      let by : DisplacedBy (settings_of p) p (packet_under p) (take (since p ls) es) e =
      (promised all p small run ks).displaced e made (own_is p k) (some_since p ks held) (free_now all p (next e run made) (one_more k ks) gone) in
      let told = enough_told p (beside_take (since p ls) ks) small in
      either (enough_in p (thread p ls))
      (λ b. rw b (by.silent (told ∙ b)))
      (λ b. rw b (subst (λ (x : ℕ). Names (Some x) e.left.answer) (its_key p) (by.named (told ∙ b))))

  module _ (h : hears l.0 ≡ true) where
    abbrev n : ℕ
    n = number_at l.0

    abbrev ds : List Call
    ds = take (since n ls) es

    abbrev ys : List Line
    ys = thread n ls

    number_small : n < 65536
    unfolding number_at
    number_small = heard_fragment (λ a. number_at a < 65536) k h (λ own n i j t. number_below j)

    -- what is named as displaced is what the lines tell
    displaced_is : turns_out l ls ≡ true → {d : Option ℕ} → Names d e.left.answer → d ≡ displaced_by n ls
    unfolding turns_out displaced_by displaced_in
    displaced_is t names =
        either (lately n (turns ls))
        (λ held.
        let low : Holds s (number_in e) = subst (Holds s) (sym (number_is k h)) (stands_held (stand all run ks) n held) in
        rw held (names_one names (names_none names (λ high. absurd (omega (arith, high, low))))))
        (λ new.
        either (ltb (length (turns ls)) four)
        (λ few. rw (new, few) (names_one names (names_none names (λ high. free_place_lem (ltb-true _ _ few)))))
        (λ many.
        let old = or_false (spares l ls) _ t (simp (h, new, many)) in
        let small-gone = and_right (lately (oldest ls) (turns ls)) _ old in
        let gone : lately (oldest ls) (turns (l ∷ ls)) ≡ false = not-true _ (and_right (ltb (oldest ls) 65536) _ small-gone) in
        let small : oldest ls < 65536 = ltb-true _ _ (and_left (ltb (oldest ls) 65536) _ small-gone) in
        rw (new, many) (names_one names (names_oldest (and_left (lately (oldest ls) (turns ls)) _ old) small gone))))

    answered : Answered (settings_of n) n (packet_under n) ds e (index_at l.0)
    unfolding number_at index_at datagram_at
    answered =
        heard_fragment (λ a. Answered (settings_of (number_at a)) (number_at a) (packet_under (number_at a)) (take (since (number_at a) ls) es) e (index_at a)) k h
        (λ own n i j t. (promised all n (number_below j) run ks).answered e made i (index_below j) j.datagram (matches j t))

    enough-before : enough_after (settings_of n) n (packet_under n) ds ≡ enough_in n ys
    enough-before = enough_told n (beside_take (since n ls) ks) number_small

    with_it : Kinds (l ∷ ys) (e ∷ ds)
    with_it = one_more k (beside_take (since n ls) ks)

    enough_after_lem : enough_after (settings_of n) n (packet_under n) (e ∷ ds) ≡ enough_in n (l ∷ ys)
    enough_after_lem = enough_told n with_it number_small

    came_before : come (key_for (settings_of n) n) ds (index_at l.0) ≡ came n ys (index_at l.0)
    came_before = ap (λ (c : ℕ → Bool). c (index_at l.0)) (come-key n (beside_take (since n ls) ks))

    -- the answer and the buffer
    abbrev Told : Result Received Refusal → Type 0
    Told r = (e.left.answer ≡ number_of r) × (e.left.out ≡ out_after r (packet_under n) e.lent)

    heard_answer : turns_out l ls ≡ true → Told (answer_of n l ls)
    unfolding answer_of settles out_after
    heard_answer t =
        either (enough_in n ys)
        (λ yet. rw yet (answered.late (enough-before ∙ yet)))
        (λ before.
        either (came n ys (index_at l.0))
        (λ old. rw (before, old) (answered.again (came_before ∙ old) (enough-before ∙ before)))
        (λ new.
        either (enough_in n (l ∷ ys))
        (λ now.
        let x = (answered.delivered (enough-before ∙ before) (enough_after_lem ∙ now)).0 in
        let is : x.displaced ≡ displaced_by n ls = displaced_is t (subst (Names x.displaced) (sym x.told) (by_delivered _ _)) in
        rw (before, new, now) (x.told ∙ delivered-same (sent_size n) (lost_is n with_it) is, x.written))
        (λ not_yet.
        let x = answered.kept (came_before ∙ new) (enough_after_lem ∙ not_yet) in
        let is : x.0.0 ≡ displaced_by n ls = displaced_is t (subst (Names x.0.0) (sym x.0.1) by_kept) in
        rw (before, new, not_yet) (x.0.1 ∙ ap (λ (d : Option ℕ). number_of (Ok (Kept d))) is, x.1))))

  told_line : turns_out l ls ≡ true
      → (e.left.answer ≡ number_of (answer_to l ls)) × (e.left.out ≡ out_after (answer_to l ls) (packet_at l.0) e.lent)
  unfolding answer_to out_after number_at packet_at
  told_line t =
      either (hears l.0)
      (λ h.
      let its : packet_under (number_at l.0) ≡ packet_at l.0 =
      heard_fragment (λ a. packet_under (number_at a) ≡ packet_at a) k h (λ own n i j u. refl) in
      let x = heard_answer h t in
      rw h (x.0, x.1 ∙ ap (λ (p : List ℕ). out_after (answer_of (number_at l.0) l ls) p e.lent) its))
      (λ h. rw h (unheard_answer h))

-- ---- all calls

-- each line displaces none, or just the oldest
unfoldable pub all_turn_out : List Line → Bool
all_turn_out [] = true
all_turn_out (l ∷ ls) = turns_out l ls && all_turn_out ls

-- each call of a run from a fresh table answers what its line says
pub answers_run : {lent : List ℕ} → length lent ≡ all_places → {ls : List Line} {es : List Call} {s : State} → Run (fresh_with lent) es s → Kinds ls es
    → all_turn_out ls ≡ true → answers_to ls ≡ map (λ (l : Line). l.1) ls → Beside Answers ls es
unfolding all_turn_out answers_to
answers_run all start none t is = none
answers_run all (next e run made) (one_more {l = l} {ls = ls} k b) t is =
    let here : answer_to l ls ≡ l.1 = cc in
    let rest : answers_to ls ≡ map (λ (x : Line). x.1) ls = cc in
    let x = told_line all run b l made k (and_left (turns_out l ls) _ t) in
    one_more
    (record { told = x.0 ∙ ap number_of here; out = x.1 ∙ ap (λ (r : Result Received Refusal). out_after r (packet_at l.0) e.lent) here })
    (answers_run all run b (and_right (turns_out l ls) _ t) rest)
