-- T2: what is promised of a packet from its first fragment until it is displaced. Assumes nothing.
use mathlib.Core.Logic.{◌⊎◌, inl, inr}
use mathlib.Core.Path.{◌≡◌, refl, sym, ap, ◌∙◌}
use mathlib.Core.Bool.{Bool, true, false}
use mathlib.Core.List.{List, [], ◌∷◌}
use Prim.Native.Nat.{ℕ, ◌<◌}
use native.Mathlib.Omega.{arith}
use lib.ListN.{length}
use Rattle.std.specs.Prelude.{Option, Some, None, Ok, Err}
use Rattle.base_rules.specs.Refusal.{number}
use Rattle.base_rules.specs.declared.Refusal.{Refusal}
use Rattle.base_rules.specs.declared.Refusal.TheVariants as refusal
use Rattle.base_rules.proofs.Logic.{either, clash}
use Rattle.cut_rules.specs.declared.Settings.{Settings}
use Rattle.header_rules.specs.Read.{fault_of}
use Rattle.places_rules.specs.Places.{four, held_at}
use Rattle.receiver_rules.specs.declared.Received.TheVariants.{Kept, Delivered}
use Rattle.receiver_rules.specs.Promise.{displaced_values, number_of, Reception, refused_as, State}
use Rattle.link.specs.Run.{Call, after, Made, Run, start, next, Reached, Holds, ShownOpen, number_in, come, All}
use Rattle.link.specs.Demand.{Takes, key_for, Own, enough_after, HandsOut, Handed, HeldAfter}
use Rattle.link.specs.Steps.{Answered, DisplacedBy, Promised, HandedOut, T2}
use Rattle.link.proofs.Basic.{less_or-not}
use Rattle.link.proofs.View.{Good, View, unheard, refuses, keeps, opens}
use Rattle.link.proofs.Frame.{see, good_run, good_reached}
use Rattle.link.proofs.Shown.{shown_open}
use Rattle.link.proofs.Enough.{enough_is}
use Rattle.link.proofs.Heard.{Brings, Foreign, brings, its_own, either_kind, come_none, come_foreign, come_it}
use Rattle.link.proofs.Stage.{Stage, not_yet, open_at_lem, done_at, Gone, open_held, done_held, enough_with, enough_none, foreign_step}
use Rattle.link.proofs.Brought.{Next, own_step}

-- ---- answers that are not a packet handed out

-- a number without values is not the answer of a delivery,
pub number-or-handed : (x length missing : ℕ) (d : Option ℕ) → (x, []) ≡ number_of (Ok (Delivered length missing d)) → ⊥
unfolding number_of
number-or-handed x l m d e = let z : ◌≡◌ {A = ℕ} 0 (length (l ∷ m ∷ displaced_values d)) = ap (λ (a : ℕ × List ℕ). length a.1) e in omega arith

-- so that of a refusal is not
refused-or-handed : (x : Refusal) (length missing : ℕ) (d : Option ℕ) → number_of (Err x) ≡ number_of (Ok (Delivered length missing d)) → ⊥
unfolding number_of
refused-or-handed x = number-or-handed (number x)

kept-or-handed : (d' : Option ℕ) (length missing : ℕ) (d : Option ℕ) → number_of (Ok (Kept d')) ≡ number_of (Ok (Delivered length missing d)) → ⊥
unfolding number_of displaced_values
kept-or-handed None l m d e =
    let z : ◌≡◌ {A = ℕ} 1 (length (l ∷ m ∷ displaced_values d)) = ap (λ (a : ℕ × List ℕ). length a.1) e in omega arith
kept-or-handed (Some x) l m None e = let z : ◌≡◌ {A = ℕ} 2 3 = ap (λ (a : ℕ × List ℕ). length a.1) e in omega arith
kept-or-handed (Some x) l m (Some y) e = let z : ◌≡◌ {A = ℕ} 2 4 = ap (λ (a : ℕ × List ℕ). length a.1) e in omega arith

refused_told : (e : Call) (s : State) (x : ℕ) → e.left ≡ refused_as x s.table s.bytes e.lent → e.left.answer ≡ (x, [])
unfolding refused_as
refused_told e s x q = ap (λ (y : Reception). y.answer) q

module _ (g : Settings) (n : ℕ) (packet : List ℕ) (takes : Takes g n packet) where
  -- ---- where it is held

  -- something of it came where it is held,
  pub some_came : (es : List Call) (s : State) → Stage g n packet es s → Holds s (key_for g n) → come (key_for g n) es ≡ (λ i. false) → ⊥
  some_came es s (not_yet absent c) held none = omega (arith, absent, held)
  some_came es s (open_at_lem i o z) held none = o.some none
  some_came es s (done_at i o z) held none = clash z (enough_none g n packet takes es none)

  -- and it is held where something of it came
  is_held : (es : List Call) (s : State) → Stage g n packet es s → (come (key_for g n) es ≡ (λ i. false) → ⊥) → Holds s (key_for g n)
  is_held es s (not_yet absent c) some = absurd (some c)
  is_held es s (open_at_lem i o z) some = omega (arith, open_held g n packet (come (key_for g n) es) s i o, o.low)
  is_held es s (done_at i o z) some = omega (arith, done_held g n packet s i o, o.low)

  module _ (es : List Call) (s : State) (r : Good s) (st : Stage g n packet es s) where
    -- ---- what is shown, and the next call

    shown_stage : Holds s (key_for g n) → enough_after g n packet es ≡ false → ShownOpen s (key_for g n)
    shown_stage held f = go st
      where
        go : Stage g n packet es s → ShownOpen s (key_for g n)
        go (not_yet absent c) = absurd (omega (arith, absent, held))
        go (open_at_lem i o z) = shown_open r i (key_for g n) o.low o.full.is_open o.full.mine.number
        go (done_at i o z) = clash z f

    module _ (e : Call) (made : Made s e) where
      brought : (i : ℕ) → Brings g n packet e i → Next g n packet es e i
      brought i b = own_step g n packet takes es s r e made i b st

      foreign : Foreign (key_for g n) e → Stage g n packet (e ∷ es) (after e) ⊎ Gone g n packet es e
      foreign f = foreign_step g n packet takes es s e f r made st

      pub stays : Own g n packet e → Holds (after e) (key_for g n) → Stage g n packet (e ∷ es) (after e)
      stays own held = either_kind g n packet takes e own (λ i b. (brought i b).stage) (λ f. go (foreign f))
        where
          go : Stage g n packet (e ∷ es) (after e) ⊎ Gone g n packet es e → Stage g n packet (e ∷ es) (after e)
          go (inl x) = x
          go (inr x) = absurd (x.gone held)

      -- before it is enough its own fragment is answered with no packet,
      not-handed : (i : ℕ) → Brings g n packet e i → enough_after g n packet (e ∷ es) ≡ false
          → (length missing : ℕ) (d : Option ℕ) → HandsOut e length missing d → ⊥
      not-handed i b f l m d told =
          let a : Answered g n packet es e i = (brought i b).answered in
          either (come (key_for g n) es i)
          (λ old.
          either (enough_after g n packet es)
          (λ yet. refused-or-handed refusal.Late l m d (sym (a.late yet).0 ∙ told))
          (λ before. refused-or-handed refusal.Repeat l m d (sym (a.again old before).0 ∙ told)))
          (λ new. let k = (a.kept new f).0 in kept-or-handed k.0 l m d (sym k.1 ∙ told))

      -- so what hands out something of its number is the first with which it is enough
      once_call : Own g n packet e → (length missing : ℕ) (d : Option ℕ) → HandsOut e length missing d → number_in e ≡ key_for g n
          → (enough_after g n packet es ≡ false) × (enough_after g n packet (e ∷ es) ≡ true)
      once_call own l m d told is = go (see r made)
        where
          heard_call : fault_of e.own e.datagram ≡ 0 → (enough_after g n packet es ≡ false) × (enough_after g n packet (e ∷ es) ≡ true)
          heard_call passes =
              let one = its_own g n packet takes e own passes is in
              either (enough_after g n packet es)
              (λ yet. absurd (refused-or-handed refusal.Late l m d (sym ((brought one.0 one.1).answered.late yet).0 ∙ told)))
              (λ before.
              either (enough_after g n packet (e ∷ es))
              (λ now. (before, now))
              (λ f. absurd (not-handed one.0 one.1 f l m d told)))

          go : View e.own s e.datagram e.lent e.left → (enough_after g n packet es ≡ false) × (enough_after g n packet (e ∷ es) ≡ true)
          go (unheard fault q) = absurd (number-or-handed _ l m d (sym (refused_told e s _ q) ∙ told))
          go (refuses passes low fault q) = heard_call passes
          go (keeps passes low fault z) = heard_call passes
          go (opens passes high z) = heard_call passes

      -- a call after which it is no longer held displaced it
      leaves : Own g n packet e → Holds s (key_for g n) → (Holds (after e) (key_for g n) → ⊥) → DisplacedBy g n packet es e
      leaves own held lost_now =
          either_kind g n packet takes e own
          (λ i b. absurd (lost_now (is_held (e ∷ es) (after e) (brought i b).stage (own_came i b))))
          (λ f. go f (foreign f))
        where
          own_came : (i : ℕ) → Brings g n packet e i → come (key_for g n) (e ∷ es) ≡ (λ j. false) → ⊥
          own_came i b none = clash (come_it g n packet e es i b) (ap (λ (came : ℕ → Bool). came i) none)

          go : Foreign (key_for g n) e → Stage g n packet (e ∷ es) (after e) ⊎ Gone g n packet es e → DisplacedBy g n packet es e
          go f (inl x) = absurd (lost_now (is_held (e ∷ es) (after e) x (λ none. some_came es s st held (sym (come_foreign (key_for g n) e es f) ∙ none))))
          go f (inr x) = x.by

  -- ---- the run

  module _ (first : State) (reached : Reached first) (absent : Holds first (key_for g n) → ⊥) where
    -- from a reached state, as long as each call leaves it held, the packet is at one of its stages
    pub standing : {es : List Call} {s : State} → Run first es s → All (Own g n packet) es → HeldAfter g n es → Stage g n packet es s
    unfolding All
    standing start own held = not_yet (less_or-not (held_at first.table (key_for g n)) four (λ l. absurd (absent l)) (λ l. l)) (come_none (key_for g n))
    standing (next {es = es} {u = u} e run m) own held =
        stays es u (good_run (good_reached reached) run) (standing run own.1 held.1) e m own.0 held.0

    held_now : {es : List Call} {s : State} → Run first es s → HeldAfter g n es → 0 < length es → Holds s (key_for g n)
    unfolding All
    held_now start held some = absurd (omega arith)
    held_now (next e run m) held some = held.0

    promised : {es : List Call} {s : State} → Run first es s → All (Own g n packet) es → HeldAfter g n es → Promised g n packet es s
    promised {es} {s} run own held =
        let r : Good s = good_run (good_reached reached) run in
        let st : Stage g n packet es s = standing run own held in
        record {
          shown = λ some. shown_stage es s r st (held_now run held some);
          answered = λ e made i below is matches. (brought es s r st e made i (brings g n packet takes e i below is matches)).answered;
          once = λ e made its. once_call es s r st e made its;
          displaced = λ e made its some. leaves es s r st e made its (held_now run held some);
        }

    -- ---- it is handed out

    -- the call with which it is enough
    pub told_now : {es : List Call} {s : State} → Run first es s → All (Own g n packet) es → HeldAfter g n es
        → (e : Call) → Made s e → Own g n packet e → enough_after g n packet es ≡ false → enough_after g n packet (e ∷ es) ≡ true
        → Handed g n packet es e
    told_now {es} {s} run own held e made its before now =
        either_kind g n packet takes e its
        (λ i b.
        ((brought es s (good_run (good_reached reached) run) (standing run own held) e made i b).answered.delivered before now).0)
        (λ f.
        clash now (enough_with g n packet takes (e ∷ es) (come (key_for g n) es) (come_foreign (key_for g n) e es f)
        ∙ sym (enough_is g packet takes.passed n es) ∙ before))

    turning : {es : List Call} {s : State} → Run first es s → All (Own g n packet) es → HeldAfter g n es
        → (e : Call) → Made s e → Own g n packet e → enough_after g n packet es ≡ false → enough_after g n packet (e ∷ es) ≡ true
        → HandedOut g n packet (e ∷ es)
    turning {es} {s} run own held e made its before now =
        let handed = told_now run own held e made its before now in
        record { later = []; call = e; earlier = es; split = refl; before = before; enough_now = now; handed = handed }

    handed_out : {es : List Call} {s : State} → Run first es s → All (Own g n packet) es → HeldAfter g n es
        → enough_after g n packet es ≡ true → HandedOut g n packet es
    unfolding All
    handed_out start own held now = clash now (enough_none g n packet takes [] (come_none (key_for g n)))
    handed_out (next {es = es} e run made) own held now =
        either (enough_after g n packet es)
        (λ yet. behind e es (handed_out run own.1 held.1 yet))
        (λ before. turning run own.1 held.1 e made own.0 before now)
      where
        behind : (e : Call) (es : List Call) → HandedOut g n packet es → HandedOut g n packet (e ∷ es)
        behind e es h =
            record {
              later = e ∷ h.later;
              call = h.call;
              earlier = h.earlier;
              split = ap (λ (l : List Call). e ∷ l) h.split;
              before = h.before;
              enough_now = h.enough_now;
              handed = h.handed;
            }

-- all that is promised holds until it is displaced, and it is handed out once it is enough
pub until_displaced : T2
until_displaced g n packet first es now scene held = (
  promised g n packet scene.takes first scene.reached scene.free scene.run scene.own held,
  handed_out g n packet scene.takes first scene.reached scene.free scene.run scene.own held,
)
