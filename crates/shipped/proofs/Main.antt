-- Demand 3 of the calls of card.h, from that of `receive`. Assumes nothing.
use mathlib.Core.Path.{◌≡◌, refl, sym, ◌∙◌}
use mathlib.Core.Bool.{false}
use mathlib.Core.List.{List, [], ◌∷◌, map}
use native.Mathlib.Omega.{arith}
use lib.ListN.{length-map}
use Rattle.cut_rules.specs.declared.Settings.{Settings}
use Rattle.cut_rules.specs.Missing.{losses}
use Rattle.card_rules.specs.Sending.{settings_of}
use Rattle.link.specs.Run.{lost, All, Each}
use Rattle.link.specs.Run as run
use Rattle.link.specs.Demand as link
use Rattle.link.proofs.Proved as proved
use Rattle.shipped.specs.Runs.{Buffers, Call, after, Made, Run, start, next, Reached, call_of, state_of}
use Rattle.shipped.specs.Main.{Sending, settings, Cut, key, Own, Scene, missing_after, Said, HeldAfter, Demanded}
use Rattle.shipped.specs.Main.{Demand3, Lifted, Bears, BearsM, NamesGone}
use Rattle.shipped.proofs.Answers.{told_handed, told_named, link_handed, link_named}
use Rattle.shipped.proofs.Query.{holds_alike, open_told}
use Rattle.shipped.proofs.Runs.{Gave, goes_on_lem, reached_state, reached_after, made_link, made_gave}
use Rattle.shipped.proofs.Sent.{takes, count_is, fragment_is}

-- ---- calls, and the calls of `receive` that they are

all-calls : (P : run.Call → Type 0) (Q : Call → Type 0) → ((e : Call) → Q e → P (call_of e)) → (es : List Call) → All Q es → All P (map call_of es)
unfolding All
all-calls P Q f [] a = tt
all-calls P Q f (e ∷ es) a = (f e a.0, all-calls P Q f es a.1)

each_call : (P : List run.Call → run.Call → Type 0) (es : List Call) → Each (λ earlier e. P (map call_of earlier) (call_of e)) es → Each P (map call_of es)
unfolding Each
each_call P [] a = tt
each_call P (e ∷ es) a = (a.0, each_call P es a.1)

-- what is said of each call of `receive`, with the calls before it, is said of each call of a run
back_each : (P : List run.Call → run.Call → Type 0) (Q : List Call → Call → Type 0) {first : Buffers}
    → ((es : List Call) (u : Buffers) (e : Call) → Run first es u → Made u e → P (map call_of es) (call_of e) → Q es e)
    → {es : List Call} {now : Buffers} → Run first es now → Each P (map call_of es) → Each Q es
unfolding Each
back_each P Q f start a = tt
back_each P Q f (next e run m) a = (f _ _ e run m a.0, back_each P Q f run a.1)

-- ---- a packet that is sent

module _ (c : Sending) (cut : Cut c) where
  abbrev g : Settings
  g = settings c

  own_link : (e : Call) → Own c e → link.Own g c.number c.packet (call_of e)
  unfolding Own link.Own
  own_link e own heard number =
      let there = own heard number in
      (there.0, omega (arith, count_is c cut, there.1), there.2 ∙ fragment_is c cut there.0 there.1)

  -- the count of its fragments that have not come
  missing_is : (es : List Call) → missing_after c es ≡ losses (lost (key c) (map call_of es)) (link.count g c.packet)
  missing_is es = rw (count_is c cut)

  module _ {first : Buffers} (reached : Reached first) where
    abbrev LinkHeld : List Call → Type 0
    LinkHeld es = link.HeldAfter g c.number (map call_of es)

    held_link : {es : List Call} {now : Buffers} → Run first es now → HeldAfter c es → LinkHeld es
    unfolding All
    held_link start a = tt
    held_link (next e run m) a = ((holds_alike (after e) (reached_after reached (next e run m)) (key c)).0 a.0, held_link run a.1)

    held_told : {es : List Call} {now : Buffers} → Run first es now → LinkHeld es → HeldAfter c es
    unfolding All
    held_told start a = tt
    held_told (next e run m) a = ((holds_alike (after e) (reached_after reached (next e run m)) (key c)).1 a.0, held_told run a.1)

    module _ {es : List Call} {u : Buffers} {e : Call} (run : Run first es u) (m : Made u e) where
      here : Reached (after e)
      here = reached_after reached (next e run m)

      gave : Gave e
      gave = made_gave (reached_after reached run) m

      said : link.Said g c.number c.packet (map call_of es) (call_of e) → Said c es e
      said s = record {
        shown = λ held no. open_told (after e) here (key c) (s.shown ((holds_alike (after e) here (key c)).0 held) no);
        handed = λ no yes.
            let h = s.handed no yes in
            let told = told_handed gave _ _ h.displaced h.told in
            record { hands_out_lem = told.0; length_told = told.1; missing_told = told.2 ∙ sym (missing_is (e ∷ es)); written = h.written };
        once = λ out. let there = link_handed e out in s.once _ _ there.0 there.1;
        named = λ some gone no.
            told_named gave (key c) _ refl
            (s.named (omega (arith, length-map es call_of)) (λ held. gone ((holds_alike (after e) here (key c)).1 held)) no);
      }

  -- what is supposed of it is supposed of the calls of `receive`
  scene_link : (first : Buffers) (es : List Call) (now : Buffers) → Scene c first es now
      → link.Scene g c.number c.packet (state_of first) (map call_of es) (state_of now)
  scene_link first es now scene = record {
    takes = takes c cut;
    reached = reached_state first scene.reached;
    free = λ held. scene.free ((holds_alike first scene.reached (key c)).1 held);
    run = goes_on_lem first scene.reached es now scene.run;
    own = all-calls (link.Own g c.number c.packet) (Own c) own_link es scene.own;
  }

-- ---- the claims

-- demand 3
pub demand_3 : Demand3
demand_3 c first es now scene begins others few among =
    let cut = scene.cut in
    let g = settings c in
    let due = proved.demand_3 g c.number c.packet (state_of first) (map call_of es) (state_of now) (scene_link c cut first es now scene) begins others few
    (each_call (λ earlier e. link.enough_after g c.number c.packet earlier ≡ false → link.Among (key c) others e) es among) in
    back_each (link.Demanded g c.number c.packet) (Demanded c)
    (λ before u e run m d. record {
      until_done = λ no. let both = d.until_done no in
          (held_told c cut scene.reached (next e run m) both.0, said c cut scene.reached run m both.1);
      while_held = λ held. said c cut scene.reached run m (d.while_held (held_link c cut scene.reached run held));
    })
    scene.run due

-- without the limit of three
pub lifted : Lifted
lifted c first es now scene =
    let cut = scene.cut in
    let g = settings c in
    back_each (λ earlier e. link.HeldAfter g c.number earlier → link.Said g c.number c.packet earlier e)
    (λ earlier e. HeldAfter c earlier → Said c earlier e)
    (λ before u e run m d held. said c cut scene.reached run m (d (held_link c cut scene.reached run held)))
    scene.run
    (proved.lifted g c.number c.packet (state_of first) (map call_of es) (state_of now) (scene_link c cut first es now scene))

-- after the losses that the plan assures it is enough
pub bears : Bears
bears c cut es few =
    proved.t3 (settings c) c.number c.packet (map call_of es) (takes c cut) (omega (arith, missing_is c cut es, few))

-- and so after any m, where these are m
pub bears_m : BearsM
unfolding settings_of
bears_m c cut sure es few =
    proved.t3m (settings c) c.number c.packet (map call_of es) (takes c cut) sure (omega (arith, missing_is c cut es, few))

-- no false alarm
pub names_gone : NamesGone
names_gone s reached e m n named =
    let there = proved.names_gone (state_of s) (reached_state s reached) (call_of e) (made_link reached m) n (link_named e n named) in
    (open_told s reached n there.0, λ held. there.1 ((holds_alike (after e) (reached_after reached (next e start m)) n).0 held))
