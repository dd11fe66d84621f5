-- Demand 3 over one run, from T1 and T2 call by call. Assumes nothing.
use mathlib.Core.Path.{◌≡◌, refl, sym, ◌∙◌}
use mathlib.Core.Bool.{Bool, true, false, not, ◌||◌, ◌&&◌}
use mathlib.Core.List.{List, [], ◌∷◌}
use Prim.Native.Nat.{ℕ, ◌≤◌}
use native.Mathlib.Omega.{arith}
use lib.Dec.{eqb}
use lib.ListN.{length}
use Rattle.base_rules.proofs.Logic.{either, clash}
use Rattle.cut_rules.specs.declared.Settings.{Settings}
use Rattle.receiver_rules.specs.Promise.{State}
use Rattle.link.specs.Run.{Call, after, Made, Run, start, next, heard, number_in, index_in, come, All, Each}
use Rattle.link.specs.Demand.{Takes, Scene, Begins, Among, count, key_for, enough_after, BeforeDone, HeldAfter, Said, Demanded, Lifted, Demand3}
use Rattle.link.specs.Demand.{StaysEnough}
use Rattle.link.proofs.Enough.{suffices, enough_is, enough_more}
use Rattle.link.proofs.Until.{told_now, until_displaced}
use Rattle.link.proofs.Link.{at_most_three}

-- ---- one call, after calls that left the number held

module _ (g : Settings) (n : ℕ) (packet : List ℕ) (first : State) where
  before_it : {e : Call} {es : List Call} {now : State} → Scene g n packet first (e ∷ es) now → (u : State) → Run first es u
      → Scene g n packet first es u
  unfolding All
  before_it scene u run = record { takes = scene.takes; reached = scene.reached; free = scene.free; run = run; own = scene.own.1 }

  said : (e : Call) (es : List Call) (u : State) → Scene g n packet first (e ∷ es) (after e) → Run first es u → Made u e → HeldAfter g n es
      → Said g n packet es e
  unfolding All
  said e es u scene run made held =
      let before : Scene g n packet first es u = before_it scene u run in
      let p = (until_displaced g n packet first es u before held).0 in
      record {
        shown = λ here f. (until_displaced g n packet first (e ∷ es) (after e) scene (here, held)).0.shown (omega arith) f;
        handed = told_now g n packet scene.takes first scene.reached scene.free run before.own held e made scene.own.0;
        once = p.once e made scene.own.0;
        named = λ some gone. (p.displaced e made scene.own.0 some gone).named;
      }

  lifted_run : {es : List Call} {now : State} → Run first es now → Scene g n packet first es now
      → Each (λ earlier e. HeldAfter g n earlier → Said g n packet earlier e) es
  unfolding Each
  lifted_run start scene = tt
  lifted_run (next {es = es} {u = u} e run made) scene = (said e es u scene run made, lifted_run run (before_it scene u run))

-- without the limit of three, as long as each call left the number held
pub lifted : Lifted
lifted g n packet first es now scene = lifted_run g n packet first scene.run scene

-- ---- with the limit of three

more_lost : (a b : Bool) → not (a || b) ≡ true → not b ≡ true
more_lost true b e = clash e refl
more_lost false b e = e

-- what is enough stays enough with one call more
pub stays_enough : StaysEnough
unfolding come suffices
stays_enough g n packet e es takes yet =
    enough_is g packet takes.passed n (e ∷ es)
    ∙ enough_more (λ j. not (come (key_for g n) (e ∷ es) j)) (λ j. not (come (key_for g n) es j)) (count g packet)
    (λ j z. more_lost (heard e && (eqb (number_in e) (key_for g n) && eqb (index_in e) j)) (come (key_for g n) es j) z) g.fec _ _
    (sym (enough_is g packet takes.passed n es) ∙ yet)

module _ (g : Settings) (n : ℕ) (packet : List ℕ) (takes : Takes g n packet) where
  -- what is not enough with a call was not before it
  pub not-before : (e : Call) (es : List Call) → enough_after g n packet (e ∷ es) ≡ false → enough_after g n packet es ≡ false
  not-before e es f = either (enough_after g n packet es) (λ yet. clash (stays_enough g n packet e es takes yet) f) (λ z. z)

  all-before : (P : Call → Type 0) (es : List Call) → BeforeDone g n packet P es → enough_after g n packet es ≡ false → All P es
  unfolding Each All
  all-before P [] b f = tt
  all-before P (e ∷ es) b f = let z = not-before e es f in (b.0 z, all-before P es b.1 z)

begins_before : (n : ℕ) (e : Call) (es : List Call) → Begins n (e ∷ es) → Begins n es
unfolding Begins
begins_before n e [] b = tt
begins_before n e (d ∷ es) b = b

module _ (g : Settings) (n : ℕ) (packet : List ℕ) (first : State) (others : List ℕ) (few : length others ≤ 3) where
  limited : {es : List Call} {now : State} → Run first es now → Scene g n packet first es now → Begins (key_for g n) es
      → BeforeDone g n packet (Among (key_for g n) others) es → Each (Demanded g n packet) es
  unfolding Each All
  limited start scene b am = tt
  limited (next {es = es} {u = u} e run made) scene b am =
      let here = said g n packet first e es u scene run made in (
        record {
          until_done = λ f.
              let few-others : All (Among (key_for g n) others) (e ∷ es) =
              (am.0 f, all-before g n packet scene.takes (Among (key_for g n) others) es am.1 f) in
              let held = (at_most_three until_displaced g n packet first (e ∷ es) (after e) scene b others few few-others).0 in
              (held, here held.1);
          while_held = here;
        },
        limited run (before_it g n packet first scene u run) (begins_before (key_for g n) e es b) am.1,
      )

-- with at most three other numbers before it is done
pub demand_3 : Demand3
demand_3 g n packet first es now scene b others few am = limited g n packet first others few scene.run scene b am
