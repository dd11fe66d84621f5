-- T1 from T2: with at most three other numbers the number stays held after every call, and so all that T2 promises holds; and what follows
-- of the theorems for the next packet, and where no more are lost than the plan assures. Assumes nothing.
use mathlib.Core.List.{List, ◌++◌}
use Prim.Native.Nat.{ℕ, ◌≤◌}
use native.Mathlib.Omega.{arith}
use Rattle.places_rules.specs.Places.{four, held_at}
use Rattle.receiver_rules.specs.Promise.{State}
use Rattle.link.specs.Run.{Call, Run, start, next, Reached, Holds}
use Rattle.link.specs.Demand.{key_for, T3}
use Rattle.link.specs.Steps.{T1, T2, T3b, Again}
use Rattle.link.proofs.Basic.{less_or-not}
use Rattle.link.proofs.Three.{stays}

-- for a number that is not held none of the four places is found
pub absent : (s : State) (n : ℕ) → (Holds s n → ⊥) → four ≤ held_at s.table n
absent s n free = less_or-not (held_at s.table n) four (λ l. absurd (free l)) (λ l. l)

-- at most three other numbers displace nothing, so that T1 follows from T2
pub at_most_three : T2 → T1
at_most_three until g n packet first es now scene begins others few among =
    let held = stays (key_for g n) others few first scene.reached (absent first (key_for g n) scene.free) es now scene.run begins among in
    let all = until g n packet first es now scene held in
    (held, all.0, all.1)

-- T3b by T1 and T3: with no more fragments lost than the plan assures, and at most three other numbers, a packet is handed out
pub handed_out : T1 → T3 → T3b
handed_out three survives g n packet first es now scene begins others few among bearable =
    (three g n packet first es now scene begins others few among).2 (survives g n packet es scene.takes (omega (arith, bearable)))

-- ---- the next packet

joined : {s u v : State} {es ds : List Call} → Run s es u → Run u ds v → Run s (ds ++ es) v
joined run start = run
joined run (next e more m) = next e (joined run more) m

-- calls from a reached state on leave a reached state
pub reached_on : {s u : State} {es : List Call} → Reached s → Run s es u → Reached u
reached_on {es = es} c run = record { lent = c.lent; all = c.all; calls = es ++ c.calls; run = joined c.run run }

-- once a packet is no longer held, the theorems speak of the next one under its number too
pub again : Again
again g g' n packet packet' first now now' es es' scene free takes run own =
    record { takes = takes; reached = reached_on scene.reached scene.run; free = free; run = run; own = own }
