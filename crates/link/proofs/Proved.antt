-- The claims of specs/Demand.antt, Reached.antt, Useless.antt and Examples.antt, each by citation. Assumes nothing.
use Rattle.link.specs.Run.{SomeRun}
use Rattle.link.specs.Demand.{Demand3, Lifted, T3m, T3, MatchHeard, StaysEnough, NamesGone}
use Rattle.link.specs.Steps.{T1, T2, T3b, Again}
use Rattle.link.specs.Reached.{StaysInRange, GoesRound, HeldOnce, PartsApart, OpenWaits, ClosedSuffices, HeldCame, StaysKept, NoStray}
use Rattle.link.specs.Useless.{SomeKeep, Falls, SomeUseless}
use Rattle.link.specs.Examples.{ThreeOthers, FourOthers}
use Rattle.link.proofs.Alarm as alarm
use Rattle.link.proofs.Examples.{handed_out_once, displaced-last}
use Rattle.link.proofs.Heard as heard
use Rattle.link.proofs.Holdings as holdings
use Rattle.link.proofs.Link as link
use Rattle.link.proofs.Ring as ring
use Rattle.link.proofs.Runs as runs
use Rattle.link.proofs.Strays as strays
use Rattle.link.proofs.Survives.{survives, survives_m}
use Rattle.link.proofs.Until.{until_displaced}
use Rattle.link.proofs.Useless as useless
use Rattle.link.proofs.Whole as whole

-- ---- demand 3

pub demand_3 : Demand3
demand_3 = whole.demand_3

pub lifted : Lifted
lifted = whole.lifted

pub t3m : T3m
t3m = survives_m

pub t3 : T3
t3 = survives

pub match_heard : MatchHeard
match_heard = heard.match_heard

pub stays_enough : StaysEnough
stays_enough = whole.stays_enough

pub names_gone : NamesGone
names_gone = alarm.names_gone

-- ---- the steps behind it

pub t1 : T1
t1 = link.at_most_three until_displaced

pub t2 : T2
t2 = until_displaced

pub t3b : T3b
t3b = link.handed_out t1 t3

pub again : Again
again = link.again

-- ---- what every reached state is

pub stays_in_range : StaysInRange
stays_in_range = ring.stays_in_range

pub goes-round : GoesRound
goes-round = ring.goes-round

pub held_once : HeldOnce
held_once = ring.held_once

pub parts_apart : PartsApart
parts_apart = ring.parts_apart

pub open_waits : OpenWaits
open_waits = ring.open_waits

pub closed_suffices : ClosedSuffices
closed_suffices = ring.closed_suffices

pub held_came : HeldCame
held_came = holdings.held_came

pub stays_kept : StaysKept
stays_kept = holdings.stays_kept

pub no_stray : NoStray
no_stray = strays.no_stray

-- ---- what falls

pub some_keep : SomeKeep
some_keep = useless.some_keep

pub falls : Falls
falls = useless.falls

pub some_useless : SomeUseless
some_useless = useless.some_useless

-- ---- there are runs

pub some_run : SomeRun
some_run = runs.some_run

pub three_others : ThreeOthers
three_others = handed_out_once

pub four_others : FourOthers
four_others = displaced-last
