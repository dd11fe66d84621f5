-- The claims of specs/Main.antt and Runs.antt, each by citation. Assumes nothing.
use Rattle.shipped.specs.Main.{Demand3, Lifted, Bears, PlanTells, BearsM, SentAll, SentOne, MatchHeard, NamesGone}
use Rattle.shipped.specs.Runs.{IsRun, GoesOn, ReachedState, QueryTells, HoldsAlike, OpenTold, SomeCall}
use Rattle.shipped.proofs.Main as main
use Rattle.shipped.proofs.Planned as planned
use Rattle.shipped.proofs.Query as query
use Rattle.shipped.proofs.Runs as runs
use Rattle.shipped.proofs.Sent as sent

-- ---- demand 3

pub demand_3 : Demand3
demand_3 = main.demand_3

pub lifted : Lifted
lifted = main.lifted

pub bears : Bears
bears = main.bears

pub plan_tells : PlanTells
plan_tells = planned.plan_tells

pub bears_m : BearsM
bears_m = main.bears_m

pub sent_all : SentAll
sent_all = sent.sent_all

pub sent_one : SentOne
sent_one = sent.sent_one

pub match_heard : MatchHeard
match_heard = sent.match_heard

pub names_gone : NamesGone
names_gone = main.names_gone

-- ---- the runs behind it

pub is_run : IsRun
is_run = runs.is_run

pub goes_on_lem : GoesOn
goes_on_lem = runs.goes_on_lem

pub reached_state : ReachedState
reached_state = runs.reached_state

pub query_tells : QueryTells
query_tells = query.query_tells

pub holds_alike : HoldsAlike
holds_alike = query.holds_alike

pub open_told : OpenTold
open_told = query.open_told

pub some_call : SomeCall
some_call = runs.some_call
