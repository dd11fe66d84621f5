-- The claims of specs/Claims.antt, each by citation. Assumes nothing.
use mathlib.Core.Path.{refl}
use Rattle.bandwidth_rules.specs.Seen.{seen_of}
use Rattle.bandwidth_rules.specs.Claims.{ExactFigure, OnlyFigure, OneFigure, ScaledBack, OrderKept, FigureTested, Figures, OthersOut}
use Rattle.bandwidth_rules.specs.Claims.{ReadSent, ReadExact, OtherLength, OneBandwidth}
use Rattle.bandwidth_rules.specs.Claims.{ReadsAsItself, NoneReads, WritesBack, NoneBack, ItemsLong, SoFar, LeftAsTheyStood}
use Rattle.bandwidth_rules.proofs.Exact as exact
use Rattle.bandwidth_rules.proofs.Range as range
use Rattle.bandwidth_rules.proofs.Figures as figures
use Rattle.bandwidth_rules.proofs.Reading as reading
use Rattle.bandwidth_rules.proofs.Apart as apart
use Rattle.bandwidth_rules.proofs.Writing as writing
use Rattle.bandwidth_rules.proofs.Trips as trips
use Rattle.bandwidth_rules.proofs.Keeping as keeping

pub exact_figure : ExactFigure
exact_figure = exact.figure_exact

pub only_figure : OnlyFigure
only_figure = figures.only_figure

pub one_figure : OneFigure
one_figure = figures.one_figure

pub scaled_back : ScaledBack
scaled_back = range.scaled_back

pub order_kept : OrderKept
order_kept = figures.order_kept

pub figure_tested : FigureTested
figure_tested = figures.figure_tested

pub others-out : OthersOut
others-out = figures.others-out

pub figures_written : Figures
figures_written = writing.figures

pub read_sent : ReadSent
read_sent = reading.read_sent

pub read_exact : ReadExact
read_exact = reading.read_exact

pub other_length : OtherLength
other_length = apart.other_length

pub one_bandwidth : OneBandwidth
one_bandwidth = reading.one_bandwidth

pub reads_as_itself : ReadsAsItself
reads_as_itself = trips.reads_as_itself

pub none_reads : NoneReads
none_reads = trips.none_reads

pub writes_back : WritesBack
writes_back = trips.writes_back

pub none_back : NoneBack
none_back = trips.none_back

pub items_long : ItemsLong
items_long = trips.items_long

pub so_far : SoFar
so_far = keeping.so_far

pub left_as_they_stood : LeftAsTheyStood
unfolding seen_of
left_as_they_stood = ((λ v. (refl, λ e. refl)), (λ v. (refl, λ n. refl)))
