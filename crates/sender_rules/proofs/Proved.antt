-- The claims of specs/Claims.antt, each by citation. Assumes nothing.
use mathlib.Core.Path.{refl}
use Rattle.header_rules.proofs.Proved.{reads_back, written_passes}
use Rattle.sender_rules.specs.Claims.{Sizes, Received, Joins, JoinsPlain, Splits, MostSent, OneSent, OneSentAll}
use Rattle.sender_rules.specs.Fragments.{payload_for, header_for, fragment_for}
use Rattle.sender_rules.proofs.FragmentLengths.{fragment-size, size-fec, full-plain}
use Rattle.sender_rules.proofs.Headers.{header_written, header_sound}
use Rattle.sender_rules.proofs.Joining.{joined, joined_plain, last-plain}
use Rattle.sender_rules.proofs.Splitting.{all_passed, part_is, sent_most}
use Rattle.sender_rules.proofs.OneAnswer.{sent_one, all_one}

pub sizes : Sizes
sizes g packet passed =
    record {
      whole = fragment-size g packet;
      fec = size-fec g packet;
      plain = full-plain g packet passed;
      last = λ plain. last-plain g packet plain passed;
    }

-- each fragment sent passes the checks 2 to 8 where its address is accepted, and reads as it was meant
pub received : Received
unfolding fragment_for header_for
received g number packet i own passed small fitting less owned = (
  written_passes own (header_for g number packet i) (payload_for g packet i) (header_sound g number packet i passed less small fitting) refl owned,
  reads_back (header_for g number packet i) (payload_for g packet i) (header_written g number packet i passed less small fitting),
)

pub joins : Joins
joins = joined

pub joins_plain : JoinsPlain
joins_plain g packet passed plain = joined_plain g packet plain passed

pub splits : Splits
splits g number packet out none i less = part_is g number packet (all_passed g number packet _ none) i less out

pub within_most_sent : MostSent
within_most_sent = sent_most

pub one_sent : OneSent
one_sent = sent_one

pub one_sent_all : OneSentAll
one_sent_all = all_one
