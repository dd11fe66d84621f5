-- The claims of specs/Claims.antt, each by citation. Assumes nothing.
use Rattle.card_rules.specs.Claims.{PlanWhole, LengthWhole, SplitWhole, EnduranceWhole}
use Rattle.card_rules.specs.Claims.{ZerosFresh, ClearedZeros, OneReceipt, RefusedUnchanged, NoSilence, ReceiptWhole}
use Rattle.card_rules.specs.Claims.{HeaderWhole, PayloadBegins, RefusedAlike}
use Rattle.card_rules.specs.Claims.{OneFilling}
use Rattle.card_rules.specs.Claims.{OpensTyped, StepsTyped, ReadBack, StepNumbers, FoundWhole, NthWhole, StepWhole}
use Rattle.card_rules.proofs.SendProved as sender
use Rattle.card_rules.proofs.EndureLaws as endurance
use Rattle.card_rules.proofs.ReceiveProved as receiver
use Rattle.card_rules.proofs.HeaderProved as header
use Rattle.card_rules.proofs.FillProved as filler
use Rattle.card_rules.proofs.WalkProved as walk
use Rattle.card_rules.proofs.ItemProved as item

pub plan_whole : PlanWhole
plan_whole = sender.plan_whole

pub length_whole : LengthWhole
length_whole = sender.length_whole

pub split_whole : SplitWhole
split_whole = sender.split_whole

pub endurance_whole : EnduranceWhole
endurance_whole = endurance.endurance_whole

pub zeros_fresh : ZerosFresh
zeros_fresh = receiver.zeros_fresh

pub cleared_zeros : ClearedZeros
cleared_zeros = receiver.cleared_zeros

pub one_receipt : OneReceipt
one_receipt = receiver.one_receipt

pub refused_unchanged : RefusedUnchanged
refused_unchanged = receiver.refused_unchanged

pub no_silence : NoSilence
no_silence = receiver.no_silence

pub receipt_whole : ReceiptWhole
receipt_whole = receiver.receipt_whole

pub header_whole : HeaderWhole
header_whole = header.header_whole

pub payload_begins : PayloadBegins
payload_begins = header.payload_begins

pub refused_alike : RefusedAlike
refused_alike = header.refused_alike

pub one_filling : OneFilling
one_filling = filler.one_filling

pub opens_typed : OpensTyped
opens_typed = walk.opens_typed

pub steps_typed : StepsTyped
steps_typed = walk.steps_typed

pub read_back : ReadBack
read_back = walk.read_back

pub step_numbers : StepNumbers
step_numbers = walk.step_numbers

pub found_whole : FoundWhole
found_whole = item.found_whole

pub nth_whole : NthWhole
nth_whole = item.nth_whole

pub step_whole : StepWhole
step_whole = item.step_whole
