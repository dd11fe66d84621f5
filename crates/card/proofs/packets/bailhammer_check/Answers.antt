-- `bailhammer_check` meets its contract: the answer of crate af's call, and what it tells. Assumes nothing.
use native.Mathlib.Omega.{arith}
use mathlib.Core.Path.{refl}
use Rattle.af_rules.specs.Calls.{number_of}
use Rattle.card_rules.specs.Told.{told_length}
use Rattle.card_rules.specs.Packets.{check_widths}
use Rattle.card_rules.proofs.ToldLaws.{told_as}
use Rattle.card.proofs.packets.bailhammer_check.Goals as goal

pub returns : goal.returns
unfolding number_of
returns c = told_as check_widths c.args.told.now c.check.ensures c.tell_answer.ensures

pub tell_answer-requires : goal.tell_answer-requires
unfolding told_length
tell_answer-requires c = (omega arith, refl)
