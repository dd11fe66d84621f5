-- `fault_of` meets its contract, test by test. Assumes nothing.
use mathlib.Core.Path.{◌≡◌}
use native.Mathlib.Omega.{arith}
use lib.ListN.{length}
use Rattle.base_rules.specs.Refusal.{number, fault_in}
use Rattle.base_rules.proofs.Logic.{told}
use Rattle.packed_rules.specs.Packed.{table-bytes}
use Rattle.packed_rules.proofs.Unpacks.{other_length, bad_record_lem, no_fault}
use Rattle.packed.proofs.reading.fault_of.Goals as goal

pub returns-then-s-ne-RECORD : goal.returns-then-s-ne-RECORD
unfolding fault_in number
returns-then-s-ne-RECORD c = let s = c.args.s.now in
    other_length s (λ (e : length s ≡ table-bytes). omega (arith, c.if-s-ne-RECORD.true))

pub returns-then-bad_record : goal.returns-then-bad_record
unfolding fault_in number
returns-then-bad_record c = bad_record_lem _ c.if-s-ne-RECORD.false (told c.bad_record.ensures c.if-bad_record.true)

pub returns : goal.returns
unfolding fault_in
returns c = no_fault _ c.if-s-ne-RECORD.false (told c.bad_record.ensures c.if-bad_record.false)
