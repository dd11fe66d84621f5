-- `fault` meets its contract: each return is the first test that is due after those that were passed. Assumes nothing.
use mathlib.Core.Path.{◌≡◌, sym, ap, ◌∙◌}
use mathlib.Core.Bool.{false, not}
use mathlib.Core.List.{List}
use Prim.Native.Nat.{ℕ, ◌/◌, ◌%◌}
use borrow.Author.Tests.{lt-ltb, le-ltb}
use lib.Dec.{ltb, eqb}
use lib.ListN.{length}
use Rattle.base_rules.specs.Bounds.{least_l}
use Rattle.base_rules.specs.Tests.{first}
use Rattle.base_rules.specs.Refusal.{number, fault_in}
use Rattle.base_rules.proofs.Firsts.{due, skip, none_due}
use Rattle.base_rules.proofs.Logic.{told, same, other}
use Rattle.base_rules.proofs.Numbers.{number_one}
use Rattle.af_rules.specs.Packet.{sync, major, packet_type, sync_of, major_of, pt_of}
use Rattle.af_rules.specs.Calls.{bad_length, af_fault}
use Rattle.af_rules.proofs.Checks as checks
use Rattle.af.proofs.checking.fault.Goals as goal

-- what is due of the tests that are left, after the tests that were passed
module _ (s : List ℕ) {r : ℕ} (p-20 : ltb (length s) least_l ≡ false) where
  on-21 : r ≡ first (checks.from_21 s) → r ≡ af_fault s
  on-21 e = skip 20 _ p-20 e ∙ checks.in_order s

  module _ (p-21 : not (eqb (sync_of s) sync) ≡ false) where
    on-22 : r ≡ first (checks.from_22 s) → r ≡ af_fault s
    on-22 e = on-21 (skip 21 _ p-21 e)

    module _ (p-22 : bad_length s ≡ false) where
      on-23 : r ≡ first (checks.from_23 s) → r ≡ af_fault s
      on-23 e = on-22 (skip 22 _ p-22 e)

      module _ (p-23 : not (eqb (major_of s) major) ≡ false) where
        on-24 : r ≡ first (checks.from_24 s) → r ≡ af_fault s
        on-24 e = on-23 (skip 23 _ p-23 e)

        module _ (p-24 : not (eqb (pt_of s) packet_type) ≡ false) where
          on-25 : r ≡ first (checks.from_25 s) → r ≡ af_fault s
          on-25 e = on-24 (skip 24 _ p-24 e)

pub returns-then-packet-lt-LEAST_L : goal.returns-then-packet-lt-LEAST_L
unfolding fault_in number
returns-then-packet-lt-LEAST_L c = due 20 _ (lt-ltb _ _ c.if-packet-lt-LEAST_L.true) ∙ checks.in_order c.args.packet.now

pub returns-then-read2-ne-SYNC : goal.returns-then-read2-ne-SYNC
unfolding fault_in number
returns-then-read2-ne-SYNC c =
    on-21 c.args.packet.now (le-ltb _ _ c.if-packet-lt-LEAST_L.false)
    (due 21 _ (other (λ e. c.if-read2-ne-SYNC.true (c.read2.ensures ∙ e))))

pub returns-then-bad_length : goal.returns-then-bad_length
unfolding fault_in number
returns-then-bad_length c =
    on-22 c.args.packet.now (le-ltb _ _ c.if-packet-lt-LEAST_L.false)
    (same (sym c.read2.ensures ∙ c.if-read2-ne-SYNC.false))
    (due 22 _ (told c.bad_length.ensures c.if-bad_length.true))

pub returns-then-ar_of-ne-MAJOR : goal.returns-then-ar_of-ne-MAJOR
unfolding fault_in number
returns-then-ar_of-ne-MAJOR c =
    on-23 c.args.packet.now (le-ltb _ _ c.if-packet-lt-LEAST_L.false)
    (same (sym c.read2.ensures ∙ c.if-read2-ne-SYNC.false))
    (told c.bad_length.ensures c.if-bad_length.false)
    (due 23 _ (other (λ e. c.if-ar_of-ne-MAJOR.true (ap (λ (k : ℕ). k / 16 % 8) c.ar_of.ensures ∙ e))))

pub returns-then-byte_at-ne-PT : goal.returns-then-byte_at-ne-PT
unfolding fault_in number
returns-then-byte_at-ne-PT c =
    let s = c.args.packet.now in
    on-24 s (le-ltb _ _ c.if-packet-lt-LEAST_L.false)
    (same (sym c.read2.ensures ∙ c.if-read2-ne-SYNC.false))
    (told c.bad_length.ensures c.if-bad_length.false)
    (same (ap (λ (k : ℕ). k / 16 % 8) (sym c.ar_of.ensures) ∙ c.if-ar_of-ne-MAJOR.false))
    (due 24 (checks.from_25 s) (other (λ e. c.if-byte_at-ne-PT.true (number_one s 9 c.byte_at.ensures ∙ e))))

pub returns-then-bad_crc : goal.returns-then-bad_crc
unfolding fault_in number
returns-then-bad_crc c =
    let s = c.args.packet.now in
    on-25 s (le-ltb _ _ c.if-packet-lt-LEAST_L.false)
    (same (sym c.read2.ensures ∙ c.if-read2-ne-SYNC.false))
    (told c.bad_length.ensures c.if-bad_length.false)
    (same (ap (λ (k : ℕ). k / 16 % 8) (sym c.ar_of.ensures) ∙ c.if-ar_of-ne-MAJOR.false))
    (same (sym (number_one s 9 c.byte_at.ensures) ∙ c.if-byte_at-ne-PT.false))
    (due 25 _ (told c.bad_crc.ensures c.if-bad_crc.true))

pub returns : goal.returns
unfolding fault_in
returns c =
    let s = c.args.packet.now in
    on-25 s (le-ltb _ _ c.if-packet-lt-LEAST_L.false)
    (same (sym c.read2.ensures ∙ c.if-read2-ne-SYNC.false))
    (told c.bad_length.ensures c.if-bad_length.false)
    (same (ap (λ (k : ℕ). k / 16 % 8) (sym c.ar_of.ensures) ∙ c.if-ar_of-ne-MAJOR.false))
    (same (sym (number_one s 9 c.byte_at.ensures) ∙ c.if-byte_at-ne-PT.false))
    (skip 25 _ (told c.bad_crc.ensures c.if-bad_crc.false) none_due)
