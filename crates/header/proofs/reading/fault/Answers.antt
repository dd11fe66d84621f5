-- `fault` meets its contract: each return is the first test that is due after those that were passed. Assumes nothing.
use mathlib.Core.List.{List}
use mathlib.Core.Path.{◌≡◌, ◌∙◌}
use mathlib.Core.Bool.{false}
use Prim.Native.Nat.{ℕ}
use Rattle.std.specs.Prelude.{Option}
use Rattle.base_rules.specs.Refusal.{number, fault_in}
use Rattle.base_rules.specs.Tests.{first}
use Rattle.base_rules.proofs.Firsts.{due, skip, none_due}
use Rattle.base_rules.proofs.Logic.{told}
use Rattle.cut_rules.specs.declared.Address.{Address}
use Rattle.header_rules.specs.Read.{address_of, fields_of, is_short, not_sync, bad_crc, bad_length, bad_address, bad_index, bad_size, fault_of}
use Rattle.header_rules.proofs.Checks as checks
use Rattle.header.proofs.reading.fault.Goals as goal

-- what is due of the tests that are left, after each test that was passed
module _ (own : Option Address) (seen : List ℕ) {r : ℕ} (long : is_short seen ≡ false) where
  on_3 : r ≡ first (checks.from_3 own seen) → r ≡ fault_of own seen
  on_3 e = skip 2 _ long e ∙ checks.in_order own seen

  module _ (sync : not_sync seen ≡ false) where
    on_4 : r ≡ first (checks.from_4 own seen) → r ≡ fault_of own seen
    on_4 e = on_3 (skip 3 _ sync e)

    module _ (right : bad_crc seen ≡ false) where
      on_5 : r ≡ first (checks.from_5 own seen) → r ≡ fault_of own seen
      on_5 e = on_4 (skip 4 _ right e)

      module _ (whole : bad_length seen (fields_of seen) ≡ false) where
        on_6 : r ≡ first (checks.from_6 own seen) → r ≡ fault_of own seen
        on_6 e = on_5 (skip 5 _ whole e)

        module _ (addressed : bad_address own (address_of seen) ≡ false) where
          on_7 : r ≡ first (checks.from_7 own seen) → r ≡ fault_of own seen
          on_7 e = on_6 (skip 6 _ addressed e)

          on_8 : bad_index (fields_of seen) ≡ false → r ≡ first (checks.from_8 own seen) → r ≡ fault_of own seen
          on_8 counted e = on_7 (skip 7 _ counted e)

pub returns-then-is_short : goal.returns-then-is_short
unfolding fault_in number
returns-then-is_short c =
    let A = c.args in
    due 2 _ (told c.is_short.ensures c.if-is_short.true) ∙ checks.in_order A.own A.s.now

pub returns-then-read2-ne-SYNC : goal.returns-then-read2-ne-SYNC
unfolding fault_in number
returns-then-read2-ne-SYNC c = on_3 c.args.own c.args.s.now (told c.is_short.ensures c.if-is_short.false)
    (due 3 _ (checks.other_sync _ _ c.read2.ensures c.if-read2-ne-SYNC.true))

pub bad_crc-requires : goal.bad_crc-requires
bad_crc-requires c = (checks.short_from _ (told c.is_short.ensures c.if-is_short.false)).1

pub returns-then-bad_crc : goal.returns-then-bad_crc
unfolding fault_in number
returns-then-bad_crc c = on_4 c.args.own c.args.s.now (told c.is_short.ensures c.if-is_short.false)
    (checks.fit-sync _ _ c.read2.ensures c.if-read2-ne-SYNC.false)
    (due 4 _ (told c.bad_crc.ensures c.if-bad_crc.true))

pub returns-then-bad_length : goal.returns-then-bad_length
unfolding fault_in number
returns-then-bad_length c =
    on_5 c.args.own c.args.s.now (told c.is_short.ensures c.if-is_short.false)
    (checks.fit-sync _ _ c.read2.ensures c.if-read2-ne-SYNC.false)
    (told c.bad_crc.ensures c.if-bad_crc.false)
    (due 5 _ (checks.told_by_lem (bad_length _) c.fields_of-h.ensures
    c.bad_length.ensures c.if-bad_length.true))

pub returns-then-bad_address : goal.returns-then-bad_address
unfolding fault_in number
returns-then-bad_address c =
    on_6 c.args.own c.args.s.now (told c.is_short.ensures c.if-is_short.false)
    (checks.fit-sync _ _ c.read2.ensures c.if-read2-ne-SYNC.false)
    (told c.bad_crc.ensures c.if-bad_crc.false)
    (checks.told_by_lem (bad_length _) c.fields_of-h.ensures c.bad_length.ensures c.if-bad_length.false)
    (due 6 _ (checks.address_told_lem _ _ _ c.fields_of-h.ensures
    c.bad_address.ensures c.if-bad_address.true))

pub returns-then-bad_index : goal.returns-then-bad_index
unfolding fault_in number
returns-then-bad_index c =
    let Fields-of = c.fields_of-h in
    on_7 c.args.own c.args.s.now (told c.is_short.ensures c.if-is_short.false)
    (checks.fit-sync _ _ c.read2.ensures c.if-read2-ne-SYNC.false)
    (told c.bad_crc.ensures c.if-bad_crc.false)
    (checks.told_by_lem (bad_length _) c.fields_of-h.ensures c.bad_length.ensures c.if-bad_length.false)
    (checks.address_told_lem _ _ _ c.fields_of-h.ensures c.bad_address.ensures c.if-bad_address.false)
    (due 7 _ (checks.told_by_lem bad_index Fields-of.ensures c.bad_index.ensures c.if-bad_index.true))

pub bad_size-requires : goal.bad_size-requires
bad_size-requires c = checks.counted _ (told c.bad_index.ensures c.if-bad_index.false)

pub returns-then-bad_size : goal.returns-then-bad_size
unfolding fault_in number
returns-then-bad_size c =
    let Fields-of = c.fields_of-h in
    on_8 c.args.own c.args.s.now (told c.is_short.ensures c.if-is_short.false)
    (checks.fit-sync _ _ c.read2.ensures c.if-read2-ne-SYNC.false)
    (told c.bad_crc.ensures c.if-bad_crc.false)
    (checks.told_by_lem (bad_length _) c.fields_of-h.ensures c.bad_length.ensures c.if-bad_length.false)
    (checks.address_told_lem _ _ _ c.fields_of-h.ensures c.bad_address.ensures c.if-bad_address.false)
    (checks.told_by_lem bad_index c.fields_of-h.ensures c.bad_index.ensures c.if-bad_index.false)
    (due 8 _ (checks.told_by_lem bad_size Fields-of.ensures c.bad_size.ensures c.if-bad_size.true))

pub returns : goal.returns
unfolding fault_in
returns c =
    let Fields-of = c.fields_of-h in
    on_8 c.args.own c.args.s.now (told c.is_short.ensures c.if-is_short.false)
    (checks.fit-sync _ _ c.read2.ensures c.if-read2-ne-SYNC.false)
    (told c.bad_crc.ensures c.if-bad_crc.false)
    (checks.told_by_lem (bad_length _) c.fields_of-h.ensures c.bad_length.ensures c.if-bad_length.false)
    (checks.address_told_lem _ _ _ c.fields_of-h.ensures c.bad_address.ensures c.if-bad_address.false)
    (checks.told_by_lem bad_index c.fields_of-h.ensures c.bad_index.ensures c.if-bad_index.false)
    (skip 8 _ (checks.told_by_lem bad_size Fields-of.ensures c.bad_size.ensures c.if-bad_size.false) none_due)
