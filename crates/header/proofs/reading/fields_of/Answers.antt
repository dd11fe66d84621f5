-- `fields_of` meets its contract, field by field. Assumes nothing.
use Rattle.header_rules.proofs.Fields.{fields_read}
use Rattle.header.proofs.reading.fields_of.Goals as goal

pub returns : goal.returns
returns c =
    let Has-fec = c.has_fec-fec in
    let Read2 = c.read2 in
    fields_read _ _ _ _ _ _ _ _ _ Read2.ensures c.read3.ensures.0
    c.read3-2.ensures.0 Has-fec.ensures c.rs_byte.ensures
    c.rs_byte-2.ensures c.address_of.ensures c.read2-2.ensures
