-- `write_header` meets its contract: the parts are laid one behind the other, and then copied. Assumes nothing.
use mathlib.Core.Path.{◌∙◌, sym}
use native.Mathlib.Omega.{arith}
use lib.Seq.{length-take-le}
use Rattle.header_rules.proofs.Lays.{fec_most, address_most, header_laid, header_put}
use Rattle.header.proofs.writing.write_header.Goals as goal

pub put_address-b-requires : goal.put_address-b-requires
put_address-b-requires c =
    let h = c.args.h in
    omega (arith, fec_most h)

pub put_crc-requires : goal.put_crc-requires
put_crc-requires c =
    let h = c.args.h in
    omega (arith, fec_most h, address_most h.address)

pub overflow_add-head : goal.overflow_add-head
overflow_add-head c =
    let h = c.args.h in
    omega (arith, fec_most h, address_most h.address)

pub slice_bounds-head-end : goal.slice_bounds-head-end
slice_bounds-head-end c =
    let h = c.args.h in
    omega (arith, fec_most h, address_most h.address)

pub slice_bounds-put-end : goal.slice_bounds-put-end
slice_bounds-put-end c =
    let h = c.args.h in
    sym (length-take-le _ _ (omega (arith, fec_most h, address_most h.address)))

pub returns : goal.returns
returns c =
    let crc = c in
    let address = crc in
    let fec = address in
    let front = fec in
    let a = front.args in
    c.put.ensures
    ∙ header_put a.h a.out.now _
    (header_laid a.h _ _ _ _ _ _ _ front.put_front.ensures fec.put_fec-a.ensures.0 fec.put_fec-a.ensures.1
    address.put_address-b.ensures.0
    address.put_address-b.ensures.1
    crc.put_crc.ensures)
