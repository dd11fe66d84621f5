-- `put_crc` meets its contract: the field is that of the first bytes. Assumes nothing.
use mathlib.Core.Path.{sym, ap, ◌∙◌}
use native.Mathlib.Omega.{arith}
use lib.ListN.{length}
use Rattle.base_rules.specs.Bytes.{splice, bytes_of}
use Rattle.base_rules.proofs.Numbers.{length-bytes}
use Rattle.af_rules.specs.Packet.{crc_bytes}
use lib.Seq.{length-take-le}
use Rattle.base_rules.proofs.Answers.{put_is}
use Rattle.af.proofs.wrapping.put_crc.Goals as goal

pub slice_bounds-crc_for-end-2 : goal.slice_bounds-crc_for-end-2
slice_bounds-crc_for-end-2 c = sym (length-take-le _ c.args.out.now (omega arith))

pub returns : goal.returns
returns c =
    let A = c.args in
    let Crc-for = c.crc_for in
    let a = A in
    let field = c.bytes2-field in
    put_is a.out.now field.result _ a.end _ (omega (arith, length-bytes crc_bytes Crc-for.result, ap length field.ensures))
    c.put.ensures
    ∙ ap (splice a.out.now a.end) (field.ensures ∙ ap (bytes_of crc_bytes) Crc-for.ensures)
