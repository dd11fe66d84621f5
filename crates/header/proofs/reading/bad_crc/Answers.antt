-- `bad_crc` meets its contract: the field and what it covers are parts of the datagram. Assumes nothing.
use mathlib.Core.Path.{sym}
use lib.Seq.{length-take-le}
use Rattle.header_rules.proofs.Fields.{covered, crc_read}
use Rattle.header.proofs.reading.bad_crc.Goals as goal

pub slice_bounds-word-end : goal.slice_bounds-word-end
slice_bounds-word-end c =
    sym (length-take-le _ c.args.s.now
    (covered _ _ c.body_length-n.ensures.0 c.requires))

pub returns : goal.returns
returns c = crc_read _ _ c.body_length-n.ensures.0 _ _ c.read2.ensures c.word.ensures
