-- `bytes2` meets its contract by computing. Assumes nothing.
use Rattle.base_rules.specs.Bytes.{bytes_of}
use Rattle.base.proofs.bytes2.Goals as goal

pub returns : goal.returns
unfolding bytes_of
returns c = c.to_be_bytes.ensures
