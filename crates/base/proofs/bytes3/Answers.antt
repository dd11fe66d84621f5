-- `bytes3` meets its contract: dividing by 256 twice is dividing by 65,536. Assumes nothing.
use native.Mathlib.Nat.{div-div-eq-div-mul}
use Rattle.base_rules.specs.Bytes.{bytes_of}
use Rattle.base.proofs.bytes3.Goals as goal

pub returns : goal.returns
unfolding bytes_of
returns c = simp (c.to_be_bytes.ensures, div-div-eq-div-mul)
