-- `bytes4` meets its contract: dividing by 256 twice is dividing by 65,536. Assumes nothing.
use mathlib.Core.Path.{◌∙◌}
use native.Mathlib.Nat.{div-div-eq-div-mul}
use Rattle.base_rules.specs.Bytes.{bytes_of}
use Rattle.base.proofs.bytes4.Goals as goal

pub returns : goal.returns
unfolding bytes_of
returns c = c.to_be_bytes.ensures ∙ simp div-div-eq-div-mul
