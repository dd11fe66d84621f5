-- `coefficients` meets its contract. Assumes nothing.
use mathlib.Core.Path.{sym}
use Rattle.codeword.proofs.Generator.{generator_is}
use Rattle.code_encoder.proofs.rows.coefficients.Goals as goal

pub returns : goal.returns
returns c =
    sym generator_is
