-- The claims of specs/Claims.antt, by citation. Assumes nothing.
use Rattle.code_rules.specs.Claims.{R4, EndsInLast}
use Rattle.code_rules.proofs.Only.{one_chunk_filled, one_block_filled}
use Rattle.code_rules.proofs.Misfits.{fits_in_last, in_last_fits}

-- R4: no second answer and no second filling fits, neither for a chunk nor for a block
pub r4 : R4
r4 = record { chunk = one_chunk_filled; block = one_block_filled }

pub ends_in_last : EndsInLast
ends_in_last = record { taken = in_last_fits; only = fits_in_last }
