-- `parity` meets its contract: the table is made. Assumes nothing.
use mathlib.Core.Path.{◌∙◌}
use Rattle.code_rules.proofs.LaneLaws.{bytes_of, fits_byte}
use Rattle.code_rules.proofs.TableLaws.{parity_by_lem}
use Rattle.code_encoder.proofs.made.MadeTable.parity.Goals as goal

pub returns : goal.returns
returns c =
    let A = c.args in
    let t = A.self.bytes.now in
    let made = A.self.made in
    c.parity_of.ensures ∙ parity_by_lem t made A.d.now c.requires (bytes_of A.d.now (λ i. fits_byte (c.type_inv.d i)))
