use mathlib.Core.Path.{sym, ap, ◌∙◌, subst}
use native.Mathlib.Numerals.{add-one}
use native.Mathlib.Omega.{arith}
use Rattle.codeword.specs.Code.{step}
use Rattle.code_rules.specs.inner.Kernel.{power, Made}
use Rattle.code_rules.proofs.RegisterLaws.{power_s, power_0}
use Rattle.code_rules.proofs.RowLaws.{made_0}
use Rattle.code_encoder.proofs.rows.make_table.Goals as goal

pub loop-n-init : goal.loop-n-init
loop-n-init c = (c.coefficients-g.ensures ∙ power_0, made_0 c.args.t.now)

pub put_rows-requires : goal.put_rows-requires
put_rows-requires c =
    let I = c.loop-n.invariant in
    (omega arith, I.0, I.1)

pub next_power-next-requires : goal.next_power-next-requires
next_power-next-requires c = c.coefficients-g.ensures

pub loop-n-preserved : goal.loop-n-preserved
loop-n-preserved c =
    let L = c.loop-n in
    let I = L.invariant in
    let R = c.put_rows in
    let next = c.next_power-next.ensures ∙ ap (λ b. step b 0) I.0 ∙ power_s L.n ∙ ap power (sym (add-one L.n)) in
    (next, subst (λ m. Made R.new.t m) (omega arith) R.ensures)

pub returns : goal.returns
returns c =
    let L = c.loop-n in
    subst (λ m. Made L.t m) (omega arith) L.invariant.1
