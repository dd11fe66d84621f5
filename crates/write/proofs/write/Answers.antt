-- `write` meets its contract: where nothing is refused there is room for the head and the value. Assumes nothing.
use mathlib.Core.Path.{◌≡◌, sym, ap, ◌∙◌}
use native.Mathlib.Omega.{arith}
use borrow.Author.Rules.{rules}
use lib.Pow.{pow_pos}
use Rattle.std.specs.Prelude.{Result, Err}
use Rattle.base_rules.specs.Answer.{outcome}
use Rattle.base_rules.specs.declared.Refusal.{Refusal}
use Rattle.base_rules.specs.Refusal.{told, fault_in}
use Rattle.base_rules.specs.Written.{number_of}
use Rattle.base_rules.proofs.Answers.{writes, leaves, number-positive}
use Rattle.item_rules.proofs.Starts.{unused_few}
use Rattle.write_rules.specs.Write.{write_call}
use Rattle.write_rules.proofs.Puts.{item_put}
use Rattle.write_rules.proofs.Refusals.{taken}
use Rattle.write.proofs.write.Goals as goal

pub returns-in_err-fault : goal.returns-in_err-fault
unfolding number_of told fault_in write_call
returns-in_err-fault c =
    let e : c.from_residual.result ≡ Err c.in_err-fault.field-0.0 = search rules in
    ap (λ (r : Result (Unit {0}) Refusal). outcome (number_of r) c.args.out.now) e
    ∙ leaves _ _ _ _ _ (number-positive c.in_err-fault.field-0.0) (sym (ap fault_in c.in_err-fault.was) ∙ c.fault.ensures)

pub put_head-requires : goal.put_head-requires
unfolding fault_in
put_head-requires c =
    omega (arith, (taken _ _ _ _ (sym c.fault.ensures ∙ ap fault_in c.in_ok-fault.was)).1)

pub put_value-requires : goal.put_value-requires
unfolding fault_in
put_value-requires c =
    let unused = c.unused_of-unused in
    let fits = taken _ _ _ _ (sym c.fault.ensures ∙ ap fault_in c.in_ok-fault.was) in
    (omega (arith, fits.0, fits.1), omega (arith, pow_pos unused.result.0))

pub power-p-requires : goal.power-p-requires
power-p-requires c = omega (arith, unused_few c.args.bits.0, c.unused_of-unused.ensures)

pub returns : goal.returns
unfolding number_of told fault_in write_call
returns c =
    writes _ _ _ _ _ (sym (ap fault_in c.in_ok-fault.was) ∙ c.fault.ensures)
    (item_put _ _ _ _ _ _ _ _ c.put_head.ensures c.put_value.ensures c.power-p.ensures c.unused_of-unused.ensures)
