-- `next_power` meets its contract. Assumes nothing.
use mathlib.Core.Path.{◌≡◌}
use mathlib.Core.List.{List}
use Prim.Native.Nat.{ℕ}
use borrow.Author.Rules.{rules}
use lib.ListN.{length, get_or}
use Rattle.field_rules.proofs.Sums.{add_0_r}
use Rattle.code_rules.proofs.RegisterLaws.{back_one, step_is}
use Rattle.code_encoder.proofs.rows.next_power.Goals as goal

pub returns : goal.returns
returns c =
    let b : List ℕ = c.args.b in
    let e : length b ≡ 48 = search rules in
    cc (back_one b, step_is b 0 e, add_0_r (get_or b 0 0))
