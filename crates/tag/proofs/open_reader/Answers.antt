-- `tag::open_reader` meets its contract.
use mathlib.Core.Path.{ap, ◌∙◌}
use Prim.Native.Nat.{ℕ}
use mathlib.Core.List.{[], ◌∷◌}
use Rattle.base_rules.specs.Answer.{answered}
use Rattle.tag_rules.specs.Calls.{opened_number, open_call}
use Rattle.tag_rules.proofs.Checking.{opens_by}
use Rattle.tag.proofs.open_reader.Goals as goal

pub returns : goal.returns
unfolding open_call
returns c = ap opened_number c.and.ensures ∙ opens_by c.check.result ∙ ap (λ (n : ℕ). answered n (0 ∷ [])) c.check.ensures
