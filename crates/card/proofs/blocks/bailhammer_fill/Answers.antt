-- `bailhammer_fill` meets its contract: the answer of `code_decoder::fill`, and its number. Assumes nothing.
use mathlib.Core.Path.{◌≡◌, subst}
use mathlib.Core.Bool.{Bool}
use mathlib.Core.List.{List}
use Prim.Native.Nat.{ℕ}
use Rattle.code_rules.specs.Calls.{BlockFilled}
use Rattle.std.specs.Prelude.{Result}
use Rattle.base_rules.specs.declared.Refusal.{Refusal}
use Rattle.code_rules.specs.declared.Filled.{Filled}
use Rattle.card_rules.specs.Blocks.{kept_of, filled_number, CardFilled}
use Rattle.card.proofs.blocks.bailhammer_fill.Goals as goal

told : (kept : List ℕ) (f s k : ℕ) (block after : List ℕ) (r : ℕ) (x : List Bool) (a : Result Filled Refusal) → x ≡ kept_of kept → BlockFilled x f s k block after a
    → r ≡ filled_number a → CardFilled kept f s k block after r
told kept f s k block after r x a e h n =
    record { answer = a; left = subst (λ (l : List Bool). BlockFilled l f s k block after a) e h; number = n }

pub returns : goal.returns
returns c =
    let A = c.args in
    let Kept-of = c.kept_of in
    let Fill = c.fill-a in
    let g = A in
    told g.kept.now g.f g.s g.k g.block.now _ c.filled_number.result Kept-of.result Fill.result
    Kept-of.ensures Fill.ensures c.filled_number.ensures
