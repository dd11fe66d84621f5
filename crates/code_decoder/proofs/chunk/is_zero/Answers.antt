-- `is_zero` meets its contract: no place is left that is not 0. Assumes nothing.
use mathlib.Core.Path.{◌≡◌}
use mathlib.Core.Bool.{Bool, true, false}
use mathlib.Core.List.{List}
use Prim.Native.Nat.{ℕ}
use native.Mathlib.Omega.{arith}
use borrow.Author.Rules.{rules}
use lib.ListN.{length}
use Rattle.code_rules.specs.inner.Block.{FoundTest}
use Rattle.code_rules.specs.inner.Sharing.{ZeroTest}
use Rattle.code_rules.proofs.FillLaws.{zero_end, zero-not}
use Rattle.code_decoder.proofs.chunk.is_zero.Goals as goal

all_zero : (r : List ℕ) (b : Bool) → length r ≡ 48 → FoundTest r b → ZeroTest r b
all_zero r true size f = zero_end r 48 size (omega arith) (λ i h. f i (omega arith))
all_zero r false size f = zero-not r f.at f.left

pub returns : goal.returns
returns c =
    let found : FoundTest c.args.r c.all.result = search rules in
    all_zero c.args.r c.all.result (search rules) found
