-- `first_lost` meets its contract: the first v flags are filled, and the others stay. Assumes nothing.
use mathlib.Core.Path.{◌≡◌, ap, ap₂, ◌∙◌}
use mathlib.Core.Bool.{Bool, true, false}
use mathlib.Core.List.{List, ◌++◌}
use Prim.Native.Nat.{ℕ, ◌≤◌}
use native.Mathlib.Omega.{arith}
use lib.ListN.{length, take, drop, replicate, length-replicate}
use lib.Seq.{length-take-le}
use Rattle.std.proofs.lemmas.List.{drop-replicate}
use Rattle.base_rules.specs.Bounds.{most_f}
use Rattle.endurance_rules.specs.Endure.{flagged}
use Rattle.endurance.proofs.first_lost.Goals as goal

-- what is filled, with what stays behind it
filled : (v : ℕ) (front : List Bool) → v ≤ most_f → front ≡ replicate (length (take v (replicate most_f false))) true
    → front ++ drop v (replicate most_f false) ≡ flagged v
unfolding flagged
filled v front room is =
    let long : length (take v (replicate most_f false)) ≡ v =
    length-take-le v (replicate most_f false) (omega (arith, length-replicate most_f false)) in
    ap₂ (λ (x y : List Bool). x ++ y) (is ∙ ap (λ (n : ℕ). replicate n true) long) (drop-replicate v most_f false)

pub returns : goal.returns
returns c = filled _ _ c.requires (c.fill.ensures.after (λ y e. e))
