-- `whole_of` meets its contract: a figure times 256 is in the range. Assumes nothing.
use Rattle.std.proofs.Common.{◌≡◌, Bool, true, false, T, pos, sym, subst, rules}
use lib.Ieee.{Float, fin, le, mul, of_bits, binary32}
use Rattle.bandwidth_rules.specs.Figure.{scale}
use Rattle.bandwidth_rules.proofs.Figures.{whole_none}
use Rattle.bandwidth_rules.proofs.Range.{scaled_low, scaled_high}
use Rattle.widths.proofs.whole_of.Goals as goal

both : (b : Bool) → T b → b ≡ false → ⊥
both b t e = subst T e t

passed : (b : Bool) → b ≡ true → T b
passed b e = subst T (sym e) tt

pub whole_near-requires : goal.whole_near-requires
unfolding le mul of_bits
whole_near-requires c = search rules

pub returns-else-v-2 : goal.returns-else-v-2
unfolding le mul of_bits
returns-else-v-2 c = whole_none _ (passed _ c.well_formed.0.1) (λ n f.
    both _ (subst (λ (y : Float). T (le (mul binary32 y scale) (fin false 65535 (pos 0)))) (sym f.1) (scaled_high n f.0)) c.if-v-2.false)

pub returns-else-v : goal.returns-else-v
unfolding le mul of_bits
returns-else-v c = whole_none _ (passed _ c.well_formed.0.1) (λ n f.
    both _ (subst (λ (y : Float). T (le (fin false 0 (pos 0)) (mul binary32 y scale))) (sym f.1) (scaled_low n f.0)) c.if-v.false)
