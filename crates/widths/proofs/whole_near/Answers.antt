-- `whole_near` meets its contract: what has a figure's pattern is that figure, and a figure times 256 gives its own number back. Assumes nothing.
use Rattle.std.proofs.Common.{◌≡◌, ℕ, ◌<◌, Bool, true, false, not, T, pos, sym, ap, ◌∙◌, subst, arith}
use lib.Ieee.{Float, fin, le, mul, to_bits, to_unsigned, is_nan, binary32}
use Rattle.bandwidth_rules.specs.Figure.{scale, figures, figure_of}
use Rattle.bandwidth_rules.proofs.Exact.{figure_exact}
use Rattle.bandwidth_rules.proofs.Figures.{whole_of_lem, whole_none}
use Rattle.bandwidth_rules.proofs.Range.{cut_back, above_minus_one, below_64, not_nan, not_nan_scaled, same_pattern, figure_fits}
use Rattle.widths.proofs.whole_near.Goals as goal

passed : (b : Bool) → b ≡ true → T b
passed b e = subst T (sym e) tt

-- the whole part of 256 x, where x is a figure
whole : (x v : Float) (n m : ℕ) → v ≡ mul binary32 x scale → m ≡ to_unsigned 64 v → n < figures → x ≡ figure_of n → m ≡ n
whole x v n m e t h f = t ∙ ap (to_unsigned 64) (e ∙ ap (λ (y : Float). mul binary32 y scale) f) ∙ cut_back n h

pub truncating_f32_to_u64-n-requires : goal.truncating_f32_to_u64-n-requires
truncating_f32_to_u64-n-requires c = record {
  lower_bound = above_minus_one c.args.v (passed _ c.requires.0);
  upper_bound = below_64 c.args.v (passed _ c.requires.1);
}

pub float_to_bits-y : goal.float_to_bits-y
float_to_bits-y c =
    let n : ℕ = c.truncating_f32_to_u64-n.result in
    let h : n < figures = omega (arith, c.if-n-le65535.true) in
    subst (λ (y : Float). T (not (is_nan y))) (sym c.figure-y.ensures) (not_nan (figure_of n) _ n 256 (figure_exact n h))

pub float_to_bits-x : goal.float_to_bits-x
float_to_bits-x c =
    not_nan_scaled c.args.x (subst (λ (v : Float). T (le (fin false 0 (pos 0)) v)) c.requires.2 (passed _ c.requires.0))

pub returns-then-y-x : goal.returns-then-y-x
returns-then-y-x c =
    let n : ℕ = c.truncating_f32_to_u64-n.result in
    let h : n < figures = omega (arith, c.if-n-le65535.true) in
    let same : to_bits binary32 c.figure-y.result ≡ to_bits binary32 c.args.x = c.if-y-x.true in
    let is = sym (same_pattern (figure_of n) c.args.x (figure_fits n) (passed _ c.well_formed.0.1) (ap (to_bits binary32) (sym c.figure-y.ensures) ∙ same)) in
    whole_of_lem c.args.x n (passed _ c.well_formed.0.1) (h, is)

pub returns-else-y-x : goal.returns-else-y-x
returns-else-y-x c =
    whole_none c.args.x (passed _ c.well_formed.0.1) (λ n f.
    let m : ℕ = c.truncating_f32_to_u64-n.result in
    let e : m ≡ n = whole c.args.x c.args.v n m c.requires.2 c.truncating_f32_to_u64-n.ensures f.0 f.1 in
    c.if-y-x.false (ap (to_bits binary32) (c.figure-y.ensures ∙ ap figure_of e ∙ sym f.1)))

pub returns-else-n-le65535 : goal.returns-else-n-le65535
returns-else-n-le65535 c =
    whole_none c.args.x (passed _ c.well_formed.0.1) (λ n f.
    let m : ℕ = c.truncating_f32_to_u64-n.result in
    let e : m ≡ n = whole c.args.x c.args.v n m c.requires.2 c.truncating_f32_to_u64-n.ensures f.0 f.1 in
    absurd (omega (arith, f.0, c.if-n-le65535.false)))
