-- `pattern` meets its contract. Assumes nothing.
use mathlib.Core.Path.{◌≡◌, subst}
use native.Mathlib.Omega.{arith}
use borrow.Author.Rules.{rules}
use lib.ListN.{length}
use Rattle.code_rules.specs.inner.Kernel.{Multiples}
use Rattle.code_rules.proofs.LaneLaws.{fits_byte}
use Rattle.code_rules.proofs.PatternLaws.{pattern_made}
use Rattle.code_solver.proofs.patterns.pattern.Goals as goal

pub columns-d-requires : goal.columns-d-requires
columns-d-requires c =
    let n = c.min-n in
    (omega (arith, n.ensures), c.multiples-k.ensures.twos, λ i h. fits_byte (search rules))

pub returns : goal.returns
returns c =
    let A = c.args in
    let n = c.min-n in
    let K = c.multiples-k in
    let P = c.locator-p in
    let C = c.columns-d in
    let S = c.multiples in
    let l : length A.x ≡ 48 = search rules in
    let r : length S.result ≡ 384 = search rules in
    let m = subst (λ y. Multiples y S.result) c.scales.ensures S.ensures in
    pattern_made A.x K.result P.result A.q.now C.new.q C.result S.result A.e n.result
    n.ensures l K.ensures P.ensures.0 P.ensures.1 C.ensures r m
