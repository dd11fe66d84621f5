-- `remainder_of` meets its contract. Assumes nothing.
use mathlib.Core.Path.{◌≡◌, sym, ap, ◌∙◌}
use native.Mathlib.Omega.{arith}
use lib.ListN.{length, take, drop}
use lib.Seq.{length-take-le}
use Rattle.code_rules.specs.inner.Kernel.{sum_of}
use Rattle.code_rules.proofs.TableLaws.{remainder_long, remainder_other, remainder_some}
use Rattle.code_encoder.proofs.register.remainder_of.Goals as goal
use Rattle.code_encoder.proofs.register.remainder_of.Goals.{then-k-gt-MOST_K-via-then-k-gt-MOST_K, then-k-gt-MOST_K-via-else-k-gt-MOST_K+then-c-k}

pub returns-then-k-gt-MOST_K : goal.returns-then-k-gt-MOST_K
returns-then-k-gt-MOST_K c =
    let A = c.args in
    elim c.then-k-gt-MOST_K.branch [
      | then-k-gt-MOST_K-via-then-k-gt-MOST_K w ↦ remainder_long A.t.now A.k A.c.now w.if-k-gt-MOST_K.true
      | then-k-gt-MOST_K-via-else-k-gt-MOST_K+then-c-k w ↦ remainder_other A.t.now A.k A.c.now w.if-k-gt-MOST_K.false w.if-c-k.true
    ]

pub slice_bounds-parity_of-end : goal.slice_bounds-parity_of-end
slice_bounds-parity_of-end c =
    let A = c.args in
    let e = c.if-c-k.false in
    sym (length-take-le A.k A.c.now (omega arith))

pub parity_of-p-requires : goal.parity_of-p-requires
parity_of-p-requires c =
    let A = c.args in
    let e = c.if-c-k.false in
    let size : length (take A.k A.c.now) ≡ A.k = length-take-le A.k A.c.now (omega arith) in
    omega (arith, c.if-k-gt-MOST_K.false)

pub returns : goal.returns
returns c =
    let A = c.args in
    c.summed.ensures
    ∙ ap (λ p. sum_of p (drop A.k A.c.now)) c.parity_of-p.ensures
    ∙ remainder_some A.t.now A.k A.c.now c.if-k-gt-MOST_K.false c.if-c-k.false
