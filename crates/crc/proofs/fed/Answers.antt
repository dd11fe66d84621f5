use mathlib.Core.Path.{◌≡◌, sym, ap, ◌∙◌}
use Prim.Native.Nat.{ℕ, suc, ◌+◌, ◌-◌, ◌<◌, ◌≤◌}
use native.Mathlib.Omega.{arith}
use borrow.Author.Rules.{rules}
use Rattle.crc_rules.specs.inner.Shifts.{shift, shift8, feed_at_once}
use Rattle.crc_rules.proofs.AtOnce.{at_once}
use Rattle.crc.proofs.fed.Goals as goal
use Rattle.crc.proofs.fed.Invariants.{shifts}

one_shift : (i q p : ℕ) → i < 8 → p ≡ shift q → shifts (8 - (i + 1)) p ≡ shifts (8 - i) q
unfolding shifts
one_shift i q p h e =
    let n : suc (8 - (i + 1)) ≡ 8 - i = omega arith in
    ap (shifts (8 - (i + 1))) e ∙ ap (λ k. shifts k q) n

-- none is left

no_shift : (i q : ℕ) → i ≤ 8 → 8 ≤ i → q ≡ shifts (8 - i) q
unfolding shifts
no_shift i q h k = let n : 0 ≡ 8 - i = omega arith in ap (λ k. shifts k q) n

pub loop-init : goal.loop-init
unfolding shifts feed_at_once shift8
loop-init c = (search rules, sym (at_once _ _ (search rules) (search rules)))

pub loop-preserved : goal.loop-preserved
loop-preserved c =
    let l = c.loop in
    (search rules, one_shift l.counter _ _ c.loop-test.true c.shifted-q.ensures ∙ l.invariant.1)

pub returns : goal.returns
returns c = no_shift _ _ c.loop.invariant.0 c.loop-test.false ∙ c.loop.invariant.1
