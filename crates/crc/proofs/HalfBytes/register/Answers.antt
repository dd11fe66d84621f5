use mathlib.Core.Path.{◌≡◌, refl, ap, ◌∙◌}
use mathlib.Core.List.{List, []}
use Prim.Native.Nat.{ℕ, zero, suc, ◌+◌, ◌-◌, ◌*◌, ◌<◌}
use native.Mathlib.Omega.{arith}
use lib.ListN.{get_or, take, drop}
use lib.Seq.{drop-drop}
use Rattle.std.specs.Simd.{first_chunks}
use Rattle.crc_rules.specs.Crc.{register_of}
use Rattle.crc_rules.proofs.Over.{part_more}
use Rattle.crc.proofs.HalfBytes.register.Goals as goal

-- eight i of a list
eight_at : (k i : ℕ) (s : List ℕ) → i < k → get_or (first_chunks 8 k s) i [] ≡ take 8 (drop (i * 8) s)
eight_at zero i s h = absurd (omega arith)
eight_at (suc k) zero s h = refl
eight_at (suc k) (suc i) s h =
    let n : 8 + i * 8 ≡ suc i * 8 = omega arith in
    eight_at k i (drop 8 s) (omega arith) ∙ ap (take 8) (drop-drop (i * 8) 8 s ∙ ap (λ j. drop j s) n)

-- one eight more
eight_over : (k i r : ℕ) (s : List ℕ) → i < k
    → register_of (register_of r (get_or (first_chunks 8 k s) i [])) (drop ((i + 1) * 8) s) ≡ register_of r (drop (i * 8) s)
eight_over k i r s h =
    let n : 8 ≡ (i + 1) * 8 - i * 8 = omega arith in
    ap (λ p. register_of (register_of r p) (drop ((i + 1) * 8) s)) (eight_at k i s h ∙ ap (λ j. take j (drop (i * 8) s)) n)
    ∙ part_more s (i * 8) ((i + 1) * 8) r (omega arith)

pub loop-p-preserved : goal.loop-p-preserved
loop-p-preserved c =
    let l = c.loop-p in
    let s = c.args.bytes.now in
    let i = l.p-index in
    let e = ap (λ r. register_of r (drop ((i + 1) * 8) s)) c.eight-r.ensures in
    let here = ap (λ x. get_or x i []) c.as_chunks.ensures.front in
    e ∙ ap (λ p. register_of (register_of l.r p) (drop ((i + 1) * 8) s)) here ∙ eight_over _ i l.r s (omega (arith, c.as_chunks.ensures.front_len))
    ∙ l.invariant
