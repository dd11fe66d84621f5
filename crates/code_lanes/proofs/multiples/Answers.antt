use mathlib.Core.Path.{◌≡◌, ap, ◌∙◌}
use mathlib.Core.List.{List, ◌++◌}
use Prim.Native.Nat.{ℕ, ◌<◌}
use native.Mathlib.Omega.{arith}
use borrow.Author.Rules.{rules}
use lib.ListN.{length, get_or, get_or-append}
use Rattle.code_rules.proofs.LaneLaws.{multiples_end}
use Rattle.code_lanes.proofs.multiples.Goals as goal

-- a copy at the front is there
front : (s x rest : List ℕ) (i : ℕ) → s ≡ x → i < length x → get_or (s ++ rest) i 0 ≡ get_or x i 0
front s x rest i e h = ap (λ (l : List ℕ). get_or (l ++ rest) i 0) e ∙ get_or-append x rest 0 i h

pub returns : goal.returns
returns c =
    let x : List ℕ = c.args.x in
    let L = c.loop-i in
    let M = multiples_end _ L.k L.i (omega arith) L.invariant in
    let long : length x ≡ 48 = search rules in
    record { firsts = λ i h. M.firsts i h ∙ front c.copy_from_slice.new.self x _ i c.copy_from_slice.ensures.after (omega arith); twos = M.twos }
