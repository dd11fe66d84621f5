-- The items of a walk that is not refused follow each other without a gap. Assumes nothing.
use Prim.Native.Nat.{ℕ, zero, suc, ◌+◌, ◌≤◌}
use mathlib.Core.List.{List, [], ◌∷◌}
use mathlib.Core.Path.{◌≡◌, refl, sym, subst}
use mathlib.Core.Bool.{Bool, true, false, cond, ◌&&◌}
use native.Mathlib.Omega.{arith}
use lib.ListN.{length}
use Rattle.base_rules.specs.Tests.{among}
use Rattle.item_rules.specs.declared.Item.{Item}
use Rattle.item_rules.specs.declared.Repeats.{Repeats}
use Rattle.item_rules.specs.Item.{head}
use Rattle.item_rules.specs.Run.{Run, next_of, run_of, forbids}
use Rattle.item_rules.proofs.Steps.{item_fits}
use Rattle.item_rules.proofs.Runs.{item_begins, every-run}
use Rattle.item_rules.proofs.Starts.{item_starts}
use Rattle.walk_rules.specs.Names.{deepest, names_of, names_fault}
use Rattle.walk_rules.specs.Walk.{Tour, visit, ends, and_then, tour_by, tour_at, refusal, walk_of}
use Rattle.walk_rules.specs.Claims.{Laid, plain, container, rest, InARow}
use Rattle.walk_rules.proofs.PlainWalks.{parts, not_tested, not_too_deep}

module _ (word : Repeats) (s cs : List ℕ) where
  module _ (inner : Item → Tour) (d end : ℕ)
      (within : (i : Item) → d ≤ deepest → i.from ≡ i.start + head → refusal (inner i) ≡ 0 → Laid cs (d + 1) (i.start + head) (next_of i) (inner i)) where
    -- an item with its contents, if it is a container, and what is behind it
    item_by : (b : Bool) (at : ℕ) (i : Item) (t : Tour) → among i.name cs ≡ b → i.start ≡ at → i.from ≡ i.start + head → d ≤ deepest
        → refusal (cond b (inner i) (ends 0)) ≡ 0 → Laid cs d (next_of i) end t → Laid cs d at end (visit d i (and_then (cond b (inner i) (ends 0)) t))
    unfolding and_then
    item_by true at i t q here from shallow z behind = container here q (within i shallow from z) behind
    item_by false at i t q here from shallow z behind = plain here q behind

    abbrev Lies : ℕ → Run → Type 0
    Lies at r = (seen : List ℕ) → at ≤ end → refusal (tour_by word inner cs d seen r) ≡ 0 → Laid cs d at end (tour_by word inner cs d seen r)

    lies : (at : ℕ) → Lies at (run_of s at end)
    unfolding tour_by refusal
    lies =
        every-run s end Lies
        (λ at i e behind seen h q.
        let r : Run = run_of s (next_of i) end in
        let of = parts word s cs inner d seen i r q in
        let start = item_starts s at end i e in
        let from = item_begins s at end i e in
        let shallow = not_too_deep cs d (forbids word && among i.name seen) i of.0 in
        let fits : next_of i ≤ end = omega (arith, h, from, item_fits s at end i e) in
        simp of.0 (item_by (among i.name cs) at i _ refl start (omega (arith, start, from)) shallow of.1 (behind (i.name ∷ seen) fits of.2)))
        (λ at p few left seen h q. rest (omega (arith, left)) few)
        (λ at seen h q. let none : ◌≡◌ {A = ℕ} 30 0 = q in absurd (omega arith))

  -- level by level: below the deepest no item stands, so no container
  laid_at : (levels d : ℕ) → d + levels ≡ deepest + 1 → (at end : ℕ) (seen : List ℕ) → at ≤ end
      → refusal (tour_at word levels s cs d seen (run_of s at end)) ≡ 0 → Laid cs d at end (tour_at word levels s cs d seen (run_of s at end))
  unfolding tour_at
  laid_at zero d h at end = lies (λ i. ends 0) d end (λ i shallow from z. absurd (omega arith)) at
  laid_at (suc k) d h at end =
      lies (λ i. tour_at word k s cs (d + 1) [] (run_of s i.from (next_of i))) d end
      (λ i shallow from z.
      subst (λ (b : ℕ). Laid cs (d + 1) b (next_of i) (tour_at word k s cs (d + 1) [] (run_of s i.from (next_of i)))) from
      (laid_at k (d + 1) (omega arith) i.from (next_of i) [] (omega arith) z)) at

-- each item starts where the one before ends, the first inside a container behind its head
pub in_a_row : InARow
unfolding walk_of
in_a_row word s l q =
    let whole = not_tested (names_fault l) _ q in
    subst (Laid (names_of l) 0 0 (length s)) (sym whole.0) (laid_at word s (names_of l) (deepest + 1) 0 refl 0 (length s) [] (omega arith) whole.1)
