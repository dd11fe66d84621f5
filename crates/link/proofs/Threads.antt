-- One number in a run by its lines: since when it is held, and that T2 speaks of it since then. Assumes nothing.
use mathlib.Core.Path.{◌≡◌, refl, sym, ◌∙◌, subst}
use mathlib.Core.Bool.{true, false, cond}
use mathlib.Core.List.{List, [], ◌∷◌}
use Prim.Native.Nat.{ℕ, zero, suc, ◌<◌}
use native.Mathlib.Omega.{arith}
use lib.ListN.{length, take, drop}
use Rattle.places_rules.specs.Places.{all_places}
use Rattle.base_rules.specs.Tests.{among}
use Rattle.base_rules.proofs.Logic.{either, clash}
use Rattle.receiver_rules.specs.Promise.{State}
use Rattle.link.specs.Run.{Call, Run, start, next, fresh_with, Holds, All}
use Rattle.link.specs.Demand.{key_for, Scene, HeldAfter}
use Rattle.link.specs.Steps.{Promised}
use Rattle.link.specs.Examples.{settings_of, packet_under, Line, none, one_more}
use Rattle.link.proofs.Until.{until_displaced}
use Rattle.link.proofs.Turns.{lately, Stands, stands_held, stands_only, turn, turns_of, stands}
use Rattle.link.proofs.Packets.{sent_takes, its_key}
use Rattle.link.proofs.Brings.{hears, number_at, number_is, own_is}
use Rattle.link.proofs.Arrivals.{Kinds, heard_is}

-- the numbers that open a place in these lines, the last one first
unfoldable pub turns : List Line → List ℕ
turns [] = []
turns (l ∷ ls) = turn (hears l.0) (number_at l.0) (turns ls)

turns_are : {ls : List Line} {es : List Call} → Kinds ls es → turns_of es ≡ turns ls
unfolding turns turns_of turn
turns_are none = refl
turns_are (one_more {l = l} k b) =
    either (hears l.0)
    (λ h. simp (heard_is k ∙ h, h, number_is k h, turns_are b))
    (λ h. simp (heard_is k ∙ h, h, turns_are b))

-- after how many of the last lines the number n is held
unfoldable pub since : ℕ → List Line → ℕ
since n [] = 0
since n (l ∷ ls) = cond (lately n (turns (l ∷ ls))) (suc (since n ls)) 0

-- before those it is not
pub free_before : (n : ℕ) (ls : List Line) → lately n (turns (drop (since n ls) ls)) ≡ false
unfolding turns since among
free_before n [] = refl
free_before n (l ∷ ls) =
    either (lately n (turns (l ∷ ls)))
    (λ h. rw h (free_before n ls))
    (λ h. rw h h)

-- where it is held, there is one
pub some_since : (n : ℕ) {ls : List Line} {es : List Call} → Kinds ls es → lately n (turns ls) ≡ true → 0 < length (take (since n ls) es)
unfolding turns since among
some_since n none t = clash t refl
some_since n (one_more k b) t = rw t (omega arith)

module _ {lent : List ℕ} (all : length lent ≡ all_places) where
  -- the numbers of the lines stand in their places
  pub stand : {ls : List Line} {es : List Call} {s : State} → Run (fresh_with lent) es s → Kinds ls es → Stands (turns ls) s
  stand {s = s} run k = subst (λ (ns : List ℕ). Stands ns s) (turns_are k) (stands all run)

  -- so each of the last four is held,
  pub held_now : (n : ℕ) {ls : List Line} {es : List Call} {s : State} → Run (fresh_with lent) es s → Kinds ls es → lately n (turns ls) ≡ true
      → Holds s (key_for (settings_of n) n)
  held_now n {s = s} run k t = subst (Holds s) (sym (its_key n)) (stands_held (stand run k) n t)

  -- and no other number
  pub free_now : (n : ℕ) {ls : List Line} {es : List Call} {s : State} → Run (fresh_with lent) es s → Kinds ls es → lately n (turns ls) ≡ false
      → Holds s (key_for (settings_of n) n) → ⊥
  free_now n {s = s} run k t h = clash (stands_only (stand run k) n (subst (Holds s) (its_key n) h)) t

  module _ (n : ℕ) (small : n < 65536) where
    begun : {ls : List Line} {es : List Call} {s : State} → Run (fresh_with lent) es s → Kinds ls es → lately n (turns ls) ≡ false
        → Scene (settings_of n) n (packet_under n) s [] s
    unfolding All
    begun {es = es} run k t =
        record {
          takes = sent_takes n small;
          reached = record { lent = lent; all = all; calls = es; run = run };
          free = free_now n run k t;
          run = start;
          own = tt;
        }

    -- demand 3 speaks of the last j calls, if the number was not held before them
    pub scene_since : (j : ℕ) {ls : List Line} {es : List Call} {s : State} → Run (fresh_with lent) es s → Kinds ls es
        → lately n (turns (drop j ls)) ≡ false
        → (first : State) × Run (fresh_with lent) (drop j es) first × Scene (settings_of n) n (packet_under n) first (take j es) s
    unfolding All
    scene_since zero {s = s} run k t = (s, run, begun run k t)
    scene_since (suc j) start none t = (fresh_with lent, start, begun start none t)
    scene_since (suc j) (next e run made) (one_more k b) t =
        let before = scene_since j run b t in
        let scene = before.2 in (
          before.0,
          before.1,
          record {
            takes = scene.takes;
            reached = scene.reached;
            free = scene.free;
            run = next e scene.run made;
            own = (own_is n k, scene.own);
          },
        )

  -- and it is held after each call since then
  pub held_since : (n : ℕ) {ls : List Line} {es : List Call} {s : State} → Run (fresh_with lent) es s → Kinds ls es
      → HeldAfter (settings_of n) n (take (since n ls) es)
  unfolding All since
  held_since n start none = tt
  held_since n (next {es = es} e run made) (one_more {l = l} {ls = ls} k b) =
      either (lately n (turns (l ∷ ls)))
      (λ h. rw h (held_now n (next e run made) (one_more k b) h, held_since n run b))
      (λ h. rw h tt)

  -- so all that T2 promises holds of it
  pub promised : (n : ℕ) → n < 65536 → {ls : List Line} {es : List Call} {s : State} → Run (fresh_with lent) es s → Kinds ls es
      → Promised (settings_of n) n (packet_under n) (take (since n ls) es) s
  promised n small {ls} {es} {s} run k =
      let x = scene_since n small (since n ls) run k (free_before n ls) in
      (until_displaced (settings_of n) n (packet_under n) x.0 (take (since n ls) es) s x.2 (held_since n run k)).0
