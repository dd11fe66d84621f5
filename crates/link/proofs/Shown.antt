-- What the query shows of a good state. Assumes nothing.
use mathlib.Core.Path.{◌≡◌, sym, ap, ap₂, ◌∙◌}
use mathlib.Core.Bool.{Bool, cond}
use mathlib.Core.List.{[], ◌∷◌, ◌++◌}
use Prim.Native.Nat.{ℕ, ◌<◌}
use native.Mathlib.Nat.{le_refl}
use native.Mathlib.Omega.{arith}
use borrow.Author.Tests.{ne_eqb}
use lib.ListN.{length}
use Rattle.base_rules.specs.Answer.{granted}
use Rattle.base_rules.specs.Bounds.{most_l}
use Rattle.base_rules.proofs.Answers.{grants}
use Rattle.places_rules.specs.declared.Place.{Place}
use Rattle.places_rules.specs.Places.{four, free, open_now, place_at, key_in}
use Rattle.receiver_rules.specs.Promise.{State}
use Rattle.receiver_rules.specs.Calls.{shown_of, query_call}
use Rattle.link.specs.Run.{ShownOpen}
use Rattle.link.proofs.View.{Good, no_room_fault}

open_shown : (p : Place) (n : ℕ) → p.condition ≡ open_now → key_in p ≡ n → shown_of p ≡ open_now ∷ n ∷ []
unfolding shown_of
open_shown p n e q =
    ap (λ (b : Bool). cond b (free ∷ []) (p.condition ∷ key_in p ∷ [])) (ne_eqb p.condition free (λ z. omega arith))
    ∙ ap₂ (λ (x y : ℕ). x ∷ y ∷ []) e q

query_granted : (s : State) → Good s
    → query_call s.table (length s.bytes)
    ≡ granted (shown_of (place_at s.table 0) ++ shown_of (place_at s.table 1) ++ shown_of (place_at s.table 2) ++ shown_of (place_at s.table 3))
unfolding query_call
query_granted s r = sym (grants _ _ (sym (no_room_fault s r most_l (le_refl most_l))))

-- a place that is open shows its number as open
pub shown_open : {s : State} → Good s → (i n : ℕ) → i < four → (place_at s.table i).condition ≡ open_now → key_in (place_at s.table i) ≡ n
    → ShownOpen s n
shown_open {s} r i n l e q = record { answered = query_granted s r; at = i; below = l; shown = open_shown (place_at s.table i) n e q }
