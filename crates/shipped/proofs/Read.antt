-- What a receiving tells in its 8 bytes is read back as its answer. Assumes nothing.
use mathlib.Core.Path.{◌≡◌, refl, ap, ap₂}
use mathlib.Core.List.{List, [], ◌∷◌, ◌++◌}
use Prim.Native.Nat.{ℕ, ◌<◌}
use borrow.Author.Tests.{ne_eqb}
use lib.ListN.{length, get_or}
use Rattle.std.specs.Prelude.{Option, Some, None, Result, Ok, Err}
use Rattle.base_rules.specs.Refusal.{number}
use Rattle.base_rules.specs.declared.Refusal.{Refusal}
use Rattle.base_rules.specs.Bytes.{splice, number_at, bytes_of}
use Rattle.base_rules.proofs.Numbers.{number_back}
use Rattle.receiver_rules.specs.Promise.{displaced_values, number_of}
use Rattle.receiver_rules.specs.declared.Received.{Received}
use Rattle.receiver_rules.specs.declared.Received.TheVariants.{Kept, Delivered, Damaged}
use Rattle.card_rules.specs.Told.{in_widths}
use Rattle.card_rules.specs.Receiving.{displaced_told, receipt_told, receipt_widths, told_after}
use Rattle.shipped.specs.Runs.{displaced_from, handed_from, answer_from}

-- ---- which answers are told whole

-- a displaced number has two bytes
abbrev pub FitsDisplaced : Option ℕ → Type 0
FitsDisplaced None = Unit {0}
FitsDisplaced (Some n) = n < 65536

-- so have length and count; a refusal has neither the number of a kept fragment nor that of a damaged packet
abbrev pub Fits : Result Received Refusal → Type 0
Fits (Ok (Kept d)) = FitsDisplaced d
Fits (Ok (Delivered length missing d)) = (length < 65536) × (missing < 65536) × FitsDisplaced d
Fits (Ok (Damaged d)) = FitsDisplaced d
Fits (Err e) = (number e ≡ 0 → ⊥) × (number e ≡ 13 → ⊥)

-- ---- read back

module _ (told : List ℕ) (handed l m : ℕ) where
  -- what stands afterwards
  unfoldable pub stands : Option ℕ → List ℕ
  stands d = splice told 0 (in_widths receipt_widths (receipt_told handed l m d))

  -- a displaced number is told as 1 and itself
  pub displaced_told_lem : (n : ℕ) → n < 65536 → (get_or (stands (Some n)) 5 0 ≡ 1) × (number_at 2 (stands (Some n)) 6 ≡ n)
  unfolding stands splice in_widths receipt_told displaced_told bytes_of number_at
  displaced_told_lem n f = (refl, number_back 2 n [] f)

  displaced_back : (d : Option ℕ) → FitsDisplaced d → displaced_from (stands d) ≡ displaced_values d
  unfolding stands splice in_widths receipt_told displaced_told bytes_of displaced_from displaced_values
  displaced_back None f = refl
  displaced_back (Some n) f = ap (λ (x : ℕ). 1 ∷ x ∷ []) (displaced_told_lem n f).1

none_handed : (told : List ℕ) (d : Option ℕ) → handed_from (stands told 0 0 0 d) ≡ []
unfolding stands splice in_widths receipt_told bytes_of handed_from
none_handed told d = refl

-- a packet that was handed out is told as 1, its length, and the count of its fragments not held
pub handed_told : (told : List ℕ) (l m : ℕ) (d : Option ℕ) → l < 65536 → m < 65536
    → (get_or (stands told 1 l m d) 0 0 ≡ 1) × (number_at 2 (stands told 1 l m d) 1 ≡ l) × (number_at 2 (stands told 1 l m d) 3 ≡ m)
unfolding stands splice in_widths receipt_told bytes_of number_at
handed_told told l m d small few = (refl, number_back 2 l [] small, number_back 2 m [] few)

one_handed : (told : List ℕ) (l m : ℕ) (d : Option ℕ) → l < 65536 → m < 65536 → handed_from (stands told 1 l m d) ≡ l ∷ m ∷ []
unfolding stands splice in_widths receipt_told bytes_of handed_from
one_handed told l m d small few = let there = handed_told told l m d small few in ap₂ (λ (x y : ℕ). x ∷ y ∷ []) there.1 there.2

-- the answer is read back off its number and what it tells
pub answer_back : (a : Result Received Refusal) (told : List ℕ) → Fits a → answer_from (number_of a).0 (told_after a told) ≡ number_of a
unfolding answer_from told_after number_of stands
answer_back (Ok (Kept d)) told f = ap₂ (λ (x y : List ℕ). (0, x ++ y)) (none_handed told d) (displaced_back told 0 0 0 d f)
answer_back (Ok (Delivered l m d)) told f =
    ap₂ (λ (x y : List ℕ). (0, x ++ y)) (one_handed told l m d f.0 f.1) (displaced_back told 1 l m d f.2)
answer_back (Ok (Damaged d)) told f = ap (λ (x : List ℕ). (13, x)) (displaced_back told 0 0 0 d f)
answer_back (Err e) told f = rw (ne_eqb (number e) 0 f.0, ne_eqb (number e) 13 f.1)
