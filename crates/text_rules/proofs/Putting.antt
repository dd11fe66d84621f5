-- What the writers store: as much of a text as fits, and digits from the last to the first. Assumes nothing.
use mathlib.Core.Path.{◌≡◌, sym, ap, ap₂, ◌∙◌}
use mathlib.Core.List.{List, [], ◌∷◌, ◌++◌, append_assoc, append-nil}
use Prim.Native.Nat.{ℕ, zero, suc, ◌+◌, ◌-◌, ◌/◌, ◌%◌, ◌^◌, ◌≤◌, ◌<◌, min}
use native.Mathlib.Nat.{min-eq_left, min-eq_right, min-le_left, min-le_right, div-lt_iff_lt-mul, pow-suc}
use native.Mathlib.Numerals.{add-one}
use native.Mathlib.Omega.{arith}
use lib.Dec.{lit<}
use lib.ListN.{length, take, drop, set, length-take, drop_of_length-le}
use lib.Seq.{take_all, drop-cons, drop-set-lt, get_or-set_same, lt-length-set}
use Rattle.base_rules.specs.Answer.{outcome}
use Rattle.base_rules.specs.Bytes.{splice}
use Rattle.base_rules.specs.Written.{number_of, put_of}
use Rattle.base_rules.specs.declared.Refusal.{Refusal}
use Rattle.std.specs.Prelude.{Result}
use Rattle.text_rules.specs.Text.{laid, behind, letter_of, decimal_of}
use Rattle.base_rules.proofs.Answers.{put_is}
use Rattle.text_rules.proofs.Laws.{Lays, whether}
use Rattle.text_rules.proofs.Digits.{decimal_one, decimal_more}

-- as much of t as fits, put where it belongs
module _ (d t : List ℕ) (at n : ℕ) (fit : n ≡ min (length t) (length d - at)) where
  same : take n t ≡ take (length d - at) t
  same =
      whether (length t) (length d - at)
      (λ h. take_all n t (omega (arith, min-eq_left h)) ∙ sym (take_all (length d - at) t h))
      (λ h. ap (λ (x : ℕ). take x t) (fit ∙ min-eq_right (omega arith)))

  -- the copy of as much of a text as fits, from a place in the buffer, lays the text down
  pub put_lays : (y : List ℕ) (r : Result (Unit {0}) Refusal) → at ≤ length d → outcome (number_of r) y ≡ put_of d at (take n t) → Lays d at t (at + n) y
  unfolding laid behind
  put_lays y r inside e =
      let short : length (take n t) ≤ length d - at =
      omega (arith, length-take n t, min-le_left n (length t), min-le_right (length t) (length d - at)) in
      let put : y ≡ splice d at (take n t) = put_is d (take n t) y at (number_of r) (omega arith) e in
      (ap (λ (x : ℕ). at + x) fit, put ∙ ap (splice d at) same)

-- a letter stored, and those behind it
stored : (s : List ℕ) (i a : ℕ) → i < length s → drop i (set s i a) ≡ a ∷ drop (i + 1) s
stored s i a h =
    drop-cons (set s i a) i 0 (lt-length-set s i a h)
    ∙ ap₂ (λ (x : ℕ) (l : List ℕ). x ∷ l) (get_or-set_same s i a 0 h) (drop-set-lt (suc i) s i a (omega arith)
    ∙ ap (λ (x : ℕ). drop x s) (sym (add-one i)))

-- the digits of x from the last to the first, stored in twenty places: none yet,
pub digits_none : (x : ℕ) (s : List ℕ) → length s ≡ 20 → decimal_of x ++ drop (19 + 1) s ≡ decimal_of x
digits_none x s long = ap (λ (l : List ℕ). decimal_of x ++ l) (drop_of_length-le s {i = 20} (omega arith)) ∙ append-nil (decimal_of x)

module _ (x y : ℕ) (s : List ℕ) (i a : ℕ) (h : i < length s) (e : decimal_of y ++ drop (i + 1) s ≡ decimal_of x) where
  -- one more,
  pub digits_more : 10 ≤ y → a ≡ letter_of (y % 10) → decimal_of (y / 10) ++ drop i (set s i a) ≡ decimal_of x
  digits_more more is-a =
      ap (λ (l : List ℕ). decimal_of (y / 10) ++ l) (stored s i a h ∙ ap (λ (b : ℕ). b ∷ drop (i + 1) s) is-a)
      ∙ sym (append_assoc (decimal_of (y / 10)) (letter_of (y % 10) ∷ []) (drop (i + 1) s))
      ∙ ap (λ (l : List ℕ). l ++ drop (i + 1) s) (sym (decimal_more y more))
      ∙ e

  -- and the first
  pub digits_all : y < 10 → a ≡ letter_of y → drop i (set s i a) ≡ decimal_of x
  digits_all one is-a =
      stored s i a h ∙ ap (λ (b : ℕ). b ∷ drop (i + 1) s) is-a ∙ ap (λ (l : List ℕ). l ++ drop (i + 1) s) (sym (decimal_one y one)) ∙ e

-- a number below a power of ten has places left where it has more than one digit
pub places_left : (i y : ℕ) → 10 ≤ y → y < 10 ^ (i + 1) → (0 < i) × (y / 10 < 10 ^ i)
places_left zero y more h = absurd (omega (arith, pow-suc 10 0))
places_left (suc i) y more h = (
  omega arith,
  (div-lt_iff_lt-mul (lit< tt)).1
      (omega (arith, pow-suc 10 (suc i), ap (λ (x : ℕ). 10 ^ x) (add-one (suc i)))),
)
