-- An input that is longer than a packet lists as its first 8,193 bytes do: 21 or 22 is due for both, by the first two bytes. Assumes nothing.
use Prim.Native.Nat.{ℕ, zero, suc, ◌+◌, ◌≤◌, ◌<◌}
use mathlib.Core.List.{List}
use mathlib.Core.Path.{◌≡◌, refl, sym, ap, ◌∙◌}
use mathlib.Core.Bool.{Bool, true, false, cond, not, ◌||◌}
use native.Mathlib.Omega.{arith}
use borrow.Author.Tests.{le-ltb, lt-ltb}
use lib.Dec.{eqb, ltb}
use lib.ListN.{length, take}
use lib.Seq.{get_or-take, take_all, length-take-le}
use Rattle.base_rules.specs.Bounds.{least_l, most_l}
use Rattle.base_rules.specs.Bytes.{number_at}
use Rattle.base_rules.specs.Tests.{first}
use Rattle.base_rules.proofs.Logic.{either}
use Rattle.text_rules.proofs.Laws.{whether}
use Rattle.af_rules.specs.Packet.{sync, sync_of, len_of}
use Rattle.af_rules.specs.Calls.{bad_length, af_fault}
use Rattle.lister_rules.specs.Listing.{most_input, refused_line, listing_of}

or-true : (b : Bool) → (b || true) ≡ true
or-true true = refl
or-true false = refl

-- a number that stands in the first bytes
number_take : (w n : ℕ) (s : List ℕ) → w ≤ n → number_at w (take n s) 0 ≡ number_at w s 0
unfolding number_at
number_take zero n s h = refl
number_take (suc w) n s h =
    rw (number_take w n s (omega arith), get_or-take n s (0 + w) 0 (omega arith))

module _ (s : List ℕ) (long : most_l < length s) where
  over : bad_length s ≡ true
  unfolding bad_length
  over = simp (lt-ltb most_l (length s) long) (or-true (not (eqb (length s) (len_of s + least_l))))

  not_short : ltb (length s) least_l ≡ false
  not_short = le-ltb (length s) least_l (omega arith)

  -- it is refused with 21 where it does not begin with "AF", else with 22
  long_fault : af_fault s ≡ cond (not (eqb (sync_of s) sync)) 21 22
  unfolding af_fault first
  long_fault = simp (not_short, over)

  long_listing : listing_of s ≡ refused_line (cond (not (eqb (sync_of s) sync)) 21 22)
  unfolding listing_of
  long_listing = rw long_fault (either (not (eqb (sync_of s) sync)) (λ e. simp e) (λ e. simp e))

-- an input is listed as its first 8,193 bytes are
pub lists_as_first : (s : List ℕ) → listing_of (take most_input s) ≡ listing_of s
lists_as_first s =
    whether (length s) most_input
    (λ h. ap listing_of (take_all most_input s h))
    (λ h.
    let cut : most_l < length (take most_input s) = omega (arith, length-take-le most_input s (omega arith)) in
    let same : sync_of (take most_input s) ≡ sync_of s = number_take 2 most_input s (omega arith) in
    long_listing (take most_input s) cut
    ∙ ap (λ (n : ℕ). refused_line (cond (not (eqb n sync)) 21 22)) same
    ∙ sym (long_listing s (omega arith)))
