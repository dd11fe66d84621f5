-- Which answer of `list` is which case, where the listing was first laid into a buffer of most_listing bytes; and what the answer tells one who
-- has lent as many. Assumes nothing.
use Prim.Native.Nat.{ℕ, ◌-◌, ◌≤◌, ◌<◌}
use mathlib.Core.List.{List, [], ◌∷◌}
use mathlib.Core.Path.{◌≡◌, refl, ap, ap₂, ◌∙◌}
use native.Mathlib.Omega.{arith}
use borrow.Author.Tests.{lt-ltb, le-ltb}
use lib.Dec.{lit<}
use lib.ListN.{length, take, length-append}
use lib.Seq.{take_all}
use Rattle.std.specs.Prelude.{Result, Ok, Err}
use Rattle.base_rules.specs.Refusal.{number, told}
use Rattle.base_rules.specs.declared.Refusal.{Refusal}
use Rattle.base_rules.specs.declared.Refusal.TheVariants as refusal
use Rattle.base_rules.specs.Answer.{granted, outcome}
use Rattle.base_rules.specs.Bytes.{Bytes, splice}
use Rattle.base_rules.proofs.Answers.{writes, leaves}
use Rattle.base_rules.proofs.Firsts.{due, skip, none_due}
use Rattle.text_rules.specs.Text.{laid}
use Rattle.text_rules.proofs.Laws.{whether, Lays, behind_fits, behind_within, laid_fits, laid_length, laid_here}
use Rattle.lister_rules.specs.Listing.{listing_of, most_listing}
use Rattle.lister_rules.specs.Calls.{number_of, list_fault, list_call}
use Rattle.lister_rules.proofs.Proved.{listing_fits, one_listed}

-- a text that was laid down ends within the buffer
pub lays_within : (d t : List ℕ) (r : ℕ) (e : List ℕ) → Lays d 0 t r e → r ≤ length e
lays_within d t r e w = omega (arith, w.0, behind_within d 0 t (omega arith), ap length w.1, laid_length d 0 t)

-- and so does one that stands at its front
pub front_within : (d t : List ℕ) (r : ℕ) (e : List ℕ) → r ≡ length t → e ≡ splice d 0 t → r ≤ length e
unfolding splice
front_within d t r e long is = rw (long, is) (simp length-append (omega arith))

module _ (packet out : List ℕ) where
  -- where out is too short for the listing, 1 is the answer, and out stays as it was
  pub list_refused : length out < length (listing_of packet) → outcome (number_of (Err refusal.Room)) out ≡ list_call packet out
  unfolding number_of told number list_call list_fault
  list_refused h = leaves 1 _ _ _ _ (lit< tt) (due 1 _ (lt-ltb (length out) (length (listing_of packet)) h))

  -- else its length is, and it stands at the front of out
  pub list_done : (y : List ℕ) → length (listing_of packet) ≤ length out → y ≡ splice out 0 (listing_of packet)
      → outcome (number_of (Ok (length (listing_of packet)))) y ≡ list_call packet out
  unfolding number_of told number list_call list_fault
  list_done y h e = writes _ _ _ _ _ (skip 1 _ (le-ltb (length out) (length (listing_of packet)) h) none_due) e

  -- a length that was answered is no greater than that of the buffer
  pub listed_within : (a : Result ℕ Refusal) (y : List ℕ) (n : ℕ) → outcome (number_of a) y ≡ list_call packet out → a ≡ Ok n → n ≤ length y
  unfolding number_of told number
  listed_within a y n e is =
      let text : List ℕ = listing_of packet in
      let told : outcome (granted (n ∷ [])) y ≡ list_call packet out = rw is at e in
      whether (length text) (length out)
      (λ h.
      let done = list_done (splice out 0 text) h refl in
      front_within out text n y (cc) (cc))
      (λ h.
      let short = list_refused h in
      let z : ◌≡◌ {A = ℕ} 0 1 = cc in
      absurd (omega arith))

  module _ (bytes : Bytes packet) where
    -- where out holds every listing, the listing stands at its front, and its length was answered
    pub listed_whole : (a : Result ℕ Refusal) (y : List ℕ) → most_listing ≤ length out → outcome (number_of a) y ≡ list_call packet out
        → (a ≡ Ok (length (listing_of packet))) × (y ≡ splice out 0 (listing_of packet))
    listed_whole a y roomy e =
        let fits : length (listing_of packet) ≤ length out = omega (arith, listing_fits packet bytes) in
        let done = list_done (splice out 0 (listing_of packet)) fits refl in
        let same : number_of a ≡ number_of (Ok (length (listing_of packet))) = cc in
        (one_listed a (Ok (length (listing_of packet))) same, cc)

    -- the listing laid into a buffer that holds every one
    module _ (room after : List ℕ) (n : ℕ) (roomy : length room ≡ most_listing) (w : Lays room 0 (listing_of packet) n after) where
      whole : length (listing_of packet) ≤ length room - 0
      whole = omega (arith, listing_fits packet bytes)

      long : n ≡ length (listing_of packet)
      long = w.0 ∙ behind_fits room 0 (listing_of packet) whole ∙ omega arith

      text : take n after ≡ listing_of packet
      text =
          ap₂ take w.0 w.1 ∙ laid_here room 0 (listing_of packet)
          ∙ take_all (length room - 0) (listing_of packet) whole

      -- out is too short for it
      pub list_short : length out < n → outcome (number_of (Err refusal.Room)) out ≡ list_call packet out
      list_short h = list_refused (omega (arith, long))

      -- and copied from there to the front of out
      pub list_copied : (y : List ℕ) → n ≤ length out → y ≡ laid out 0 (take n after) → outcome (number_of (Ok n)) y ≡ list_call packet out
      list_copied y h e =
          let fits : length (listing_of packet) ≤ length out - 0 = omega (arith, long) in
          ap (λ (m : ℕ). outcome (number_of (Ok m)) y) long
          ∙ list_done y (omega (arith, long)) (e ∙ ap (laid out 0) text ∙ laid_fits out 0 (listing_of packet) fits)
