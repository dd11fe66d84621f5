-- A fragment is kept within its place. Assumes nothing.
use mathlib.Core.Path.{◌≡◌, refl, ap, ◌∙◌, subst}
use mathlib.Core.List.{List}
use Prim.Native.Nat.{ℕ, ◌+◌, ◌*◌, ◌≤◌, ◌<◌}
use native.Mathlib.Nat.{mul-le-mul_right}
use native.Mathlib.Omega.{arith}
use lib.ListN.{length}
use Rattle.base_rules.specs.Answer.{Answer, outcome as leaves}
use Rattle.base_rules.specs.Bounds.{place}
use Rattle.base_rules.specs.Bytes.{splice}
use Rattle.base_rules.specs.Written.{put_of}
use Rattle.base_rules.proofs.Answers.{put_is}
use Rattle.base_rules.proofs.Logic.{either}
use Rattle.base_rules.proofs.Splice.{splice-length}
use Rattle.header_rules.specs.declared.Header.{Header}
use Rattle.header_rules.specs.Claims.{Sound}
use Rattle.places_rules.specs.declared.Place.{Place}
use Rattle.places_rules.specs.declared.Table.{Table}
use Rattle.std.specs.Prelude.{Option}
use Rattle.places_rules.specs.Places.{four, is_last, offset_of, with_place, kept_in, all_places}
use Rattle.places_rules.proofs.Records.{offset_last, offset_other}
use Rattle.receiver_rules.specs.Promise.{Reception, keep_at, Settled, SettledAfter}
use Rattle.receiver_rules.specs.inner.Arrivals.{Heard}

module _ (h : Header) (s : Sound h) where
  ends_within : h.index * h.plen + h.plen ≤ place
  ends_within =
      let more : (h.index + 1) * h.plen ≤ h.count * h.plen = mul-le-mul_right h.plen (omega (arith, s.below)) in
      omega (arith, s.fits, more)

  -- the payload of a sound fragment ends within its place
  pub offset_fits : offset_of h + h.plen ≤ place
  offset_fits =
      either (is_last h)
      (λ e. omega (arith, offset_last h refl e, ends_within))
      (λ e. omega (arith, offset_other h refl e, ends_within))

module _ (i : ℕ) (h : Header) (b payload : List ℕ) where
  module _ (below : i < four) (long : length b ≡ all_places) (heard : Heard h payload) where
    fits : i * place + offset_of h + length payload ≤ length b
    fits = omega (arith, offset_fits h heard.sound, heard.size)

    module _ {at : ℕ} {after : List ℕ} {a : Answer} (is_at : at ≡ offset_of h) (put : leaves a after ≡ put_of b (i * place + at) payload) where
      -- the payload stands in its place,
      pub kept-bytes : after ≡ splice b (i * place + offset_of h) payload
      kept-bytes = put_is b payload after (i * place + offset_of h) a fits (put ∙ ap (λ (x : ℕ). put_of b (i * place + x) payload) is_at)

      -- there are as many bytes as before,
      pub kept_long : length after ≡ all_places
      kept_long = ap length kept-bytes ∙ splice-length b (i * place + offset_of h) payload fits ∙ long

      -- and what settles then settles after keeping it
      pub keeps_at : (t : Table) (p : Place) (d : Option ℕ) {out : List ℕ} {q : Place} {y : Reception} → q ≡ kept_in p h
          → Settled (with_place t i q) i d after out y → SettledAfter (keep_at t i p d h b payload) out y
      unfolding keep_at
      keeps_at t p d {out} {q} {y} is-q settled =
          subst (λ (x : List ℕ). Settled (with_place t i (kept_in p h)) i d x out y) kept-bytes
          (subst (λ (x : Place). Settled (with_place t i x) i d after out y) is-q settled)
