-- What forming answers, case by case, and what then stands in the lent bytes. Assumes nothing.
use mathlib.Core.Path.{◌≡◌, refl, sym, ap, ◌∙◌, subst}
use mathlib.Core.Bool.{true, false}
use mathlib.Core.List.{List}
use Prim.Native.Nat.{ℕ, ◌≤◌}
use native.Mathlib.Omega.{arith}
use borrow.Author.Tests.{eqb-true, eqb-false}
use lib.Dec.{eqb}
use lib.ListN.{length, take}
use Rattle.base_rules.specs.Answer.{Answer, outcome}
use Rattle.base_rules.specs.Bounds.{most_l, place}
use Rattle.base_rules.specs.Bytes.{splice}
use Rattle.base_rules.specs.Written.{put_of}
use Rattle.std.specs.Prelude.{Ok, Err}
use Rattle.base_rules.specs.Refusal as refusals
use Rattle.base_rules.specs.declared.Refusal.{Refusal}
use Rattle.base_rules.proofs.Answers.{grants, refuses, put_is, number-positive}
use Rattle.base_rules.proofs.Logic.{clash}
use Rattle.base_rules.proofs.Splice.{splice-length, splice_start}
use Rattle.af_rules.specs.Calls.{af_fault}
use Rattle.af_rules.proofs.Proved.{a3}
use Rattle.places_rules.specs.declared.Place.{Place}
use Rattle.form_rules.specs.Agree.{enough_in, missing_in, joined, Agrees}
use Rattle.form_rules.specs.Calls.{form_fault, number_of, PlaceFormed}
use Rattle.form_rules.specs.inner.Proposals.{Ready, Only}
use Rattle.form_rules.specs.declared.Formed.TheVariants.{Waits, Packet, Nothing}
use Rattle.form_rules.proofs.Checks.{fault_none}
use Rattle.form_rules.proofs.Joining.{joined_fits}

-- ---- without FEC the fragments, joined at the front of a buffer, are proposed

module _ (p : Place) (held : List ℕ) (r : Ready p held) (plain : p.fec ≡ false) where
  pub joined_only : Only p held (joined p held)
  joined_only = record { coded = λ e. clash e plain; plain = λ e. refl; only = λ P a. a.plain plain }

  -- joined at the front of a buffer as long as a place, the fragments are the one packet that can agree
  pub proposed : (n : ℕ) (before after : List ℕ) → length before ≡ place → n ≡ length (joined p held) → after ≡ splice before 0 (joined p held)
      → ((n ≤ length after) × Only p held (take n after)) × (length after ≡ place)
  proposed n before after as_long e w =
      let fits : length (joined p held) ≤ place = joined_fits p held r.ranged r.room in
      let long : length after ≡ place = ap length w ∙ splice-length before 0 (joined p held) (omega (arith, fits, as_long)) ∙ as_long in
      let same : joined p held ≡ take n after = sym (ap (take n) w ∙ splice_start before (joined p held) n (sym e)) in
      ((omega (arith, fits, long, e), subst (Only p held) same joined_only), long)

-- ---- the answers

module _ (p : Place) (held out : List ℕ) where
  -- a fault that is due is the answer, and out stays as it is
  pub form_refused : (e : Refusal) → refusals.number e ≡ form_fault p (length held) (length out) → PlaceFormed p held out out (Err e)
  unfolding number_of refusals.told
  form_refused e due = record { number = refuses (refusals.number e) _ _ (number-positive e) due; left = refl }

  -- without a fault, while the fragments do not suffice: the place waits, and out stays as it is
  pub form_waits : 0 ≡ form_fault p (length held) (length out) → enough_in p ≡ false → PlaceFormed p held out out (Ok Waits)
  unfolding number_of refusals.told
  form_waits e few = record { number = grants _ _ e; left = (few, refl) }

  module _ (r : Ready p held) (room : most_l ≤ length out) where
    -- they suffice, and no packet agrees: 13 DAMAGED, and out stays as it is
    pub form_nothing : ((P : List ℕ) → Agrees p held P → ⊥) → PlaceFormed p held out out (Ok Nothing)
    unfolding number_of refusals.told
    form_nothing none = record { number = grants _ _ (fault_none p _ _ r.ranged r.room room); left = (r.suffice, none, refl) }

    -- the one packet that can agree: it does where the AF checks pass it, and else none does
    module _ (packet : List ℕ) (one : Only p held packet) where
      -- where the AF checks refuse it: 13 DAMAGED, and out stays as it is
      pub not-accepted : eqb (af_fault packet) 0 ≡ false → PlaceFormed p held out out (Ok Nothing)
      not-accepted e =
          form_nothing (λ P (a : Agrees p held P).
          eqb-false (af_fault packet) 0 e (ap af_fault (sym (one.only P a)) ∙ a.accepted))

      -- where they pass it: out begins with it, its length and the count of fragments not held are told
      pub form_packet : eqb (af_fault packet) 0 ≡ true → (after : List ℕ) (a : Answer) (n m : ℕ) → n ≡ length packet → m ≡ missing_in p
          → outcome a after ≡ put_of out 0 packet → PlaceFormed p held out after (Ok (Packet n m))
      unfolding number_of refusals.told
      form_packet e after a n m is-long is-missing put =
          let passes : af_fault packet ≡ 0 = eqb-true (af_fault packet) 0 e in
          record {
            number = grants _ _ (fault_none p _ _ r.ranged r.room room);
            left = (
              r.suffice,
              record {
                packet = packet;
                agrees = record { coded = one.coded; plain = one.plain; accepted = passes };
                told = is-long;
                missing = is-missing;
                written = put_is out packet after 0 a (omega (arith, (a3 packet passes).1)) put;
              },
            );
          }
