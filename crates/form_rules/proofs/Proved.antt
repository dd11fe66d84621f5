-- The claims of specs/Claims.antt. Assumes nothing.
use mathlib.Core.Path.{◌≡◌, refl, sym, ap, ap₂, ◌∙◌}
use mathlib.Core.Bool.{true}
use mathlib.Core.List.{List}
use Prim.Native.Nat.{ℕ, ◌≤◌}
use native.Mathlib.Omega.{arith}
use lib.ListN.{length}
use Rattle.base_rules.specs.Answer.{granted, refused, answered}
use Rattle.base_rules.specs.Bounds.{most_k}
use Rattle.base_rules.specs.Bytes.{splice}
use Rattle.std.specs.Prelude.{Result, Ok, Err}
use Rattle.base_rules.specs.Refusal as refusals
use Rattle.base_rules.specs.declared.Refusal.{Refusal}
use Rattle.base_rules.proofs.Answers.{one_refusal}
use Rattle.base_rules.proofs.Logic.{clash}
use Rattle.code_rules.proofs.CallCases.{granted_by, refused_by}
use Rattle.places_rules.specs.declared.Place.{Place}
use Rattle.places_rules.proofs.Ranges.{range_from}
use Rattle.form_rules.specs.Calls.{form_fault, number_of, PlaceFormed}
use Rattle.form_rules.specs.Claims.{OnePacket, OneFormed, Decided}
use Rattle.form_rules.specs.declared.Formed.{Formed}
use Rattle.form_rules.specs.declared.Formed.TheVariants.{Waits, Packet, Nothing}
use Rattle.form_rules.proofs.Checks.{fault_free}
use Rattle.form_rules.proofs.Search as searching
use Rattle.form_rules.proofs.Unique as unique

pub one_packet : OnePacket
one_packet = unique.one_packet

-- what is refused is not granted
not_both : {P : Type 0} (n fault : ℕ) (s t u : List ℕ) → refused n ≡ answered fault s → granted t ≡ answered fault u → P
not_both n fault s t u e q = absurd (omega (arith, (refused_by n fault s e).0, (refused_by n fault s e).1, (granted_by fault t u q).0))

module _ (p : Place) (held out : List ℕ) where
  -- where something is granted, k is a chunk's
  small : (s t : List ℕ) → granted s ≡ answered (form_fault p (length held) (length out)) t → p.fec ≡ true → p.rsk ≤ most_k
  small s t e coded =
      ((range_from p (fault_free p _ _ (sym (granted_by (form_fault p (length held) (length out)) s t e).0)).0).coded coded).1

  formed : (v w : List ℕ) (r q : Result Formed Refusal) → PlaceFormed p held out v r → PlaceFormed p held out w q → (r ≡ q) × (v ≡ w)
  unfolding number_of refusals.told
  formed v w (Ok Waits) (Ok Waits) a b = (refl, a.left.1 ∙ sym b.left.1)
  formed v w (Ok Waits) (Ok (Packet l m)) a b = clash b.left.0 a.left.0
  formed v w (Ok Waits) (Ok Nothing) a b = clash b.left.0 a.left.0
  formed v w (Ok Waits) (Err n) a b = not_both (refusals.number n) _ _ _ _ b.number a.number
  formed v w (Ok (Packet l m)) (Ok Waits) a b = clash a.left.0 b.left.0
  formed v w (Ok (Packet l m)) (Ok (Packet k n)) a b =
      let x = a.left.1 in
      let y = b.left.1 in
      let same : x.packet ≡ y.packet = one_packet p held x.packet y.packet (small _ _ a.number) a.left.0 x.agrees y.agrees in (
        ap₂ (λ x y. Ok (Packet x y)) (x.told ∙ ap length same ∙ sym y.told) (x.missing ∙ sym y.missing),
        x.written ∙ ap (splice out 0) same ∙ sym y.written,
      )
  formed v w (Ok (Packet l m)) (Ok Nothing) a b = absurd (b.left.1 a.left.1.packet a.left.1.agrees)
  formed v w (Ok (Packet l m)) (Err n) a b = not_both (refusals.number n) _ _ _ _ b.number a.number
  formed v w (Ok Nothing) (Ok Waits) a b = clash a.left.0 b.left.0
  formed v w (Ok Nothing) (Ok (Packet l m)) a b = absurd (a.left.1 b.left.1.packet b.left.1.agrees)
  formed v w (Ok Nothing) (Ok Nothing) a b = (refl, a.left.2 ∙ sym b.left.2)
  formed v w (Ok Nothing) (Err n) a b = not_both (refusals.number n) _ _ _ _ b.number a.number
  formed v w (Err n) (Ok Waits) a b = not_both (refusals.number n) _ _ _ _ a.number b.number
  formed v w (Err n) (Ok (Packet l m)) a b = not_both (refusals.number n) _ _ _ _ a.number b.number
  formed v w (Err n) (Ok Nothing) a b = not_both (refusals.number n) _ _ _ _ a.number b.number
  formed v w (Err m) (Err n) a b =
      (ap Err (one_refusal m n ((refused_by (refusals.number m) _ _ a.number).0 ∙ sym (refused_by (refusals.number n) _ _ b.number).0)), a.left ∙ sym b.left)

pub one_formed : OneFormed
one_formed p held out v w r q a b = formed p held out v w r q a b

-- whether some packet agrees with what a place holds can always be told
pub decided : Decided
decided = searching.decided
