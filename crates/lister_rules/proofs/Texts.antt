-- Which text the listing is, by what the checks of the packet and of its payload answer.
use Prim.Native.Nat.{ℕ, zero, suc}
use mathlib.Core.List.{List, ◌++◌}
use mathlib.Core.Path.{◌≡◌, refl, sym, ap, ◌∙◌}
use mathlib.Core.Bool.{false}
use native.Mathlib.Omega.{arith}
use lib.Dec.{eqb}
use borrow.Author.Tests.{eq-eqb, ne_eqb}
use Rattle.base_rules.specs.Answer.{granted, refused, answered}
use Rattle.std.specs.Prelude.{Result, Ok, Err}
use Rattle.base_rules.specs.Refusal.{number, told}
use Rattle.base_rules.specs.declared.Refusal.{Refusal}
use Rattle.af_rules.specs.declared.Figures.{Figures}
use Rattle.af_rules.specs.Packet.{seq_of, minor_of, len_of, payload_of}
use Rattle.af_rules.specs.Calls.{af_fault, check_call, values_of, number_of}
use Rattle.item_rules.specs.declared.Repeats.TheVariants.{Forbidden}
use Rattle.walk_rules.specs.declared.Walker.{Walker}
use Rattle.walk_rules.specs.Walk.{refusal, walk_of}
use Rattle.walk_rules.specs.Step.{opens}
use Rattle.lister_rules.specs.Listing.{containers, head_line, lines_of, refused_line, payload_lines, listing_of}

-- the listing of a payload, by the walk that opens on it
module _ (s : List ℕ) (w : Walker) (o : w ≡ opens Forbidden s containers) where
  opened : w.refusal ≡ refusal (walk_of Forbidden s containers)
  unfolding opens
  opened = ap (λ (v : Walker). v.refusal) o

  -- where it opens unrefused, nothing in the payload is refused
  pub walked : w.refusal ≡ 0 → refusal (walk_of Forbidden s containers) ≡ 0
  walked z = sym opened ∙ z

  -- where it opens refused, the listing is the line of that refusal alone
  pub payload_refused : (front : List ℕ) → (w.refusal ≡ 0 → ⊥) → refused_line w.refusal ≡ payload_lines front (walk_of Forbidden s containers)
  unfolding payload_lines
  payload_refused front h = ap refused_line opened ∙ sym (simp (ne_eqb (refusal (walk_of Forbidden s containers)) 0 (λ z. h (opened ∙ z))))

  -- where it opens unrefused, the listing is the line in front and then those of the walk
  pub payload_walked : (front : List ℕ) → w.refusal ≡ 0 → front ++ lines_of (walk_of Forbidden s containers) ≡ payload_lines front (walk_of Forbidden s containers)
  unfolding payload_lines
  payload_walked front z = sym (simp (eq-eqb (refusal (walk_of Forbidden s containers)) 0 (walked z)))

-- what an answer tells of the number that was due
refused-tells : (n fault : ℕ) (values : List ℕ) → refused n ≡ answered fault values → (n ≡ fault) × (eqb fault 0 ≡ false)
unfolding answered
refused-tells n zero values e = let z : ◌≡◌ {A = ℕ} 0 1 = cc in absurd (omega arith)
refused-tells n (suc fault) values e = (cc, ne_eqb (suc fault) 0 (λ z. omega arith))

granted-tells : (given : List ℕ) (fault : ℕ) (values : List ℕ) → granted given ≡ answered fault values → (fault ≡ 0) × (given ≡ values)
unfolding answered
granted-tells given zero values e = (refl, cc)
granted-tells given (suc fault) values e = let z : ◌≡◌ {A = ℕ} 0 1 = cc in absurd (omega arith)

-- the listing of a packet, refused or not
module _ (s : List ℕ) (a : Result Figures Refusal) (said : number_of a ≡ check_call s) where
  -- where the AF checks refuse it, the listing is the line of that refusal alone
  pub packet-refused : (e : Refusal) → a ≡ Err e → refused_line (number e) ≡ listing_of s
  unfolding number_of told values_of check_call listing_of
  packet-refused e q =
      let due = refused-tells (number e) (af_fault s) _ (sym (ap number_of q) ∙ said) in
      ap refused_line due.0 ∙ sym (simp due.1)

  -- where they pass it, the listing is that of its payload, with SEQ, revision and LEN in front
  pub packet_passes : (f : Figures) (payload : List ℕ) → a ≡ Ok f → payload ≡ payload_of s
      → payload_lines (head_line f.seq f.minor f.len) (walk_of Forbidden payload containers) ≡ listing_of s
  unfolding number_of told values_of check_call listing_of
  packet_passes f payload q p =
      let given = granted-tells _ (af_fault s) _ (sym (ap number_of q) ∙ said) in
      let seq : f.seq ≡ seq_of s = cc given.1 in
      let minor : f.minor ≡ minor_of s = cc given.1 in
      let len : f.len ≡ len_of s = cc given.1 in
      rw (seq, minor, len, p) (sym (simp (eq-eqb (af_fault s) 0 given.0)))
