-- A datagram by its checks: which case of the promise a branch of `receive` is. Assumes nothing.
use mathlib.Core.Path.{◌≡◌, refl, sym, ap, ◌∙◌, subst}
use mathlib.Core.Bool.{not, cond}
use mathlib.Core.List.{List, [], ◌∷◌}
use Prim.Native.Nat.{ℕ, ◌+◌, ◌-◌, ◌≤◌}
use native.Mathlib.Nat.{pos_of_ne-zero}
use native.Mathlib.Omega.{arith}
use borrow.Author.Tests.{ne_eqb, eqb-true, eqb-false}
use lib.Dec.{eqb}
use lib.ListN.{length, take, drop, length-drop}
use Rattle.base_rules.specs.Bytes.{Bytes}
use Rattle.base_rules.specs.Tests.{first}
use Rattle.base_rules.proofs.Firsts.{due, skip, none_due}
use Rattle.base_rules.proofs.Logic.{either, same, other}
use Rattle.base_rules.specs.Answer as answer
use Rattle.base_rules.proofs.Answers.{refuses}
use Rattle.std.specs.Prelude.{Option, Result, Ok, Err}
use Rattle.base_rules.specs.Refusal as refusals
use Rattle.base_rules.specs.declared.Refusal.{Refusal}
use Rattle.cut_rules.specs.declared.Address.{Address}
use Rattle.header_rules.specs.declared.Header.{Header}
use Rattle.header_rules.specs.Read.{fields_of, length_of, fault_of, parsed_of, number_of, parse_call}
use Rattle.header_rules.proofs.Fields.{parse_due, parse_read}
use Rattle.header_rules.proofs.Numbers.{parse_number}
use Rattle.header_rules.proofs.Proved.{passed_sound, payload_stands}
use Rattle.places_rules.specs.declared.Table.{Table}
use Rattle.places_rules.specs.Places.{with_place}
use Rattle.receiver_rules.specs.declared.Change.{Change}
use Rattle.receiver_rules.specs.Promise.{Reception, reception, refused_as, room_fault, held_fault, receive_fault, payload_of, keep_of, SettledAfter, Step}
use Rattle.receiver_rules.specs.inner.Arrivals.{Heard, changed, Arrives}
use Rattle.receiver_rules.proofs.Arrivals.{left_out}
use Rattle.receiver_rules.proofs.Forming.{rest_part}

-- ---- what reading the header gave

module _ (own : Option Address) (s : List ℕ) {x : Result Header Refusal} (is_x : x ≡ parsed_of own s) where
  -- where reading refuses the header, its number is the one of 2 to 8 that is due
  pub header_refused : {e : Refusal} → x ≡ Err e → (refusals.number e ≡ fault_of own s) × (refusals.number e ≡ 0 → ⊥)
  unfolding number_of parse_call refusals.told
  header_refused {e} is =
      let told : answer.refused (refusals.number e) ≡ parse_call own s = sym (ap number_of is) ∙ ap number_of is_x ∙ parse_number own s in
      either (eqb (fault_of own s) 0)
      (λ z.
      let read : Ok (fields_of s) ≡ parsed_of own s = parse_read own s (fields_of s) (sym (eqb-true _ 0 z)) refl in
      let w : ◌≡◌ {A = ℕ} 0 1 = cc in
      absurd (omega arith))
      (λ z.
      let some : fault_of own s ≡ 0 → ⊥ = eqb-false _ 0 z in
      let same-n : refusals.number e ≡ fault_of own s =
      let due : answer.refused (fault_of own s) ≡ parse_call own s = refuses (fault_of own s) (fault_of own s) _ (pos_of_ne-zero some) refl in cc in
      (same-n, (λ none. some (sym same-n ∙ none))))

  -- where reading gives a header, none of 2 to 8 is due and its fields are the datagram's
  pub header_passed : {h : Header} → x ≡ Ok h → (fault_of own s ≡ 0) × (h ≡ fields_of s)
  header_passed {h} e =
      either (eqb (fault_of own s) 0)
      (λ z.
      let read : Ok (fields_of s) ≡ parsed_of own s = parse_read own s (fields_of s) (sym (eqb-true _ 0 z)) refl in
      (eqb-true _ 0 z, cc))
      (λ z.
      let told : Err (refusals.refusal_of (fault_of own s)) ≡ parsed_of own s = parse_due own s (eqb-false _ 0 z) in
      let w : ◌≡◌ {A = ℕ} 0 1 = cc in
      absurd (omega arith))

-- ---- the payload of a datagram that passed

module _ (own : Option Address) (s : List ℕ) (passed : fault_of own s ≡ 0) {h : Header} (is_h : h ≡ fields_of s) where
  size_is : length s ≡ length_of s + h.plen
  size_is = payload_stands own s passed ∙ ap (λ (x : Header). length_of s + x.plen) (sym is_h)

  -- the payload of a datagram that passed is no longer than the datagram
  pub payload_within : h.plen ≤ length s
  payload_within = omega (arith, size_is)

  pub payload_is : take (length s - (length s - h.plen)) (drop (length s - h.plen) s) ≡ payload_of s
  unfolding payload_of
  payload_is =
      let starts : length s - h.plen ≡ length_of s = omega (arith, size_is) in
      rest_part (length s - h.plen) s ∙ ap (λ (n : ℕ). drop n s) starts

  -- a datagram that passed has a sound header, and its last Plen bytes are a payload of that size
  pub heard : Bytes s → Heard h (take (length s - (length s - h.plen)) (drop (length s - h.plen) s))
  heard bytes =
      record {
        sound = rw is_h (passed_sound own s bytes passed);
        size = ap length (rest_part (length s - h.plen) s) ∙ omega (arith, length-drop (length s - h.plen) s, size_is);
      }

-- ---- the checks in their order

module _ (own : Option Address) (t : Table) (lent : ℕ) (s : List ℕ) (room : ℕ) {n : ℕ} (is_n : n ≡ room_fault t lent room) where
  -- 14 or 1, where one is due, is what the datagram is refused for
  pub room_due : (n ≡ 0 → ⊥) → n ≡ receive_fault own t lent s room
  unfolding receive_fault
  room_due some = is_n ∙ due _ _ (other (λ z. some (is_n ∙ z)))

  module _ (none : n ≡ 0) where
    -- with neither 14 nor 1 due, one of 2 to 8 that is due is what it is refused for
    pub header_due : {m : ℕ} → m ≡ fault_of own s → (m ≡ 0 → ⊥) → m ≡ receive_fault own t lent s room
    unfolding receive_fault
    header_due is_m some = is_m ∙ skip _ _ (same (sym is_n ∙ none)) (due _ _ (other (λ z. some (is_m ∙ z))))

    last_due : (f : ℕ) → f ≡ first ((not (eqb f 0), f) ∷ [])
    last_due f = either (eqb f 0) (λ z. eqb-true f 0 z ∙ skip _ [] (same (eqb-true f 0 z)) none_due) (λ z. due _ [] (other (eqb-false f 0 z)))

    held_due : fault_of own s ≡ 0 → held_fault t (fields_of s) ≡ receive_fault own t lent s room
    unfolding receive_fault
    held_due passed = skip _ _ (same (sym is_n ∙ none)) (skip _ _ (same passed) (last_due (held_fault t (fields_of s))))

-- ---- and the step that each of them is

module _ (own : Option Address) (t : Table) (b s out : List ℕ) where
  refused : {n : ℕ} {y : Reception} → n ≡ receive_fault own t (length b) s (length out) → (n ≡ 0 → ⊥) → y ≡ refused_as n t b out
      → Step own (record { table = t; bytes = b }) s out y
  unfolding Step
  refused {n} is_n some e =
      left_out _ (ap (λ (x : ℕ). eqb x 0) (sym is_n) ∙ ne_eqb n 0 some) (e ∙ ap (λ (x : ℕ). refused_as x t b out) is_n)

  module _ {n : ℕ} (is_n : n ≡ room_fault t (length b) (length out)) where
    -- 14 and 1,
    pub step_room_lem : {y : Reception} → (n ≡ 0 → ⊥) → y ≡ refused_as n t b out → Step own (record { table = t; bytes = b }) s out y
    step_room_lem some e = refused (room_due own t (length b) s (length out) is_n some) some e

    module _ (none : n ≡ 0) where
      -- 2 to 8,
      pub step_header : {m : ℕ} {y : Reception} → (m ≡ fault_of own s) × (m ≡ 0 → ⊥) → y ≡ refused_as m t b out
          → Step own (record { table = t; bytes = b }) s out y
      step_header m e = refused (header_due own t (length b) s (length out) is_n none m.0 m.1) m.1 e

      -- and then what the place says that holds its number
      passes : (y : Reception) → fault_of own s ≡ 0 → Arrives t (fields_of s) b (payload_of s) out y → Step own (record { table = t; bytes = b }) s out y
      unfolding Arrives Step
      passes y passed arrives =
          subst (λ (x : ℕ). cond (eqb x 0) (SettledAfter (keep_of t (fields_of s) b (payload_of s)) out y) (y ≡ refused_as x t b out))
          (held_due own t (length b) s (length out) is_n none passed) arrives

      -- a datagram that passes 14 and 1 to 8 leaves what the arrival of its fragment leaves
      pub step_arrives : (y : Reception) {h : Header} → (fault_of own s ≡ 0) × (h ≡ fields_of s)
          → Arrives t h b (take (length s - (length s - h.plen)) (drop (length s - h.plen) s)) out y
          → Step own (record { table = t; bytes = b }) s out y
      step_arrives y {h} p arrives =
          passes y p.0
          (subst (λ (x : Header). Arrives t x b (payload_of s) out y) p.1
          (subst (λ (x : List ℕ). Arrives t h b x out y) (payload_is own s p.0 p.1) arrives))

-- ---- and the record is made anew

-- a record built anew with the changed place and turn is the one that the step leaves
pub step-changed : (own : Option Address) (t : Table) (b s out : List ℕ) (c : Change) {u : Table} (b' out' : List ℕ)
    → u ≡ with_place (record { places = t.places; oldest = c.oldest }) c.at c.place
    → Step own (record { table = t; bytes = b }) s out (reception c.answer (changed t c) b' out')
    → Step own (record { table = t; bytes = b }) s out (reception c.answer u b' out')
unfolding changed
step-changed own t b s out c {u} b' out' is-u step =
    subst (λ (x : Table). Step own (record { table = t; bytes = b }) s out (reception c.answer x b' out')) (sym is-u) step
