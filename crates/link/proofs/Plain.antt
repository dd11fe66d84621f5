-- Without FEC: from all its fragments the packet is put together. Assumes nothing.
use mathlib.Core.Path.{◌≡◌, refl, sym, ap, ap₂, ◌∙◌}
use mathlib.Core.Bool.{Bool, true, false, not, ◌&&◌}
use mathlib.Core.List.{List, ◌++◌}
use Prim.Native.Nat.{ℕ, zero, suc, ◌+◌, ◌-◌, ◌*◌, ◌≤◌, ◌<◌}
use native.Mathlib.Nat.{zero-mul}
use native.Mathlib.Omega.{arith}
use borrow.Author.Tests.{eqb-true, le-leb, lt-leb, not-false}
use lib.Dec.{leb}
use lib.ListN.{length, take, drop, length-drop, take-append-drop}
use lib.Seq.{take_all}
use Rattle.base_rules.specs.Bounds.{place}
use Rattle.base_rules.specs.Tests.{bit}
use Rattle.base_rules.specs.Bytes.{part_of}
use Rattle.base_rules.proofs.Parts.{parts_same}
use Rattle.cut_rules.specs.declared.Settings.{Settings}
use Rattle.cut_rules.specs.Missing.{losses}
use Rattle.cut_rules.specs.Missing as missing
use Rattle.cut_rules.proofs.PlanCases.{L-plain}
use Rattle.form_rules.specs.Agree.{enough, joined}
use Rattle.places_rules.specs.declared.Place.{Place}
use Rattle.receiver_rules.specs.Promise.{bytes_at}
use Rattle.sender_rules.specs.Calls.{packet_fault}
use Rattle.sender_rules.specs.Fragments.{payload_for}
use Rattle.sender_rules.proofs.FragmentLengths.{payload_plain, sure, f_some}
use Rattle.link.specs.Demand.{count}
use Rattle.link.proofs.Basic.{less_or-not}
use Rattle.link.proofs.Enough.{size_of, rsk_of, suffices}
use Rattle.link.proofs.Own.{is_last_of, offset, Full, stands, offset_last, offset_not, full_size}

bit_zero : (b : Bool) → bit b ≡ 0 → b ≡ false
bit_zero true e = absurd (omega arith)
bit_zero false e = refl

-- a count that is zero counts nothing
count_none : (test : ℕ → Bool) (a t : ℕ) → missing.count test a t ≡ 0 → (i : ℕ) → i < t → test (a + i) ≡ false
unfolding missing.count
count_none test a zero e i h = absurd (omega arith)
count_none test a (suc t) e zero h = ap test (omega arith) ∙ bit_zero (test a) (omega arith)
count_none test a (suc t) e (suc i) h = ap test (omega arith) ∙ count_none test (suc a) t (omega arith) i (omega arith)

module _ (g : Settings) (n : ℕ) (packet : List ℕ) (passed : packet_fault g packet ≡ 0) (plain : g.fec ≡ false) where
  last_is : (j : ℕ) → j + 1 ≡ count g packet → is_last_of g packet j ≡ true
  last_is j e = ap (λ (v : Bool). not v && leb (count g packet) (j + 1)) plain ∙ le-leb (count g packet) (j + 1) (omega arith)

  not_last : (j : ℕ) → j + 1 < count g packet → is_last_of g packet j ≡ false
  not_last j e = ap (λ (v : Bool). not v && leb (count g packet) (j + 1)) plain ∙ lt-leb _ _ e

  part_is : (j : ℕ) → payload_for g packet j ≡ part_of packet (size_of g packet) j
  part_is j = payload_plain g packet plain j

  module _ (came : ℕ → Bool) (i : ℕ) (p : Place) (b : List ℕ) (full : Full g n packet came i p b) (enough-came : suffices g packet came ≡ true) where
    all_came : (j : ℕ) → j < count g packet → came j ≡ true
    unfolding suffices enough losses
    all_came j h =
        let lost : ℕ → Bool = λ x. not (came x) in
        let none : losses lost (count g packet) ≡ 0 =
        eqb-true _ _ (sym (ap (λ (v : Bool). enough v (count g packet) (size_of g packet) (rsk_of g packet) lost) plain) ∙ enough-came) in
        not-false (came j) (ap (λ (x : ℕ). not (came x)) (omega arith) ∙ count_none lost 0 (count g packet) none j h)

    here : (j : ℕ) → j < count g packet → take (length (payload_for g packet j)) (drop (offset g packet j) (bytes_at b i)) ≡ payload_for g packet j
    here j h = stands g n packet came i p b full j h (all_came j h)

    row : (j : ℕ) → j + 1 < count g packet → part_of (bytes_at b i) (size_of g packet) j ≡ part_of packet (size_of g packet) j
    unfolding part_of
    row j h =
        ap₂ (λ (x y : ℕ). take x (drop y (bytes_at b i))) (sym (full_size g packet passed j (not_last j h)))
        (sym (offset_not g packet passed j (not_last j h)))
        ∙ here j (omega arith) ∙ part_is j

    rows : (k : ℕ) → k + 1 ≤ count g packet → take (k * size_of g packet) (bytes_at b i) ≡ take (k * size_of g packet) packet
    rows k h = parts_same (size_of g packet) k (bytes_at b i) packet (λ j (l : j < k). row j (omega arith))

    -- the last fragment
    f : ℕ
    f = count g packet - 1

    f_one : f + 1 ≡ count g packet
    unfolding f
    f_one = omega (arith, f_some g packet passed)

    last_part : payload_for g packet f ≡ drop (f * size_of g packet) packet
    unfolding part_of
    last_part =
        let all : (f + 1) * size_of g packet ≡ count g packet * size_of g packet = ap (λ (x : ℕ). x * size_of g packet) f_one in
        part_is f
        ∙ take_all (size_of g packet) (drop (f * size_of g packet) packet)
        (omega (arith, length-drop (f * size_of g packet) packet, (sure g packet passed).all_held, L-plain g (length packet) plain, all))

    front : (p.count - 1) * p.size ≡ f * size_of g packet
    unfolding f
    front =
        ap (λ (x : ℕ). (x - 1) * p.size) full.mine.count
        ∙ less_or-not 1 (count g packet)
        (λ l. ap (λ (x : ℕ). (count g packet - 1) * x) (full.size_known 0 (omega arith) (not_last 0 l) (all_came 0 (omega arith))))
        (λ l.
        let none : count g packet - 1 ≡ 0 = omega arith in
        ap (λ (x : ℕ). x * p.size) none ∙ zero-mul p.size ∙ sym (ap (λ (x : ℕ). x * size_of g packet) none ∙ zero-mul (size_of g packet)))

    end : p.last ≡ length (payload_for g packet f)
    end = full.last_known f (omega (arith, f_one)) (last_is f f_one) (all_came f (omega (arith, f_one)))

    -- what stands in the place is the packet
    pub joined_packet : joined p (bytes_at b i) ≡ packet
    unfolding joined
    joined_packet =
        ap₂ (λ (x y : ℕ). take x (bytes_at b i) ++ take y (drop (place - y) (bytes_at b i))) front end
        ∙ ap₂ (λ (u v : List ℕ). u ++ v) (rows f (omega (arith, f_one)))
        (ap (λ (x : ℕ). take (length (payload_for g packet f)) (drop x (bytes_at b i))) (sym (offset_last g packet passed f (last_is f f_one)))
        ∙ here f (omega (arith, f_one)) ∙ last_part)
        ∙ take-append-drop (f * size_of g packet) packet
