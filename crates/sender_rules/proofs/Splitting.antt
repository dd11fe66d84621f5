-- What is taken of all fragments by the figures told, and how many bytes they take at most. Assumes nothing.
use mathlib.Core.Path.{◌≡◌, ap}
use mathlib.Core.Bool.{cond}
use mathlib.Core.List.{List, ◌++◌, append_assoc}
use Prim.Native.Nat.{ℕ, suc, ◌+◌, ◌-◌, ◌*◌, ◌≤◌, ◌<◌}
use native.Mathlib.Nat.{mul-le-mul}
use native.Mathlib.Omega.{arith}
use borrow.Author.Tests.{eqb-true, eqb-false}
use lib.Dec.{eqb}
use lib.ListN.{length, take, drop}
use lib.Seq.{take_at, drop_at}
use Rattle.base_rules.specs.Bounds.{most_f}
use Rattle.base_rules.specs.Bytes.{splice}
use Rattle.base_rules.proofs.Logic.{either}
use Rattle.cut_rules.specs.Sizes.{most_h, h, f, s}
use Rattle.cut_rules.specs.declared.Settings.{Settings}
use Rattle.cut_rules.proofs.PlanCases.{h_most}
use Rattle.sender_rules.specs.Calls.{packet_fault, fragments_fault, part_at, most_sent}
use Rattle.sender_rules.specs.Fragments.{payload_for, fragment_for, fragments_from, fragments_for}
use Rattle.sender_rules.proofs.Checks.{in_bounds, none_more}
use Rattle.sender_rules.proofs.FragmentLengths.{fragment-size, from_more, whole_split, sure, f_some, full, size_most, from_size, whole_size}

-- of bytes a, b, c, d one behind the other, b is taken by where it starts and its length
between : (a b c d : List ℕ) (at size : ℕ) → length a ≡ at → length b ≡ size → take size (drop at (((a ++ b) ++ c) ++ d)) ≡ b
between a b c d at size is_at is-size = simp append_assoc (rw (drop_at a (b ++ (c ++ d)) at, take_at b (c ++ d) size))

module _ (g : Settings) (number : ℕ) (packet : List ℕ) where
  -- where all fragments are refused for nothing, whatever room is lent, the packet is not refused
  pub all_passed : (room : ℕ) → fragments_fault g number packet room ≡ 0 → packet_fault g packet ≡ 0
  unfolding fragments_fault
  all_passed room none = none_more g packet _ none

  module _ (passed : packet_fault g packet ≡ 0) where
    module _ (i : ℕ) (less : i < f g (length packet)) where
      -- fragment i has h + s bytes, the last one h and the last Plen
      sized : length (fragment_for g number packet i)
          ≡ h g + cond (eqb (i + 1) (f g (length packet))) (length (payload_for g packet (f g (length packet) - 1))) (s g (length packet))
      sized = either (eqb (i + 1) (f g (length packet)))
          (λ e.
          let at_end : i ≡ f g (length packet) - 1 = omega (arith, eqb-true (i + 1) (f g (length packet)) e) in
          rw (e, ← at_end) (fragment-size g packet number i))
          (λ e.
          let before : suc i < f g (length packet) = omega (arith, eqb-false (i + 1) (f g (length packet)) e) in
          rw e (omega (arith, fragment-size g packet number i, full g packet passed i before)))

      -- so it is the part that the figures told give
      pub part_is : (out : List ℕ)
          → part_at (f g (length packet)) (h g) (s g (length packet)) (length (payload_for g packet (f g (length packet) - 1)))
          (splice out 0 (fragments_for g number packet)) i
          ≡ fragment_for g number packet i
      unfolding part_at splice
      part_is out =
          rw (whole_split g packet number i, from_more g packet number i)
          (between (fragments_from g number packet 0 i) (fragment_for g number packet i) _ _ _ _ (from_size g packet passed number 0 i (omega arith)) sized)

    -- the payloads take no more than a place, and 256 headers no more than 20 bytes each
    pub sent_most : length (fragments_for g number packet) ≤ most_sent
    sent_most =
        let l : ℕ = length packet in
        let last : ℕ = f g l - 1 in
        let all : f g l * (h g + s g l) ≡ (last + 1) * (h g + s g l) = ap (λ (x : ℕ). x * (h g + s g l)) (omega (arith, f_some g packet passed)) in
        let headers : f g l * h g ≤ most_f * most_h = mul-le-mul (in_bounds g packet passed).few (h_most g) in
        omega (arith, all, headers, whole_size g packet passed number, size_most g packet passed last, (sure g packet passed).placed)
