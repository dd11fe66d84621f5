-- The senders' answers, case by case. Assumes nothing.
use mathlib.Core.Path.{◌≡◌, ap, ◌∙◌}
use mathlib.Core.List.{List, [], ◌∷◌}
use Prim.Native.Nat.{ℕ, ◌-◌, ◌≤◌, ◌<◌}
use borrow.Author.Tests.{lt-ltb, le-ltb, le-leb, lt-leb}
use lib.Dec.{lit<}
use lib.ListN.{length}
use Rattle.base_rules.specs.Answer.{granted, refused, outcome}
use Rattle.base_rules.specs.Bytes.{splice}
use Rattle.base_rules.proofs.Answers.{writes, leaves}
use Rattle.base_rules.proofs.Firsts.{due, skip, none_due}
use Rattle.cut_rules.specs.Sizes.{h, f, s}
use Rattle.cut_rules.specs.declared.Settings.{Settings}
use Rattle.sender_rules.specs.Calls.{packet_fault, fragment_fault, fragment_call, fragments_fault, fragments_call}
use Rattle.sender_rules.specs.Fragments.{payload_for, fragment_for, fragments_for}
use Rattle.sender_rules.proofs.Checks.{due_more, rest_due}

module _ (g : Settings) (number : ℕ) (packet out : List ℕ) where
  -- ---- one fragment

  module _ (i : ℕ) where
    -- a fragment of a packet that is refused is refused with the packet's number, and nothing is written
    pub one_refused : (n : ℕ) → 0 < n → n ≡ packet_fault g packet → outcome (refused n) out ≡ fragment_call g number packet i out
    unfolding fragment_call fragment_fault
    one_refused n some e = leaves n _ _ _ _ some (due_more g packet n _ some e)

    module _ (passed : packet_fault g packet ≡ 0) where
      -- of a packet that is not refused, a fragment not below f is refused with 42, and nothing is written
      pub one_42 : f g (length packet) ≤ i → outcome (refused 42) out ≡ fragment_call g number packet i out
      unfolding fragment_call fragment_fault
      one_42 far = leaves 42 _ _ _ _ (lit< tt) (rest_due g packet passed _ (due 42 _ (le-leb (f g (length packet)) i far)))

      module _ (less : i < f g (length packet)) where
        -- a fragment below f, without room for its bytes: 1, and nothing is written
        pub one_1 : length out < length (fragment_for g number packet i) → outcome (refused 1) out ≡ fragment_call g number packet i out
        unfolding fragment_call fragment_fault
        one_1 short =
            leaves 1 _ _ _ _ (lit< tt)
            (rest_due g packet passed _ (skip 42 _ (lt-leb (f g (length packet)) i less)
            (due 1 _ (lt-ltb (length out) (length (fragment_for g number packet i)) short))))

        -- a fragment below f, with room: its length is granted, and out begins with it
        pub one_done : (size : ℕ) (y : List ℕ) → size ≡ length (fragment_for g number packet i) → length (fragment_for g number packet i) ≤ length out
            → y ≡ splice out 0 (fragment_for g number packet i) → outcome (granted (size ∷ [])) y ≡ fragment_call g number packet i out
        unfolding fragment_call fragment_fault
        one_done size y is-size room e =
            ap (λ (x : ℕ). outcome (granted (x ∷ [])) y) is-size
            ∙ writes _ _ _ _ _
            (rest_due g packet passed _ (skip 42 _ (lt-leb (f g (length packet)) i less)
            (skip 1 _ (le-ltb (length out) (length (fragment_for g number packet i)) room) none_due)))
            e

  -- ---- all fragments

  -- all fragments of a packet that is refused are refused with its number, and nothing is written
  pub all-refused : (n : ℕ) → 0 < n → n ≡ packet_fault g packet → outcome (refused n) out ≡ fragments_call g number packet out
  unfolding fragments_call fragments_fault
  all-refused n some e = leaves n _ _ _ _ some (due_more g packet n _ some e)

  module _ (passed : packet_fault g packet ≡ 0) where
    -- all fragments of a packet that is not refused, without room for them: 1, and nothing is written
    pub all_1 : length out < length (fragments_for g number packet) → outcome (refused 1) out ≡ fragments_call g number packet out
    unfolding fragments_call fragments_fault
    all_1 short = leaves 1 _ _ _ _ (lit< tt) (rest_due g packet passed _
        (due 1 _ (lt-ltb (length out) (length (fragments_for g number packet)) short)))

    -- all fragments, with room: f, h, s and the last Plen are granted, and out begins with the fragments
    pub all_done : (values y : List ℕ)
        → values ≡ f g (length packet) ∷ h g ∷ s g (length packet) ∷ length (payload_for g packet (f g (length packet) - 1)) ∷ []
        → length (fragments_for g number packet) ≤ length out → y ≡ splice out 0 (fragments_for g number packet)
        → outcome (granted values) y ≡ fragments_call g number packet out
    unfolding fragments_call fragments_fault
    all_done values y is room e =
        ap (λ (x : List ℕ). outcome (granted x) y) is
        ∙ writes _ _ _ _ _ (rest_due g packet passed _ (skip 1 _ (le-ltb (length out) (length (fragments_for g number packet)) room) none_due)) e
