-- What a fragment of the packet is answered by the packet's own place: nothing is wrong, 12 or 11. Assumes nothing.
use mathlib.Core.Path.{◌≡◌, refl, sym, ap, ◌∙◌}
use mathlib.Core.Bool.{Bool, true, false, not, cond, beq}
use mathlib.Core.List.{List}
use Prim.Native.Nat.{ℕ, ◌≤◌}
use native.Mathlib.Omega.{arith}
use borrow.Author.Tests.{le-ltb}
use lib.ListN.{length, get_or}
use Rattle.base_rules.proofs.Logic.{either, same}
use Rattle.cut_rules.specs.declared.Settings.{Settings}
use Rattle.places_rules.specs.declared.Place.{Place}
use Rattle.places_rules.specs.Places.{open_now, delivered, is_last}
use Rattle.places_rules.specs.Faults.{bad_size_in, mismatch, place_fault}
use Rattle.places_rules.proofs.Checks as checks
use Rattle.sender_rules.specs.Calls.{packet_fault}
use Rattle.sender_rules.specs.Fragments.{payload_for, header_for}
use Rattle.sender_rules.proofs.FragmentLengths.{size-fec, size_most}
use Rattle.link.proofs.Basic.{same_or_not}
use Rattle.link.proofs.Enough.{size_of}
use Rattle.link.proofs.Own.{is_last_of, Mine, SizeKnown, full_size}

cond_pick : (v : Bool) (s z : ℕ) → z ≡ cond v s 0 → (z ≡ 0 → ⊥) → z ≡ s
cond_pick true s z e some = e
cond_pick false s z e some = absurd (some e)

beq_same : (a b : Bool) → a ≡ b → not (beq a b) ≡ false
beq_same true b e = ap (λ (v : Bool). not (beq true v)) (sym e)
beq_same false b e = ap (λ (v : Bool). not (beq false v)) (sym e)

module _ (g : Settings) (n : ℕ) (packet : List ℕ) (passed : packet_fault g packet ≡ 0) (i : ℕ) (p : Place) (mine : Mine g n packet p)
    (sized : SizeKnown g packet p) where
  known : (p.size ≡ 0 → ⊥) → p.size ≡ size_of g packet
  known some = cond_pick mine.size.0 (size_of g packet) p.size mine.size.1 some

  -- the sizes fit: with FEC all are s; without it the last is no longer, and another is s
  size_right : false ≡ bad_size_in p (header_for g n packet i)
  unfolding is_last header_for SizeKnown
  size_right =
      either g.fec
      (λ fec. sym (same (sized fec ∙ sym (size-fec g packet fec i))) ∙ checks.size-coded p (header_for g n packet i) fec)
      (λ fec.
      either (is_last_of g packet i)
      (λ e.
      same_or_not p.size 0
      (λ none. checks.last-any p (header_for g n packet i) fec refl e none)
      (λ some.
      sym (le-ltb p.size (length (payload_for g packet i)) (omega (arith, known some, size_most g packet passed i)))
      ∙ checks.last_known p (header_for g n packet i) fec refl e some))
      (λ e.
      let short : p.last ≤ length (payload_for g packet i) = omega (arith, mine.last, full_size g packet passed i e) in
      same_or_not p.size 0
      (λ none. sym (le-ltb (length (payload_for g packet i)) p.last short) ∙ checks.inner_any p (header_for g n packet i) fec refl e none)
      (λ some.
      sym (le-ltb (length (payload_for g packet i)) p.last short)
      ∙ checks.inner_same p (header_for g n packet i) fec refl e some (known some ∙ sym (full_size g packet passed i e)))))

  fits_in : mismatch p (header_for g n packet i) ≡ false
  unfolding header_for
  fits_in = sym (checks.size_told p (header_for g n packet i) mine.count (beq_same _ _ mine.fec) mine.rsk mine.rsz size_right)

  module _ (is_open : p.condition ≡ open_now) where
    -- a new one is kept,
    pub fault_none : get_or p.kept i false ≡ false → place_fault p (header_for g n packet i) ≡ 0
    unfolding header_for
    fault_none new = sym (checks.due_none p (header_for g n packet i) fits_in (λ z. omega arith) (λ z. omega arith) new)

    -- one that came before is not,
    pub fault_12 : get_or p.kept i false ≡ true → place_fault p (header_for g n packet i) ≡ 12
    unfolding header_for
    fault_12 old = sym (checks.due_12 p (header_for g n packet i) fits_in (λ z. omega arith) (λ z. omega arith) old)

  -- and none is after the packet was handed out
  pub fault_11 : p.condition ≡ delivered → place_fault p (header_for g n packet i) ≡ 11
  fault_11 done = sym (checks.due_11 p (header_for g n packet i) fits_in (λ z. omega arith) done)
