-- All fragments one behind the other: one more is laid right behind those before it. Assumes nothing.
use mathlib.Core.Path.{◌≡◌, sym, ap, ◌∙◌}
use mathlib.Core.List.{List, ◌++◌}
use Prim.Native.Nat.{ℕ, ◌+◌, ◌-◌, ◌*◌, ◌≤◌, ◌<◌}
use native.Mathlib.Omega.{arith}
use lib.ListN.{length, take, drop}
use Rattle.base_rules.specs.Bytes.{splice}
use Rattle.base_rules.proofs.Splice.{splice_none, splice-length, splice_next}
use Rattle.cut_rules.specs.Sizes.{h, f, s}
use Rattle.cut_rules.specs.declared.Settings.{Settings}
use Rattle.cut_rules.specs.declared.Figures.{Figures}
use Rattle.sender_rules.specs.Fragments.{fragment_for, fragments_from, fragments_for}
use Rattle.sender_rules.specs.inner.Parts.{Figured}
use Rattle.sender_rules.proofs.FragmentLengths.{from_none, from_more, from_size, within_whole}
use Rattle.sender_rules.proofs.Laying.{part_lent, length-lent}
use Rattle.sender_rules.proofs.PlannedFigures.{is_f, step_is}

module _ (g : Settings) (packet : List ℕ) (p : Figures) (d : Figured g packet p) (number : ℕ) (out : List ℕ) where
  -- before the first fragment the buffer is as it was lent
  pub run_none : out ≡ splice out 0 (fragments_from g number packet 0 0)
  run_none = splice_none out 0 ∙ ap (splice out 0) (sym (from_none g packet number))

  -- once f fragments are laid, the buffer begins with all fragments of the packet
  pub run_whole : (i : ℕ) (x : List ℕ) → i ≤ p.f → p.f ≤ i → x ≡ splice out 0 (fragments_from g number packet 0 i)
      → x ≡ splice out 0 (fragments_for g number packet)
  unfolding fragments_for
  run_whole i x le ge e =
      let all : i ≡ f g (length packet) = omega (arith, is_f g packet p d) in
      e ∙ ap (λ (t : ℕ). splice out 0 (fragments_from g number packet 0 t)) all

  module _ (room : length (fragments_for g number packet) ≤ length out) where
    -- with room for all fragments, the buffer that begins with them is as long as the one lent
    pub whole_length : (x : List ℕ) → x ≡ splice out 0 (fragments_for g number packet) → length x ≡ length out
    whole_length x e = ap length e ∙ splice-length out 0 (fragments_for g number packet) (omega arith)

    module _ (i at : ℕ) (x : List ℕ) (less : i < p.f) (is_at : at ≡ i * (p.h + p.s))
        (is_x : x ≡ splice out 0 (fragments_from g number packet 0 i)) where
      below : i < f g (length packet)
      below = omega (arith, is_f g packet p d)

      place_of : at ≡ i * (h g + s g (length packet))
      place_of = is_at ∙ ap (λ (t : ℕ). i * t) (step_is g packet p d)

      before : length (fragments_from g number packet 0 i) ≡ at
      before = from_size g packet d.passed number 0 i (omega (arith, below)) ∙ sym place_of

      fits : at + length (fragment_for g number packet i) ≤ length out
      fits = omega (arith, place_of, within_whole g packet d.passed number i below)

      run_length : length x ≡ length out
      run_length = ap length is_x ∙ splice-length out 0 (fragments_from g number packet 0 i) (omega (arith, before, fits))

      -- with room for all fragments, fragment i starts no later than the buffer ends
      pub run_start : at ≤ length x
      run_start = omega (arith, run_length, fits)

      -- with room for all fragments, the rest of the buffer from its start on has room for fragment i
      pub run_room : length (fragment_for g number packet i) ≤ length (take (length x - at) (drop at x))
      run_room = omega (arith, run_length, fits, length-lent x at)

      -- fragment i laid right behind the i before it makes i + 1
      pub run_more : (y : List ℕ) → y ≡ splice (take (length x - at) (drop at x)) 0 (fragment_for g number packet i)
          → take at x ++ (y ++ drop (length x - at) (drop at x)) ≡ splice out 0 (fragments_from g number packet 0 (i + 1))
      run_more y e =
          let one : List ℕ = fragment_for g number packet i in
          part_lent x one y at (omega (arith, run_length, fits)) e
          ∙ ap (λ (w : List ℕ). splice w at one) is_x
          ∙ splice_next out (fragments_from g number packet 0 i) one at before
          ∙ ap (splice out 0) (sym (from_more g packet number i))
