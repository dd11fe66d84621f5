-- What is written, by which figure it is. Assumes nothing.
use mathlib.Core.Path.{◌≡◌, refl, sym, ap, ◌∙◌}
use mathlib.Core.Bool.{false}
use mathlib.Core.List.{List, []}
use Prim.Native.Nat.{ℕ, ◌+◌}
use native.Mathlib.Nat.{zero-add}
use native.Mathlib.Omega.{arith}
use lib.Dec.{ltb}
use lib.ListN.{length}
use lib.Ieee.{Float}
use Rattle.std.specs.Prelude.{Some, None}
use Rattle.base_rules.specs.Answer.{Outcome, outcome, granted, refused, answer_in, settled}
use Rattle.base_rules.specs.Bytes.{bytes_of}
use Rattle.base_rules.specs.Round.{ceil}
use Rattle.base_rules.specs.Tests.{first}
use Rattle.base_rules.specs.Written.{put_fault, put_of}
use Rattle.base_rules.proofs.Logic.{either, same}
use Rattle.base_rules.proofs.Numbers.{length-bytes}
use Rattle.item_rules.specs.Item.{bytes_for}
use Rattle.item_rules.specs.Run.{bad_ptr}
use Rattle.item_rules.proofs.Steps.{zero_one}
use Rattle.write_rules.specs.Write.{item_bytes, write_fault, write_call}
use Rattle.write_rules.proofs.Back.{length-item}
use Rattle.bandwidth_rules.specs.Figure.{in256ths, is_figure, whole_of}
use Rattle.bandwidth_rules.specs.Read.{rbw, rbw_bits}
use Rattle.bandwidth_rules.specs.Write.{width_entry, entry_bytes, width_call, none_call}
use Rattle.bandwidth_rules.specs.Claims.{Figures}
use Rattle.bandwidth_rules.proofs.Figures.{figure_tested, of_whole, none_whole}

-- an item whose value has the bytes of its bits, and that is no bad "*ptr", is refused for room alone
write_put : (name bits : ℕ) (v out : List ℕ) → bad_ptr name bits ≡ false → length v ≡ bytes_for bits
    → write_call name bits v out ≡ put_of out 0 (item_bytes name bits v)
unfolding write_call write_fault put_of put_fault first
write_put name bits v out ptr whole =
    simp (same whole, ptr, zero-add, length-item name bits v whole)

-- so is the item of a figure
pub width_written : (x : Float) (n : ℕ) (v out : List ℕ) (o : Outcome) → Some n ≡ whole_of x → v ≡ bytes_of 2 n
    → o ≡ write_call rbw rbw_bits v out → o ≡ width_call x out
unfolding width_call bad_ptr bytes_for ceil
width_written x n v out o f ev e =
    let is = of_whole x n (sym f) in
    e ∙ ap (λ (l : List ℕ). write_call rbw rbw_bits l out) (ev ∙ ap (bytes_of 2) (sym is.1))
    ∙ write_put rbw rbw_bits (bytes_of 2 (in256ths x)) out refl (length-bytes 2 (in256ths x)) ∙ sym (simp is.0)

-- and that of none
pub none_written : (v out : List ℕ) (o : Outcome) → v ≡ [] → o ≡ write_call rbw 0 v out → o ≡ none_call out
unfolding none_call bad_ptr bytes_for ceil
none_written v out o ev e = e ∙ ap (λ (l : List ℕ). write_call rbw 0 l out) ev ∙ write_put rbw 0 [] out refl refl

-- what is the figure of no number is refused with 61
pub no_figure : (x : Float) (out : List ℕ) → None ≡ whole_of x → outcome (refused 61) out ≡ width_call x out
unfolding width_call
no_figure x out f = sym (simp (none_whole x (sym f)))

-- what only room is missing for is not refused with 61
put_not_61 : (d s : List ℕ) (at : ℕ) → answer_in (put_of d at s) ≡ refused 61 → ⊥
unfolding put_of put_fault first settled answer_in
put_not_61 d s at e =
    either (ltb (length d) (at + length s)) (λ t. room (rw t at e)) (λ f. done (rw f at e))
  where
    room : refused 1 ≡ refused 61 → ⊥
    room q = let n : ◌≡◌ {A = ℕ} 1 61 = cc in omega (arith, n)

    done : granted [] ≡ refused 61 → ⊥
    done q = zero_one (cc)

pub figures : Figures
unfolding width_call answer_in
figures x out held =
    let tested = figure_tested x held in (
      (λ not. either (is_figure x) (λ t. tested.is t) (λ f. absurd (not (simp f)))),
      (λ n f e. put_not_61 out (entry_bytes (width_entry x)) 0 (rw (tested.passes n f).0 at e)),
    )
