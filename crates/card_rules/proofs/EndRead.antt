-- What a walk's end tells reads back as zeros, and the padding among them. Assumes nothing.
use mathlib.Core.Path.{◌≡◌, refl}
use mathlib.Core.List.{List, [], ◌∷◌, ◌++◌}
use Prim.Native.Nat.{ℕ}
use lib.ListN.{take, replicate}
use Rattle.base_rules.specs.Bytes.{splice, bytes_of}
use Rattle.card_rules.specs.Told.{in_widths, told_length}
use Rattle.card_rules.specs.Items.{step_widths}

pub end_read : (before : List ℕ) (p : ℕ) → take (told_length step_widths) (splice before 0 (in_widths step_widths (0 ∷ 0 ∷ 0 ∷ 0 ∷ 0 ∷ p ∷ 0 ∷ 0 ∷ [])))
    ≡ replicate 18 0 ++ (bytes_of 4 p ++ replicate 9 0)
unfolding splice in_widths bytes_of told_length
end_read before p = refl
