-- `byte` meets its contract: its two letters are the text of one byte. Assumes nothing.
use mathlib.Core.Path.{ap₂}
use mathlib.Core.List.{[], ◌∷◌}
use Prim.Native.Nat.{ℕ}
use Rattle.text_rules.specs.Text.{hex_of}
use Rattle.text_rules.proofs.Laws.{lays_same}
use Rattle.text.proofs.byte.Goals as goal

pub returns : goal.returns
unfolding hex_of
returns c =
    let A = c.args in
    let a = A in
    lays_same a.out.now a.at (ap₂ (λ (x y : ℕ). x ∷ y ∷ []) c.letter.ensures
    c.letter-2.ensures) c.plain.ensures
