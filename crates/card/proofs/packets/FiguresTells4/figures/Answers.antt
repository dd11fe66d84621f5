-- `figures` of a packet that passes meets its contract. Assumes nothing.
use mathlib.Core.Path.{ap, ◌∙◌}
use mathlib.Core.List.{[], ◌∷◌}
use Prim.Native.Nat.{ℕ}
use Rattle.af_rules.specs.Calls.{values_of}
use Rattle.card.proofs.Flags.{as_bit}
use Rattle.card.proofs.packets.FiguresTells4.figures.Goals as goal

pub returns : goal.returns
unfolding values_of
returns c =
    let p = c.args.self in
    ap (λ (x : ℕ). p.seq ∷ x ∷ p.minor ∷ p.len ∷ []) (c.from.ensures ∙ as_bit p.cf)
