-- `parity_of` meets its contract: the register goes over a zero, the data, and zeros up to the end. Assumes nothing.
use mathlib.Core.Path.{◌≡◌, ap, ap₂, ◌∙◌}
use mathlib.Core.List.{List, ◌∷◌, ◌++◌}
use Prim.Native.Nat.{ℕ, ◌+◌, ◌-◌}
use native.Mathlib.Omega.{arith}
use lib.ListN.{length, drop, replicate}
use Rattle.std.proofs.lemmas.List.{drop-replicate}
use Rattle.code_rules.specs.inner.Kernel.{laid}
use Rattle.code_rules.specs.inner.Register.{register_by}
use Rattle.code_rules.proofs.TableLaws.{steps_end}
use Rattle.code_encoder.proofs.register.parity_of.Goals as goal

between : (d s : List ℕ) (n : ℕ) → n ≡ length d → s ≡ d → 0 ∷ (s ++ drop n (replicate 207 0)) ≡ laid d
unfolding laid
between d s n size e =
    ap₂ (λ (x y : List ℕ). 0 ∷ (x ++ y)) e (drop-replicate n 207 0 ∙ ap (λ (m : ℕ). replicate (207 - m) 0) size)

pub returns : goal.returns
returns c =
    let A = c.args in
    let d = A.d.now in
    let w = between d c.copy_from_slice.new.self (length d + 1 - 1) (omega arith) c.copy_from_slice.ensures.after in
    c.register.ensures ∙ ap (λ d. register_by A.t.now d 26) w ∙ steps_end A.t.now d
