-- A run of zeros, by its elements. Assumes nothing.
use mathlib.Core.Path.{◌≡◌, sym, ◌∙◌, ap}
use mathlib.Core.List.{List}
use Prim.Native.Nat.{ℕ, ◌≤◌, ◌<◌}
use native.Mathlib.Omega.{arith}
use lib.ListN.{length, get_or, replicate, length-replicate, get_or-replicate}
use lib.Seq.{ext_get_or}

-- bytes that are 0 one by one, as far as they go, are a run of zeros
pub zeros_from : (s : List ℕ) (i : ℕ) → length s ≤ i → ((j : ℕ) → j < i → get_or s j 0 ≡ 0) → s ≡ replicate (length s) 0
zeros_from s i h all =
    ext_get_or 0 s (replicate (length s) 0) (sym (length-replicate {A = ℕ} (length s) 0))
    (λ j l. all j (omega arith) ∙ sym (get_or-replicate (length s) j 0 0 l))

-- bytes of which one is not 0 are no run of zeros
pub zeros_not : (s : List ℕ) (i : ℕ) → i < length s → (get_or s i 0 ≡ 0 → ⊥) → s ≡ replicate (length s) 0 → ⊥
zeros_not s i h some e = some (ap (λ (l : List ℕ). get_or l i 0) e ∙ get_or-replicate (length s) i 0 0 h)
