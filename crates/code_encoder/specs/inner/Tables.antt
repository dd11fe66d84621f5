-- That the first n bytes of a table are made is a fact, which a struct may hold. Assumes nothing.
use Rattle.std.specs.Prelude.{List, ℕ, get_or}
use Rattle.std.specs.Coded.{Π_prop, Coded-set, coded_ℕ}
use Rattle.code_rules.specs.inner.Kernel.{Made, entry}

pub Made-prop : (t : List ℕ) (n : ℕ) → IsProp (Made t n)
unfolding Made
Made-prop t n = Π_prop (λ i. Π_prop (λ h. Coded-set coded_ℕ (get_or t i 0) (entry i)))
