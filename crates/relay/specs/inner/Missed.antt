-- What is drawn of a place (document 01, "The four places": "no chunk misses more than 48 bytes").
use Rattle.std.specs.Prelude.{Bool, ℕ, zero, suc, max}
use Rattle.cut_rules.specs.Missing.{missing}

-- document 01: the most bytes that one of c chunks of n bytes misses
unfoldable pub most_missing : (ℕ → Bool) → ℕ → ℕ → ℕ → ℕ
most_missing lost f n zero = 0
most_missing lost f n (suc c) = max (most_missing lost f n c) (missing lost f n c)
