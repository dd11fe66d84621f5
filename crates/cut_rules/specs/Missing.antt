-- What a set of lost fragments takes from a chunk (document 01, "The four places"; clause 7.4.4). A set is a test: lost i is true where
-- fragment i is lost.
use Rattle.std.specs.Prelude.{Bool, true, ◌&&◌, ℕ, zero, suc, ◌+◌, ◌*◌, ◌/◌, ◌%◌, min, ltb, leb}
use Rattle.base_rules.specs.Bounds.{parity}
use Rattle.base_rules.specs.Tests.{bit}

-- how many of the t numbers from a on pass the test
unfoldable pub count : (ℕ → Bool) → ℕ → ℕ → ℕ
count test a zero = 0
count test a (suc t) = bit (test a) + count test (suc a) t

-- demand 3: how many of the f fragments are lost
unfoldable pub losses : (ℕ → Bool) → ℕ → ℕ
losses lost f = count lost 0 f

-- document 01: cell q is gone where its fragment, q mod f, is lost
abbrev pub gone : (ℕ → Bool) → ℕ → ℕ → Bool
gone lost f q = lost (q % f)

-- document 01: how many of the n bytes of chunk j are missing
unfoldable pub missing : (ℕ → Bool) → ℕ → ℕ → ℕ → ℕ
missing lost f n j = count (gone lost f) (j * n) n

-- document 01: "no chunk misses more than 48 bytes", of c chunks
unfoldable pub suffice : (ℕ → Bool) → ℕ → ℕ → ℕ → Bool
suffice lost f n zero = true
suffice lost f n (suc c) = suffice lost f n c && leb (missing lost f n c) parity

-- C5: the most that w lost fragments of f take from a chunk of n bytes
unfoldable pub worst : ℕ → ℕ → ℕ → ℕ
worst n f w = w * (n / f) + min w (n % f)

-- C5: the set of the first w fragments
abbrev pub firsts : ℕ → ℕ → Bool
firsts w i = ltb i w
