-- What the definitions of the private functions write short.
use Rattle.std.specs.Prelude.{List, ℕ, ◌*◌}
use Rattle.base_rules.specs.Bounds.{parity}
use Rattle.base_rules.specs.Table as base

-- f 0, f 1, .., n of them
abbrev pub table : ℕ → (ℕ → ℕ) → List ℕ
table n f = base.table f 0 n

-- bytes of a power's rows in the register's table: 32 of 48 bytes (clause 7.3.1)
abbrev pub power_size : ℕ
power_size = 32 * parity

-- bytes of half of them: sixteen rows, for one half of a byte
abbrev pub half_size : ℕ
half_size = 16 * parity

-- bytes of the table: eight powers
abbrev pub table-size : ℕ
table-size = 8 * power_size
