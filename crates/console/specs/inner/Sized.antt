-- How much of a seat is lent. Assumes nothing.
use Rattle.std.specs.Prelude.{ℕ}

-- the most bytes that a question lends as the table's
abbrev pub lent_most : ℕ
lent_most = 65536
