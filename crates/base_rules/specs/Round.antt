-- Division rounded up, written ceil in document 01.
use Rattle.std.specs.Prelude.{ℕ, ◌+◌, ◌-◌, ◌/◌}

-- x / y rounded up
unfoldable pub ceil : ℕ → ℕ → ℕ
ceil x y = (x + (y - 1)) / y
