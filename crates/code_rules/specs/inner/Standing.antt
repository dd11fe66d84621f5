-- What the private functions between the calls and the chunks hold.
use Rattle.std.specs.Prelude.{◌≡◌, Bool, true, false, List, ℕ, ◌+◌, ◌*◌, ◌/◌, ◌≤◌, ◌<◌, length}
use Rattle.base_rules.specs.Bounds.{most_f, most_k, place, parity}
use Rattle.cut_rules.specs.Missing.{suffice}
use Rattle.weave_rules.specs.Calls.{bad_count, too_much, bad_chunk, not_kept}

-- sound figures, and whether the fragments kept suffice (document 01, "The four places")
pub record Standing (kept : List Bool) (f s k : ℕ) (enough : Bool) : Type 0 where
  pub counted : bad_count f ≡ false
  pub placed : too_much f s ≡ false
  pub sound : bad_chunk f s k ≡ false
  pub told : suffice (not_kept kept) f (k + parity) (f * s / (k + parity)) ≡ enough

-- a block of c chunks, for which the fragments kept suffice (document 01, "The four places")
pub record Holds (kept : List Bool) (f k c : ℕ) (block : List ℕ) : Type 0 where
  pub some : 0 < f
  pub most : f ≤ most_f
  pub short : k ≤ most_k
  pub within : c * (k + parity) ≤ place
  pub chunks : length block ≡ c * (k + parity)
  pub enough : suffice (not_kept kept) f (k + parity) c ≡ true
