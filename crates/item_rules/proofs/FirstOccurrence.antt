-- The first item of a name, among the occurrences of the name. Assumes nothing.
use mathlib.Core.Bool.{Bool, true, false, cond}
use mathlib.Core.List.{◌∷◌, map}
use mathlib.Core.Path.{◌≡◌, refl}
use lib.Dec.{eqb}
use lib.ListN.{get_or}
use Rattle.std.specs.Prelude.{Some, None}
use Rattle.item_rules.specs.Run.{item, padding, refused, first_of, named_in, nth_of}
use Rattle.item_rules.specs.Claims.{FirstIsNth}

-- the first item of a name is occurrence 0
pub first_is_nth : FirstIsNth
unfolding first_of nth_of named_in
first_is_nth name (item i r) = go (eqb i.name name) (first_is_nth name r)
  where
    go : (b : Bool) → first_of name r ≡ nth_of name 0 r
        → cond b (Some i) (first_of name r) ≡ get_or (map Some (cond b (i ∷ named_in name r) (named_in name r))) 0 None
    go true behind = refl
    go false behind = behind
first_is_nth name (padding n) = refl
first_is_nth name (refused n) = refl
