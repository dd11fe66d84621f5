-- The last figure, the widest and the narrowest so far (document 02, Item 10).
use Rattle.std.specs.Prelude.{true, false, cond, List, [], ◌∷◌, pos, Float}
use Rattle.std.specs.Float.Ieee as Ieee
use Rattle.std.specs.Float.{fin}
use Rattle.std.specs.Prelude.{Result, Ok, Err, Option, Some, None}
use Rattle.base_rules.specs.declared.Refusal.{Refusal}
use Rattle.bandwidth_rules.specs.declared.Widths.{Widths}

-- before any has come: 0.0 three times, and the flag says that they are none
unfoldable pub no_widths : Widths
no_widths = record { last = fin false 0 (pos 0); widest = fin false 0 (pos 0); narrowest = fin false 0 (pos 0); any = false }

-- the wider of two
unfoldable pub wider : Float → Float → Float
wider a x = cond (Ieee.lt a x) x a

-- the narrower of two
unfoldable pub narrower : Float → Float → Float
narrower a x = cond (Ieee.lt x a) x a

-- "keeps the last figure and shows the widest and narrowest so far": the first that comes is all three
unfoldable pub with_width : Widths → Float → Widths
with_width v x = record {
  last = x;
  widest = cond v.any (wider v.widest x) x;
  narrowest = cond v.any (narrower v.narrowest x) x;
  any = true;
}

-- "not available" or a refusal, of whatever kind, "leaves all three as they stood"
unfoldable pub seen_of : {E : Type 0} → Widths → Result (Option Float) E → Widths
seen_of v (Ok (Some x)) = with_width v x
seen_of v (Ok None) = v
seen_of v (Err n) = v

-- after one answer behind the other
unfoldable pub seen_all : {E : Type 0} → Widths → List (Result (Option Float) E) → Widths
seen_all v [] = v
seen_all v (a ∷ more) = seen_all (seen_of v a) more
