-- What is handed out or found lies in its packet. Assumes nothing.
use Prim.Native.Nat.{ℕ, ◌≤◌}
use mathlib.Core.List.{List}
use mathlib.Core.Path.{◌≡◌, refl, ◌∙◌}
use mathlib.Core.Bool.{Bool, true, false, cond}
use native.Mathlib.Nat.{le_refl}
use native.Mathlib.Omega.{arith}
use lib.Dec.{eqb}
use borrow.Author.Tests.{eqb-true}
use lib.ListN.{length, drop, length-drop}
use lib.Seq.{length-take-le}
use Rattle.std.specs.Prelude.{Ok, Err, Option, Some, None}
use Rattle.base_rules.specs.Refusal.{refusal_of}
use Rattle.base_rules.specs.declared.Refusal.{Refusal}
use Rattle.base_rules.specs.declared.Refusal.TheVariants as refusal
use Rattle.item_rules.specs.declared.Item.{Item}
use Rattle.item_rules.specs.declared.Repeats.{Repeats}
use Rattle.item_rules.specs.declared.Step.TheVariants as step
use Rattle.item_rules.specs.Item.{step_in, item_at, bytes_for}
use Rattle.item_rules.specs.Run.{next_of, first_of, nth_of}
use Rattle.item_rules.proofs.Steps.{item_at_lem, zero_one}
use Rattle.item_rules.proofs.Starts.{starts_at, starts_inside}
use Rattle.item_rules.proofs.Finds.{found_stands, nth_stands}
use Rattle.tag_rules.specs.declared.Located.TheVariants as located
use Rattle.tag_rules.specs.Find.{whole_run, check_of, in_packet, in_standing, locate_of, locate_nth_of, value_of}
use Rattle.tag_rules.specs.Claims.{Shown, FoundShown, NthShown}

-- an item that stands in a packet
pub shown : (s : List ℕ) (at : ℕ) (i : Item) → step_in s at (length s) ≡ Ok (step.Item i) → Shown s i
unfolding value_of item_at
shown s at i e =
    let starts = (starts_at s at (length s) i (le_refl (length s)) e).0 in
    let fits : next_of i ≤ length s = starts_inside s i starts in
    let sized : i.len.0 ≡ bytes_for i.bits.0 = rw (item_at_lem s at (length s) i e) refl in
    record {
      starts = starts;
      whole = length-take-le i.len.0 (drop i.from s) (omega (arith, length-drop i.from s)) ∙ sized;
    }

-- one that a search by name finds
found_shown : (s : List ℕ) (name : ℕ) (i : Item) → first_of name (whole_run s) ≡ Some i → Shown s i
found_shown s name i q = let w = found_stands s name (length s) i 0 q in shown s w.at i w.here

-- where it is found, by what the checks and the two searches say
packet_by : (b b' : Bool) (f g : Option Item) (n m : Refusal) (i : Item)
    → cond b (cond b' (in_packet f (in_standing g)) (Err m)) (Err n) ≡ Ok (located.Packet i) → f ≡ Some i
packet_by true true (Some j) g n m i q = cc
packet_by true true None (Some j) n m i q = absurd (zero_one (cc))
packet_by true true None None n m i q = absurd (zero_one (cc))
packet_by true false f g n m i q = absurd (zero_one (cc))
packet_by false b' f g n m i q = absurd (zero_one (cc))

standing_by : (b b' : Bool) (f g : Option Item) (n m : Refusal) (i : Item)
    → cond b (cond b' (in_packet f (in_standing g)) (Err m)) (Err n) ≡ Ok (located.Standing i) → (b' ≡ true) × (g ≡ Some i)
standing_by true true (Some j) g n m i q = absurd (zero_one (cc))
standing_by true true None (Some j) n m i q = (refl, cc)
standing_by true true None None n m i q = absurd (zero_one (cc))
standing_by true false f g n m i q = absurd (zero_one (cc))
standing_by false b' f g n m i q = absurd (zero_one (cc))

-- an item that is found lies in the packet that it was found in, and its value is shown whole
pub found_in : FoundShown
unfolding locate_of
found_in w s t name i =
    let f : Option Item = first_of name (whole_run s) in
    let g : Option Item = first_of name (whole_run t) in
    let in_packet_lem = packet_by (eqb (check_of w s) 0) (eqb (check_of w t) 0) f g (refusal_of (check_of w s)) (refusal_of (check_of w t)) i in
    let in_standing_lem = standing_by (eqb (check_of w s) 0) (eqb (check_of w t) 0) f g (refusal_of (check_of w s)) (refusal_of (check_of w t)) i in
    ((λ q. found_shown s name i (in_packet_lem q)), (λ q. found_shown t name i (in_standing_lem q).1))

-- one that is found in the standing packet is the first of its name there, and that packet has no item at fault
pub found_standing : (w : Repeats) (s t : List ℕ) (name : ℕ) (i : Item) → locate_of w s t name ≡ Ok (located.Standing i)
    → (check_of w t ≡ 0) × (first_of name (whole_run t) ≡ Some i)
unfolding locate_of
found_standing w s t name i q =
    let by = standing_by (eqb (check_of w s) 0) (eqb (check_of w t) 0) (first_of name (whole_run s)) (first_of name (whole_run t))
    (refusal_of (check_of w s)) (refusal_of (check_of w t)) i q in
    (eqb-true (check_of w t) 0 by.0, by.1)

-- ---- an occurrence

-- by what the check and the search say
nth_by : (b : Bool) (f : Option Item) (n : Refusal) (i : Item) → cond b (in_packet f (Err refusal.Absent)) (Err n) ≡ Ok (located.Packet i) → f ≡ Some i
nth_by true (Some j) n i q = cc
nth_by true None n i q = absurd (zero_one (cc))
nth_by false f n i q = absurd (zero_one (cc))

no_standing : (b : Bool) (f : Option Item) (n : Refusal) (i : Item) → cond b (in_packet f (Err refusal.Absent)) (Err n) ≡ Ok (located.Standing i) → ⊥
no_standing true (Some j) n i q = zero_one (cc)
no_standing true None n i q = zero_one (cc)
no_standing false f n i q = zero_one (cc)

-- an occurrence lies in the packet, and its value is shown whole
pub nth_in : NthShown
unfolding locate_nth_of
nth_in w s name number i =
    let f : Option Item = nth_of name number (whole_run s) in
    let there : f ≡ Some i → Shown s i = λ q. let v = nth_stands s name (length s) number 0 i q in shown s v.at i v.here in
    ((λ q. there (nth_by (eqb (check_of w s) 0) f (refusal_of (check_of w s)) i q)), no_standing (eqb (check_of w s) 0) f (refusal_of (check_of w s)) i)
