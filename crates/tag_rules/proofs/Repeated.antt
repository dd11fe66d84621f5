-- What holds where names may repeat, and of the occurrences of a name. Assumes nothing.
use Prim.Native.Nat.{ℕ}
use mathlib.Core.Bool.{Bool, true, false, cond}
use mathlib.Core.List.{List, [], map}
use mathlib.Core.Path.{◌≡◌, refl, sym, ap, ◌∙◌}
use native.Mathlib.Omega.{arith}
use lib.Dec.{eqb}
use lib.ListN.{length, get_or}
use borrow.Author.Tests.{eq-eqb, eqb-true, eqb-false}
use Rattle.std.specs.Prelude.{Result, Err, Option, Some, None}
use Rattle.base_rules.specs.Refusal.{number as number_for, refusal_of}
use Rattle.base_rules.specs.declared.Refusal.{Refusal}
use Rattle.base_rules.specs.declared.Refusal.TheVariants as refusal
use Rattle.base_rules.proofs.Refusals.{one_number}
use Rattle.base_rules.proofs.Logic.{either, clash}
use Rattle.item_rules.specs.declared.Item.{Item}
use Rattle.item_rules.specs.declared.Repeats.TheVariants.{Forbidden, Allowed}
use Rattle.item_rules.specs.Run.{refused, first_of, named_in, nth_of}
use Rattle.item_rules.proofs.Steps.{zero_one}
use Rattle.item_rules.proofs.FirstOccurrence.{first_is_nth}
use Rattle.item_rules.proofs.Occurrences.{listed, unlisted, none_named}
use Rattle.item_rules.proofs.Repeated.{faults_still, faults_never}
use Rattle.tag_rules.specs.declared.Located.{Located}
use Rattle.tag_rules.specs.Find.{whole_run, check_of, in_packet, in_standing, locate_of, locate_nth_of}
use Rattle.tag_rules.specs.Reading.{checked_run}
use Rattle.tag_rules.specs.Claims.{NoTwice, AcceptedStill, FoundStill, NthStill, StandingRefused, FoundNotTwice, NthNotTwice}
use Rattle.tag_rules.specs.Claims.{NthBeyond, NthRefused, FindsFirst, FindsStanding, StandingAside}
use Rattle.tag_rules.proofs.Checking.{check_due, check_named}
use Rattle.tag_rules.proofs.Searches.{refused_second, is_nth, nth_first}
use Rattle.tag_rules.proofs.Numbers.{is_at, has_found}
use Rattle.tag_rules.proofs.Inside.{found_standing}

pub no_twice : NoTwice
unfolding check_of
no_twice s = faults_never s 0 (length s) []

pub accepted_still : AcceptedStill
unfolding check_of checked_run
accepted_still s h =
    let e = faults_still [] (whole_run s) h in
    (e, ap (λ (n : ℕ). cond (eqb n 0) (whole_run s) (refused n)) e)

pub found_still : FoundStill
unfolding locate_of
found_still s t name h k =
    let found : Result Located Refusal = in_packet (first_of name (whole_run s)) (in_standing (first_of name (whole_run t))) in
    let rest : ℕ → Result Located Refusal = λ m. cond (eqb m 0) found (Err (refusal_of m)) in
    ap (λ (n : ℕ). cond (eqb n 0) (rest (check_of Allowed t)) (Err (refusal_of n))) (accepted_still s h).0
    ∙ ap (λ (m : ℕ). cond (eqb (check_of Forbidden s) 0) (rest m) (Err (refusal_of (check_of Forbidden s)))) (accepted_still t k).0

pub nth_still : NthStill
unfolding locate_nth_of
nth_still s name number h =
    ap (λ (n : ℕ). cond (eqb n 0) (in_packet (nth_of name number (whole_run s)) (Err refusal.Absent)) (Err (refusal_of n))) (accepted_still s h).0

pub standing_refused : StandingRefused
standing_refused w s t name z h = (sym (refused_second w s t name (refusal_of (check_of w t)) z (check_due w t h)), check_due w t h)

-- 1 is not 31, and neither is 34
room_apart : number_for refusal.Room ≡ number_for refusal.Twice → ⊥
unfolding number_for
room_apart e = omega (arith, e)

absent_apart : number_for refusal.Absent ≡ number_for refusal.Twice → ⊥
unfolding number_for
absent_apart e = omega (arith, e)

-- so 34 ABSENT is not 31 TWICE
not_twice : refusal.Absent ≡ refusal.Twice → ⊥
not_twice e = absent_apart (ap number_for e)

-- so where names may repeat no packet is refused as 31 TWICE; a refusal that none is due for is 1 ROOM
never : (s : List ℕ) → refusal_of (check_of Allowed s) ≡ refusal.Twice → ⊥
unfolding refusal_of number_for
never s q =
    either (eqb (check_of Allowed s) 0)
    (λ z. let e : refusal.Room ≡ refusal.Twice = rw (eqb-true (check_of Allowed s) 0 z) at q in absurd (room_apart (ap number_for e)))
    (λ f. no_twice s (one_number (check_of Allowed s) refusal.Twice (check_named Allowed s) (eqb-false (check_of Allowed s) 0 f) q))

-- a packet's refusal is not 31, and neither is 34
found_by : (b c : Bool) (f g : Option Item) (n m : Refusal) → (n ≡ refusal.Twice → ⊥) → (m ≡ refusal.Twice → ⊥)
    → cond b (cond c (in_packet f (in_standing g)) (Err m)) (Err n) ≡ Err refusal.Twice → ⊥
found_by true true (Some i) g n m p q e = zero_one (cc)
found_by true true None (Some i) n m p q e = zero_one (cc)
found_by true true None None n m p q e = absurd (not_twice (cc))
found_by true false f g n m p q e = q (let z : m ≡ refusal.Twice = cc in z)
found_by false c f g n m p q e = p (let z : n ≡ refusal.Twice = cc in z)

pub found_not_twice : FoundNotTwice
unfolding locate_of
found_not_twice s t name =
    found_by (eqb (check_of Allowed s) 0) (eqb (check_of Allowed t) 0) (first_of name (whole_run s)) (first_of name (whole_run t))
    (refusal_of (check_of Allowed s)) (refusal_of (check_of Allowed t)) (never s) (never t)

nth_by : (b : Bool) (f : Option Item) (n : Refusal) → (n ≡ refusal.Twice → ⊥) → cond b (in_packet f (Err refusal.Absent)) (Err n) ≡ Err refusal.Twice → ⊥
nth_by true (Some i) n p e = zero_one (cc)
nth_by true None n p e = absurd (not_twice (cc))
nth_by false f n p e = p (let z : n ≡ refusal.Twice = cc in z)

pub nth_not_twice : NthNotTwice
unfolding locate_nth_of
nth_not_twice s name number = nth_by (eqb (check_of Allowed s) 0) (nth_of name number (whole_run s)) (refusal_of (check_of Allowed s)) (never s)

pub nth_beyond : NthBeyond
unfolding nth_of
nth_beyond w s name number z =
    let l : List Item = named_in name (whole_run s) in
    record {
      below = λ h i. is_nth w s name number _ z (listed l number i h);
      beyond = λ h. is_nth w s name number _ z (unlisted l number h);
    }

pub nth_refused : NthRefused
nth_refused w s name i h = (sym (nth_first w s name i (refusal_of (check_of w s)) (check_due w s h)), check_due w s h)

-- what is found is found in the packet, and nothing is looked for behind it
same_by : (f g : Option Item) → is_at f ≡ true → in_packet f (in_standing g) ≡ in_packet f (Err refusal.Absent)
unfolding is_at
same_by (Some i) g q = refl
same_by None g q = clash q refl

pub finds_first : FindsFirst
unfolding locate_of locate_nth_of
finds_first w s t name y has =
    let f : Option Item = first_of name (whole_run s) in
    let here = same_by f (first_of name (whole_run t)) (sym (has_found name (whole_run s)) ∙ has) in
    let nth = ap (λ (g : Option Item). in_packet g (Err refusal.Absent)) (first_is_nth name (whole_run s)) in
    either (eqb (check_of w s) 0) (λ z. simp (z, eq-eqb (check_of w t) 0 y) (here ∙ nth)) (λ h. simp h)

pub finds_standing : FindsStanding
finds_standing w s t name i q =
    let there = found_standing w s t name i q in
    is_nth w t name 0 (Some i) there.0 (sym (first_is_nth name (whole_run t)) ∙ there.1)

pub standing_aside : StandingAside
unfolding nth_of
standing_aside w s name number z none =
    is_nth w s name number None z
    (ap (λ (l : List Item). get_or (map Some l) number None) (none_named name (whole_run s) none))
