-- The claims of specs/Claims.antt, each by citation. Assumes nothing.
use Prim.Native.Nat.{ℕ, zero, suc}
use mathlib.Core.Path.{◌≡◌, refl, sym, ap, ◌∙◌}
use mathlib.Core.Bool.{Bool}
use mathlib.Core.List.{[], ◌∷◌}
use native.Mathlib.Nat.{le_refl}
use lib.Dec.{eqb}
use lib.ListN.{take, replicate}
use borrow.Author.Tests.{eqb-true, eqb-false}
use Rattle.base_rules.specs.Answer.{granted, answered}
use Rattle.base_rules.specs.Tests.{bit}
use Rattle.base_rules.proofs.Logic.{either, bit_one}
use Rattle.std.specs.Prelude.{Result, Ok, Err}
use Rattle.base_rules.specs.Refusal.{told, fault_in}
use Rattle.base_rules.specs.declared.Refusal.{Refusal}
use Rattle.base_rules.proofs.Answers.{one_told}
use Rattle.base_rules.proofs.Refusals.{one_numbered}
use Rattle.item_rules.specs.declared.Item.{Item}
use Rattle.item_rules.specs.declared.Step.{Step}
use Rattle.item_rules.specs.declared.Step.TheVariants as step
use Rattle.item_rules.specs.Item.{values_of, values_in, number_of}
use Rattle.item_rules.proofs.Proved.{one_item, one_step}
use Rattle.item_rules.proofs.Starts.{item_starts}
use Rattle.tag_rules.specs.declared.Hit.{Hit}
use Rattle.tag_rules.specs.declared.Located.{Located}
use Rattle.tag_rules.specs.declared.Located.TheVariants as located
use Rattle.tag_rules.specs.Find.{check_of}
use Rattle.tag_rules.specs.Calls.{opened_number, open_call, sought_number, values_at, located_number, read_of, read_number}
use Rattle.tag_rules.specs.Reading.{start_of, checked_run, items_of, last_of}
use Rattle.tag_rules.specs.Claims.{OneRead, OneAlike}
use Rattle.tag_rules.specs.Claims.{OneOpened, OneSought, OneLocated, Opens, InOrder, Ends, StaysAtEnd, StaysRefused, ReadShown, FoundShown}
use Rattle.tag_rules.specs.Claims.{NoTwice, AcceptedStill, FoundStill, NthStill, StandingRefused, FoundNotTwice, NthNotTwice}
use Rattle.tag_rules.specs.Claims.{NthBeyond, NthRefused, FindsFirst, FindsStanding, StandingAside, NthShown}
use Rattle.tag_rules.specs.Claims.{ReadStarts, SoughtStarts, SoughtNthStarts, InARow}
use Rattle.tag_rules.proofs.Reading.{handed_stands, after_is, refused_reads, refused_after}
use Rattle.tag_rules.proofs.HandedOut.{stays, repeats, hands_run}
use Rattle.tag_rules.proofs.Endings as endings
use Rattle.tag_rules.proofs.Inside as inside
use Rattle.tag_rules.proofs.Hits as hits
use Rattle.tag_rules.proofs.Repeated as repeated

pub one_opened : OneOpened
unfolding opened_number
one_opened a b e = one_told (λ at. at ∷ []) (λ (n m : ℕ) q. cc) a b e

-- a finding is which packet it names and what its item tells
one_hit : (a b : Hit) → bit a.standing ≡ bit b.standing → values_of a.item ≡ values_of b.item → a ≡ b
one_hit a b p q = same (bit_one a.standing b.standing p) (one_item a.item b.item q)
  where
    same : {s s' : Bool} {i i' : Item} → s ≡ s' → i ≡ i' → ◌≡◌ {A = Hit} (record { standing = s; item = i }) (record { standing = s'; item = i' })
    same p q = cc

-- a step is what it tells
one_values : (x y : Step) → values_in x ≡ values_in y → x ≡ y
unfolding number_of told
one_values x y q =
    let same : ◌≡◌ {A = Result Step Refusal} (Ok x) (Ok y) = one_step (Ok x) (Ok y) (ap granted q) in
    cc

pub one_read : OneRead
unfolding read_number
one_read a b e = one_numbered values_in one_values a b e

pub one_alike : OneAlike
one_alike E (Ok l) (Ok h) (Ok k) p q =
    let same = p ∙ sym q in
    ap Ok (one_hit h k (cc) (cc))
one_alike E (Err e) (Err m) (Err n) p q = ap Err (p ∙ sym q)
one_alike E (Ok l) (Ok h) (Err n) p q = absurd q
one_alike E (Ok l) (Err m) b p q = absurd p
one_alike E (Err e) (Ok h) b p q = absurd p
one_alike E (Err e) (Err m) (Ok k) p q = absurd q

pub one_sought : OneSought
unfolding sought_number
one_sought a b e = one_told (λ (h : Hit). bit h.standing ∷ values_of h.item) (λ (h k : Hit) q. one_hit h k (cc) (cc)) a b e

-- one place of an item
one_place : (a b : Located) → values_at a ≡ values_at b → a ≡ b
unfolding values_at
one_place (located.Packet i) (located.Packet j) e = ap located.Packet (one_item i j (cc))
one_place (located.Packet i) (located.Standing j) e = cc
one_place (located.Standing i) (located.Packet j) e = cc
one_place (located.Standing i) (located.Standing j) e = ap located.Standing (one_item i j (cc))

pub one_located : OneLocated
unfolding located_number
one_located a b e = one_told values_at one_place a b e

-- what a check says, and what an opening then is
opens_by : (n : ℕ) (o : Result ℕ Refusal) → opened_number o ≡ answered n (0 ∷ []) → (start_of o ≡ 0) × (fault_in o ≡ n)
unfolding opened_number told fault_in answered
opens_by zero (Ok at) e = (cc, refl)
opens_by zero (Err m) e = (refl, cc)
opens_by (suc n) (Ok at) e = (cc, cc)
opens_by (suc n) (Err m) e = (refl, cc)

-- whatever answer fits, a reader begins at 0 and keeps the number that the check says
pub opens : Opens
unfolding open_call
opens w s o e = opens_by (check_of w s) o e

pub in_order : InOrder
unfolding checked_run items_of last_of
in_order w s n =
    either (eqb (check_of w s) 0) (λ q. rw (q, eqb-true (check_of w s) 0 q) (hands_run s n 0))
    (λ q. rw q (repeats s 0 (check_of w s) (refused_after s 0 (check_of w s) (eqb-false (check_of w s) 0 q)) n n (le_refl n)
    ∙ ap (λ (u : Result Step ℕ). take n (replicate n u)) (refused_reads s 0 (check_of w s) (eqb-false (check_of w s) 0 q))))

pub ends : Ends
ends = endings.ends

pub stays_at_end : StaysAtEnd
stays_at_end s at refusal p e = stays s at refusal (sym (after_is s at refusal (Ok (step.End p)) e))

pub stays_refused : StaysRefused
stays_refused s at refusal h n =
    let still = stays s at refusal (refused_after s at refusal h) n in
    (still, ap (λ (b : ℕ). read_of s b refusal) still ∙ refused_reads s at refusal h)

pub read_shown : ReadShown
read_shown s at refusal i e = inside.shown s at i (handed_stands s at refusal i e)

pub found_shown : FoundShown
found_shown = inside.found_in

-- where names may repeat, no packet is refused with 31,
pub no_twice : NoTwice
no_twice = repeated.no_twice

-- and nothing else changes
pub accepted_still : AcceptedStill
accepted_still = repeated.accepted_still

pub found_still : FoundStill
found_still = repeated.found_still

pub nth_still : NthStill
nth_still = repeated.nth_still

-- one word for both packets
pub standing_refused : StandingRefused
standing_refused = repeated.standing_refused

pub found_not_twice : FoundNotTwice
found_not_twice = repeated.found_not_twice

pub nth_not_twice : NthNotTwice
nth_not_twice = repeated.nth_not_twice

-- an occurrence is one of the packet's items of the name, in their order, or 34
pub nth_beyond : NthBeyond
nth_beyond = repeated.nth_beyond

pub nth_refused : NthRefused
nth_refused = repeated.nth_refused

-- finding shows occurrence 0 of a name that the packet holds
pub finds_first : FindsFirst
finds_first = repeated.finds_first

pub finds_standing : FindsStanding
finds_standing = repeated.finds_standing

pub standing_aside : StandingAside
standing_aside = repeated.standing_aside

pub nth_shown : NthShown
nth_shown = inside.nth_in

-- an item that is handed out starts where the reader stands,
pub read_starts : ReadStarts
read_starts s at refusal i e = item_starts s at _ i (handed_stands s at refusal i e)

-- one that a search finds in the packet that it names,
pub sought_starts : SoughtStarts
sought_starts = hits.sought_starts

-- an occurrence in the packet,
pub sought_nth_starts : SoughtNthStarts
sought_nth_starts = hits.sought_nth_starts

-- and the items of a packet follow each other without a gap
pub in_a_row : InARow
in_a_row = endings.in_a_row
