-- The claims of specs/Claims.antt on what is told of items. Assumes nothing.
use mathlib.Core.Path.{◌≡◌, refl, sym, ap, subst, ◌∙◌}
use mathlib.Core.Bool.{false, not}
use mathlib.Core.List.{List, ◌∷◌}
use Prim.Native.Nat.{ℕ, ◌+◌, ◌^◌, ◌<◌, ◌≤◌, min}
use native.Mathlib.Omega.{arith}
use borrow.Author.Tests.{ltb-false}
use lib.Dec.{eqb, lit<}
use lib.ListN.{length, get_or}
use Rattle.base_rules.specs.Refusal.{number, told, told_number}
use Rattle.base_rules.specs.declared.Refusal.{Refusal}
use Rattle.std.specs.Prelude.{Result, Ok, Err}
use Rattle.base_rules.specs.Answer.{Answer, granted, refused, answered}
use Rattle.base_rules.specs.Bytes.{Bytes, splice, bytes_of}
use Rattle.base_rules.proofs.Ceil as ceils
use Rattle.base_rules.proofs.Logic.{either, or_right}
use Rattle.base_rules.proofs.Numbers.{number_lt, back_at}
use Rattle.item_rules.specs.declared.Item.{Item}
use Rattle.item_rules.specs.Item.{head, bytes_for, item_at, values_of}
use Rattle.item_rules.specs.Claims.{StartsIn}
use Rattle.item_rules.proofs.Starts.{starts_at, starts_from, unused_is}
use Rattle.item_rules.proofs.Steps.{end_few}
use Rattle.tag_rules.specs.declared.Located.{Located}
use Rattle.tag_rules.specs.declared.Located.TheVariants as located
use Rattle.tag_rules.specs.Find.{locate_of, locate_nth_of}
use Rattle.tag_rules.specs.Calls.{values_at, located_number, locate_fault, locate_values, locate_call, nth_fault, locate_nth_call}
use Rattle.tag_rules.proofs.Numbers.{refused_by, locate_number, nth_number}
use Rattle.tag_rules.proofs.Proved.{found_shown, nth_shown}
use Rattle.walk_rules.specs.declared.Visit.{Visit}
use Rattle.walk_rules.specs.declared.Handed.{Handed}
use Rattle.walk_rules.specs.declared.Handed.TheVariants as handed
use Rattle.walk_rules.specs.declared.Walked.{Walked}
use Rattle.walk_rules.specs.declared.Walker.{Walker}
use Rattle.walk_rules.specs.Names.{deepest, names_of}
use Rattle.walk_rules.specs.Step.{handed_number, end_of, step_from, walk_call}
use Rattle.walk_rules.proofs.StepLaws.{by_steps, by_walker, end_within}
use Rattle.walk_rules.proofs.StepNumbers.{walk_number}
use Rattle.card_rules.specs.Told.{refusal_in, in_widths, too_short, room_for, told_of, CardTold}
use Rattle.card_rules.specs.Items.{found_widths, walker_bytes, walker_from, stepped_number, step_widths, stepped, step_room, walk_step_call}
use Rattle.card_rules.specs.Claims.{ItemRead, LocatedRead, FoundWhole, NthWhole, HandedRead, StepWhole}
use Rattle.card_rules.proofs.EndRead.{end_read}
use Rattle.card_rules.proofs.TellLaws.{fits_room, had_room, told_room}

-- ---- an item that starts in a packet

-- a value has no more bytes than bits
few_bytes : (bits : ℕ) → bits < 256 ^ 4 → bytes_for bits < 256 ^ 4
unfolding bytes_for
few_bytes bits small = omega (arith, ceils.near bits 8 (lit< tt))

-- its figures fit so many bytes
record ItemWhole (i : Item) : Type 0 where
  pub name : i.name < 256 ^ 4
  pub bits : i.bits.0 < 256 ^ 4
  pub from : i.from < 256 ^ 8
  pub len : i.len.0 < 256 ^ 4
  pub start : i.start < 256 ^ 8
  pub unused : i.unused.0 < 256 ^ 1

item_whole : (s : List ℕ) → Bytes s → length s < 2 ^ 64 → (i : Item) → StartsIn s i → ItemWhole i
unfolding item_at
item_whole s bytes long i w = record {
  name = subst (λ (j : Item). j.name < 256 ^ 4) w.spelt (number_lt 4 s i.start bytes);
  bits = subst (λ (j : Item). j.bits.0 < 256 ^ 4) w.spelt (number_lt 4 s (i.start + 4) bytes);
  from = omega (arith, starts_from s i w, w.inside);
  len = subst (λ (j : Item). j.len.0 < 256 ^ 4) w.spelt (few_bytes _ (number_lt 4 s (i.start + 4) bytes));
  start = omega (arith, w.inside);
  unused = omega (arith, (unused_is s i w).few);
}

-- what was told where 0 is given stands at the front of what was lent
given : (widths values before after : List ℕ) → CardTold widths (granted values) before after 0 → after ≡ splice before 0 (in_widths widths values)
given widths values before after said = said.told ∙ told_room widths values before (had_room widths before values said.number)

-- a refusal is not given as 0
not_given : (widths before after : List ℕ) (n fault : ℕ) (values : List ℕ) → refused n ≡ answered fault values
    → CardTold widths (answered fault values) before after 0 → ⊥
unfolding room_for refusal_in
not_given widths before after n fault values due said =
    let none : 0 ≡ n = said.number ∙ ap (λ (a : Answer). refusal_in (room_for widths before a)) (sym due) in
    (refused_by n fault values due).1 (sym none)

-- ---- one that is found

module _ (before : List ℕ) (which : ℕ) (i : Item) where
  abbrev found_told : List ℕ
  found_told = splice before 0 (in_widths found_widths (which ∷ values_of i))

  -- the first byte says which packet, and the item stands behind it
  found_read : which < 256 → ItemWhole i → (get_or found_told 0 0 ≡ which) × ItemRead found_told 1 i
  unfolding splice in_widths bytes_of
  found_read few w = (
    (omega arith),
    record {
      bits = back_at 4 i.bits.0 1 found_told _ refl w.bits;
      from = back_at 8 i.from 5 found_told _ refl w.from;
      len = back_at 4 i.len.0 13 found_told _ refl w.len;
      start = back_at 8 i.start 17 found_told _ refl w.start;
      unused = back_at 1 i.unused.0 25 found_told _ refl w.unused;
    },
  )

-- wherever it is
located_read : (l : Result Located Refusal) (before after : List ℕ) (fault : ℕ) (values : List ℕ) → located_number l ≡ answered fault values
    → ((i : Item) → l ≡ Ok (located.Packet i) → ItemWhole i) → ((i : Item) → l ≡ Ok (located.Standing i) → ItemWhole i)
    → CardTold found_widths (answered fault values) before after 0 → LocatedRead after l
unfolding located_number values_at told
located_read (Ok (located.Packet i)) before after fault values due p q said =
    let told = given found_widths (0 ∷ values_of i) before after (subst (λ (a : Answer). CardTold found_widths a before after 0) (sym due) said) in
    subst (λ (t : List ℕ). LocatedRead t (Ok (located.Packet i))) (sym told) (found_read before 0 i (omega arith) (p i refl))
located_read (Ok (located.Standing i)) before after fault values due p q said =
    let told = given found_widths (1 ∷ values_of i) before after (subst (λ (a : Answer). CardTold found_widths a before after 0) (sym due) said) in
    subst (λ (t : List ℕ). LocatedRead t (Ok (located.Standing i))) (sym told) (found_read before 1 i (omega arith) (q i refl))
located_read (Err n) before after fault values due p q said = not_given found_widths before after (number n) fault values due said

-- where a finding gives 0, what is told reads back as which packet and the item there
pub found_whole : FoundWhole
unfolding locate_call
found_whole word packet standing name before after bytes bytes' long long' said =
    located_read (locate_of word packet standing name) before after (locate_fault word packet standing name) (locate_values packet standing name)
    (locate_number word packet standing name)
    (λ i q. item_whole packet bytes long i ((found_shown word packet standing name i).0 q).starts)
    (λ i q. item_whole standing bytes' long' i ((found_shown word packet standing name i).1 q).starts) said

-- and so it is of an occurrence
pub nth_whole : NthWhole
unfolding locate_nth_call
nth_whole word packet name number before after bytes long said =
    located_read (locate_nth_of word packet name number) before after (nth_fault word packet name number) _ (nth_number word packet name number)
    (λ i q. item_whole packet bytes long i ((nth_shown word packet name number i).0 q).starts)
    (λ i q. absurd ((nth_shown word packet name number i).1 q)) said

-- ---- one that a step hands out

abbrev HandedWhole : Result Handed ℕ → Type 0
HandedWhole (Ok (handed.Item v)) = (v.depth ≤ deepest) × ItemWhole v.item
HandedWhole (Ok (handed.End p)) = p.0 < head
HandedWhole (Err n) = Unit {0}

handed_whole : (s cs ends : List ℕ) → Bytes s → length s < 2 ^ 64 → (d at : ℕ) → d ≤ deepest → HandedWhole (step_from s cs at d ends).handed
handed_whole s cs ends bytes long =
    by_steps s cs ends (λ (x : Walked). HandedWhole x.handed) (λ (at d : ℕ). d ≤ deepest)
    (λ at d i shallow e. (shallow, item_whole s bytes long i (starts_at s at (end_of s ends d) i (end_within s ends d) e).0))
    (λ at p shallow e. end_few s at (end_of s ends 0) p e)
    (λ at d n shallow e. tt)
    (λ at d shallow. omega arith)

module _ (before : List ℕ) (v : Visit) where
  abbrev step_told : List ℕ
  step_told = splice before 0 (in_widths step_widths (1 ∷ v.depth ∷ values_of v.item))

  -- 1, the depth and the name, and the item behind them
  item_read : v.depth ≤ deepest → ItemWhole v.item → HandedRead step_told (Ok (handed.Item v))
  unfolding splice in_widths bytes_of
  item_read shallow w =
      let i : Item = v.item in (
        refl,
        back_at 1 v.depth 1 step_told _ refl (omega arith),
        back_at 4 i.name 2 step_told _ refl w.name,
        record {
          bits = back_at 4 i.bits.0 6 step_told _ refl w.bits;
          from = back_at 8 i.from 10 step_told _ refl w.from;
          len = back_at 4 i.len.0 18 step_told _ refl w.len;
          start = back_at 8 i.start 22 step_told _ refl w.start;
          unused = back_at 1 i.unused.0 30 step_told _ refl w.unused;
        },
      )

handed_read : (h : Result Handed ℕ) (before after : List ℕ) (fault : ℕ) (values : List ℕ) → handed_number h ≡ answered fault values → HandedWhole h
    → CardTold step_widths (stepped_number h) before after 0 → HandedRead after h
unfolding handed_number told_number stepped_number
handed_read (Ok (handed.Item v)) before after fault values due whole said =
    subst (λ (t : List ℕ). HandedRead t (Ok (handed.Item v))) (sym (given step_widths _ before after said)) (item_read before v whole.0 whole.1)
handed_read (Ok (handed.End p)) before after fault values due whole said =
    subst (λ (t : List ℕ). HandedRead t (Ok (handed.End p))) (sym (given step_widths _ before after said)) (whole, end_read before p.0)
handed_read (Err n) before after fault values due whole said =
    not_given step_widths before after n fault values due (subst (λ (a : Answer). CardTold step_widths a before after 0) due said)

-- where there is room for it
as_told : (walker told told_afterwards : List ℕ) (a : Answer) → step_room walker told ≡ false → 0 ≡ refusal_in a → told_afterwards ≡ told_of step_widths a told
    → CardTold step_widths a told told_afterwards 0
unfolding step_room
as_told walker told told_afterwards a room number tells =
    let fits = fits_room step_widths told a (ltb-false _ _ (or_right (not (eqb (length walker) walker_bytes)) (too_short step_widths told) room)) in
    record { number = number ∙ ap refusal_in (sym fits); told = tells ∙ ap (λ (b : Answer). told_of step_widths b told) (sym fits) }

-- where a step gives 0, what is told reads back as what it hands out
pub step_whole : StepWhole
unfolding walk_step_call walk_call refusal_in
step_whole packet names walker walker-after told told_afterwards bytes long said =
    let w : Walker = walker_from walker in
    let h : Result Handed ℕ = (stepped packet names walker).handed in
    let whole = by_walker (λ (x : Walked). HandedWhole x.handed) packet names w
    (handed_whole packet (names_of names) w.ends bytes long (min w.depth deepest) w.at (omega arith)) (λ n. tt) in
    either (step_room walker told)
    (λ short. let one : ◌≡◌ {A = ℕ} 0 1 = rw short at said.number in absurd (omega arith))
    (λ room. handed_read h told told_afterwards _ _ (walk_number packet names w) whole
    (as_told walker told told_afterwards (stepped_number h) room (rw room at said.number) (rw room at said.tells)))
