-- What a search answers starts in the packet that it names. Assumes nothing.
use Prim.Native.Nat.{ℕ}
use mathlib.Core.List.{List}
use mathlib.Core.Path.{◌≡◌, refl, sym, ap, subst, ◌∙◌}
use mathlib.Core.Bool.{Bool, true, false, cond}
use Rattle.base_rules.proofs.Logic.{bit_one}
use Rattle.std.specs.Prelude.{Result, Ok, Err}
use Rattle.base_rules.specs.Answer.{granted, refused}
use Rattle.base_rules.specs.Refusal.{number, told}
use Rattle.base_rules.specs.declared.Refusal.{Refusal}
use Rattle.item_rules.specs.declared.Item.{Item}
use Rattle.item_rules.specs.Claims.{StartsIn}
use Rattle.item_rules.proofs.Proved.{one_item}
use Rattle.item_rules.proofs.Steps.{zero_one}
use Rattle.tag_rules.specs.declared.Hit.{Hit}
use Rattle.tag_rules.specs.declared.Located.{Located}
use Rattle.tag_rules.specs.declared.Located.TheVariants as located
use Rattle.tag_rules.specs.Find.{locate_of, locate_nth_of}
use Rattle.tag_rules.specs.Calls.{sought_number, values_at, located_number, ToldAlike}
use Rattle.tag_rules.specs.Claims.{SoughtStarts, SoughtNthStarts}
use Rattle.tag_rules.proofs.Inside.{found_in, nth_in}
use Rattle.tag_rules.proofs.Numbers.{locate_number, nth_number}

-- a search that tells what a place tells has the number and values of that
pub alike_told : (l : Result Located Refusal) (h : Result Hit Refusal) → ToldAlike l h → sought_number h ≡ located_number l
unfolding sought_number located_number told
alike_told (Ok l) (Ok h) e = ap granted e
alike_told (Err a) (Err b) e = ap (λ (x : Refusal). refused (number x)) e
alike_told (Ok l) (Err b) e = absurd e
alike_told (Err a) (Ok h) e = absurd e

module _ (h : Hit) where
  -- what was found is where a name is, in the packet or in the standing packet
  pub data Is : Result Located Refusal → Type 0 where
    in_packet_lem : {i : Item} → h.standing ≡ false → h.item ≡ i → Is (Ok (located.Packet i))
    in_standing_lem : {i : Item} → h.standing ≡ true → h.item ≡ i → Is (Ok (located.Standing i))

  is_by : (l : Result Located Refusal) → sought_number (Ok h) ≡ located_number l → Is l
  unfolding sought_number located_number told values_at
  is_by (Ok (located.Packet i)) e = in_packet_lem (bit_one h.standing false (cc)) (one_item h.item i (cc))
  is_by (Ok (located.Standing i)) e = in_standing_lem (bit_one h.standing true (cc)) (one_item h.item i (cc))
  is_by (Err n) e = absurd (zero_one (cc))

  -- so it starts there
  starts_by : (s t : List ℕ) (l : Result Located Refusal) → Is l → ((i : Item) → l ≡ Ok (located.Packet i) → StartsIn s i)
      → ((i : Item) → l ≡ Ok (located.Standing i) → StartsIn t i) → StartsIn (cond h.standing t s) h.item
  starts_by s t (Ok (located.Packet i)) (in_packet_lem which same) p q =
      subst (λ (b : Bool). StartsIn (cond b t s) h.item) (sym which) (subst (StartsIn s) (sym same) (p i refl))
  starts_by s t (Ok (located.Standing i)) (in_standing_lem which same) p q =
      subst (λ (b : Bool). StartsIn (cond b t s) h.item) (sym which) (subst (StartsIn t) (sym same) (q i refl))
  starts_by s t (Err _) none p q = elim none [ ]

  -- an occurrence is never one of a standing packet
  nth_by : (s : List ℕ) (l : Result Located Refusal) → Is l → ((i : Item) → l ≡ Ok (located.Packet i) → StartsIn s i) → ((i : Item) → l ≡ Ok (located.Standing i) → ⊥)
      → (h.standing ≡ false) × StartsIn s h.item
  nth_by s (Ok (located.Packet i)) (in_packet_lem which same) p q = (which, subst (StartsIn s) (sym same) (p i refl))
  nth_by s (Ok (located.Standing i)) (in_standing_lem which same) p q = absurd (q i refl)
  nth_by s (Err _) none p q = elim none [ ]

pub sought_starts : SoughtStarts
sought_starts w s t name h e =
    starts_by h s t (locate_of w s t name) (is_by h (locate_of w s t name) (e ∙ sym (locate_number w s t name)))
    (λ i q. ((found_in w s t name i).0 q).starts) (λ i q. ((found_in w s t name i).1 q).starts)

pub sought_nth_starts : SoughtNthStarts
sought_nth_starts w s name number h e =
    nth_by h s (locate_nth_of w s name number) (is_by h (locate_nth_of w s name number) (e ∙ sym (nth_number w s name number)))
    (λ i q. ((nth_in w s name number i).0 q).starts) (λ i. (nth_in w s name number i).1)
