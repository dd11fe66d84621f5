-- The claims of specs/Claims.antt on a walk. Assumes nothing.
use mathlib.Core.Path.{◌≡◌, refl, sym, ap, ◌∙◌, subst}
use mathlib.Core.Bool.{Bool, true, false, cond, ◌&&◌}
use mathlib.Core.List.{List, [], ◌∷◌}
use mathlib.Core.Logic.{◌⊎◌, inl, inr}
use Prim.Native.Nat.{ℕ, zero, suc, ◌+◌, ◌^◌, ◌<◌, ◌≤◌, min}
use native.Mathlib.Omega.{arith}
use lib.Dec.{ltb, lit<}
use lib.ListN.{length, get_or, set, replicate, length-set}
use Rattle.base_rules.specs.Refusal as refusals
use Rattle.base_rules.specs.Bytes.{bytes_of}
use Rattle.base_rules.specs.Tests.{among}
use Rattle.base_rules.proofs.Numbers.{back_at}
use Rattle.item_rules.specs.declared.Item.{Item}
use Rattle.item_rules.specs.Run.{next_of}
use Rattle.item_rules.proofs.Steps.{refused_is}
use Rattle.walk_rules.specs.declared.Walked.{Walked}
use Rattle.walk_rules.specs.declared.Walker.{Walker}
use Rattle.walk_rules.specs.Names.{deepest, names_of, names_fault}
use Rattle.walk_rules.specs.Step.{opens, goes_on, end_of, step_from}
use Rattle.walk_rules.proofs.ContainerNames.{fault_is}
use Rattle.walk_rules.proofs.StepCases.{list_stays, steps_on}
use Rattle.walk_rules.proofs.StepLaws.{by_steps, by_walker, item-within, end_within}
use Rattle.card_rules.specs.Told.{refusal_in, in_widths, told_length}
use Rattle.card_rules.specs.Items.{walker_widths, walker_bytes, walker_bytes_of, walker_from, stepped_number, step_widths, stepped, walk_step_call}
use Rattle.card_rules.specs.Claims.{TypedWalk, OpensTyped, StepsTyped, ReadBack, StepNumbers}
use Rattle.card_rules.proofs.ItemLaws.{five, walker_read, answers}

-- ---- reading back

module _ (at depth a b c d e : ℕ) where
  abbrev numbers : List ℕ
  numbers = at ∷ depth ∷ a ∷ b ∷ c ∷ d ∷ e ∷ []

  abbrev bytes : List ℕ
  bytes = in_widths walker_widths numbers

  seven_back : ((i : ℕ) → get_or numbers i 0 < 2 ^ 64)
      → record { refusal = 0; at = at; depth = depth; ends = a ∷ b ∷ c ∷ d ∷ e ∷ [] } ≡ walker_from bytes
  unfolding in_widths bytes_of
  seven_back small =
      walker_read bytes (sym (back_at 8 at 0 bytes _ refl (small 0))) (sym (back_at 8 depth 8 bytes _ refl (small 1)))
      (sym (back_at 8 a 16 bytes _ refl (small 2))) (sym (back_at 8 b 24 bytes _ refl (small 3))) (sym (back_at 8 c 32 bytes _ refl (small 4)))
      (sym (back_at 8 d 40 bytes _ refl (small 5))) (sym (back_at 8 e 48 bytes [] refl (small 6)))

-- a walk that is not refused, with five ends and numbers of 64 bits, reads back from its bytes
pub read_back : ReadBack
unfolding walker_bytes_of
read_back w h =
    let l : List ℕ = w.ends in
    let is : l ≡ get_or l 0 0 ∷ get_or l 1 0 ∷ get_or l 2 0 ∷ get_or l 3 0 ∷ get_or l 4 0 ∷ [] = five l h.five in
    let small : (i : ℕ) → get_or (w.at ∷ w.depth ∷ get_or l 0 0 ∷ get_or l 1 0 ∷ get_or l 2 0 ∷ get_or l 3 0 ∷ get_or l 4 0 ∷ []) i 0 < 2 ^ 64 =
    subst (λ (m : List ℕ). (i : ℕ) → get_or (w.at ∷ w.depth ∷ m) i 0 < 2 ^ 64) is h.small in
    ap (λ (m : List ℕ). walker_from (in_widths walker_widths (w.at ∷ w.depth ∷ m))) is
    ∙ sym (seven_back w.at w.depth (get_or l 0 0) (get_or l 1 0) (get_or l 2 0) (get_or l 3 0) (get_or l 4 0) small)
    ∙ ap (λ (m : List ℕ). record { refusal = 0; at = w.at; depth = w.depth; ends = m }) (sym is)
    ∙ ap (λ (n : ℕ). record { refusal = n; at = w.at; depth = w.depth; ends = w.ends }) (sym h.unrefused)

-- ---- what the code's types say of a walk

-- every number of a list has 64 bits
abbrev Below : List ℕ → Type 0
Below l = (i : ℕ) → get_or l i 0 < 2 ^ 64

below_more : (x : ℕ) (l : List ℕ) → x < 2 ^ 64 → Below l → Below (x ∷ l)
below_more x l small all zero = small
below_more x l small all (suc i) = all i

below_zeros : (n : ℕ) → Below (replicate n 0)
below_zeros zero i = lit< tt
below_zeros (suc n) i = below_more 0 (replicate n 0) (lit< tt) (below_zeros n) i

below_set : (l : List ℕ) (j x : ℕ) → x < 2 ^ 64 → Below l → Below (set l j x)
below_set [] j x small all = all
below_set (y ∷ l) zero x small all = below_more x l small (λ i. all (suc i))
below_set (y ∷ l) (suc j) x small all = below_more y (set l j x) (all 0) (below_set l j x small (λ i. all (suc i)))

typed : (at depth : ℕ) (ends : List ℕ) → at < 2 ^ 64 → depth < 2 ^ 64 → length ends ≡ 5 → Below ends
    → TypedWalk (record { refusal = 0; at = at; depth = depth; ends = ends })
typed at depth ends a d long all = record { unrefused = refl; five = long; small = below_more at (depth ∷ ends) a (below_more depth ends d all) }

-- a walk that opens without refusal on a packet under 2^64 bytes has five ends and numbers of 64 bits
pub opens_typed : OpensTyped
unfolding opens
opens_typed word packet names long none =
    let l : ℕ = length packet in
    record {
      unrefused = none;
      five = refl;
      small =
          below_more 0 (0 ∷ l ∷ replicate 4 0) (lit< tt)
          (below_more 0 (l ∷ replicate 4 0) (lit< tt) (below_more l (replicate 4 0) long (below_zeros 4)));
    }

one_of : {v w : Walker} (b : Bool) → TypedWalk v → TypedWalk w → TypedWalk (cond b v w)
one_of true p q = p
one_of false p q = q

module _ (s cs ends : List ℕ) (long : length s < 2 ^ 64) (sized : length ends ≡ 5) (all : Below ends) where
  -- where a step may stand
  abbrev Here : ℕ → ℕ → Type 0
  Here at d = (at < 2 ^ 64) × (d ≤ deepest)

  goes_typed : (d : ℕ) (i : Item) → d ≤ deepest → next_of i ≤ length s → TypedWalk (goes_on cs d ends i)
  unfolding goes_on
  goes_typed d i shallow inside =
      one_of (ltb d deepest && among i.name cs)
      (typed i.from (d + 1) (set ends (d + 1) (next_of i)) (omega arith) (omega arith)
      (length-set ends (d + 1) (next_of i) ∙ sized) (below_set ends (d + 1) (next_of i) (omega arith) all))
      (typed (next_of i) d ends (omega arith) (omega arith) sized all)

  next_typed : (d at : ℕ) → Here at d → TypedWalk (step_from s cs at d ends).next
  next_typed =
      by_steps s cs ends (λ (x : Walked). TypedWalk x.next) Here
      (λ at d i here e. goes_typed d i here.1 (item-within s ends at d i e))
      (λ at p here e. typed at 0 ends here.0 (lit< tt) sized all)
      (λ at d n here e. typed at d ends here.0 (omega (arith, here.1)) sized all)
      (λ at d here. (omega (arith, end_within s ends (suc d)), omega (arith, here.1)))

-- a step from such a walk leaves such a walk: not refused, five ends, numbers of 64 bits
pub steps_typed : StepsTyped
steps_typed packet names w long h =
    by_walker (λ (x : Walked). TypedWalk x.next) packet names w
    (next_typed packet (names_of names) w.ends long h.five (λ i. h.small (suc (suc i))) (min w.depth deepest) w.at
    (h.small 0, omega arith))
    (λ n. h)

-- ---- the numbers of a step

abbrev number : Walked → ℕ
number x = refusal_in (stepped_number x.handed)

abbrev Numbered : Walked → Type 0
Numbered x = (number x ≡ 0) ⊎ (number x ≡ 30)

numbered : (s cs ends : List ℕ) (d at : ℕ) → Numbered (step_from s cs at d ends)
unfolding refusal_in stepped_number refusals.number
numbered s cs ends d at =
    by_steps s cs ends Numbered (λ (a b : ℕ). Unit {0}) (λ a b i q e. inl refl) (λ a p q e. inl refl)
    (λ a b n q e. inr (ap refusals.number (refused_is s a (end_of s ends b) n e))) (λ a b q. tt) d at tt

module _ (packet names walker told : List ℕ) (long : length walker ≡ walker_bytes) (fits : told_length step_widths ≤ length told) where
  -- the number of the call is that of the step, and the walk in the bytes is not refused
  called : (x : Walked) → stepped packet names walker ≡ x → number x ≡ refusal_in (walk_step_call packet names walker told)
  called x e = ap refusal_in (answers packet names walker told x long fits (sym e))

  unrefused : (walker_from walker).refusal ≡ 0
  unfolding walker_from
  unrefused = refl

  names_number : (names_fault names ≡ 0 → ⊥) → refusal_in (walk_step_call packet names walker told) ≡ names_fault names
  unfolding refusal_in stepped_number
  names_number h = sym (called _ (list_stays packet names (walker_from walker) unrefused h))

  items_number : names_fault names ≡ 0
      → (refusal_in (walk_step_call packet names walker told) ≡ 0) ⊎ (refusal_in (walk_step_call packet names walker told) ≡ 30)
  items_number z =
      let w : Walker = walker_from walker in
      subst (λ (n : ℕ). (n ≡ 0) ⊎ (n ≡ 30)) (called _ (steps_on packet names w unrefused z))
      (numbered packet (names_of names) w.ends (min w.depth deepest) w.at)

-- whatever the 56 bytes of a walk are, a step gives 43 with a list of names that opening refuses, and 0 or 30 with any other
pub step_numbers : StepNumbers
step_numbers packet names walker told long fits =
    record {
      by_names = λ h. names_number packet names walker told long fits h ∙ fault_is names h;
      by_items = items_number packet names walker told long fits;
    }
