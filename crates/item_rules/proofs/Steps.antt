-- What `step_in` is, by what the tests say.
use Prim.Native.Nat.{ℕ, ◌+◌, ◌-◌, ◌≤◌, ◌<◌}
use mathlib.Core.List.{List}
use mathlib.Core.Path.{◌≡◌, refl, sym, ap}
use native.Mathlib.Omega.{arith}
use mathlib.Core.Bool.{Bool, true, false, cond}
use lib.Dec.{ltb, leb}
use borrow.Author.Tests.{le-ltb, le-leb, lt-leb, leb-true, ltb-true}
use Rattle.item_rules.specs.declared.Bytes.{Bytes}
use Rattle.item_rules.specs.declared.Item.{Item}
use Rattle.item_rules.specs.declared.Step.{Step}
use Rattle.item_rules.specs.declared.Step.TheVariants as step
use Rattle.std.specs.Prelude.{Result, Ok, Err}
use Rattle.base_rules.specs.Bytes.{number_at}
use Rattle.base_rules.specs.declared.Refusal.{Refusal}
use Rattle.base_rules.specs.declared.Refusal.TheVariants as refusal
use Rattle.item_rules.specs.Item.{head, bytes_for, unused_of, item_at, step_in}

-- where 8 bytes or more are left, and as many as the item takes, it stands there
pub stands_item : (s : List ℕ) (at end : ℕ) → 8 ≤ end - at → 8 + bytes_for (number_at 4 s (at + 4)) ≤ end - at → step_in s at end ≡ Ok (step.Item (item_at s at))
unfolding step_in
stands_item s at end h f = simp (le-ltb _ _ h, le-leb _ _ f)

-- an item of these fields is what stands there
pub is_item : (s : List ℕ) (at end name bits len unused : ℕ) → 8 ≤ end - at → name ≡ number_at 4 s at → bits ≡ number_at 4 s (at + 4)
    → len ≡ bytes_for bits → unused ≡ unused_of bits → 8 + len ≤ end - at
    → ◌≡◌ {A = Result Step Refusal} (Ok (step.Item (record {
      name = name;
      bits = record { 0 = bits };
      from = at + head;
      len = record { 0 = len };
      start = at;
      unused = record { 0 = unused };
    }))) (step_in s at end)
unfolding item_at
is_item s at end name bits len unused h n b l u f = rw (n, l, u, b) (sym (stands_item s at end h (rw (l, b) at f)))

-- where 8 bytes or more are left, but fewer than the item takes, it is refused as 30 OVERRUN
pub is_overrun : (s : List ℕ) (at end bits len : ℕ) → 8 ≤ end - at → bits ≡ number_at 4 s (at + 4) → len ≡ bytes_for bits → end - at < 8 + len
    → Err refusal.Overrun ≡ step_in s at end
unfolding step_in
is_overrun s at end bits len h b l f = simp (le-ltb _ _ h, lt-leb _ _ (rw (l, b) at f))

-- 0 is not 1, by which the kinds of an answer are told apart
pub zero_one : ◌≡◌ {A = ℕ} 0 1 → ⊥
zero_one z = omega arith

-- an item that stands at a position is the one of its bytes, and ends within the packet
item_by : (b b' : Bool) (j i : Item) (p : Bytes) → cond b (Ok (step.End p)) (cond b' (Ok (step.Item j)) (Err refusal.Overrun)) ≡ Ok (step.Item i) → (b' ≡ true) × (i ≡ j)
item_by true b' j i p e = let z : ◌≡◌ {A = ℕ} 0 1 = cc in absurd (zero_one z)
item_by false true j i p e = (refl, cc)
item_by false false j i p e = let z : ◌≡◌ {A = ℕ} 0 1 = cc in absurd (zero_one z)

-- an item's head and value end within its packet
pub item_fits : (s : List ℕ) (at end : ℕ) (i : Item) → step_in s at end ≡ Ok (step.Item i) → 8 + i.len.0 ≤ end - at
unfolding step_in item_at
item_fits s at end i e =
    let h = item_by (ltb (end - at) 8) (leb (8 + bytes_for (number_at 4 s (at + 4))) (end - at)) (item_at s at) i (record { 0 = end - at }) e in
    rw h.1 (leb-true _ _ h.0)

-- an item that stands at a position is the one that the bytes there spell
pub item_at_lem : (s : List ℕ) (at end : ℕ) (i : Item) → step_in s at end ≡ Ok (step.Item i) → i ≡ item_at s at
unfolding step_in
item_at_lem s at end i e = (item_by (ltb (end - at) 8) (leb (8 + bytes_for (number_at 4 s (at + 4))) (end - at)) (item_at s at) i
    (record { 0 = end - at }) e).1

-- padding is less than an item's head
few_by : (b b' : Bool) (j : Item) (p q : Bytes) → cond b (Ok (step.End p)) (cond b' (Ok (step.Item j)) (Err refusal.Overrun)) ≡ Ok (step.End q) → (b ≡ true) × (q ≡ p)
few_by true b' j p q e = (refl, cc)
few_by false true j p q e = absurd (zero_one (cc))
few_by false false j p q e = absurd (zero_one (cc))

-- padding is what is left,
pub end_left : (s : List ℕ) (at end : ℕ) (p : Bytes) → step_in s at end ≡ Ok (step.End p) → p.0 ≡ end - at
unfolding step_in
end_left s at end p e =
    ap (λ (q : Bytes). q.0)
    (few_by (ltb (end - at) 8) (leb (8 + bytes_for (number_at 4 s (at + 4))) (end - at)) (item_at s at) (record { 0 = end - at }) p e).1

-- and has 7 bytes or fewer, less than an item's head
pub end_few : (s : List ℕ) (at end : ℕ) (p : Bytes) → step_in s at end ≡ Ok (step.End p) → p.0 < head
unfolding step_in
end_few s at end p e =
    let h = few_by (ltb (end - at) 8) (leb (8 + bytes_for (number_at 4 s (at + 4))) (end - at)) (item_at s at) (record { 0 = end - at }) p e in
    rw h.1 (ltb-true _ _ h.0)

-- nothing is left
pub step_none : (s : List ℕ) (at end : ℕ) → end - at ≤ 0 → step_in s at end ≡ Ok (step.End (record { 0 = 0 }))
unfolding step_in
step_none s at end h = let z : end - at ≡ 0 = omega arith in simp z

refused_by : (b b' : Bool) (j : Item) (p : Bytes) (n : Refusal) → cond b (Ok (step.End p)) (cond b' (Ok (step.Item j)) (Err refusal.Overrun)) ≡ Err n → n ≡ refusal.Overrun
refused_by true b' j p n e = absurd (zero_one (cc))
refused_by false true j p n e = absurd (zero_one (cc))
refused_by false false j p n e = cc

-- the one refusal of a step
pub refused_is : (s : List ℕ) (at end : ℕ) (n : Refusal) → step_in s at end ≡ Err n → n ≡ refusal.Overrun
unfolding step_in
refused_is s at end n e = refused_by (ltb (end - at) 8) (leb (8 + bytes_for (number_at 4 s (at + 4))) (end - at)) (item_at s at)
    (record { 0 = end - at }) n e
