-- Where an item starts, the bytes from there on, and its unused bits. Assumes nothing.
use Prim.Native.Nat.{ℕ, ◌+◌, ◌*◌, ◌≤◌, ◌<◌}
use mathlib.Core.List.{List, ◌++◌}
use mathlib.Core.Path.{◌≡◌, sym, ap, subst, ◌∙◌}
use native.Mathlib.Omega.{arith}
use lib.ListN.{length, take, drop}
use lib.Seq.{take-add, drop-drop}
use Rattle.std.specs.Prelude.{Ok}
use Rattle.base_rules.specs.Bytes.{Bytes, number_at, bytes_of}
use Rattle.base_rules.specs.Round.{ceil}
use Rattle.base_rules.proofs.Numbers.{bytes_back}
use Rattle.item_rules.specs.declared.Item.{Item}
use Rattle.item_rules.specs.declared.Step.TheVariants as step
use Rattle.item_rules.specs.Item.{head, bytes_for, unused_of, item_at, step_in}
use Rattle.item_rules.specs.Run.{next_of}
use Rattle.item_rules.specs.Claims.{StartsIn, StartsAt, RawItem, Unused, UnusedIs}
use Rattle.item_rules.proofs.Steps.{item_fits, item_at_lem}

-- an item starts where it stands
pub item_starts : (s : List ℕ) (at end : ℕ) (i : Item) → step_in s at end ≡ Ok (step.Item i) → i.start ≡ at
unfolding item_at
item_starts s at end i e = ap (λ (j : Item). j.start) (item_at_lem s at end i e)

-- and is spelt by the bytes from there on
pub starts_at : StartsAt
starts_at s at end i h e =
    let here = item_starts s at end i e in (
      record {
        spelt = ap (item_at s) here ∙ sym (item_at_lem s at end i e);
        inside = omega (arith, here, item_fits s at end i e);
      },
      here,
    )

module _ (s : List ℕ) (i : Item) (w : StartsIn s i) where
  -- its value begins behind its head,
  pub starts_from : i.from ≡ i.start + head
  unfolding item_at
  starts_from = ap (λ (j : Item). j.from) (sym w.spelt)

  -- so it ends within s
  pub starts_inside : next_of i ≤ length s
  starts_inside = omega (arith, starts_from, w.inside)

-- a value's bits and those left unused fill its bytes, and the unused are fewer than 8
pub unused_fill : (bits : ℕ) → 8 * bytes_for bits ≡ bits + unused_of bits
unfolding unused_of bytes_for ceil
unused_fill bits = omega arith

pub unused_few : (bits : ℕ) → unused_of bits < 8
unfolding unused_of bytes_for ceil
unused_few bits = omega arith

pub unused_is : UnusedIs
unfolding item_at
unused_is s i w =
    subst Unused w.spelt (record { fill = unused_fill (number_at 4 s (i.start + 4)); few = unused_few (number_at 4 s (i.start + 4)) })

-- the bytes from an item's start on: those of its name, of its bits, and of its value
raw_at : (s : List ℕ) (at n : ℕ) → Bytes s → at + head ≤ length s
    → take (head + n) (drop at s) ≡ bytes_of 4 (number_at 4 s at) ++ (bytes_of 4 (number_at 4 s (at + 4)) ++ take n (drop (at + head) s))
raw_at s at n bytes fits =
    let more : head + n ≡ 4 + (4 + n) = omega arith in
    let second : at + 4 + 4 ≡ at + head = omega arith in
    ap (λ (k : ℕ). take k (drop at s)) more ∙ take-add 4 (4 + n) (drop at s)
    ∙ ap (λ (l : List ℕ). take 4 (drop at s) ++ take (4 + n) l) (drop-drop 4 at s)
    ∙ ap (λ (l : List ℕ). take 4 (drop at s) ++ l) (take-add 4 n (drop (at + 4) s))
    ∙ ap (λ (l : List ℕ). take 4 (drop at s) ++ (take 4 (drop (at + 4) s) ++ take n l)) (drop-drop 4 (at + 4) s)
    ∙ ap (λ (k : ℕ). take 4 (drop at s) ++ (take 4 (drop (at + 4) s) ++ take n (drop k s))) second
    ∙ ap (λ (l : List ℕ). l ++ (take 4 (drop (at + 4) s) ++ take n (drop (at + head) s))) (sym (bytes_back 4 s at bytes (omega arith)))
    ∙ ap (λ (l : List ℕ). bytes_of 4 (number_at 4 s at) ++ (l ++ take n (drop (at + head) s))) (sym (bytes_back 4 s (at + 4) bytes (omega arith)))

pub raw_item : RawItem
unfolding item_at
raw_item s i bytes w =
    let at : ℕ = i.start in
    raw_at s at i.len.0 bytes (omega (arith, w.inside))
    ∙ ap (λ (j : Item). bytes_of 4 j.name ++ (bytes_of 4 j.bits.0 ++ take i.len.0 (drop j.from s))) w.spelt
