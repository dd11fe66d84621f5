-- What the parts of an item leave in the buffer. Assumes nothing.
use mathlib.Core.Path.{◌≡◌, sym, ap, ap₂, ◌∙◌}
use mathlib.Core.List.{List, [], ◌∷◌, ◌++◌}
use Prim.Native.Nat.{ℕ, ◌+◌, ◌-◌, ◌%◌, ◌^◌, ◌≤◌, ◌<◌}
use native.Mathlib.Nat.{zero-add, suc-add}
use native.Mathlib.Omega.{arith}
use lib.ListN.{length, get_or, take, drop, set, length-set, length-append, get_or-append}
use lib.Seq.{length-take-le, get_or-append-add, set-append_left, set_out}
use Rattle.base_rules.specs.Answer.{outcome}
use Rattle.base_rules.specs.Bytes.{splice, bytes_of}
use Rattle.base_rules.specs.Written.{number_of, put_of}
use Rattle.std.specs.Prelude.{Result}
use Rattle.base_rules.specs.declared.Refusal.{Refusal}
use Rattle.base_rules.proofs.Answers.{put_is}
use Rattle.base_rules.proofs.Numbers.{length-bytes}
use Rattle.base_rules.proofs.Splice.{splice_next, splice-length}
use Rattle.item_rules.specs.Item.{head, unused_of}
use Rattle.write_rules.specs.Write.{trimmed_by, trimmed, item_bytes}

-- the head's two numbers, one behind the other
pub head_put : (d n b x y : List ℕ) (name bits : ℕ) (r t : Result (Unit {0}) Refusal) → head ≤ length d → n ≡ bytes_of 4 name → b ≡ bytes_of 4 bits
    → outcome (number_of r) x ≡ put_of d 0 n → outcome (number_of t) y ≡ put_of x 4 b → y ≡ splice d 0 (bytes_of 4 name ++ bytes_of 4 bits)
head_put d n b x y name bits r t h en eb p q =
    let ln : length n ≡ 4 = ap length en ∙ length-bytes 4 name in
    let lb : length b ≡ 4 = ap length eb ∙ length-bytes 4 bits in
    let fits : 0 + length n ≤ length d = omega arith in
    let ex : x ≡ splice d 0 n = put_is d n x 0 (number_of r) fits p in
    let ey : y ≡ splice x 4 b = put_is x b y 4 (number_of t) (omega (arith, ap length ex, splice-length d 0 n fits)) q in
    ey ∙ ap (λ (l : List ℕ). splice l 4 b) ex ∙ splice_next d n b 4 ln ∙ ap₂ (λ (k l : List ℕ). splice d 0 (k ++ l)) en eb

set-append-add : (xs ys : List ℕ) (n a : ℕ) → set (xs ++ ys) (length xs + n) a ≡ xs ++ set ys n a
set-append-add [] ys n a = ap (λ (k : ℕ). set ys k a) (zero-add n)
set-append-add (x ∷ xs) ys n a =
    ap (λ (k : ℕ). set (x ∷ (xs ++ ys)) k a) (suc-add (length xs) n) ∙ ap (λ (l : List ℕ). x ∷ l) (set-append-add xs ys n a)

-- a byte of what was spliced in, and another stored in its place
module _ (d : List ℕ) (at : ℕ) (s : List ℕ) (fits : at + length s ≤ length d) (i : ℕ) (h : i < length s) where
  front : length (take at d) ≡ at
  front = length-take-le at d (omega arith)

  spliced_at : get_or (splice d at s) (at + i) 0 ≡ get_or s i 0
  unfolding splice
  spliced_at =
      let rest : List ℕ = drop (at + length s) d in
      ap (λ (k : ℕ). get_or (take at d ++ (s ++ rest)) (k + i) 0) (sym front)
      ∙ get_or-append-add (take at d) (s ++ rest) i 0
      ∙ get_or-append s rest 0 i h

  spliced_set : (a : ℕ) → set (splice d at s) (at + i) a ≡ splice d at (set s i a)
  unfolding splice
  spliced_set a =
      let rest : List ℕ = drop (at + length s) d in
      ap (λ (k : ℕ). set (take at d ++ (s ++ rest)) (k + i) a) (sym front)
      ∙ set-append-add (take at d) (s ++ rest) i a
      ∙ ap (λ (l : List ℕ). take at d ++ l) (set-append_left s rest i a h)
      ∙ ap (λ (k : ℕ). take at d ++ (set s i a ++ drop (at + k) d)) (sym (length-set s i a))

-- the value with its last byte trimmed,
pub value_put : (d v y : List ℕ) (p : ℕ) (r : Result (Unit {0}) Refusal) → head + length v ≤ length d → 0 < length v → outcome (number_of r) y ≡ put_of d head v
    → set y (head + length v - 1) (get_or y (head + length v - 1) 0 - get_or y (head + length v - 1) 0 % p) ≡ splice d head (trimmed_by p v)
unfolding trimmed_by
value_put d v y p r fits some e =
    let i : ℕ = length v - 1 in
    let last : head + length v - 1 ≡ head + i = omega arith in
    let is : y ≡ splice d head v = put_is d v y head (number_of r) fits e in
    let byte : get_or y (head + length v - 1) 0 ≡ get_or v i 0 =
    ap₂ (λ (l : List ℕ) (k : ℕ). get_or l k 0) is last ∙ spliced_at d head v fits i (omega arith) in
    ap (λ (b : ℕ). set y (head + length v - 1) (b - b % p)) byte
    ∙ ap₂ (λ (l : List ℕ) (k : ℕ). set l k (get_or v i 0 - get_or v i 0 % p)) is last
    ∙ spliced_set d head v fits i (omega arith) (get_or v i 0 - get_or v i 0 % p)

-- and one of no bytes
pub nothing_put : (d v y : List ℕ) (p : ℕ) (r : Result (Unit {0}) Refusal) → head + length v ≤ length d → length v ≤ 0 → outcome (number_of r) y ≡ put_of d head v
    → y ≡ splice d head (trimmed_by p v)
unfolding trimmed_by
nothing_put d v y p r fits none e =
    put_is d v y head (number_of r) fits e ∙ ap (splice d head) (sym (set_out v (length v - 1) _ (omega arith)))

-- the head and the value behind it are the item
pub item_put : (d v x y : List ℕ) (name bits p u : ℕ) → x ≡ splice d 0 (bytes_of 4 name ++ bytes_of 4 bits) → y ≡ splice x head (trimmed_by p v)
    → p ≡ 2 ^ u → u ≡ unused_of bits → y ≡ splice d 0 (item_bytes name bits v)
unfolding item_bytes trimmed
item_put d v x y name bits p u ex ey ep eu =
    let long : length (bytes_of 4 name ++ bytes_of 4 bits) ≡ head =
    length-append (bytes_of 4 name) (bytes_of 4 bits) ∙ ap₂ (λ (a b : ℕ). a + b) (length-bytes 4 name) (length-bytes 4 bits) in
    ey ∙ ap (λ (l : List ℕ). splice l head (trimmed_by p v)) ex
    ∙ splice_next d (bytes_of 4 name ++ bytes_of 4 bits) (trimmed_by p v) head long
    ∙ ap (λ (k : ℕ). splice d 0 ((bytes_of 4 name ++ bytes_of 4 bits) ++ trimmed_by k v)) (ep ∙ ap (λ (k : ℕ). 2 ^ k) eu)
