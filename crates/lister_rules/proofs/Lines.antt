-- How many letters the lines of a listing have at most. Assumes nothing.
use Prim.Native.Nat.{ℕ, zero, suc, ◌*◌, ◌/◌, ◌%◌, ◌≤◌, ◌<◌}
use mathlib.Core.List.{List, [], ◌∷◌, ◌++◌}
use mathlib.Core.Path.{◌≡◌, refl, ap, ◌∙◌}
use mathlib.Core.Bool.{Bool, true, false, cond}
use native.Mathlib.Nat.{div-lt_iff_lt-mul}
use native.Mathlib.Omega.{arith}
use borrow.Author.Tests.{ltb-false}
use lib.Dec.{ltb}
use lib.ListN.{length, length-append}
use Rattle.base_rules.specs.Bytes.{bytes_of}
use Rattle.base_rules.proofs.Numbers.{length-bytes}
use Rattle.text_rules.specs.Text.{letter_of, digits_of, decimal_of, hex_of}
use Rattle.item_rules.specs.declared.Item.{Item}
use Rattle.lister_rules.specs.Listing.{head_line, item_line, refused_line}

-- the first number that has more than n digits
ten : ℕ → ℕ
ten zero = 1
ten (suc n) = ten n * 10

-- one digit more than a tenth of the number has
module _ (m x : ℕ) (fewer : (n : ℕ) → x / 10 < ten (suc n) → length (digits_of m (x / 10)) ≤ suc n) where
  digit_more : (b : Bool) → ltb x 10 ≡ b → (n : ℕ) → x < ten (suc n)
      → length (cond b (letter_of x ∷ []) (digits_of m (x / 10) ++ (letter_of (x % 10) ∷ []))) ≤ suc n
  unfolding ten
  digit_more true e n h = omega arith
  digit_more false e zero h = absurd (omega (arith, ltb-false x 10 e))
  digit_more false e (suc n) h =
      let tenth : x / 10 < ten (suc n) = (div-lt_iff_lt-mul {k = 10} (omega arith)).1 h in
      omega (arith, length-append (digits_of m (x / 10)) (letter_of (x % 10) ∷ []), fewer n tenth)

digits_few : (m n x : ℕ) → x < ten (suc n) → length (digits_of m x) ≤ suc n
unfolding digits_of
digits_few zero n x h = omega arith
digits_few (suc m) n x h = digit_more m x (λ k l. digits_few m k (x / 10) l) (ltb x 10) refl n h

-- a number below ten to the power n + 1 has at most n + 1 digits
decimal_few : (n x : ℕ) → x < ten (suc n) → length (decimal_of x) ≤ suc n
unfolding decimal_of
decimal_few n x h = digits_few (suc x) n x h

hex_twice : (s : List ℕ) → length (hex_of s) ≡ 2 * length s
unfolding hex_of
hex_twice [] = refl
hex_twice (b ∷ s) = omega (arith, hex_twice s)

-- the line on an item at depth 9 or less, whose bits have five digits at most
pub item_line_few : (d : ℕ) (i : Item) → d < 10 → i.bits.0 < 100000 → length (item_line d i) ≤ 17
unfolding item_line ten
item_line_few d i shallow short =
    let name : length (hex_of (bytes_of 4 i.name)) ≡ 8 = hex_twice (bytes_of 4 i.name) ∙ ap (λ (n : ℕ). 2 * n) (length-bytes 4 i.name) in
    simp length-append (omega (arith, decimal_few 0 d shallow, name, decimal_few 4 i.bits.0 short))

-- the line on a packet whose SEQ is of two bytes, its minor revision of four bits, and its LEN below 10,000
pub head_line_few : (seq minor len : ℕ) → seq < 65536 → minor < 16 → len < 10000 → length (head_line seq minor len) ≤ 19
unfolding head_line ten
head_line_few seq minor len s m l =
    simp length-append (omega (arith, decimal_few 4 seq (omega arith), decimal_few 1 minor (omega arith), decimal_few 3 len l))

-- the line on a padding of at most 9 bytes
pub pad-few : (p : ℕ) → p < 10 → length (decimal_of p) ≤ 1
unfolding ten
pad-few p h = decimal_few 0 p h

-- the line of a refusal with a number of two digits at most
pub refused_line_few : (n : ℕ) → n < 100 → length (refused_line n) ≤ 11
unfolding refused_line ten
refused_line_few n h = simp length-append (omega (arith, decimal_few 1 n h))
