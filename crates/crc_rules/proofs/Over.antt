-- The register over a list: its width, in two parts, as a sum, and what one step of each loop does. Assumes nothing.
use mathlib.Core.Path.{◌≡◌, refl, sym, ap, ap₂, ◌∙◌}
use mathlib.Core.List.{List, [], ◌∷◌, ◌++◌}
use Prim.Native.Nat.{ℕ, suc, ◌+◌, ◌-◌, ◌*◌, ◌/◌, ◌%◌, ◌<◌, ◌≤◌}
use native.Mathlib.Nat.{add-zero, div-add-mod'}
use native.Mathlib.Numerals.{add-one}
use native.Mathlib.Omega.{arith}
use lib.Bits.{bit_xor, xor_zero_r, xor_lt, xor_block, xor_shifted}
use lib.Dec.{eqb, eqb→eq, lit<}
use lib.ListN.{length, get_or, take, drop, length-drop, take-append-drop, drop_of_length-le}
use lib.Seq.{drop-cons, drop-drop}
use Rattle.base_rules.specs.Bytes.{Bytes}
use Rattle.base_rules.proofs.ByteLaws.{bytes_at_lem, bytes_drop}
use Rattle.base_rules.proofs.Every.{at}
use Rattle.base_rules.proofs.Xor.{xor_assoc, xor_swap, xor_scaled}
use Rattle.crc_rules.specs.Crc.{feed, register_of, word_of}
use Rattle.crc_rules.specs.inner.Shifts.{shift, shift8, feed_at_once}
use Rattle.crc_rules.specs.inner.Halves.{rounds}
use Rattle.crc_rules.proofs.Linear.{shift8_linear}
use Rattle.crc_rules.proofs.AtOnce.{at_once}

-- one list after another
pub register_append : (s t : List ℕ) (r : ℕ) → register_of r (s ++ t) ≡ register_of (register_of r s) t
unfolding register_of
register_append [] t r = refl
register_append (b ∷ s) t r = register_append s t (feed r b)

-- the register keeps its width,
pub feed_lt : (r b : ℕ) → r < 65536 → b < 256 → feed r b < 65536
unfolding feed_at_once
feed_lt r b hr hb = rw (at_once r b hr hb) (shift8_linear.stays (bit_xor r (b * 256)) (xor_lt 16 r (b * 256) hr (omega arith)))

-- over any bytes,
pub register_lt : (s : List ℕ) (r : ℕ) → Bytes s → r < 65536 → register_of r s < 65536
unfolding register_of
register_lt [] r h hr = hr
register_lt (b ∷ s) r h hr = register_lt s (feed r b) h.1 (feed_lt r b hr h.0)

-- and so does the CRC
pub word_lt : (s : List ℕ) → word_of s < 65536
unfolding word_of
word_lt s = omega arith

-- eight shifts of a byte only move it up: computed for each byte
pub shift8_byte : (b : ℕ) → b < 256 → shift8 b ≡ b * 256
unfolding shift8 shift
shift8_byte b h = eqb→eq (shift8 b) (b * 256) (at 256 (λ x. eqb (shift8 x) (x * 256)) tt b h)

-- sums of registers and of bytes are kept
pub feed-sum : (r q a b : ℕ) → r < 65536 → q < 65536 → a < 256 → b < 256
    → feed (bit_xor r q) (bit_xor a b) ≡ bit_xor (feed r a) (feed q b)
unfolding feed_at_once
feed-sum r q a b hr hq ha hb =
    at_once (bit_xor r q) (bit_xor a b) (xor_lt 16 r q hr hq) (xor_lt 8 a b ha hb)
    ∙ ap (λ z. shift8 (bit_xor (bit_xor r q) z)) (xor_scaled 8 a b) ∙ ap shift8 (xor_swap r q (a * 256) (b * 256))
    ∙ shift8_linear.sum (bit_xor r (a * 256)) (bit_xor q (b * 256)) (xor_lt 16 r (a * 256) hr (omega arith))
    (xor_lt 16 q (b * 256) hq (omega arith))
    ∙ sym (ap₂ bit_xor (at_once r a hr ha) (at_once q b hq hb))

-- a byte of zeros only shifts
feed-zero : (r : ℕ) → r < 65536 → feed r 0 ≡ shift8 r
unfolding feed_at_once
feed-zero r h = at_once r 0 h (lit< tt) ∙ ap shift8 (xor_zero_r r)

-- what is added to the register is added to the end, shifted
pub register_sum : (s : List ℕ) (x y : ℕ) → Bytes s → x < 65536 → y < 65536
    → register_of (bit_xor x y) s ≡ bit_xor (rounds (length s) x) (register_of y s)
unfolding register_of rounds
register_sum [] x y h hx hy = refl
register_sum (b ∷ s) x y h hx hy =
    ap (λ z. register_of z s) (feed-sum x y 0 b hx hy (lit< tt) h.0 ∙ ap (λ z. bit_xor z (feed y b)) (feed-zero x hx))
    ∙ register_sum s (shift8 x) (feed y b) h.1 (shift8_linear.stays x hx) (feed_lt y b hy h.0)

-- the high byte of the register meets the next byte, and the low byte moves up
feed_parts : (r b : ℕ) → r < 65536 → b < 256 → feed r b ≡ bit_xor (shift8 (bit_xor (r / 256) b * 256)) (r % 256 * 256)
unfolding feed_at_once
feed_parts r b hr hb =
    let x : ℕ = bit_xor (r / 256) b in
    let hx : x < 256 = xor_lt 8 (r / 256) b (omega arith) hb in
    let hl : r % 256 < 256 = omega arith in
    let e : bit_xor r (b * 256) ≡ bit_xor (x * 256) (r % 256) =
    ap₂ bit_xor (sym (div-add-mod' r 256)) (sym (add-zero (b * 256))) ∙ xor_block 8 (r / 256) b (r % 256) 0 hl (lit< tt)
    ∙ ap (λ z. x * 256 + z) (xor_zero_r (r % 256)) ∙ sym (xor_shifted x 8 (r % 256) hl) in
    at_once r b hr hb ∙ ap shift8 e ∙ shift8_linear.sum (x * 256) (r % 256) (omega arith) (omega arith)
    ∙ ap (bit_xor (shift8 (x * 256))) (shift8_byte (r % 256) hl)

-- the rest of a list from i on is the element at i and the rest after it
next : (s : List ℕ) (i : ℕ) → i < length s → drop i s ≡ get_or s i 0 ∷ drop (i + 1) s
next s i h = rw (add-one, drop-cons s i 0)

-- one byte more of a list
pub one_more : (s : List ℕ) (i r : ℕ) → i < length s
    → register_of (feed r (get_or s i 0)) (drop (i + 1) s) ≡ register_of r (drop i s)
unfolding register_of
one_more s i r h = sym (ap (register_of r) (next s i h))

-- a part of a list more, from a up to e
pub part_more : (s : List ℕ) (a e r : ℕ) → a ≤ e
    → register_of (register_of r (take (e - a) (drop a s))) (drop e s) ≡ register_of r (drop a s)
part_more s a e r h =
    let n : a + (e - a) ≡ e = omega arith in
    ap (register_of (register_of r (take (e - a) (drop a s)))) (ap (λ k. drop k s) (sym n) ∙ sym (drop-drop (e - a) a s))
    ∙ sym (register_append (take (e - a) (drop a s)) (drop (e - a) (drop a s)) r)
    ∙ ap (register_of r) (take-append-drop (e - a) (drop a s))

-- nothing is left
pub no_more : (s : List ℕ) (i r : ℕ) → length s ≤ i → register_of r (drop i s) ≡ r
unfolding register_of
no_more s i r h = ap (register_of r) (drop_of_length-le s h)

-- one byte more of eight: `sum` is what the bytes before it add to the register at the end, and q what this one adds
pub eight_more : (start sum r b x q : ℕ) (p : List ℕ) → Bytes p → length p ≡ 8 → b < 8 → r < 65536
    → x ≡ r / 256 → q ≡ rounds (8 - b) (bit_xor x (get_or p b 0) * 256) → bit_xor sum (register_of r (drop b p)) ≡ register_of start p
    → bit_xor (bit_xor sum q) (register_of (r % 256 * 256) (drop (b + 1) p)) ≡ register_of start p
unfolding rounds register_of
eight_more start sum r b x q p h n l hr ex eq e =
    let y : ℕ = get_or p b 0 in
    let s : List ℕ = drop (b + 1) p in
    let hy : y < 256 = bytes_at_lem p h b in
    let m : ℕ = bit_xor (r / 256) y * 256 in
    let hm : m < 65536 = omega (arith, xor_lt 8 (r / 256) y (omega arith) hy) in
    let k : suc (length s) ≡ 8 - b = omega (arith, length-drop (b + 1) p) in
    let eq' : rounds (suc (length s)) m ≡ q =
    ap (λ i. rounds i m) k ∙ ap (λ z. rounds (8 - b) (bit_xor z y * 256)) (sym ex) ∙ sym eq in
    let d : register_of r (drop b p) ≡ bit_xor q (register_of (r % 256 * 256) s) =
    ap (register_of r) (next p b (omega arith))
    ∙ ap (λ z. register_of z s) (feed_parts r y hr hy)
    ∙ register_sum s (shift8 m) (r % 256 * 256) (bytes_drop (b + 1) p h) (shift8_linear.stays m hm) (omega arith)
    ∙ ap (λ z. bit_xor z (register_of (r % 256 * 256) s)) eq' in
    xor_assoc sum q (register_of (r % 256 * 256) s) ∙ ap (bit_xor sum) (sym d) ∙ e
