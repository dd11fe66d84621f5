-- Wrapping: what is written piece by piece, and which answer is which case. Assumes nothing.
use mathlib.Core.Path.{◌≡◌, refl, ap, ◌∙◌}
use mathlib.Core.Bool.{Bool}
use mathlib.Core.List.{List, [], ◌∷◌, ◌++◌}
use Prim.Native.Nat.{ℕ, ◌+◌, ◌≤◌, ◌<◌}
use native.Mathlib.Nat.{mod-eq_of_lt}
use native.Mathlib.Omega.{arith}
use borrow.Author.Tests.{lt-ltb, le-ltb}
use lib.Dec.{lit<}
use lib.ListN.{length, get_or, take, length-append}
use Rattle.base_rules.specs.Answer.{Answer, granted, refused, outcome}
use Rattle.base_rules.specs.Bounds.{least_l}
use Rattle.base_rules.specs.Bytes.{splice, bytes_of}
use Rattle.base_rules.specs.Written.{put_of}
use Rattle.base_rules.proofs.Answers.{writes, leaves, put_is}
use Rattle.base_rules.proofs.Firsts.{due, skip, none_due}
use Rattle.base_rules.proofs.Logic.{either}
use Rattle.base_rules.proofs.Splice.{splice-length, splice_next, splice_start}
use Rattle.af_rules.specs.Packet.{sync, packet_type, header_bytes, crc_bytes, most_payload, ar_with, header_of, crc_for, closed, packet_of}
use Rattle.af_rules.specs.Calls.{wrap_fault, wrap_call}

-- AR is a byte
pub ar_lt : (cf : Bool) → ar_with cf < 256
unfolding ar_with
ar_lt cf = either cf (λ e. rw e (lit< tt)) (λ e. rw e (lit< tt))

-- the ten bytes one by one are the header
pub laid : (s l q : List ℕ) (ar seq len : ℕ) (cf : Bool) → s ≡ bytes_of 2 sync → l ≡ bytes_of 4 len → q ≡ bytes_of 2 seq → ar ≡ ar_with cf
    → get_or s 0 0 ∷ get_or s 1 0 ∷ get_or l 0 0 ∷ get_or l 1 0 ∷ get_or l 2 0 ∷ get_or l 3 0 ∷ get_or q 0 0 ∷ get_or q 1 0 ∷ ar ∷ packet_type ∷ []
    ≡ header_of seq cf len
unfolding header_of bytes_of
laid s l q ar seq len cf is_s is-l is-q is-ar = simp (is_s, is-l, is-q, is-ar, mod-eq_of_lt (ar_lt cf))

-- the header has 10 bytes, whatever SEQ, CF and LEN are
pub length_header : (seq : ℕ) (cf : Bool) (len : ℕ) → length (header_of seq cf len) ≡ header_bytes
unfolding header_of bytes_of
length_header seq cf len = refl

-- one copy right behind another
pub both_put : (out x y a b : List ℕ) (n : ℕ) (p q : Answer) → length a ≡ n → n + length b ≤ length out → outcome p x ≡ put_of out 0 a
    → outcome q y ≡ put_of x n b → y ≡ splice out 0 (a ++ b)
both_put out x y a b n p q long fits e f =
    let is_x : x ≡ splice out 0 a = put_is out a x 0 p (omega arith) e in
    let same : length x ≡ length out = ap length is_x ∙ splice-length out 0 a (omega arith) in
    put_is x b y n q (omega arith) f ∙ ap (λ (l : List ℕ). splice l n b) is_x ∙ splice_next out a b n long

-- header and payload, and the CRC field behind them, are the packet
pub packed : (seq : ℕ) (cf : Bool) (payload out x y : List ℕ) → x ≡ splice out 0 (header_of seq cf (length payload) ++ payload)
    → y ≡ splice x (header_bytes + length payload) (bytes_of crc_bytes (crc_for cf (take (header_bytes + length payload) x)))
    → y ≡ splice out 0 (packet_of seq cf payload)
unfolding packet_of closed
packed seq cf payload out x y is_x is_y =
    let front : List ℕ = header_of seq cf (length payload) ++ payload in
    let n : ℕ = header_bytes + length payload in
    let long : length front ≡ n = length-append (header_of seq cf (length payload)) payload
    ∙ ap (λ (k : ℕ). k + length payload) (length_header seq cf (length payload)) in
    is_y
    ∙ ap (λ (l : List ℕ). splice l n (bytes_of crc_bytes (crc_for cf (take n l)))) is_x
    ∙ ap (λ (l : List ℕ). splice (splice out 0 front) n (bytes_of crc_bytes (crc_for cf l))) (splice_start out front n long)
    ∙ splice_next out front (bytes_of crc_bytes (crc_for cf front)) n long

-- ---- the answers, case by case

module _ (seq : ℕ) (cf : Bool) (payload out : List ℕ) where
  -- a payload over 8,180 bytes is refused with 22, whatever the room, and nothing is written
  pub wrap_22 : most_payload < length payload → outcome (refused 22) out ≡ wrap_call seq cf payload out
  unfolding wrap_call wrap_fault
  wrap_22 h = leaves 22 _ _ _ _ (lit< tt) (due 22 _ (lt-ltb most_payload (length payload) h))

  module _ (few : length payload ≤ most_payload) where
    -- a payload of at most 8,180 bytes, without room for its packet: 1, and nothing is written
    pub wrap_1 : length out < length payload + least_l → outcome (refused 1) out ≡ wrap_call seq cf payload out
    unfolding wrap_call wrap_fault
    wrap_1 h = leaves 1 _ _ _ _ (lit< tt) (skip 22 _ (le-ltb most_payload (length payload) few)
        (due 1 _ (lt-ltb (length out) (length payload + least_l) h)))

    -- a payload of at most 8,180 bytes, with room: granted, and out begins with its packet
    pub wrap_done : (y : List ℕ) → length payload + least_l ≤ length out → y ≡ splice out 0 (packet_of seq cf payload)
        → outcome (granted []) y ≡ wrap_call seq cf payload out
    unfolding wrap_call wrap_fault
    wrap_done y h e =
        writes _ _ _ _ _ (skip 22 _ (le-ltb most_payload (length payload) few)
        (skip 1 _ (le-ltb (length out) (length payload + least_l) h) none_due)) e
