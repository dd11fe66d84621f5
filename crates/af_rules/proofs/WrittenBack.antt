-- A packet that passes is written again from its own fields. Assumes nothing.
use mathlib.Core.Path.{◌≡◌, refl, sym, ap, ap₂, ◌∙◌}
use mathlib.Core.List.{List, ◌++◌}
use Prim.Native.Nat.{ℕ, ◌+◌, ◌-◌, ◌/◌, ◌%◌, ◌≤◌, ◌<◌}
use native.Mathlib.Omega.{arith}
use borrow.Author.Tests.{eqb-true, eqb-false}
use lib.Dec.{eqb}
use lib.ListN.{length, take, drop, length-drop, take-append-drop}
use lib.Seq.{length-take-le, take_all, take-add}
use Rattle.base_rules.specs.Bounds.{least_l}
use Rattle.base_rules.specs.Bytes.{Bytes, number_at, bytes_of}
use Rattle.base_rules.proofs.Logic.{either}
use Rattle.base_rules.proofs.Numbers.{number_lt, bytes_back}
use Rattle.af_rules.specs.Packet.{sync, packet_type, major, minor, header_bytes, crc_bytes, len_of, seq_of, ar_of, cf_of, minor_of, payload_of}
use Rattle.af_rules.specs.Packet.{covered_of, ar_with, header_of, closed, packet_of}
use Rattle.af_rules.proofs.Checks.{Passing}

-- AR is written again from its parts
ar_again : (ar : ℕ) → ar < 256 → ar / 16 % 8 ≡ major → ar % 16 ≡ minor → ar ≡ ar_with (eqb (ar / 128) 1)
unfolding ar_with
ar_again ar h is-major is-minor =
    either (eqb (ar / 128) 1) (λ e. rw e (omega (arith, eqb-true (ar / 128) 1 e)))
    (λ e. rw e (let low : ar < 128 = below (eqb-false (ar / 128) 1 e) in omega arith))
  where
    below : (ar / 128 ≡ 1 → ⊥) → ar < 128
    below ne = omega (arith, ne)

module _ (s : List ℕ) (bytes : Bytes s) where
  -- one field more
  more : (i w x : ℕ) (a : List ℕ) → i + w ≤ length s → take i s ≡ a → number_at w s i ≡ x → take (i + w) s ≡ a ++ bytes_of w x
  more i w x a fits e q = take-add i w s ∙ ap₂ (λ (l r : List ℕ). l ++ r) e (sym (bytes_back w s i bytes fits) ∙ ap (bytes_of w) q)

  module _ (p : Passing s) where
    length_payload : length (payload_of s) ≡ len_of s
    unfolding payload_of
    length_payload =
        length-take-le (length s - least_l) (drop header_bytes s) (omega (arith, length-drop header_bytes s, p.long)) ∙ omega (arith, p.sized)

    header_again : minor_of s ≡ minor → take header_bytes s ≡ header_of (seq_of s) (cf_of s) (length (payload_of s))
    unfolding header_of
    header_again is-minor =
        let ar : ar_of s ≡ ar_with (cf_of s) = ar_again (ar_of s) (number_lt 1 s 8 bytes) p.revised is-minor in
        more 9 1 packet_type _ (omega (arith, p.long))
        (more 8 1 _ _ (omega (arith, p.long))
        (more 6 2 _ _ (omega (arith, p.long))
        (more 2 4 _ _ (omega (arith, p.long)) (more 0 2 sync _ (omega (arith, p.long)) refl p.synced) (sym length_payload))
        refl)
        ar)
        p.typed

    covered_again : minor_of s ≡ minor → covered_of s ≡ header_of (seq_of s) (cf_of s) (length (payload_of s)) ++ payload_of s
    unfolding covered_of payload_of
    covered_again is-minor =
        let all : length s - crc_bytes ≡ header_bytes + (length s - least_l) = omega (arith, p.long) in
        ap (λ (n : ℕ). take n s) all ∙ take-add header_bytes (length s - least_l) s ∙ ap (λ (l : List ℕ). l ++ payload_of s) (header_again is-minor)

    closed_again : s ≡ closed (cf_of s) (covered_of s)
    unfolding closed covered_of
    closed_again =
        let n : ℕ = length s - crc_bytes in
        let two : length (drop n s) ≤ crc_bytes = omega (arith, length-drop n s, p.long) in
        sym (take-append-drop n s)
        ∙ ap (λ (l : List ℕ). take n s ++ l)
        (sym (take_all crc_bytes (drop n s) two) ∙ sym (bytes_back crc_bytes s n bytes (omega (arith, p.long))) ∙ ap (bytes_of crc_bytes) p.summed)

    -- a packet that passes, of minor revision 0, is what wrapping its payload again would write
    pub packet_again : minor_of s ≡ minor → s ≡ packet_of (seq_of s) (cf_of s) (payload_of s)
    unfolding packet_of
    packet_again is-minor = closed_again ∙ ap (closed (cf_of s)) (covered_again is-minor)
