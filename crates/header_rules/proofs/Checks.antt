-- The checks 2 to 8: which number is due after which tests, and what a datagram that passes is known to be. Assumes nothing.
use mathlib.Core.Path.{◌≡◌, refl, sym, ap, ◌∙◌}
use mathlib.Core.Bool.{Bool, true, false, ◌&&◌, ◌||◌}
use mathlib.Core.List.{List, [], ◌∷◌}
use Prim.Native.Nat.{ℕ, suc, ◌+◌, ◌*◌, ◌≤◌, ◌<◌}
use native.Mathlib.Nat.{pos_of_ne-zero}
use native.Mathlib.Omega.{arith}
use borrow.Author.Tests.{ltb-false, leb-false, eqb-false, le-ltb, lt-leb, eq-eqb, ne_eqb}
use lib.Dec.{ltb, leb, eqb}
use lib.ListN.{length, take}
use Rattle.base_rules.specs.Bounds.{most_f, most_k, bad_k, place, parity}
use Rattle.base_rules.specs.Bytes.{number_at}
use Rattle.base_rules.specs.Tests.{first}
use Rattle.base_rules.proofs.ChunkSize.{k_fits}
use Rattle.base_rules.proofs.Firsts.{skip, none_due, clear, clear_rest}
use Rattle.base_rules.proofs.Logic.{either, or_left, or_right, same, other, same_from}
use Rattle.crc_rules.specs.Crc.{word_of}
use Rattle.std.specs.Prelude.{Option}
use Rattle.cut_rules.specs.declared.Address.{Address}
use Rattle.weave_rules.specs.Calls.{bad_count, too_much, bad_chunk}
use Rattle.weave_rules.proofs.CallCases.{f_most, fits_place, chunk_some}
use Rattle.header_rules.specs.declared.Header.{Header}
use Rattle.header_rules.specs.Header.{sync}
use Rattle.header_rules.specs.Read.{address_of, fields_of, body_length, length_of, is_short, not_sync, bad_crc, bad_length, bad_address, bad_index}
use Rattle.header_rules.specs.Read.{bad_size, fault_of}
use Rattle.header_rules.proofs.Fields.{no_chunk}

-- ---- the tests from each number on

module _ (own : Option Address) (s : List ℕ) where
  -- the last of the header's tests alone: sizes out of bounds give 8
  abbrev pub from_8 : List (Bool × ℕ)
  from_8 = (bad_size (fields_of s), 8) ∷ []

  -- from 7 on: Fcount out of bounds or Findex not below it, then the sizes
  abbrev pub from_7 : List (Bool × ℕ)
  from_7 = (bad_index (fields_of s), 7) ∷ from_8

  -- from 6 on: an address that is not the configured pair, then the tests of 7 and 8
  abbrev pub from_6 : List (Bool × ℕ)
  from_6 = (bad_address own (address_of s), 6) ∷ from_7

  -- from 5 on: a Plen of 0 or a total that is not h + Plen, then the tests of 6 to 8
  abbrev pub from_5 : List (Bool × ℕ)
  from_5 = (bad_length s (fields_of s), 5) ∷ from_6

  -- from 4 on: a header CRC that is wrong, then the tests of 5 to 8
  abbrev pub from_4 : List (Bool × ℕ)
  from_4 = (bad_crc s, 4) ∷ from_5

  -- from 3 on: a datagram that does not begin with "PF", then the tests of 4 to 8
  abbrev pub from_3 : List (Bool × ℕ)
  from_3 = (not_sync s, 3) ∷ from_4

  abbrev pub from_2 : List (Bool × ℕ)
  from_2 = (is_short s, 2) ∷ from_3

  -- the first of the tests 2 to 8 that a datagram fails gives its number, and 0 is given if it fails none
  pub in_order : first from_2 ≡ fault_of own s
  unfolding fault_of
  in_order = refl

-- ---- what a test tells that failed, and how it is made to

module _ (s : List ℕ) where
  -- a datagram that passes 2 SHORT has at least 14 bytes, and the whole header that its flags call for
  pub short_from : is_short s ≡ false → (14 ≤ length s) × (length_of s ≤ length s)
  unfolding is_short
  short_from e = (ltb-false (length s) 14 (or_left (ltb (length s) 14) _ e), ltb-false (length s) (length_of s) (or_right (ltb (length s) 14) _ e))

  fit_short : 14 ≤ length s → length_of s ≤ length s → is_short s ≡ false
  unfolding is_short
  fit_short long whole = rw (le-ltb (length s) 14 long, le-ltb (length s) (length_of s) whole)

  module _ (x : ℕ) (is_x : x ≡ number_at 2 s 0) where
    -- a datagram whose first two bytes were read as "PF" passes 3 SYNC
    pub fit-sync : x ≡ sync → not_sync s ≡ false
    unfolding not_sync
    fit-sync e = same (sym is_x ∙ e)

    -- a datagram whose first two bytes were read as anything but "PF" fails 3 SYNC
    pub other_sync : (x ≡ sync → ⊥) → not_sync s ≡ true
    unfolding not_sync
    other_sync ne = other (λ (e : number_at 2 s 0 ≡ sync). ne (is_x ∙ e))

  sync_from : not_sync s ≡ false → number_at 2 s 0 ≡ sync
  unfolding not_sync
  sync_from e = same_from e

  crc_from : bad_crc s ≡ false → number_at 2 s (body_length s) ≡ word_of (take (body_length s) s)
  unfolding bad_crc
  crc_from e = same_from e

  fit_crc : number_at 2 s (body_length s) ≡ word_of (take (body_length s) s) → bad_crc s ≡ false
  unfolding bad_crc
  fit_crc e = same e

module _ (s : List ℕ) (h : Header) where
  length_from : bad_length s h ≡ false → (0 < h.plen) × (length s ≡ length_of s + h.plen)
  unfolding bad_length
  length_from e =
      (pos_of_ne-zero (eqb-false h.plen 0 (or_left (eqb h.plen 0) _ e)), same_from (or_right (eqb h.plen 0) _ e))

  fit_length : 0 < h.plen → length s ≡ length_of s + h.plen → bad_length s h ≡ false
  unfolding bad_length
  fit_length some e = rw (ne_eqb h.plen 0 (λ z. omega arith), eq-eqb (length s) (length_of s + h.plen) e)

module _ (h : Header) where
  -- a header that passes 7 COUNT has an Fcount that is neither 0 nor over 256
  pub counted : bad_index h ≡ false → bad_count h.count ≡ false
  unfolding bad_index
  counted e = or_left (bad_count h.count) _ e

  -- a header that passes 7 COUNT has Findex below Fcount, and Fcount at most 256
  pub index_from : bad_index h ≡ false → (h.index < h.count) × (h.count ≤ most_f)
  unfolding bad_index
  index_from e = (leb-false h.count h.index (or_right (bad_count h.count) _ e), f_most h.count (or_left (bad_count h.count) _ e))

  -- a header with Findex below Fcount, and Fcount at most 256, passes 7 COUNT
  pub fit-index : h.index < h.count → h.count ≤ most_f → bad_index h ≡ false
  unfolding bad_index bad_count
  fit-index below few =
      rw (ne_eqb h.count 0 (λ z. omega arith), le-ltb most_f h.count few, lt-leb h.count h.index below)

-- RSk and RSz that a header with FEC may have
abbrev Chunk : ℕ → ℕ → ℕ → ℕ → Type 0
Chunk f s k z = (0 < k) × (k ≤ most_k) × (z < k) × (k + parity ≤ f * s)

module _ (f s k z : ℕ) where
  chunk_from : (bad_chunk f s k || leb k z) ≡ false → Chunk f s k z
  unfolding bad_chunk
  chunk_from e =
      let fine : bad_chunk f s k ≡ false = or_left (bad_chunk f s k) _ e in
      let long : ltb (f * s) (k + parity) ≡ false = or_right (bad_k k) _ fine in
      ((chunk_some f s k fine).0, (chunk_some f s k fine).1, leb-false k z (or_right (bad_chunk f s k) _ e), ltb-false (f * s) (k + parity) long)

  fit-chunk : Chunk f s k z → (bad_chunk f s k || leb k z) ≡ false
  unfolding bad_chunk
  fit-chunk c =
      rw
      (k_fits k (λ e. omega (arith, c.0)) c.1, le-ltb (f * s) (k + parity) c.3, lt-leb k z c.2)

module _ (h : Header) where
  -- a header that passes 8 SIZE has fragments that fit a place, and with FEC a chunk's RSk and RSz
  pub size_from : bad_size h ≡ false → (h.count * h.plen ≤ place) × (h.fec ≡ true → Chunk h.count h.plen h.rsk h.rsz)
  unfolding bad_size
  size_from e =
      let coded : (h.fec && no_chunk h) ≡ false = or_right (too_much h.count h.plen) _ e in (
        fits_place h.count h.plen (or_left (too_much h.count h.plen) _ e),
        λ (f : h.fec ≡ true). chunk_from h.count h.plen h.rsk h.rsz (ap (λ (b : Bool). b && no_chunk h) (sym f) ∙ coded),
      )

  -- a header whose fragments fit a place, with a chunk's RSk and RSz if with FEC, passes 8 SIZE
  pub fit-size : h.count * h.plen ≤ place → (h.fec ≡ true → Chunk h.count h.plen h.rsk h.rsz) → bad_size h ≡ false
  unfolding bad_size too_much
  fit-size fits chunk =
      rw (le-ltb place (h.count * h.plen) fits)
      (either h.fec (λ (f : h.fec ≡ true). ap (λ (b : Bool). b && no_chunk h) f ∙ fit-chunk h.count h.plen h.rsk h.rsz (chunk f))
      (λ (f : h.fec ≡ false). ap (λ (b : Bool). b && no_chunk h) f))

-- the address of the fields, and a test on what was worked out
pub address_told_lem : (own : Option Address) (s : List ℕ) (h : Header) {b y : Bool} → h ≡ fields_of s → b ≡ bad_address own h.address → b ≡ y
    → bad_address own (address_of s) ≡ y
unfolding fields_of
address_told_lem own s h is_h is_b e = ap (λ (x : Header). bad_address own x.address) (sym is_h) ∙ sym is_b ∙ e

-- what a test was found to say of one header it says of any header equal to it
pub told_by_lem : (test : Header → Bool) {h h' : Header} {b y : Bool} → h ≡ h' → b ≡ test h → b ≡ y → test h' ≡ y
told_by_lem test is_h is_b e = ap test (sym is_h) ∙ sym is_b ∙ e

-- ---- a datagram that passes

-- a datagram that passes the checks 2 to 8 for the configured address, and what each tells of it
pub record Passing (own : Option Address) (s : List ℕ) : Type 0 where
  pub long : 14 ≤ length s
  pub whole : length_of s ≤ length s
  pub synced : number_at 2 s 0 ≡ sync
  pub summed : number_at 2 s (body_length s) ≡ word_of (take (body_length s) s)
  pub some : 0 < (fields_of s).plen
  pub sized : length s ≡ length_of s + (fields_of s).plen
  pub owned : bad_address own (address_of s) ≡ false
  pub indexed : bad_index (fields_of s) ≡ false
  pub placed : bad_size (fields_of s) ≡ false

module _ (own : Option Address) (s : List ℕ) where
  -- a datagram that passes each check has no number due
  pub passes : Passing own s → 0 ≡ fault_of own s
  passes p =
      skip 2 (from_3 own s) (fit_short s p.long p.whole)
      (skip 3 (from_4 own s) (fit-sync s _ refl p.synced)
      (skip 4 (from_5 own s) (fit_crc s p.summed)
      (skip 5 (from_6 own s) (fit_length s (fields_of s) p.some p.sized)
      (skip 6 (from_7 own s) p.owned (skip 7 (from_8 own s) p.indexed (skip 8 [] p.placed none_due))))))
      ∙ in_order own s

  -- a datagram with no number due passes each check
  pub passing : fault_of own s ≡ 0 → Passing own s
  passing e =
      let due : (n : ℕ) → (suc n ≡ 0 → ⊥) = λ n (z : suc n ≡ 0). omega arith in
      let e₂ : first (from_2 own s) ≡ 0 = in_order own s ∙ e in
      let e₃ : first (from_3 own s) ≡ 0 = clear_rest _ 2 (from_3 own s) (due 1) e₂ in
      let e₄ : first (from_4 own s) ≡ 0 = clear_rest _ 3 (from_4 own s) (due 2) e₃ in
      let e₅ : first (from_5 own s) ≡ 0 = clear_rest _ 4 (from_5 own s) (due 3) e₄ in
      let e₆ : first (from_6 own s) ≡ 0 = clear_rest _ 5 (from_6 own s) (due 4) e₅ in
      let e₇ : first (from_7 own s) ≡ 0 = clear_rest _ 6 (from_7 own s) (due 5) e₆ in
      let e₈ : first (from_8 own s) ≡ 0 = clear_rest _ 7 (from_8 own s) (due 6) e₇ in
      let lengths = short_from s (clear _ 2 (from_3 own s) (due 1) e₂) in
      let sizes = length_from s (fields_of s) (clear _ 5 (from_6 own s) (due 4) e₅) in
      record {
        long = lengths.0;
        whole = lengths.1;
        synced = sync_from s (clear _ 3 (from_4 own s) (due 2) e₃);
        summed = crc_from s (clear _ 4 (from_5 own s) (due 3) e₄);
        some = sizes.0;
        sized = sizes.1;
        owned = clear _ 6 (from_7 own s) (due 5) e₆;
        indexed = clear _ 7 (from_8 own s) (due 6) e₇;
        placed = clear _ 8 [] (due 7) e₈;
      }
