-- The fields of a header and the tests on them, each from what was worked out. Assumes nothing.
use mathlib.Core.Path.{◌≡◌, refl, sym, ap, ap₂, ◌∙◌}
use mathlib.Core.Bool.{Bool, true, false, not, cond, ◌&&◌, ◌||◌}
use mathlib.Core.List.{List}
use Prim.Native.Nat.{ℕ, ◌+◌, ◌*◌, ◌%◌, ◌≤◌, ◌<◌}
use native.Mathlib.Nat.{add-zero}
use native.Mathlib.Omega.{arith}
use borrow.Author.Tests.{lt-ltb, le-ltb, eq-eqb, ne_eqb}
use lib.Dec.{ltb, leb, eqb}
use lib.ListN.{length, get_or, take}
use Rattle.base_rules.specs.Bounds.{most_f, place, bad_k, parity}
use Rattle.base_rules.specs.Bytes.{number_at}
use Rattle.crc_rules.specs.Crc.{word_of}
use Rattle.cut_rules.specs.Sizes.{least_h, address_bytes}
use Rattle.cut_rules.specs.declared.Address.{Address}
use Rattle.std.specs.Prelude.{Option, Some, None, Ok, Err}
use Rattle.base_rules.specs.Refusal.{number, refusal_of}
use Rattle.base_rules.specs.declared.Refusal.{Refusal}
use Rattle.base_rules.proofs.ByFault.{answers_ok, answers_err, answers_due}
use Rattle.weave_rules.specs.Calls.{bad_count, too_much, bad_chunk}
use Rattle.header_rules.specs.declared.Header.{Header}
use Rattle.header_rules.specs.Header.{addr_bit}
use Rattle.header_rules.specs.Read.{flags_at, has_fec, has_address, address_at, address_of, fields_of, body_length, length_of, is_short, bad_crc}
use Rattle.header_rules.specs.Read.{bad_length, bad_index, bad_size, fault_of, parsed_of}

-- ---- what stands in a datagram

module _ (s : List ℕ) where
  -- with FEC the place of the address is byte 14, behind RSk and RSz
  pub at_fec : has_fec s ≡ true → 14 ≡ address_at s
  unfolding address_at
  at_fec e = rw e

  -- without FEC the place of the address is byte 12, right behind the flags and Plen
  pub at_plain : has_fec s ≡ false → 12 ≡ address_at s
  unfolding address_at
  at_plain e = rw e

  -- with the Addr bit the address is the Source and the Dest that stand at its place
  pub address_there : (a x y : ℕ) → has_address s ≡ true → a ≡ address_at s → x ≡ number_at 2 s a → y ≡ number_at 2 s (a + 2)
      → Some (record { source = x; dest = y }) ≡ address_of s
  unfolding address_of
  address_there a x y e is-a is_x is_y = rw (e, ← is-a, is_x, is_y) refl

  -- without the Addr bit there is no address
  pub address_none : has_address s ≡ false → None ≡ address_of s
  unfolding address_of
  address_none e = rw e

  -- with an address HCRC stands four bytes behind the address's place
  pub body_there : (a : ℕ) → has_address s ≡ true → a ≡ address_at s → a + 4 ≡ body_length s
  unfolding body_length address_of address_bytes
  body_there a e is-a = rw e (ap (λ (k : ℕ). k + 4) is-a)

  -- without an address HCRC stands at the address's place
  pub body_plain : (a : ℕ) → has_address s ≡ false → a ≡ address_at s → a ≡ body_length s
  unfolding body_length address_of address_bytes
  body_plain a e is-a = rw e (is-a ∙ sym (add-zero (address_at s)))

  -- what was read at the place of each field, RSk and RSz 0 without FEC, is the datagram's header
  pub fields_read : (number index count rsk rsz flags : ℕ) (fec : Bool) (address : Option Address) → number ≡ number_at 2 s 2 → index ≡ number_at 3 s 4
      → count ≡ number_at 3 s 7 → fec ≡ has_fec s → rsk ≡ cond fec (get_or s 12 0) 0 → rsz ≡ cond fec (get_or s 13 0) 0 → address ≡ address_of s
      → flags ≡ number_at 2 s 10
      → record {
        number = number;
        index = index;
        count = count;
        fec = fec;
        rsk = rsk;
        rsz = rsz;
        address = address;
        plen = flags % addr_bit;
      }
      ≡ fields_of s
  unfolding fields_of flags_at
  fields_read number index count rsk rsz flags fec address is_number is-index is-count is-fec is-rsk is-rsz is_Address is-flags =
      rw (is_number, is-index, is-count, is-rsk, is-rsz, is_Address, is-flags, is-fec)

-- ---- the tests on it

module _ (s : List ℕ) where
  -- a datagram under 14 bytes is short, whatever its flags
  pub short_least : length s < least_h → true ≡ is_short s
  unfolding is_short
  short_least h = rw (lt-ltb (length s) least_h h)

  module _ (n : ℕ) (is_n : n ≡ body_length s) where
    -- one of 14 bytes or more is short just where it is under the header its flags call for
    pub short_rest : least_h ≤ length s → ltb (length s) (n + 2) ≡ is_short s
    unfolding is_short length_of
    short_rest h = rw (le-ltb (length s) least_h h) (ap (λ (k : ℕ). ltb (length s) (k + 2)) is_n)

    -- a datagram that has its whole header has all the bytes that HCRC is over
    pub covered : length_of s ≤ length s → n ≤ length s
    unfolding length_of
    covered h = omega arith

    -- the header CRC is wrong just where the two bytes at its place are not the CRC of those before them
    pub crc_read : (a b : ℕ) → a ≡ number_at 2 s n → b ≡ word_of (take n s) → not (eqb a b) ≡ bad_crc s
    unfolding bad_crc
    crc_read a b is-a is_b = rw (← is_n) (ap₂ (λ (x y : ℕ). not (eqb x y)) is-a is_b)

    -- with a Plen that is not 0, the length is wrong just where the total is not h + Plen
    pub length_rest : (h : Header) → (h.plen ≡ 0 → ⊥) → not (eqb (length s) (n + 2 + h.plen)) ≡ bad_length s h
    unfolding bad_length length_of
    length_rest h some = rw (ne_eqb h.plen 0 some) (ap (λ (k : ℕ). not (eqb (length s) (k + 2 + h.plen))) is_n)

  -- a Plen of 0 fails 5 LENGTH, whatever the total
  pub length_none : (h : Header) → h.plen ≡ 0 → true ≡ bad_length s h
  unfolding bad_length
  length_none h none = rw (eq-eqb h.plen 0 none)

-- ---- the address

-- ---- the sizes

module _ (h : Header) where
  -- an Fcount of 0 fails 7 COUNT
  pub count_none : h.count ≡ 0 → true ≡ bad_index h
  unfolding bad_index bad_count
  count_none e = rw (eq-eqb h.count 0 e)

  -- an Fcount over 256 fails 7 COUNT
  pub count_over : (h.count ≡ 0 → ⊥) → most_f < h.count → true ≡ bad_index h
  unfolding bad_index bad_count
  count_over some over = rw (ne_eqb h.count 0 some, lt-ltb most_f h.count over)

  -- an Fcount of 1 to 256 fails 7 COUNT just where Findex is not below it
  pub count_rest : (h.count ≡ 0 → ⊥) → h.count ≤ most_f → leb h.count h.index ≡ bad_index h
  unfolding bad_index bad_count
  count_rest some few = rw (ne_eqb h.count 0 some, le-ltb most_f h.count few)

  -- an Fcount x Plen over 12,288 fails 8 SIZE
  pub size_over : place < h.count * h.plen → true ≡ bad_size h
  unfolding bad_size too_much
  size_over over = rw (lt-ltb place (h.count * h.plen) over)

  -- k and z of a header with FEC are no chunk's
  abbrev pub no_chunk : Bool
  no_chunk = bad_chunk h.count h.plen h.rsk || leb h.rsk h.rsz

  module _ (fits : h.count * h.plen ≤ place) where
    -- within 12,288 bytes a header with FEC fails 8 SIZE just where its RSk and RSz are no chunk's
    pub size-fec : (b : Bool) → h.fec ≡ true → b ≡ no_chunk → b ≡ bad_size h
    unfolding bad_size too_much
    size-fec b e is_b = rw (le-ltb place (h.count * h.plen) fits) (is_b ∙ ap (λ (x : Bool). x && no_chunk) (sym e))

    -- within 12,288 bytes a header without FEC passes 8 SIZE
    pub size-plain : h.fec ≡ false → false ≡ bad_size h
    unfolding bad_size too_much
    size-plain e = rw (le-ltb place (h.count * h.plen) fits) (ap (λ (x : Bool). x && no_chunk) (sym e))

module _ (f s k z : ℕ) where
  -- a k of 0 or over 207 is no chunk's
  pub chunk_none : bad_k k ≡ true → true ≡ (bad_chunk f s k || leb k z)
  unfolding bad_chunk
  chunk_none e = rw e

  module _ (sized : bad_k k ≡ false) where
    -- a k of 1 to 207 is no chunk's where Fcount x Plen is below k + 48
    pub chunk_less : f * s < k + parity → true ≡ (bad_chunk f s k || leb k z)
    unfolding bad_chunk
    chunk_less less = rw (sized, lt-ltb (f * s) (k + parity) less)

    -- a k of 1 to 207, with Fcount x Plen not below k + 48, is no chunk's just where z is not below k
    pub chunk_rest : k + parity ≤ f * s → leb k z ≡ (bad_chunk f s k || leb k z)
    unfolding bad_chunk
    chunk_rest room = rw (sized, le-ltb (f * s) (k + parity) room)

-- ---- the answer

module _ (own : Option Address) (s : List ℕ) where
  -- a datagram with a number due is answered by that refusal
  pub parse_refused : (e : Refusal) → number e ≡ fault_of own s → Err e ≡ parsed_of own s
  unfolding parsed_of
  parse_refused e due = answers_err (fault_of own s) (fields_of s) e due

  -- also where it is known by its number alone
  pub parse_due : (fault_of own s ≡ 0 → ⊥) → Err (refusal_of (fault_of own s)) ≡ parsed_of own s
  unfolding parsed_of
  parse_due some = answers_due (fault_of own s) (fields_of s) some

  -- a datagram with no number due is answered by its header's fields
  pub parse_read : (h : Header) → 0 ≡ fault_of own s → h ≡ fields_of s → Ok h ≡ parsed_of own s
  unfolding parsed_of
  parse_read h none is_h = answers_ok (fault_of own s) (fields_of s) h none is_h
