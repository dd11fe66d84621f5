-- A header that was written is read back, whatever stands behind it. Assumes nothing.
use mathlib.Core.Path.{◌≡◌, refl, sym, ap, ap₂, ◌∙◌}
use mathlib.Core.Bool.{Bool, true, false, cond}
use mathlib.Core.List.{List, [], ◌∷◌, ◌++◌, append_assoc}
use Prim.Native.Nat.{ℕ, ◌+◌, ◌%◌, ◌<◌}
use native.Mathlib.Omega.{arith}
use borrow.Author.Tests.{le-leb, lt-leb}
use lib.Dec.{leb}
use lib.ListN.{length, get_or, take, drop, length-append}
use lib.Seq.{take_at, drop_at}
use Rattle.base_rules.specs.Bytes.{number_at, bytes_of}
use Rattle.base_rules.proofs.Numbers.{number_back, number_drop, back_at, number_from_lem}
use Rattle.crc_rules.specs.Crc.{word_of}
use Rattle.crc_rules.proofs.Over.{word_lt}
use Rattle.cut_rules.specs.Sizes.{address_bytes}
use Rattle.cut_rules.specs.declared.Address.{Address}
use Rattle.std.specs.Prelude.{Option, Some, None}
use Rattle.header_rules.specs.declared.Header.{Header}
use Rattle.header_rules.specs.Header.{sync, fec_bit, addr_bit, addr_flag, flags_of, fec_part, address_part, front_of, body_of, header_bytes}
use Rattle.header_rules.specs.Read.{flags_at, has_fec, has_address, address_at, address_of, fields_of, body_length, length_of, bad_address}
use Rattle.header_rules.specs.Claims.{Fitting, Written, Sound}
use Rattle.header_rules.proofs.Checks.{Passing, fit-index, fit-size}
use Rattle.header_rules.proofs.Lays.{fec-length, lead_length, body_length_lem, address-length, header_length_lem}

-- ---- the flags

abbrev addressed : Option Address → Bool
addressed None = false
addressed (Some p) = true

abbrev flags : Bool → Option Address → ℕ → ℕ
flags b a x = cond b fec_bit 0 + (addr_flag a + x % addr_bit)

flags_lt : (b : Bool) (a : Option Address) (x : ℕ) → flags b a x < 65536
unfolding addr_flag
flags_lt true None x = omega arith
flags_lt true (Some p) x = omega arith
flags_lt false None x = omega arith
flags_lt false (Some p) x = omega arith

fec_in : (b : Bool) (a : Option Address) (x : ℕ) → leb fec_bit (flags b a x) ≡ b
unfolding addr_flag
fec_in true None x = le-leb fec_bit (flags true None x) (omega arith)
fec_in true (Some p) x = le-leb fec_bit (flags true (Some p) x) (omega arith)
fec_in false None x = lt-leb fec_bit (flags false None x) (omega arith)
fec_in false (Some p) x = lt-leb fec_bit (flags false (Some p) x) (omega arith)

addressed_in : (b : Bool) (a : Option Address) (x : ℕ) → leb addr_bit (flags b a x % fec_bit) ≡ addressed a
unfolding addr_flag
addressed_in true None x = lt-leb addr_bit (flags true None x % fec_bit) (omega arith)
addressed_in true (Some p) x = le-leb addr_bit (flags true (Some p) x % fec_bit) (omega arith)
addressed_in false None x = lt-leb addr_bit (flags false None x % fec_bit) (omega arith)
addressed_in false (Some p) x = le-leb addr_bit (flags false (Some p) x % fec_bit) (omega arith)

plen_in : (b : Bool) (a : Option Address) (x : ℕ) → x < addr_bit → flags b a x % addr_bit ≡ x
unfolding addr_flag
plen_in true None x h = omega arith
plen_in true (Some p) x h = omega arith
plen_in false None x h = omega arith
plen_in false (Some p) x h = omega arith

-- ---- the parts that a header may have

rs_in : (b : Bool) (k z : ℕ) (a c rest : List ℕ) → (b ≡ false → (k ≡ 0) × (z ≡ 0))
    → (cond b (get_or (((cond b (k ∷ z ∷ []) [] ++ a) ++ c) ++ rest) 0 0) 0 ≡ k)
    × (cond b (get_or (((cond b (k ∷ z ∷ []) [] ++ a) ++ c) ++ rest) 1 0) 0 ≡ z)
rs_in true k z a c rest plain = (refl, refl)
rs_in false k z a c rest plain = (sym (plain refl).0, sym (plain refl).1)

abbrev pair : ℕ → ℕ → Option Address
pair x y = Some (record { source = x; dest = y })

address_in : (a : Option Address) (rest : List ℕ) → Fitting a
    → cond (addressed a) (pair (number_at 2 (address_part a ++ rest) 0) (number_at 2 (address_part a ++ rest) 2)) None ≡ a
unfolding Fitting address_part number_at bytes_of
address_in None rest fits = refl
address_in (Some a) rest fits = ap₂ pair (number_back 2 a.source [] fits.0) (number_back 2 a.dest [] fits.1)

address_from : (a : Option Address) (s rest : List ℕ) (at : ℕ) (b : Bool) → b ≡ addressed a → drop at s ≡ address_part a ++ rest → Fitting a
    → cond b (pair (number_at 2 s at) (number_at 2 s (at + 2))) None ≡ a
address_from a s rest at b is_b e fits =
    ap₂ (λ (x : Bool) (p : Option Address). cond x p None) is_b (ap₂ pair (sym (number_drop 2 s at)) (sym (number_from_lem 2 s at 2)))
    ∙ ap (λ (l : List ℕ). cond (addressed a) (pair (number_at 2 l 0) (number_at 2 l 2)) None) e
    ∙ address_in a rest fits

-- where they stand
regrouped : (f e a c r : List ℕ) → ((f ++ (e ++ a)) ++ c) ++ r ≡ (f ++ e) ++ (a ++ (c ++ r))
regrouped f e a c r =
    append_assoc (f ++ (e ++ a)) c r ∙ ap (λ (l : List ℕ). l ++ (c ++ r)) (sym (append_assoc f e a)) ∙ append_assoc (f ++ e) a (c ++ r)

twelve_more : (b : Bool) → cond b 14 12 ≡ 12 + cond b 2 0
twelve_more true = refl
twelve_more false = refl

module _ (h : Header) (w : Written h) (rest : List ℕ) where
  abbrev s : List ℕ
  s = header_bytes h ++ rest

  abbrev crc : List ℕ
  crc = bytes_of 2 (word_of (body_of h))

  sync_back : number_at 2 s 0 ≡ sync
  unfolding header_bytes body_of front_of number_at bytes_of
  sync_back = refl

  pub pseq_back : number_at 2 s 2 ≡ h.number
  unfolding header_bytes body_of front_of number_at bytes_of
  pseq_back = number_back 2 h.number [] w.number

  index_back : number_at 3 s 4 ≡ h.index
  unfolding header_bytes body_of front_of number_at bytes_of
  index_back = number_back 3 h.index [] w.index

  count_back : number_at 3 s 7 ≡ h.count
  unfolding header_bytes body_of front_of number_at bytes_of
  count_back = number_back 3 h.count [] w.count

  flags_back : flags_at s ≡ flags h.fec h.address h.plen
  unfolding header_bytes body_of front_of flags_of flags_at number_at bytes_of
  flags_back = number_back 2 (flags h.fec h.address h.plen) [] (flags_lt h.fec h.address h.plen)

  fec_back : has_fec s ≡ h.fec
  unfolding has_fec
  fec_back = ap (leb fec_bit) flags_back ∙ fec_in h.fec h.address h.plen

  addressed_back : has_address s ≡ addressed h.address
  unfolding has_address
  addressed_back = ap (λ (x : ℕ). leb addr_bit (x % fec_bit)) flags_back ∙ addressed_in h.fec h.address h.plen

  plen_back : flags_at s % addr_bit ≡ h.plen
  plen_back = ap (λ (x : ℕ). x % addr_bit) flags_back ∙ plen_in h.fec h.address h.plen w.plen

  rs_back : (cond h.fec (get_or s 12 0) 0 ≡ h.rsk) × (cond h.fec (get_or s 13 0) 0 ≡ h.rsz)
  unfolding header_bytes body_of front_of fec_part bytes_of
  rs_back = rs_in h.fec h.rsk h.rsz (address_part h.address) crc rest w.plain

  rsk_back : cond (has_fec s) (get_or s 12 0) 0 ≡ h.rsk
  rsk_back = ap (λ (b : Bool). cond b (get_or s 12 0) 0) fec_back ∙ rs_back.0

  rsz_back : cond (has_fec s) (get_or s 13 0) 0 ≡ h.rsz
  rsz_back = ap (λ (b : Bool). cond b (get_or s 13 0) 0) fec_back ∙ rs_back.1

  at_back : address_at s ≡ length (front_of h ++ fec_part h)
  unfolding address_at
  at_back = ap (λ (b : Bool). cond b 14 12) fec_back ∙ twelve_more h.fec ∙ omega (arith, fec-length h, lead_length h)

  from_address : drop (address_at s) s ≡ address_part h.address ++ (crc ++ rest)
  unfolding header_bytes body_of
  from_address =
      ap (λ (n : ℕ). drop n s) at_back
      ∙ ap (drop (length (front_of h ++ fec_part h))) (regrouped (front_of h) (fec_part h) (address_part h.address) crc rest)
      ∙ drop_at (front_of h ++ fec_part h) (address_part h.address ++ (crc ++ rest)) (length (front_of h ++ fec_part h)) refl

  address_back : address_of s ≡ h.address
  unfolding address_of
  address_back = address_from h.address s (crc ++ rest) (address_at s) (has_address s) addressed_back from_address w.address

  -- each field of a written header is read back, whatever stands behind the header
  pub header_back : fields_of s ≡ h
  unfolding fields_of
  header_back = rw (pseq_back, index_back, count_back, plen_back, rsk_back, rsz_back, address_back, fec_back)

  -- ---- HCRC

  body_back : body_length s ≡ length (body_of h)
  unfolding body_length
  body_back =
      ap₂ (λ (n : ℕ) (a : Option Address). n + address_bytes a) at_back address_back
      ∙ omega (arith, lead_length h, body_length_lem h, address-length h.address)

  length_back : length_of s ≡ length (header_bytes h)
  unfolding length_of
  length_back = ap (λ (n : ℕ). n + 2) body_back ∙ sym (header_length_lem h)

  seam : s ≡ body_of h ++ (crc ++ rest)
  unfolding header_bytes
  seam = append_assoc (body_of h) crc rest

  crc_back : number_at 2 s (body_length s) ≡ word_of (take (body_length s) s)
  crc_back =
      let n : ℕ = length (body_of h) in
      let covered : take (body_length s) s ≡ body_of h = ap₂ take body_back seam ∙ take_at (body_of h) (crc ++ rest) n refl in
      let behind : drop n s ≡ crc ++ rest = ap (drop n) seam ∙ drop_at (body_of h) (crc ++ rest) n refl in
      ap (number_at 2 s) body_back ∙ back_at 2 (word_of (body_of h)) n s rest behind (word_lt (body_of h)) ∙ ap word_of (sym covered)

-- ---- so what a sender writes passes

-- a sound header and Plen bytes of payload pass each of the checks where the address is accepted
pub sound_passes : (own : Option Address) (h : Header) (payload : List ℕ) → Sound h → length payload ≡ h.plen → bad_address own h.address ≡ false
    → Passing own (header_bytes h ++ payload)
sound_passes own h payload p long owned =
    let w : Written h = p.written in
    let same : fields_of (header_bytes h ++ payload) ≡ h = header_back h w payload in
    let all : length (header_bytes h ++ payload) ≡ length (header_bytes h) + length payload = length-append (header_bytes h) payload in
    let whole : length_of (header_bytes h ++ payload) ≡ length (header_bytes h) = length_back h w payload in
    let plen : (fields_of (header_bytes h ++ payload)).plen ≡ h.plen = ap (λ (x : Header). x.plen) same in
    record {
      long = omega (arith, all, header_length_lem h, body_length_lem h);
      whole = omega (arith, all, whole);
      synced = sync_back h w payload;
      summed = crc_back h w payload;
      some = omega (arith, plen, p.some);
      sized = omega (arith, all, whole, plen, long);
      owned = ap (bad_address own) (address_back h w payload) ∙ owned;
      indexed = rw same (fit-index h p.below p.few);
      placed = rw same (fit-size h p.fits p.chunk);
    }
