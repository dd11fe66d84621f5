-- Writing a header: what is laid down piece by piece is the header. Assumes nothing.
use mathlib.Core.Path.{◌≡◌, refl, sym, ap, ap₂, ◌∙◌}
use mathlib.Core.Bool.{Bool, true, false, cond}
use mathlib.Core.List.{List, [], ◌∷◌, ◌++◌, append_assoc}
use Prim.Native.Nat.{ℕ, ◌+◌, ◌%◌, ◌≤◌}
use native.Mathlib.Nat.{add-zero, zero-add}
use native.Mathlib.Omega.{arith}
use lib.Dec.{ltb}
use lib.ListN.{length, take, length-append}
use Rattle.base_rules.specs.Answer.{Answer, outcome, settled}
use Rattle.base_rules.specs.Bytes.{splice, bytes_of}
use Rattle.base_rules.specs.Tests.{first}
use Rattle.base_rules.specs.Written.{put_fault, put_of}
use Rattle.base_rules.proofs.Answers.{put_is}
use Rattle.base_rules.proofs.Numbers.{length-bytes}
use Rattle.base_rules.proofs.Splice.{splice_none, splice-length, splice_next, splice_start, splice-then}
use Rattle.crc_rules.specs.Crc.{word_of}
use Rattle.cut_rules.specs.Sizes.{address_bytes}
use Rattle.cut_rules.specs.declared.Address.{Address}
use Rattle.std.specs.Prelude.{Option, Some, None}
use Rattle.header_rules.specs.declared.Header.{Header}
use Rattle.header_rules.specs.Header.{sync, fec_bit, addr_bit, addr_flag, flags_of, fec_part, address_part, front_of, body_of, header_bytes, write_call}

-- ---- the lengths

length_either : (b : Bool) (k z : ℕ) → length (cond b (k ∷ z ∷ []) []) ≡ cond b 2 0
length_either true k z = refl
length_either false k z = refl

-- an address is written in the bytes that the size of a header counts for it: 4, or 0 for none
pub address-length : (a : Option Address) → length (address_part a) ≡ address_bytes a
unfolding address_part address_bytes bytes_of
address-length None = refl
address-length (Some a) = refl

-- an address takes at most 4 bytes of a header
pub address_most : (a : Option Address) → length (address_part a) ≤ 4
unfolding address_part bytes_of
address_most None = omega arith
address_most (Some a) = omega arith

most_two : (b : Bool) → cond b 2 0 ≤ 2
most_two true = omega arith
most_two false = omega arith

module _ (h : Header) where
  pub front_length : length (front_of h) ≡ 12
  unfolding front_of bytes_of
  front_length = refl

  -- with FEC RSk and RSz take 2 bytes of a header, without it none
  pub fec-length : length (fec_part h) ≡ cond h.fec 2 0
  unfolding fec_part
  fec-length = length_either h.fec h.rsk h.rsz

  -- with FEC or without, RSk and RSz take at most 2 bytes of a header
  pub fec_most : length (fec_part h) ≤ 2
  fec_most = omega (arith, fec-length, most_two h.fec)

  -- before the address stand the front's 12 bytes, and RSk and RSz if with FEC
  pub lead_length : length (front_of h ++ fec_part h) ≡ 12 + length (fec_part h)
  lead_length = omega (arith, length-append (front_of h) (fec_part h), front_length)

  grouped : (front_of h ++ fec_part h) ++ address_part h.address ≡ body_of h
  unfolding body_of
  grouped = append_assoc (front_of h) (fec_part h) (address_part h.address)

  -- before HCRC stand the front's 12 bytes, RSk and RSz if with FEC, and the address if there is one
  pub body_length_lem : length (body_of h) ≡ 12 + length (fec_part h) + length (address_part h.address)
  body_length_lem = omega (arith, ap length grouped, length-append (front_of h ++ fec_part h) (address_part h.address), lead_length)

  -- a header has two bytes more than HCRC is over: HCRC itself
  pub header_length_lem : length (header_bytes h) ≡ length (body_of h) + 2
  unfolding header_bytes
  header_length_lem = omega (arith, length-append (body_of h) (bytes_of 2 (word_of (body_of h))), length-bytes 2 (word_of (body_of h)))

-- ---- the flags

module _ (h : Header) (x : ℕ) (is_x : x ≡ addr_flag h.address) where
  -- with FEC the flags are the FEC bit, the Addr bit if there is an address, and Plen
  pub flags-fec : h.fec ≡ true → fec_bit + (x + h.plen % addr_bit) ≡ flags_of h
  unfolding flags_of
  flags-fec e = ap₂ (λ (b : Bool) (y : ℕ). cond b fec_bit 0 + (y + h.plen % addr_bit)) (sym e) is_x

  -- without FEC the flags are the Addr bit if there is an address, and Plen
  pub flags-plain : h.fec ≡ false → x + h.plen % addr_bit ≡ flags_of h
  unfolding flags_of
  flags-plain e = sym (zero-add _) ∙ ap₂ (λ (b : Bool) (y : ℕ). cond b fec_bit 0 + (y + h.plen % addr_bit)) (sym e) is_x

-- ---- copies

-- one copy right behind another, from the start
put_next : (out x y a b b' : List ℕ) (n : ℕ) (p : Answer) → length a ≡ n → n + length b ≤ length out → x ≡ splice out 0 a → b' ≡ b
    → outcome p y ≡ put_of x n b' → y ≡ splice out 0 (a ++ b)
put_next out x y a b b' n p long fits is_x is_b e =
    let same : length x ≡ length out = ap length is_x ∙ splice-length out 0 a (omega arith) in
    put_is x b' y n p (omega (arith, ap length is_b)) e ∙ ap₂ (λ (l m : List ℕ). splice l n m) is_x is_b ∙ splice_next out a b n long

-- ---- the front

-- the copies of "PF", Pseq, Findex, Fcount and the flags, one behind another, write the front
pub front_laid : (h : Header) (out x₁ x₂ x₃ x₄ x₅ b₁ b₂ b₃ b₄ b₅ : List ℕ) (flags : ℕ) (p₁ p₂ p₃ p₄ p₅ : Answer) → 12 ≤ length out
    → b₁ ≡ bytes_of 2 sync → b₂ ≡ bytes_of 2 h.number → b₃ ≡ bytes_of 3 h.index → b₄ ≡ bytes_of 3 h.count → b₅ ≡ bytes_of 2 flags → flags ≡ flags_of h
    → outcome p₁ x₁ ≡ put_of out 0 b₁ → outcome p₂ x₂ ≡ put_of x₁ 2 b₂ → outcome p₃ x₃ ≡ put_of x₂ 4 b₃ → outcome p₄ x₄ ≡ put_of x₃ 7 b₄
    → outcome p₅ x₅ ≡ put_of x₄ 10 b₅ → x₅ ≡ splice out 0 (front_of h)
unfolding front_of bytes_of
front_laid h out x₁ x₂ x₃ x₄ x₅ b₁ b₂ b₃ b₄ b₅ flags p₁ p₂ p₃ p₄ p₅ room is-1 is-2 is-3 is-4 is-5 is-flags e₁ e₂ e₃ e₄ e₅ =
    let a₁ : List ℕ = bytes_of 2 sync in
    let a₂ : List ℕ = a₁ ++ bytes_of 2 h.number in
    let a₃ : List ℕ = a₂ ++ bytes_of 3 h.index in
    let a₄ : List ℕ = a₃ ++ bytes_of 3 h.count in
    let two : length b₁ ≡ 2 = ap length is-1 in
    let z₁ : x₁ ≡ splice out 0 a₁ = put_is out b₁ x₁ 0 p₁ (omega (arith, two)) e₁ ∙ ap (splice out 0) is-1 in
    let z₂ : x₂ ≡ splice out 0 a₂ = put_next out x₁ x₂ a₁ (bytes_of 2 h.number) b₂ 2 p₂ refl
    (omega (arith, length-bytes 2 h.number)) z₁ is-2 e₂ in
    let z₃ : x₃ ≡ splice out 0 a₃ = put_next out x₂ x₃ a₂ (bytes_of 3 h.index) b₃ 4 p₃ refl (omega (arith, length-bytes 3 h.index)) z₂ is-3 e₃ in
    let z₄ : x₄ ≡ splice out 0 a₄ = put_next out x₃ x₄ a₃ (bytes_of 3 h.count) b₄ 7 p₄ refl (omega (arith, length-bytes 3 h.count)) z₃ is-4 e₄ in
    put_next out x₄ x₅ a₄ (bytes_of 2 (flags_of h)) b₅ 10 p₅ refl (omega (arith, length-bytes 2 (flags_of h))) z₄ (is-5 ∙ ap (bytes_of 2) is-flags) e₅

-- ---- the parts that a header may have

module _ (out : List ℕ) (at : ℕ) (part : List ℕ) where
  part_none : [] ≡ part → (at ≡ at + length part) × (out ≡ splice out at part)
  part_none e = (sym (add-zero at) ∙ ap (λ (l : List ℕ). at + length l) e, splice_none out at ∙ ap (splice out at) e)

module _ (h : Header) (out : List ℕ) (at : ℕ) where
  -- with FEC the copy of RSk and RSz writes their part, and the next begins 2 bytes on
  pub fec_laid : (y : List ℕ) (p : Answer) → h.fec ≡ true → at + 2 ≤ length out → outcome p y ≡ put_of out at (h.rsk ∷ h.rsz ∷ [])
      → (at + 2 ≡ at + length (fec_part h)) × (y ≡ splice out at (fec_part h))
  unfolding fec_part
  fec_laid y p e room is_y =
      let part : h.rsk ∷ h.rsz ∷ [] ≡ fec_part h = ap (λ (b : Bool). cond b (h.rsk ∷ h.rsz ∷ []) []) (sym e) in
      (ap (λ (l : List ℕ). at + length l) part, put_is out (h.rsk ∷ h.rsz ∷ []) y at p room is_y ∙ ap (splice out at) part)

  -- without FEC the part of RSk and RSz is empty: nothing is written, and the next begins at once
  pub fec_none : h.fec ≡ false → (at ≡ at + length (fec_part h)) × (out ≡ splice out at (fec_part h))
  unfolding fec_part
  fec_none e = part_none out at (fec_part h) (ap (λ (b : Bool). cond b (h.rsk ∷ h.rsz ∷ []) []) (sym e))

module _ (a : Option Address) (out : List ℕ) (at : ℕ) where
  -- without an address its part is empty: nothing is written, and the next begins at once
  pub address_absent : a ≡ None → (at ≡ at + length (address_part a)) × (out ≡ splice out at (address_part a))
  unfolding address_part
  address_absent e = part_none out at (address_part a) (ap address_part (sym e))

  -- with an address the copies of Source and Dest write its part, and the next begins 4 bytes on
  pub address_laid : (pair : Address) (u v b d : List ℕ) (p q : Answer) → a ≡ Some pair → b ≡ bytes_of 2 pair.source → d ≡ bytes_of 2 pair.dest
      → at + 4 ≤ length out → outcome p u ≡ put_of out at b → outcome q v ≡ put_of u (at + 2) d
      → (at + 4 ≡ at + length (address_part a)) × (v ≡ splice out at (address_part a))
  unfolding address_part
  address_laid pair u v b d p q is-a is_b is-d room e f =
      let two : length b ≡ 2 = ap length is_b ∙ length-bytes 2 pair.source in
      let more : length d ≡ 2 = ap length is-d ∙ length-bytes 2 pair.dest in
      let is-u : u ≡ splice out at b = put_is out b u at p (omega arith) e in
      let same : length u ≡ length out = ap length is-u ∙ splice-length out at b (omega arith) in
      let part : b ++ d ≡ address_part a = ap₂ (λ (l m : List ℕ). l ++ m) is_b is-d ∙ ap address_part (sym is-a) in (
        omega (arith, length-append b d, ap length part),
        put_is u d v (at + 2) q (omega arith) f
            ∙ ap₂ (λ (l : List ℕ) (n : ℕ). splice l (at + n) d) is-u (sym two)
            ∙ splice-then out b d at (omega arith)
            ∙ ap (splice out at) part,
      )

-- ---- HCRC, and all of it

-- the copy of the CRC of all bytes before it writes HCRC
pub crc_laid : (out y b : List ℕ) (at word : ℕ) (p : Answer) → word ≡ word_of (take at out) → b ≡ bytes_of 2 word → at + 2 ≤ length out
    → outcome p y ≡ put_of out at b
    → y ≡ splice out at (bytes_of 2 (word_of (take at out)))
crc_laid out y b at word p is_IsWord is_b room e =
    let two : length b ≡ 2 = ap length is_b ∙ length-bytes 2 word in
    put_is out b y at p (omega arith) e ∙ ap (splice out at) (is_b ∙ ap (bytes_of 2) is_IsWord)

-- the front, RSk and RSz, the address and HCRC, written one behind another, are the header
pub header_laid : (h : Header) (out w x y v : List ℕ) (a b : ℕ) → w ≡ splice out 0 (front_of h) → a ≡ 12 + length (fec_part h)
    → x ≡ splice w 12 (fec_part h)
    → b ≡ a + length (address_part h.address) → y ≡ splice x a (address_part h.address) → v ≡ splice y b (bytes_of 2 (word_of (take b y)))
    → take (b + 2) v ≡ header_bytes h
unfolding header_bytes
header_laid h out w x y v a b is-w is-a is_x is_b is_y is-v =
    let tail : List ℕ = address_part h.address in
    let x-lies : x ≡ splice out 0 (front_of h ++ fec_part h) =
    is_x ∙ ap (λ (l : List ℕ). splice l 12 (fec_part h)) is-w ∙ splice_next out (front_of h) (fec_part h) 12 (front_length h) in
    let y-lies : y ≡ splice out 0 (body_of h) =
    is_y
    ∙ ap (λ (l : List ℕ). splice l a tail) x-lies
    ∙ splice_next out (front_of h ++ fec_part h) tail a (lead_length h ∙ sym is-a)
    ∙ ap (splice out 0) (grouped h) in
    let long : length (body_of h) ≡ b = omega (arith, body_length_lem h) in
    let whole : take b y ≡ body_of h = ap (take b) y-lies ∙ splice_start out (body_of h) b long in
    let v-lies : v ≡ splice out 0 (header_bytes h) =
    is-v
    ∙ ap₂ (λ (l m : List ℕ). splice l b (bytes_of 2 (word_of m))) y-lies whole
    ∙ splice_next out (body_of h) (bytes_of 2 (word_of (body_of h))) b long in
    ap (take (b + 2)) v-lies ∙ splice_start out (header_bytes h) (b + 2) (header_length_lem h ∙ ap (λ (n : ℕ). n + 2) long)

-- and the copy of it is the answer
pub header_put : (h : Header) (out v : List ℕ) → v ≡ header_bytes h → put_of out 0 v ≡ write_call h out
unfolding put_of put_fault write_call
header_put h out v e =
    ap (put_of out 0) e
    ∙ ap (λ (n : ℕ). settled (first ((ltb (length out) n, 1) ∷ [])) [] (splice out 0 (header_bytes h)) out) (zero-add (length (header_bytes h)))
