-- The claims of specs/Claims.antt, each by citation. Assumes nothing.
use mathlib.Core.Path.{◌≡◌, refl, sym, ap}
use mathlib.Core.Bool.{Bool, true, false, cond}
use mathlib.Core.List.{List}
use Prim.Native.Nat.{ℕ, ◌+◌, ◌<◌}
use native.Mathlib.Nat.{mod-lt}
use native.Mathlib.Omega.{arith}
use lib.Dec.{lit<}
use lib.ListN.{get_or}
use Rattle.base_rules.specs.Bytes.{Bytes}
use Rattle.base_rules.proofs.ByteLaws.{bytes_at_lem}
use Rattle.base_rules.proofs.Logic.{bit_one}
use Rattle.base_rules.proofs.Numbers.{number_lt}
use Rattle.cut_rules.specs.declared.Address.{Address}
use Rattle.std.specs.Prelude.{Option, Some, None}
use Rattle.base_rules.proofs.Answers.{one_told}
use Rattle.header_rules.specs.declared.Header.{Header}
use Rattle.header_rules.specs.Read.{has_fec, has_address, address_at, address_of, fields_of, address_values, header_values, number_of, flags_at}
use Rattle.header_rules.specs.Claims.{Fitting, Written, ReadsBack, Passes, PassedSound, PayloadStands, HeaderLength, OneParsed}
use Rattle.header_rules.proofs.Checks.{Passing, passes, passing, index_from, size_from}
use Rattle.header_rules.proofs.Lays.{fec-length, body_length_lem, address-length, header_length_lem}
use Rattle.header_rules.proofs.ReadBack.{header_back, sound_passes}

-- a header that is written is read as itself, whatever stands behind it
pub reads_back : ReadsBack
reads_back h rest w = header_back h w rest

-- a sound header and Plen bytes of payload have none of 2 to 8 due where the address is accepted
pub written_passes : Passes
written_passes own h payload p long owned = sym (passes own _ (sound_passes own h payload p long owned))

-- ---- what passes is sound

fitting : (b : Bool) (x y : ℕ) → x < 65536 → y < 65536 → Fitting (cond b (Some (record { source = x; dest = y })) None)
unfolding Fitting
fitting true x y p q = (p, q)
fitting false x y p q = tt

byte_or_none : (b : Bool) (x : ℕ) → x < 256 → cond b x 0 < 256
byte_or_none true x p = p
byte_or_none false x p = lit< tt

module _ (s : List ℕ) (bytes : Bytes s) where
  fields_written : Written (fields_of s)
  unfolding fields_of address_of
  fields_written =
      record {
        number = number_lt 2 s 2 bytes;
        index = number_lt 3 s 4 bytes;
        count = number_lt 3 s 7 bytes;
        plen = mod-lt (flags_at s) (lit< tt);
        rsk = byte_or_none (has_fec s) (get_or s 12 0) (bytes_at_lem s bytes 12);
        rsz = byte_or_none (has_fec s) (get_or s 13 0) (bytes_at_lem s bytes 13);
        plain = λ (e : has_fec s ≡ false).
            (ap (λ (b : Bool). cond b (get_or s 12 0) 0) e, ap (λ (b : Bool). cond b (get_or s 13 0) 0) e);
        address = fitting (has_address s) _ _ (number_lt 2 s (address_at s) bytes) (number_lt 2 s (address_at s + 2) bytes);
      }

-- a datagram that passes the checks 2 to 8 has a sound header
pub passed_sound : PassedSound
passed_sound own s bytes e =
    let p : Passing own s = passing own s e in
    record {
      written = fields_written s bytes;
      some = p.some;
      below = (index_from (fields_of s) p.indexed).0;
      few = (index_from (fields_of s) p.indexed).1;
      fits = (size_from (fields_of s) p.placed).0;
      chunk = (size_from (fields_of s) p.placed).1;
    }

-- a datagram that passes the checks 2 to 8 is its header and Plen bytes of payload
pub payload_stands : PayloadStands
payload_stands own s e = (passing own s e).sized

-- a header has 14 bytes, two more with FEC and four more with an address
pub header_lengths : HeaderLength
header_lengths h = omega (arith, header_length_lem h, body_length_lem h, fec-length h, address-length h.address)

-- ---- no second answer

pair_one : (a b : Address) → a.source ≡ b.source → a.dest ≡ b.dest → a ≡ b
pair_one a b source dest = grind arith

address_one : (a b : Option Address) → address_values a ≡ address_values b → a ≡ b
unfolding address_values
address_one None None e = refl
address_one None (Some b) e = cc
address_one (Some a) None e = cc
address_one (Some a) (Some b) e =
    let source : a.source ≡ b.source = cc in
    let dest : a.dest ≡ b.dest = cc in
    ap Some (pair_one a b source dest)

made : ℕ → ℕ → ℕ → Bool → ℕ → ℕ → Option Address → ℕ → Header
made number index count fec rsk rsz address plen =
    record { number = number; index = index; count = count; fec = fec; rsk = rsk; rsz = rsz; address = address; plen = plen }

header_one : (h g : Header) → h.number ≡ g.number → h.index ≡ g.index → h.count ≡ g.count → h.fec ≡ g.fec → h.rsk ≡ g.rsk → h.rsz ≡ g.rsz
    → h.address ≡ g.address → h.plen ≡ g.plen
    → made h.number h.index h.count h.fec h.rsk h.rsz h.address h.plen
    ≡ made g.number g.index g.count g.fec g.rsk g.rsz g.address g.plen
header_one h g e₁ e₂ e₃ e₄ e₅ e₆ e₇ e₈ = cc

one_header : (h g : Header) → header_values h ≡ header_values g → h ≡ g
unfolding header_values made
one_header h g e =
    header_one h g (cc) (cc) (cc) (bit_one h.fec g.fec (cc)) (cc) (cc) (address_one h.address g.address (cc)) (cc)

pub one_parsed : OneParsed
unfolding number_of
one_parsed a b e = one_told header_values one_header a b e
