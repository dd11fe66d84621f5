-- What is told of a header, figure by figure. Assumes nothing.
use mathlib.Core.Path.{◌≡◌, refl}
use mathlib.Core.List.{List, [], ◌∷◌, ◌++◌}
use Prim.Native.Nat.{ℕ, ◌+◌}
use native.Mathlib.Omega.{arith}
use lib.ListN.{length, get_or}
use Rattle.std.specs.Prelude.{Option, Some, None}
use Rattle.base_rules.specs.Tests.{bit}
use Rattle.cut_rules.specs.declared.Address.{Address}
use Rattle.header_rules.specs.declared.Header.{Header}
use Rattle.header_rules.specs.Read.{parsed_of}
use Rattle.header_rules.proofs.Numbers.{told_by_lem}
use Rattle.card_rules.specs.Headers.{address_told, payload_at, header_told, header_widths, parse_for}
use Rattle.card_rules.specs.inner.Parsed.{parsed_told}

three : (a : Option Address) (rest : List ℕ) → get_or (address_told a) 0 0 ∷ get_or (address_told a) 1 0 ∷ get_or (address_told a) 2 0 ∷ rest
    ≡ address_told a ++ rest
unfolding address_told
three None rest = refl
three (Some a) rest = refl

three_long : (a : Option Address) (rest : List ℕ) → length (address_told a ++ rest) ≡ 3 + length rest
unfolding address_told
three_long None rest = omega arith
three_long (Some a) rest = omega arith

behind_three : (a : Option Address) (x y : ℕ) → (get_or (address_told a ++ (x ∷ y ∷ [])) 3 0 ≡ x) × (get_or (address_told a ++ (x ∷ y ∷ [])) 4 0 ≡ y)
unfolding address_told
behind_three None x y = (refl, refl)
behind_three (Some a) x y = (refl, refl)

-- what is told of a header is as many figures as there are widths
pub eleven_long : (h : Header) → length (header_told h) ≡ length header_widths
unfolding header_told
eleven_long h = omega (arith, three_long h.address (h.plen ∷ payload_at h ∷ []))

-- the flag, the address and the length, each worked out apart, with the fields are what is told of a header
pub eleven : (h : Header) {fec n : ℕ} {a : List ℕ} → fec ≡ bit h.fec → a ≡ address_told h.address → n ≡ payload_at h
    → h.number ∷ h.index ∷ h.count ∷ fec ∷ h.rsk ∷ h.rsz ∷ get_or a 0 0 ∷ get_or a 1 0 ∷ get_or a 2 0 ∷ h.plen ∷ n ∷ [] ≡ header_told h
unfolding header_told
eleven h is-fec is-a is_n =
    rw (is-fec, is-a, is_n, three h.address (h.plen ∷ payload_at h ∷ []))

-- the last two figures are Plen and the header's length
pub last-two : (h : Header) → (get_or (header_told h) 9 0 ≡ h.plen) × (get_or (header_told h) 10 0 ≡ payload_at h)
unfolding header_told
last-two h = behind_three h.address h.plen (payload_at h)

-- what is told of the parser's answer, by the header's fault
pub parsed_told_lem : (own : Option Address) (s : List ℕ) → parsed_told (parsed_of own s) ≡ parse_for own s
unfolding parse_for parsed_told
parsed_told_lem own s = told_by_lem own s header_told
