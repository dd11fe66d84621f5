-- Laws of trimming: the unused bits of a value's last byte. Assumes nothing.
use mathlib.Core.Path.{◌≡◌, ap, ◌∙◌}
use mathlib.Core.List.{List, [], ◌∷◌}
use Prim.Native.Nat.{ℕ, ◌-◌, ◌*◌, ◌/◌, ◌%◌}
use native.Mathlib.Nat.{div-add-mod, mul-mod_right}
use native.Mathlib.Omega.{arith}
use lib.ListN.{length, get_or, set, length-set}
use lib.Seq.{get_or-set_same, set-get_or}
use Rattle.base_rules.specs.Round.{ceil}
use Rattle.item_rules.specs.Item.{bytes_for, unused_of}
use Rattle.write_rules.specs.Write.{trimmed_by, trimmed}

-- a number brought down to a multiple of p is one
down : (p b : ℕ) → (b - b % p) % p ≡ 0
down p b =
    let e : b - b % p ≡ p * (b / p) = omega (arith, div-add-mod b p) in
    ap (λ (x : ℕ). x % p) e ∙ mul-mod_right p (b / p)

-- a trimmed value is as long as it was
pub length-trimmed : (bits : ℕ) (v : List ℕ) → length (trimmed bits v) ≡ length v
unfolding trimmed trimmed_by
length-trimmed bits v = length-set v _ _

-- the last byte of a trimmed value
trimmed-last : (p : ℕ) (v : List ℕ) → get_or (trimmed_by p v) (length (trimmed_by p v) - 1) 0 ≡ get_or v (length v - 1) 0 - get_or v (length v - 1) 0 % p
unfolding trimmed_by
trimmed-last p [] = omega arith
trimmed-last p (x ∷ v) =
    let i : ℕ = length (x ∷ v) - 1 in
    let a : ℕ = get_or (x ∷ v) i 0 - get_or (x ∷ v) i 0 % p in
    ap (λ (n : ℕ). get_or (set (x ∷ v) i a) (n - 1) 0) (length-set (x ∷ v) i a) ∙ get_or-set_same (x ∷ v) i a 0 (omega arith)

-- the last byte of a value that is trimmed by p is a multiple of p
pub last_down : (p : ℕ) (v : List ℕ) → get_or (trimmed_by p v) (length (trimmed_by p v) - 1) 0 % p ≡ 0
last_down p v = ap (λ (x : ℕ). x % p) (trimmed-last p v) ∙ down p (get_or v (length v - 1) 0)

-- a value whose last byte is such a multiple stays as it is
pub stays : (p : ℕ) (v : List ℕ) → get_or v (length v - 1) 0 % p ≡ 0 → trimmed_by p v ≡ v
unfolding trimmed_by
stays p v e =
    let b : ℕ = get_or v (length v - 1) 0 in
    let same : b - b % p ≡ b = omega (arith, e) in
    ap (set v (length v - 1)) same ∙ set-get_or v (length v - 1) 0

-- a value of whole bytes has no unused bits
pub unused_none : (bits : ℕ) → bits % 8 ≡ 0 → unused_of bits ≡ 0
unfolding unused_of bytes_for ceil
unused_none bits e = omega (arith, e)
