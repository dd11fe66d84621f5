-- Laws of big-endian numbers, once over the width. Assumes nothing.
use mathlib.Core.Path.{◌≡◌, refl, sym, ap, ap₂, ◌∙◌}
use mathlib.Core.List.{List, [], ◌∷◌, ◌++◌, append_assoc}
use Prim.Native.Nat.{ℕ, zero, suc, ◌+◌, ◌*◌, ◌/◌, ◌%◌, ◌^◌, ◌<◌, ◌≤◌}
use native.Mathlib.Nat.{add-zero, zero-add, div-lt_iff_lt-mul, pow-suc}
use native.Mathlib.Omega.{arith}
use lib.Arith.{digits_div, digits_mod}
use lib.Dec.{lit<}
use lib.ListN.{length, get_or, take, drop, length-append, length-drop, get_or-eq_default}
use lib.Seq.{get_or_at, get_or-drop, take-suc, drop-drop}
use Rattle.base_rules.specs.Bytes.{Bytes, number_at, bytes_of}
use Rattle.base_rules.proofs.ByteLaws.{bytes_at_lem}

-- past the end there are zeros
pub number_past : (w : ℕ) (s : List ℕ) (i : ℕ) → length s ≤ i → 0 ≡ number_at w s i
unfolding number_at
number_past zero s i h = refl
number_past (suc w) s i h = omega (arith, number_past w s i h, get_or-eq_default s 0 {n = i + w} (omega arith))

-- a number of one byte, and of one byte more
pub number_one : (s : List ℕ) (i : ℕ) {x : ℕ} → x ≡ get_or s i 0 → x ≡ number_at 1 s i
unfolding number_at
number_one s i e = e ∙ ap (λ (k : ℕ). get_or s k 0) (sym (add-zero i)) ∙ sym (zero-add (get_or s (i + 0) 0))

-- 256 times the number in w bytes, plus the byte behind them, is the number in w + 1 bytes
pub number_more : (w : ℕ) (s : List ℕ) (i : ℕ) {x y : ℕ} → x ≡ number_at w s i → y ≡ get_or s (i + w) 0 → x * 256 + y ≡ number_at (suc w) s i
unfolding number_at
number_more w s i p q = ap₂ (λ (a b : ℕ). a * 256 + b) p q

-- w bytes hold a number below 256^w
pub number_lt : (w : ℕ) (s : List ℕ) (i : ℕ) → Bytes s → number_at w s i < 256 ^ w
unfolding number_at
number_lt zero s i h = lit< tt
number_lt (suc w) s i h = omega (arith, number_lt w s i h, bytes_at_lem s h (i + w), pow-suc 256 w)

-- the part from i on, read from its start
pub number_drop : (w : ℕ) (s : List ℕ) (i : ℕ) → number_at w (drop i s) 0 ≡ number_at w s i
unfolding number_at
number_drop zero s i = refl
number_drop (suc w) s i =
    ap₂ (λ (a b : ℕ). a * 256 + b) (number_drop w s i) (get_or-drop i s (0 + w) 0 ∙ ap (λ (k : ℕ). get_or s (i + k) 0) (zero-add w))

-- w bytes are w bytes
pub length-bytes : (w x : ℕ) → length (bytes_of w x) ≡ w
unfolding bytes_of
length-bytes zero x = refl
length-bytes (suc w) x = length-append (bytes_of w (x / 256)) (x % 256 ∷ []) ∙ omega (arith, length-bytes w (x / 256))

-- one byte more behind the bytes of the number without it
pub bytes_more : (w x : ℕ) {s : List ℕ} {b : ℕ} → s ≡ bytes_of w (x / 256) → b ≡ x % 256 → s ++ (b ∷ []) ≡ bytes_of (suc w) x
unfolding bytes_of
bytes_more w x e q = ap₂ (λ (l : List ℕ) (y : ℕ). l ++ (y ∷ [])) e q

-- no bytes
pub bytes_none : (x : ℕ) → [] ≡ bytes_of 0 x
unfolding bytes_of
bytes_none x = refl

-- a number that was written is read back, whatever follows it,
pub number_back : (w x : ℕ) (rest : List ℕ) → x < 256 ^ w → number_at w (bytes_of w x ++ rest) 0 ≡ x
unfolding number_at bytes_of
number_back zero x rest h = omega arith
number_back (suc w) x rest h =
    let low : x / 256 < 256 ^ w = (div-lt_iff_lt-mul (lit< tt)).1 (omega (arith, pow-suc 256 w)) in
    let more : List ℕ = x % 256 ∷ rest in
    let front : number_at w (bytes_of w (x / 256) ++ more) 0 ≡ x / 256 = number_back w (x / 256) more low in
    let here : get_or (bytes_of w (x / 256) ++ more) (0 + w) 0 ≡ x % 256 =
    ap (λ (k : ℕ). get_or (bytes_of w (x / 256) ++ more) k 0) (zero-add w)
    ∙ get_or_at (bytes_of w (x / 256)) (x % 256) rest 0 w (length-bytes w (x / 256)) in
    rw (append_assoc (bytes_of w (x / 256)) (x % 256 ∷ []) rest) (omega (arith, front, here))

-- and it is read back where it stands in a list
pub back_at : (w x i : ℕ) (s rest : List ℕ) → drop i s ≡ bytes_of w x ++ rest → x < 256 ^ w → number_at w s i ≡ x
back_at w x i s rest e h = sym (number_drop w s i) ∙ ap (λ (l : List ℕ). number_at w l 0) e ∙ number_back w x rest h

-- a number in a part of a list
pub number_from_lem : (w : ℕ) (s : List ℕ) (i j : ℕ) → number_at w (drop i s) j ≡ number_at w s (i + j)
number_from_lem w s i j = sym (number_drop w (drop i s) j) ∙ ap (λ (l : List ℕ). number_at w l 0) (drop-drop j i s) ∙ number_drop w s (i + j)

-- and bytes that were read are written back
pub bytes_back : (w : ℕ) (s : List ℕ) (i : ℕ) → Bytes s → i + w ≤ length s → bytes_of w (number_at w s i) ≡ take w (drop i s)
unfolding number_at bytes_of
bytes_back zero s i h fits = refl
bytes_back (suc w) s i h fits =
    let a : ℕ = number_at w s i in
    let b : ℕ = get_or s (i + w) 0 in
    let high : (a * 256 + b) / 256 ≡ a = digits_div a (bytes_at_lem s h (i + w)) in
    let low : (a * 256 + b) % 256 ≡ b = digits_mod a (bytes_at_lem s h (i + w)) in
    ap₂ (λ (x y : ℕ). bytes_of w x ++ (y ∷ [])) high low
    ∙ ap₂ (λ (x : List ℕ) (y : ℕ). x ++ (y ∷ [])) (bytes_back w s i h (omega arith)) (sym (get_or-drop i s w 0))
    ∙ sym (take-suc (drop i s) w 0 (rw length-drop (omega arith)))
