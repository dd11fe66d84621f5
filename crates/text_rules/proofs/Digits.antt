-- Laws of digits: a number with ten times its value and one digit more, and reading digits back. Assumes nothing.
use mathlib.Core.Path.{◌≡◌, refl, sym, ap, ap₂, ◌∙◌}
use mathlib.Core.List.{List, [], ◌∷◌, ◌++◌}
use Prim.Native.Nat.{ℕ, zero, suc, ◌+◌, ◌-◌, ◌*◌, ◌/◌, ◌%◌, ◌≤◌, ◌<◌}
use native.Mathlib.Nat.{mod-lt, div-add-mod', not-suc-le-zero}
use native.Mathlib.Numerals.{add-one}
use native.Mathlib.Omega.{arith}
use borrow.Author.Tests.{lt-ltb, le-ltb}
use lib.Dec.{lit<}
use lib.ListN.{length, get_or, take, length-append, get_or-append}
use lib.Seq.{take-suc}
use Rattle.text_rules.specs.Text.{letter_of, digits_of, decimal_of, hex_of}
use Rattle.text_rules.specs.Claims.{number_from, digit_in, from_hex}
use Rattle.text_rules.proofs.Laws.{whether}

-- the two kinds of letters
pub letter_low : {x : ℕ} → x < 10 → letter_of x ≡ 48 + x
unfolding letter_of
letter_low {x} h = simp (lt-ltb x 10 h)

-- from 10 on a digit is a letter, beginning with `a`
pub letter_high : {x : ℕ} → 10 ≤ x → letter_of x ≡ 87 + x
unfolding letter_of
letter_high {x} h = simp (le-ltb x 10 h)

-- a number of one digit, and of more
few_one : (n x : ℕ) → x < 10 → digits_of (suc n) x ≡ letter_of x ∷ []
unfolding digits_of
few_one n x h = simp (lt-ltb x 10 h)

few_more : (n x : ℕ) → 10 ≤ x → digits_of (suc n) x ≡ digits_of n (x / 10) ++ (letter_of (x % 10) ∷ [])
unfolding digits_of
few_more n x h = simp (le-ltb x 10 h)

-- how many digits are asked for does not matter, if they are enough
enough : (n m x : ℕ) → x < n → x < m → digits_of n x ≡ digits_of m x
enough zero m x h k = absurd (not-suc-le-zero h)
enough (suc n) zero x h k = absurd (not-suc-le-zero k)
enough (suc n) (suc m) x h k =
    whether 10 x
    (λ more.
    few_more n x more
    ∙ ap (λ (l : List ℕ). l ++ (letter_of (x % 10) ∷ [])) (enough n m (x / 10) (omega arith) (omega arith))
    ∙ sym (few_more m x more))
    (λ one. few_one n x one ∙ sym (few_one m x one))

-- a number below 10 is written as one digit
pub decimal_one : (x : ℕ) → x < 10 → decimal_of x ≡ letter_of x ∷ []
unfolding decimal_of
decimal_one x h = few_one x x h

-- a number of 10 or more is written as the digits of its tenth, and then its last digit
pub decimal_more : (x : ℕ) → 10 ≤ x → decimal_of x ≡ decimal_of (x / 10) ++ (letter_of (x % 10) ∷ [])
unfolding decimal_of
decimal_more x h =
    few_more x x h ∙ ap (λ (l : List ℕ). l ++ (letter_of (x % 10) ∷ [])) (enough x (suc (x / 10)) (x / 10) (omega arith) (omega arith))

-- what holds of the numbers below 10, and of each other if of its tenth, holds of all
pub by_tenths : (P : ℕ → Type 0) → ((x : ℕ) → x < 10 → P x) → ((x : ℕ) → 10 ≤ x → P (x / 10) → P x) → (x : ℕ) → P x
by_tenths P one more x = go (suc x) x (omega arith)
  where
    go : (n x : ℕ) → x < n → P x
    go zero x h = absurd (not-suc-le-zero h)
    go (suc n) x h = whether 10 x (λ m. more x m (go n (x / 10) (omega arith))) (λ o. one x o)

-- reading on behind a text
number_on : (x : ℕ) (t u : List ℕ) → number_from x (t ++ u) ≡ number_from (number_from x t) u
unfolding number_from
number_on x [] u = refl
number_on x (a ∷ t) u = number_on (x * 10 + (a - 48)) t u

number_one : (x y : ℕ) → y < 10 → number_from x (letter_of y ∷ []) ≡ x * 10 + y
unfolding number_from
number_one x y h = omega (arith, letter_low h)

-- the decimal digits of a number are read back as that number
pub decimal_back : (x : ℕ) → number_from 0 (decimal_of x) ≡ x
decimal_back =
    by_tenths (λ x. number_from 0 (decimal_of x) ≡ x)
    (λ x h. ap (number_from 0) (decimal_one x h) ∙ number_one 0 x h ∙ omega arith)
    (λ x h ih.
    ap (number_from 0) (decimal_more x h)
    ∙ number_on 0 (decimal_of (x / 10)) (letter_of (x % 10) ∷ [])
    ∙ ap (λ (y : ℕ). number_from y (letter_of (x % 10) ∷ [])) ih
    ∙ number_one (x / 10) (x % 10) (mod-lt x (lit< tt))
    ∙ div-add-mod' x 10)

-- each number has a digit, and each but 0 another than `0` in front
some : (x : ℕ) → 0 < length (decimal_of x)
some =
    by_tenths (λ x. 0 < length (decimal_of x))
    (λ x h. rw (decimal_one x h) (lit< tt))
    (λ x h ih. omega (arith, ap length (decimal_more x h), length-append (decimal_of (x / 10)) (letter_of (x % 10) ∷ [])))

-- no number above 0 is written with a `0` in front
pub decimal_front : (x : ℕ) → 0 < x → 48 < get_or (decimal_of x) 0 0
decimal_front =
    by_tenths (λ x. 0 < x → 48 < get_or (decimal_of x) 0 0)
    (λ x h pos. rw (decimal_one x h) (omega (arith, letter_low h)))
    (λ x h ih pos.
    let tail : List ℕ = letter_of (x % 10) ∷ [] in
    rw (decimal_more x h) (rw (get_or-append (decimal_of (x / 10)) tail 0 0 (some (x / 10))) (ih (omega arith))))

-- a letter is read back, and so are bytes
digit_back : (x : ℕ) → digit_in (letter_of x) ≡ x
unfolding digit_in
digit_back x =
    whether 10 x
    (λ h. let e : letter_of x ≡ 87 + x = letter_high h in rw e (simp (le-ltb (87 + x) 97 (omega arith)) (omega arith)))
    (λ h. let e : letter_of x ≡ 48 + x = letter_low h in rw e (simp (lt-ltb (48 + x) 97 (omega arith)) (omega arith)))

-- bytes in hex are read back as those bytes
pub hex_back : (s : List ℕ) → from_hex (hex_of s) ≡ s
unfolding from_hex hex_of
hex_back [] = refl
hex_back (b ∷ s) =
    ap₂ (λ (x : ℕ) (l : List ℕ). x ∷ l) (omega (arith, digit_back (b / 16), digit_back (b % 16), div-add-mod' b 16)) (hex_back s)

-- the bytes one behind the other
pub hex-append : (s t : List ℕ) → hex_of (s ++ t) ≡ hex_of s ++ hex_of t
unfolding hex_of
hex-append [] t = refl
hex-append (b ∷ s) t = ap (λ (l : List ℕ). letter_of (b / 16) ∷ letter_of (b % 16) ∷ l) (hex-append s t)

-- no bytes, and one byte more
pub hex_none : [] ≡ hex_of []
unfolding hex_of
hex_none = refl

-- the first i bytes in hex, and byte i behind them, are the first i + 1 in hex
pub hex_next : (s : List ℕ) (i : ℕ) → i < length s → hex_of (take i s) ++ hex_of (get_or s i 0 ∷ []) ≡ hex_of (take (i + 1) s)
hex_next s i h =
    sym (hex-append (take i s) (get_or s i 0 ∷ []))
    ∙ ap hex_of (sym (take-suc s i 0 h) ∙ ap (λ (n : ℕ). take n s) (sym (add-one i)))
