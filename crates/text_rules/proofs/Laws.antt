-- Laws of `laid` and `behind`: what several writers write one behind the other is one text. Assumes nothing.
use mathlib.Core.Path.{◌≡◌, sym, ap, ap₂, ◌∙◌}
use mathlib.Core.List.{List, [], ◌++◌, append_assoc}
use Prim.Native.Nat.{ℕ, ◌+◌, ◌-◌, ◌≤◌, ◌<◌}
use native.Mathlib.Nat.{min_comm, min-eq_left, min-eq_right, min-le_left, min-le_right}
use native.Mathlib.Omega.{arith}
use borrow.Author.Tests.{leb-true, leb-false}
use lib.Dec.{leb}
use lib.ListN.{length, take, drop, length-append, length-take, drop_of_length-le}
use lib.Seq.{length-take-le, take_at, drop_at, take_all, take-nil, drop-drop, drop-append-add, take-append-add, take-append-le}
use Rattle.base_rules.specs.Bytes.{splice}
use Rattle.text_rules.specs.Text.{laid, behind}
use Rattle.base_rules.proofs.Logic.{either}
use Rattle.base_rules.proofs.Splice.{splice_none, splice-length, splice_front, splice_behind}

-- a run right behind a run
splice_after : (d : List ℕ) (at : ℕ) (a b : List ℕ) → at ≤ length d → splice (splice d at a) (at + length a) b ≡ splice d at (a ++ b)
unfolding splice
splice_after d at a b h =
    let p : List ℕ = take at d ++ a in
    let q : List ℕ = drop (at + length a) d in
    let n : ℕ = at + length a in
    let long : length p ≡ n = length-append (take at d) a ∙ ap (λ (x : ℕ). x + length a) (length-take-le at d h) in
    let whole : take at d ++ (a ++ q) ≡ p ++ q = sym (append_assoc (take at d) a q) in
    let more : n + length b ≡ at + length (a ++ b) = omega (arith, length-append a b) in
    let rest : drop (n + length b) (p ++ q) ≡ drop (at + length (a ++ b)) d =
    ap (λ (x : ℕ). drop (x + length b) (p ++ q)) (sym long) ∙ drop-append-add p q (length b) ∙ drop-drop (length b) n d
    ∙ ap (λ (x : ℕ). drop x d) more in
    ap (λ (l : List ℕ). take n l ++ (b ++ drop (n + length b) l)) whole
    ∙ ap₂ (λ (x y : List ℕ). x ++ (b ++ y)) (take_at p q n long) rest
    ∙ append_assoc (take at d) a (b ++ drop (at + length (a ++ b)) d)
    ∙ ap (λ (l : List ℕ). take at d ++ l) (sym (append_assoc a b (drop (at + length (a ++ b)) d)))

-- whether n is at most m
pub whether : {P : Type 0} (n m : ℕ) → (n ≤ m → P) → (m < n → P) → P
whether n m small large = either (leb n m) (λ e. small (leb-true n m e)) (λ e. large (leb-false n m e))

-- nothing laid down
pub laid_none : (d : List ℕ) (at : ℕ) → laid d at [] ≡ d
unfolding laid
laid_none d at = ap (splice d at) (take-nil (length d - at)) ∙ sym (splice_none d at)

pub behind_none : (d : List ℕ) (at : ℕ) → behind d at [] ≡ at
unfolding behind
behind_none d at = omega (arith, min-le_left 0 (length d - at))

module _ (d : List ℕ) (at : ℕ) (t : List ℕ) where
  -- nothing is laid down from the end on,
  pub laid_past : length d ≤ at → laid d at t ≡ d
  unfolding laid
  laid_past h =
      let none : length d - at ≡ 0 = omega arith in
      ap (λ (n : ℕ). splice d at (take n t)) none ∙ sym (splice_none d at)

  -- from the end on the place behind a text is where it began
  pub behind_past : length d ≤ at → behind d at t ≡ at
  unfolding behind
  behind_past h = omega (arith, min-le_right (length t) (length d - at))

  -- all of a text that fits,
  pub laid_fits : length t ≤ length d - at → laid d at t ≡ splice d at t
  unfolding laid
  laid_fits h = ap (splice d at) (take_all (length d - at) t h)

  pub behind_fits : length t ≤ length d - at → behind d at t ≡ at + length t
  unfolding behind
  behind_fits h = ap (λ (n : ℕ). at + n) (min-eq_left h)

  -- and of any other what fits, up to the end
  pub behind_full : length d - at ≤ length t → behind d at t ≡ at + (length d - at)
  unfolding behind
  behind_full h = ap (λ (n : ℕ). at + n) (min-eq_right h)

  fitting : at ≤ length d → at + length (take (length d - at) t) ≤ length d
  fitting h = omega (arith, length-take (length d - at) t, min-le_left (length d - at) (length t))

  -- the length stays,
  pub laid_length : length (laid d at t) ≡ length d
  unfolding laid
  laid_length =
      whether at (length d)
      (λ h. splice-length d at (take (length d - at) t) (fitting h))
      (λ h. ap length (laid_past (omega arith)))

  -- what is in front of it stays, and what is behind it
  pub laid_front : take at (laid d at t) ≡ take at d
  unfolding laid
  laid_front =
      whether at (length d)
      (λ h. splice_front d at (take (length d - at) t) (fitting h))
      (λ h. ap (take at) (laid_past (omega arith)))

  -- what is behind a text that was laid down stays as it was
  pub laid_behind : drop (behind d at t) (laid d at t) ≡ drop (behind d at t) d
  unfolding laid behind
  laid_behind =
      let place : behind d at t ≡ at + length (take (length d - at) t) =
      ap (λ (n : ℕ). at + n) (min_comm (length t) (length d - at) ∙ sym (length-take (length d - at) t)) in
      whether at (length d)
      (λ h. rw place (splice_behind d at (take (length d - at) t) (fitting h)))
      (λ h. ap (drop (behind d at t)) (laid_past (omega arith)))

  -- between stands the text, as much of it as fits
  pub laid_here : drop at (take (behind d at t) (laid d at t)) ≡ take (length d - at) t
  unfolding laid behind splice
  laid_here =
      let s : List ℕ = take (length d - at) t in
      let rest : List ℕ = drop (at + length s) d in
      let head : at ≤ length d → length (take at d) ≡ at = length-take-le at d in
      let long : at ≤ length d → length (take at d ++ s) ≡ behind d at t =
      λ h. omega (arith, length-append (take at d) s, head h, length-take (length d - at) t) in
      let none : length d < at → length d - at ≡ 0 = λ h. omega arith in
      whether at (length d)
      (λ h. ap (λ (l : List ℕ). drop at (take (behind d at t) l)) (sym (append_assoc (take at d) s rest))
      ∙ ap (drop at) (take_at (take at d ++ s) rest (behind d at t) (long h))
      ∙ drop_at (take at d) s at (head h))
      (λ h. ap₂ (λ (l : List ℕ) (n : ℕ). drop at (take n l)) (laid_past (omega arith)) (behind_past (omega arith))
      ∙ drop_of_length-le (take at d) {i = at} (omega (arith, length-take at d, min-le_left at (length d)))
      ∙ sym (ap (λ (n : ℕ). take n t) (none h)))

  -- the place behind is no earlier one,
  pub behind_onward : at ≤ behind d at t
  unfolding behind
  behind_onward = omega arith

  -- and is in the buffer where the place was
  pub behind_within : at ≤ length d → behind d at t ≤ length d
  unfolding behind
  behind_within h = omega (arith, min-le_right (length t) (length d - at))

-- a text and another behind it are one text
module _ (d : List ℕ) (at : ℕ) (t u : List ℕ) where
  full : length d - at ≤ length t → laid (laid d at t) (behind d at t) u ≡ laid d at (t ++ u)
  unfolding laid
  full h =
      laid_past (laid d at t) (behind d at t) u (omega (arith, laid_length d at t, behind_full d at t h))
      ∙ sym (ap (splice d at) (take-append-le (length d - at) t u h))

  fits : at ≤ length d → length t ≤ length d - at → laid (laid d at t) (behind d at t) u ≡ laid d at (t ++ u)
  unfolding laid
  fits inside h =
      let n : ℕ = length d - at - length t in
      let same : length (splice d at t) - (at + length t) ≡ n = omega (arith, splice-length d at t (omega arith)) in
      let all : length t + n ≡ length d - at = omega arith in
      ap₂ (λ (l : List ℕ) (x : ℕ). laid l x u) (laid_fits d at t h) (behind_fits d at t h)
      ∙ ap (λ (x : ℕ). splice (splice d at t) (at + length t) (take x u)) same
      ∙ splice_after d at t (take n u) inside
      ∙ ap (splice d at) (sym (take-append-add t u n) ∙ ap (λ (x : ℕ). take x (t ++ u)) all)

  pub laid_more : laid (laid d at t) (behind d at t) u ≡ laid d at (t ++ u)
  laid_more =
      whether at (length d)
      (λ inside. whether (length t) (length d - at) (fits inside) (λ h. full (omega arith)))
      (λ outside. full (omega arith))

  pub behind_more : behind (laid d at t) (behind d at t) u ≡ behind d at (t ++ u)
  unfolding behind
  behind_more = omega (arith, laid_length d at t, length-append t u)

-- what a writer of the text t leaves: the place behind it, and the buffer
abbrev pub Lays : List ℕ → ℕ → List ℕ → ℕ → List ℕ → Type 0
Lays d at t r e = (r ≡ behind d at t) × (e ≡ laid d at t)

-- a text that is said otherwise
pub lays_same : (d : List ℕ) (at : ℕ) {t u : List ℕ} {r : ℕ} {e : List ℕ} → t ≡ u → Lays d at t r e → Lays d at u r e
lays_same d at same w = (w.0 ∙ ap (behind d at) same, w.1 ∙ ap (laid d at) same)

-- no writer, and a writer that goes on where another stopped
pub lays_none : (d : List ℕ) (at : ℕ) → Lays d at [] at d
lays_none d at = (sym (behind_none d at), sym (laid_none d at))

-- where a second writer goes on where the first stopped, the two leave both texts as one
pub lays_more : (d : List ℕ) (at : ℕ) (t u : List ℕ) {r q : ℕ} {e f : List ℕ} → Lays d at t r e → Lays e r u q f → Lays d at (t ++ u) q f
lays_more d at t u w v =
    let to = ap₂ (λ (l : List ℕ) (x : ℕ). behind l x u) w.1 w.0 ∙ behind_more d at t u in
    let text = ap₂ (λ (l : List ℕ) (x : ℕ). laid l x u) w.1 w.0 ∙ laid_more d at t u in
    (v.0 ∙ to, v.1 ∙ text)
