-- Laws of `splice`. Assumes nothing.
use mathlib.Core.Path.{◌≡◌, refl, sym, ap, ap₂, ◌∙◌}
use mathlib.Core.List.{List, [], ◌∷◌, ◌++◌, append_assoc, append-nil}
use Prim.Native.Nat.{ℕ, suc, ◌+◌, ◌-◌, ◌<◌, ◌≤◌}
use native.Mathlib.Nat.{add-zero, add-sub_cancel_left, min-le_left}
use native.Mathlib.Omega.{arith}
use lib.ListN.{length, get_or, take, drop, set, length-append, length-take, length-drop, take-append-drop, drop_of_length-le}
use lib.Seq.{length-take-le, take_at, drop_at, take-length, drop-drop, drop-append-add, drop-cons, set_at}
use Rattle.base_rules.specs.Bytes.{splice}

-- nothing written
pub splice_none : (d : List ℕ) (at : ℕ) → d ≡ splice d at []
unfolding splice
splice_none d at = sym (ap (λ (k : ℕ). take at d ++ drop k d) (add-zero at) ∙ take-append-drop at d)

module _ (d : List ℕ) (at : ℕ) (s : List ℕ) (fits : at + length s ≤ length d) where
  head_length : length (take at d) ≡ at
  head_length = length-take-le at d (omega arith)

  -- the length stays,
  pub splice-length : length (splice d at s) ≡ length d
  unfolding splice
  splice-length = simp (length-append, length-drop) (omega (arith, head_length))

  -- what was in front stays,
  pub splice_front : take at (splice d at s) ≡ take at d
  unfolding splice
  splice_front = take_at (take at d) (s ++ drop (at + length s) d) at head_length

  -- what is behind stays,
  pub splice_behind : drop (at + length s) (splice d at s) ≡ drop (at + length s) d
  unfolding splice
  splice_behind =
      ap (drop (at + length s)) (sym (append_assoc (take at d) s (drop (at + length s) d)))
      ∙ drop_at (take at d ++ s) (drop (at + length s) d) (at + length s) (length-append (take at d) s ∙ ap (λ (x : ℕ). x + length s) head_length)

  -- and between stands what was written
  pub splice_here : take (length s) (drop at (splice d at s)) ≡ s
  unfolding splice
  splice_here =
      ap (take (length s)) (drop_at (take at d) (s ++ drop (at + length s) d) at head_length)
      ∙ take_at s (drop (at + length s) d) (length s) refl

-- a run right behind a run from the start
pub splice_next : (d a b : List ℕ) (n : ℕ) → length a ≡ n → splice (splice d 0 a) n b ≡ splice d 0 (a ++ b)
unfolding splice
splice_next d a b n e =
    let x : List ℕ = drop (0 + length a) d in
    let w : 0 + length a + length b ≡ 0 + length (a ++ b) = omega (arith, length-append a b) in
    let z : drop (n + length b) (a ++ x) ≡ drop (0 + length (a ++ b)) d =
    ap (λ (k : ℕ). drop (k + length b) (a ++ x)) (sym e) ∙ drop-append-add a x (length b) ∙ drop-drop (length b) (0 + length a) d
    ∙ ap (λ (k : ℕ). drop k d) w in
    ap (λ (l : List ℕ). l ++ (b ++ drop (n + length b) (a ++ x))) (take_at a x n e)
    ∙ ap (λ (l : List ℕ). a ++ (b ++ l)) z
    ∙ sym (append_assoc a b (drop (0 + length (a ++ b)) d))

-- and from anywhere
pub splice-then : (d a b : List ℕ) (at : ℕ) → at ≤ length d → splice (splice d at a) (at + length a) b ≡ splice d at (a ++ b)
unfolding splice
splice-then d a b at inside =
    let p : List ℕ = take at d ++ a in
    let x : List ℕ = drop (at + length a) d in
    let long : length p ≡ at + length a = length-append (take at d) a ∙ ap (λ (n : ℕ). n + length a) (length-take-le at d inside) in
    let more : at + length a + length b ≡ at + length (a ++ b) = omega (arith, length-append a b) in
    let tail : drop (at + length a + length b) (p ++ x) ≡ drop (at + length (a ++ b)) d =
    ap (λ (n : ℕ). drop (n + length b) (p ++ x)) (sym long)
    ∙ drop-append-add p x (length b)
    ∙ drop-drop (length b) (at + length a) d
    ∙ ap (λ (n : ℕ). drop n d) more in
    ap (λ (l : List ℕ). take (at + length a) l ++ (b ++ drop (at + length a + length b) l)) (sym (append_assoc (take at d) a x))
    ∙ ap₂ (λ (l m : List ℕ). l ++ (b ++ m)) (take_at p x (at + length a) long) tail
    ∙ append_assoc (take at d) a (b ++ drop (at + length (a ++ b)) d)
    ∙ ap (λ (l : List ℕ). take at d ++ l) (sym (append_assoc a b (drop (at + length (a ++ b)) d)))

-- one byte more
pub splice_more : (d : List ℕ) (at : ℕ) (s : List ℕ) (v : ℕ) → at + length s < length d
    → set (splice d at s) (at + length s) v ≡ splice d at (s ++ (v ∷ []))
unfolding splice
splice_more d at s v h =
    let n : ℕ = at + length s in
    let p : List ℕ = take at d ++ s in
    let long : length p ≡ n = length-append (take at d) s ∙ ap (λ (x : ℕ). x + length s) (length-take-le at d (omega arith)) in
    let longer : at + length (s ++ (v ∷ [])) ≡ suc n = omega (arith, length-append s (v ∷ [])) in
    ap (λ (l : List ℕ). set l n v) (sym (append_assoc (take at d) s (drop n d)))
    ∙ ap (λ (l : List ℕ). set (p ++ l) n v) (drop-cons d n 0 h)
    ∙ set_at p (get_or d n 0) (drop (suc n) d) v n long
    ∙ append_assoc (take at d) s (v ∷ drop (suc n) d)
    ∙ ap (λ (l : List ℕ). take at d ++ l) (sym (append_assoc s (v ∷ []) (drop (suc n) d)))
    ∙ ap (λ (x : ℕ). take at d ++ ((s ++ (v ∷ [])) ++ drop x d)) (sym longer)

-- what was written from the start
pub splice_start : (d a : List ℕ) (n : ℕ) → length a ≡ n → take n (splice d 0 a) ≡ a
unfolding splice
splice_start d a n e = take_at a (drop (0 + length a) d) n e

-- a part that was lent, filled from s and given back, is s spliced in
pub splice-lent : (d s y : List ℕ) (at : ℕ) → y ≡ take (length s) s ++ drop (length s) (take (at + length s - at) (drop at d))
    → take at d ++ (y ++ drop (at + length s - at) (drop at d)) ≡ splice d at s
unfolding splice
splice-lent d s y at e =
    let z : drop (length s) (take (length s) (drop at d)) ≡ [] =
    drop_of_length-le (take (length s) (drop at d)) {i = length s} (rw length-take (min-le_left (length s) (length (drop at d)))) in
    simp (e, add-sub_cancel_left, take-length, z, append-nil, drop-drop)
