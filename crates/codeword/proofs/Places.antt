-- What stands at each of the 255 places of a word of k data bytes and 48 parity bytes. Assumes nothing.
use mathlib.Core.Path.{◌≡◌, sym, ap, ap₂, ◌∙◌, subst}
use mathlib.Core.List.{List, ◌++◌, append_assoc}
use Prim.Native.Nat.{ℕ, ◌+◌, ◌-◌, ◌≤◌, ◌<◌}
use native.Mathlib.Omega.{arith}
use borrow.Author.Tests.{ltb-true, ltb-false}
use lib.Dec.{ltb}
use lib.ListN.{length, take, drop, get_or, replicate, length-append, length-replicate, get_or-append, get_or-replicate}
use lib.Seq.{length-take-le, get_or-take, get_or-drop, get_or-append-add, ext_get_or}
use Rattle.base_rules.specs.Bounds.{most_k, parity}
use Rattle.base_rules.proofs.Logic.{either}
use Rattle.codeword.specs.Code.{full}

-- past a first list of m elements
past : (xs ys : List ℕ) (m n : ℕ) → length xs ≡ m → get_or (xs ++ ys) (m + n) 0 ≡ get_or ys n 0
past xs ys m n e = ap (λ k. get_or (xs ++ ys) (k + n) 0) (sym e) ∙ get_or-append-add xs ys n 0

-- within zeros
within : (n : ℕ) (ys : List ℕ) (i : ℕ) → i < n → get_or (replicate n 0 ++ ys) i 0 ≡ 0
within n ys i h = get_or-append (replicate n 0) ys 0 i (simp length-replicate h) ∙ get_or-replicate n i 0 0 h

module _ (k : ℕ) (w : List ℕ) (h : k ≤ most_k) (e : length w ≡ k + parity) where
  long : length (take k w) ≡ k
  long = length-take-le k w (omega arith)

  -- the data,
  pub full_data : (i : ℕ) → i < k → get_or (full 0 k w) i 0 ≡ get_or w i 0
  unfolding full
  full_data i l = get_or-append (take k w) _ 0 i (omega (arith, long)) ∙ get_or-take k w i 0 l

  -- the zeros between,
  pub full_gap : (i : ℕ) → k ≤ i → i < most_k → get_or (full 0 k w) i 0 ≡ 0
  unfolding full
  full_gap i l m = ap (λ n. get_or (full 0 k w) n 0) back ∙ past (take k w) _ k (i - k) long ∙ within _ (drop k w) (i - k) inside
    where
      back : i ≡ k + (i - k)
      back = omega arith

      inside : i - k < most_k - k
      inside = omega arith

  -- the parity
  pub full-parity : (i : ℕ) → get_or (full 0 k w) (most_k + i) 0 ≡ get_or w (k + i) 0
  unfolding full
  full-parity i =
      ap (λ v. get_or v (most_k + i) 0) (sym (append_assoc (take k w) (replicate (most_k - k) 0) (drop k w)))
      ∙ past (take k w ++ replicate (most_k - k) 0) (drop k w) most_k i
      (length-append (take k w) (replicate (most_k - k) 0) ∙ ap₂ ◌+◌ long (length-replicate {A = ℕ} (most_k - k) 0) ∙ omega arith)
      ∙ get_or-drop k w i 0

-- so the word can be read off its places
pub full_inj : (k : ℕ) (v w : List ℕ) → k ≤ most_k → length v ≡ k + parity → length w ≡ k + parity → full 0 k v ≡ full 0 k w → v ≡ w
full_inj k v w h ev ew q =
    ext_get_or 0 v w (ev ∙ sym ew) (λ i l. either (ltb i k) (λ t. front i (ltb-true i k t)) (λ t. behind i (ltb-false i k t)))
  where
    front : (i : ℕ) → i < k → get_or v i 0 ≡ get_or w i 0
    front i l = sym (full_data k v h ev i l) ∙ ap (λ u. get_or u i 0) q ∙ full_data k w h ew i l

    behind : (i : ℕ) → k ≤ i → get_or v i 0 ≡ get_or w i 0
    behind i l =
        let back : k + (i - k) ≡ i = omega arith in
        subst (λ n. get_or v n 0 ≡ get_or w n 0) back
        (sym (full-parity k v h ev (i - k)) ∙ ap (λ u. get_or u (most_k + (i - k)) 0) q ∙ full-parity k w h ew (i - k))
