-- The parts of a list, of n members each. Assumes nothing.
use mathlib.Core.Path.{◌≡◌, sym, ap, ap₂, ◌∙◌, subst}
use mathlib.Core.List.{List, ◌++◌}
use Prim.Native.Nat.{ℕ, zero, suc, ◌+◌, ◌-◌, ◌*◌, ◌≤◌, ◌<◌, min}
use native.Mathlib.Nat.{not-suc-le-zero, zero-mul, suc-mul, add_comm}
use native.Mathlib.Decide.{ℕ_discrete, dec_lt}
use native.Mathlib.Omega.{arith}
use borrow.Rule.Slice.PartMut.{put_mid, Post-is}
use lib.ListN.{length, take, drop, get_or, length-append, length-take, length-drop, take-append-drop, get_or-append}
use lib.Seq.{length-take-le, take_all, take-add, ext_get_or, get_or-take, get_or-drop, get_or-append-add, drop-drop}
use Rattle.base_rules.specs.Bytes.{part_of}

-- the part j ends before the c parts do
pub part_room : (n c j : ℕ) → j < c → j * n + n ≤ c * n
part_room n zero j h = absurd (not-suc-le-zero h)
part_room n (suc c) j h = go (λ l. part_room n c j l) (ℕ_discrete j c)
  where
    one_more : suc c * n ≡ c * n + n
    one_more = suc-mul c n

    go : (j < c → j * n + n ≤ c * n) → Dec (j ≡ c) → j * n + n ≤ suc c * n
    go ih (yes e) = subst (λ i. i * n + n ≤ suc c * n) (sym e) (omega (arith, one_more))
    go ih (no e) = let r : j * n + n ≤ c * n = ih (omega arith) in omega (arith, one_more)

-- in a list that has c parts of n members, or more, each of the c has n members
pub length_part : (n c j : ℕ) (l : List ℕ) → c * n ≤ length l → j < c → length (part_of l n j) ≡ n
unfolding part_of
length_part n c j l e h = length-take-le n (drop (j * n) l) (omega (arith, length-drop (j * n) l, part_room n c j h))

-- any part has n members, or what is left
pub length_left : (l : List ℕ) (n i : ℕ) → length (part_of l n i) ≡ min n (length l - i * n)
unfolding part_of
length_left l n i = length-take n (drop (i * n) l) ∙ ap (λ (x : ℕ). min n x) (length-drop (i * n) l)

-- the member i of part j
pub part_at : (n j i : ℕ) (l : List ℕ) → i < n → get_or (part_of l n j) i 0 ≡ get_or l (j * n + i) 0
unfolding part_of
part_at n j i l h = get_or-take n (drop (j * n) l) i 0 h ∙ get_or-drop (j * n) l i 0

-- ---- a part put in the place of part j

get_or_left : (a b : List ℕ) (i : ℕ) → i < length a → get_or (a ++ b) i 0 ≡ get_or a i 0
get_or_left a b i h = get_or-append a b 0 i h

get_or_right : (a b : List ℕ) (m i : ℕ) → length a ≡ m → get_or (a ++ b) (m + i) 0 ≡ get_or b i 0
get_or_right a b m i e = ap (λ k. get_or (a ++ b) (k + i) 0) (sym e) ∙ get_or-append-add a b i 0

module _ (a n : ℕ) (l new : List ℕ) (h : a + n ≤ length l) (e : length new ≡ n) where
  la : length (take a l) ≡ a
  la = length-take-le a l (omega arith)

  length_put : length (take a l ++ (new ++ drop (a + n) l)) ≡ length l
  length_put =
      omega (arith, length-append (take a l) (new ++ drop (a + n) l), length-append new (drop (a + n) l), length-drop (a + n) l, la)

  put_before : (i : ℕ) → i < a → get_or (take a l ++ (new ++ drop (a + n) l)) i 0 ≡ get_or l i 0
  put_before i b = get_or_left (take a l) (new ++ drop (a + n) l) i (omega (arith, la)) ∙ get_or-take a l i 0 b

  put_in : (i : ℕ) → i < n → get_or (take a l ++ (new ++ drop (a + n) l)) (a + i) 0 ≡ get_or new i 0
  put_in i b = get_or_right (take a l) (new ++ drop (a + n) l) a i la ∙ get_or_left new (drop (a + n) l) i (omega arith)

  put_past : (i : ℕ) → a + n ≤ i → get_or (take a l ++ (new ++ drop (a + n) l)) i 0 ≡ get_or l i 0
  put_past i b =
      ap (λ k. get_or (take a l ++ (new ++ drop (a + n) l)) k 0) s1 ∙ get_or_right (take a l) (new ++ drop (a + n) l) a (n + (i - a - n)) la
      ∙ get_or_right new (drop (a + n) l) n (i - a - n) e ∙ get_or-drop (a + n) l (i - a - n) 0 ∙ ap (λ k. get_or l k 0) s2
    where
      s1 : i ≡ a + (n + (i - a - n))
      s1 = omega arith

      s2 : a + n + (i - a - n) ≡ i
      s2 = omega arith

module _ (n c j : ℕ) (l new : List ℕ) (lc : length l ≡ c * n) (hj : j < c) (e : length new ≡ n) where
  fits : j * n + n ≤ length l
  fits = omega (arith, part_room n c j hj)

  put : List ℕ
  put = take (j * n) l ++ (new ++ drop (j * n + n) l)

  mid : put_mid (j * n) (j * n + n - j * n) l new ≡ put
  unfolding put
  mid = ap (λ z. take (j * n) l ++ (new ++ z)) (Post-is (j * n) (j * n + n) l (omega arith))

  -- the list is as long as before
  pub length_put_mid : length (put_mid (j * n) (j * n + n - j * n) l new) ≡ length l
  unfolding put
  length_put_mid = ap length mid ∙ length_put (j * n) n l new fits e

  long : c * n ≤ length put
  unfolding put
  long = omega (arith, length_put (j * n) n l new fits e)

  -- part j is the new one
  pub part_same : part_of (put_mid (j * n) (j * n + n - j * n) l new) n j ≡ new
  unfolding put
  part_same =
      ap (λ (x : List ℕ). part_of x n j) mid ∙ ext_get_or 0 (part_of put n j) new (length_part n c j put long hj ∙ sym e)
      (λ i b. let q : i < n = omega (arith, length_part n c j put long hj) in part_at n j i put q ∙ go i q)
    where
      go : (i : ℕ) → i < n → get_or put (j * n + i) 0 ≡ get_or new i 0
      go i q = put_in (j * n) n l new fits e i q

  -- and each other is as it was
  pub part_other : (i : ℕ) → i < c → (i ≡ j → ⊥) → part_of (put_mid (j * n) (j * n + n - j * n) l new) n i ≡ part_of l n i
  unfolding put
  part_other i hi d =
      ap (λ (x : List ℕ). part_of x n i) mid
      ∙ ext_get_or 0 (part_of put n i) (part_of l n i) (length_part n c i put long hi ∙ sym (length_part n c i l (omega arith) hi))
      (λ x b. let q : x < n = omega (arith, length_part n c i put long hi) in
      part_at n i x put q ∙ go x q (dec_lt i j) ∙ sym (part_at n i x l q))
    where
      go : (x : ℕ) → x < n → Dec (i < j) → get_or put (i * n + x) 0 ≡ get_or l (i * n + x) 0
      go x q (yes b) = put_before (j * n) n l new fits e (i * n + x) (omega (arith, part_room n j i b))
      go x q (no b) = put_past (j * n) n l new fits e (i * n + x) (omega (arith, part_room n i j (omega arith)))

-- ---- as the functions have it

-- the bytes from the start of part j to its end
pub mid_part : (n j : ℕ) (l : List ℕ) → take (j * n + n - j * n) (drop (j * n) l) ≡ part_of l n j
unfolding part_of
mid_part n j l = ap (λ m. take m (drop (j * n) l)) back
  where
    back : j * n + n - j * n ≡ n
    back = omega arith

-- ---- part after part

-- part 0 is the front of the list
pub part_first : (n : ℕ) (l : List ℕ) → part_of l n 0 ≡ take n l
unfolding part_of
part_first n l = ap (λ (x : ℕ). take n (drop x l)) (zero-mul n)

-- and the parts behind it are those of the rest
pub part_next : (n j : ℕ) (l : List ℕ) → part_of (drop n l) n j ≡ part_of l n (suc j)
unfolding part_of
part_next n j l = ap (take n) (drop-drop (j * n) n l ∙ ap (λ (x : ℕ). drop x l) (add_comm n (j * n) ∙ sym (suc-mul j n)))

-- a list that is one part
pub part_whole : (n : ℕ) (l : List ℕ) → length l ≡ n → part_of l n 0 ≡ l
part_whole n l e = part_first n l ∙ take_all n l (omega arith)

-- lists with the same c parts begin with the same members,
pub parts_same : (n c : ℕ) (v w : List ℕ) → ((j : ℕ) → j < c → part_of v n j ≡ part_of w n j) → take (c * n) v ≡ take (c * n) w
unfolding part_of
parts_same n zero v w e = ap (λ (x : ℕ). take x v) (zero-mul n) ∙ sym (ap (λ (x : ℕ). take x w) (zero-mul n))
parts_same n (suc c) v w e =
    ap (λ (x : ℕ). take x v) (suc-mul c n) ∙ take-add (c * n) n v
    ∙ ap₂ (λ (a b : List ℕ). a ++ b) (parts_same n c v w (λ j (h : j < c). e j (omega arith))) (e c (omega arith))
    ∙ sym (take-add (c * n) n w) ∙ sym (ap (λ (x : ℕ). take x w) (suc-mul c n))

-- and with the same behind them they are the same
pub by_parts : (n c : ℕ) (v w : List ℕ) → ((j : ℕ) → j < c → part_of v n j ≡ part_of w n j) → drop (c * n) v ≡ drop (c * n) w → v ≡ w
by_parts n c v w h e =
    sym (take-append-drop (c * n) v) ∙ ap₂ (λ (a b : List ℕ). a ++ b) (parts_same n c v w h) e ∙ take-append-drop (c * n) w
