-- The loops over a mask. Assumes nothing.
use mathlib.Core.Path.{◌≡◌, refl, sym, ap, ap₂, ◌∙◌}
use mathlib.Core.Bool.{Bool, true, false, not, cond}
use mathlib.Core.List.{List, [], ◌∷◌, ◌++◌, append_assoc}
use Prim.Native.Nat.{ℕ, zero, suc, ◌+◌, ◌-◌, ◌≤◌, ◌<◌, min}
use native.Mathlib.Nat.{not-suc-le-zero, le_of_suc-le-suc, add-zero}
use native.Mathlib.Numerals.{add-one}
use native.Mathlib.Decide.{dec_le}
use native.Mathlib.Omega.{arith}
use borrow.Author.Tests.{eq-eqb, ne_eqb}
use lib.Dec.{eqb}
use lib.ListN.{length, take, drop, get_or, set, length-set, length-drop, drop_of_length-le, replicate, take-append-drop}
use lib.Seq.{drop-cons, take-suc-set, take-suc, get_or-drop, drop-drop, drop-set-lt}
use Rattle.field_rules.specs.Field.{alpha}
use Rattle.codeword.specs.Erasure.{marks, erase, count, fill, locators}
use Rattle.codeword.proofs.Erasure.{length-erase}
use Rattle.codeword.proofs.Vandermonde.{get_or-table}
use Rattle.code_rules.specs.inner.Solving.{lanes_of}
use Rattle.code_rules.proofs.LaneLaws.{length-table}
use Rattle.code_rules.proofs.LoopLaws.{Upto, upto_start, upto_more}
use Rattle.code_rules.proofs.RowLaws.{upto_rest, past_end, zeros_at}

-- a mark for each byte
pub length-marks : (l : List ℕ) → length (marks l) ≡ length l
unfolding marks
length-marks [] = refl
length-marks (b ∷ l) = ap suc (length-marks l)

module _ (mask : List ℕ) (i : ℕ) (h : i < length mask) where
  marks_at : marks (drop i mask) ≡ not (eqb (get_or mask i 0) 0) ∷ marks (drop (i + 1) mask)
  unfolding marks
  marks_at = ap marks (drop-cons mask i 0 h) ∙ ap (λ n. not (eqb (get_or mask i 0) 0) ∷ marks (drop n mask)) (sym (add-one i))

  marked : (get_or mask i 0 ≡ 0 → ⊥) → marks (drop i mask) ≡ true ∷ marks (drop (i + 1) mask)
  marked n = marks_at ∙ ap (λ b. not b ∷ marks (drop (i + 1) mask)) (ne_eqb (get_or mask i 0) 0 n)

  unmarked : get_or mask i 0 ≡ 0 → marks (drop i mask) ≡ false ∷ marks (drop (i + 1) mask)
  unmarked e = marks_at ∙ ap (λ b. not b ∷ marks (drop (i + 1) mask)) (eq-eqb (get_or mask i 0) 0 e)

  -- a missing byte counts
  pub count_marked : (get_or mask i 0 ≡ 0 → ⊥) → count (marks (drop i mask)) ≡ suc (count (marks (drop (i + 1) mask)))
  unfolding count
  count_marked n = ap count (marked n)

  -- a byte that is there does not
  pub count_unmarked : get_or mask i 0 ≡ 0 → count (marks (drop i mask)) ≡ count (marks (drop (i + 1) mask))
  unfolding count
  count_unmarked e = ap count (unmarked e)

  length_rest : length (marks (drop (i + 1) mask)) ≡ length mask - 1 - i
  length_rest = length-marks (drop (i + 1) mask) ∙ omega (arith, length-drop (i + 1) mask)

  locators_marked : (get_or mask i 0 ≡ 0 → ⊥)
      → locators (marks (drop i mask)) ≡ alpha (length mask - 1 - i) ∷ locators (marks (drop (i + 1) mask))
  unfolding locators
  locators_marked n = ap locators (marked n) ∙ ap (λ n. alpha n ∷ locators (marks (drop (i + 1) mask))) length_rest

  locators_unmarked : get_or mask i 0 ≡ 0 → locators (marks (drop i mask)) ≡ locators (marks (drop (i + 1) mask))
  unfolding locators
  locators_unmarked e = ap locators (unmarked e)

-- none behind the end
pub count_end : (mask : List ℕ) (i : ℕ) → length mask ≤ i → count (marks (drop i mask)) ≡ 0
unfolding count marks
count_end mask i h = ap (λ l. count (marks l)) (drop_of_length-le mask {i = i} h)

-- ---- the locators that are written, and those to come

-- the first e of 48 places have the first e locators, and 0 is behind them; while there is room, those of the rest of the mask are to come
pub record Located (mask : List ℕ) (i e : ℕ) (xs : List ℕ) : Type 0 where
  pub most : e ≤ 48
  pub front : Upto (lanes_of (locators (marks mask))) (replicate 48 0) e xs
  pub next : e < 48 → drop e (locators (marks mask)) ≡ locators (marks (drop i mask))

-- none yet
pub located_start : (mask : List ℕ) → Located mask 0 0 (replicate 48 0)
located_start mask = record { most = omega arith; front = upto_start _ _; next = λ h. refl }

lanes_at : (l : List ℕ) (i : ℕ) → i < 48 → get_or (lanes_of l) i 0 ≡ get_or l i 0
unfolding lanes_of
lanes_at l i h = get_or-table 48 (λ j. get_or l j 0) i h

length_lanes : (l : List ℕ) → length (lanes_of l) ≡ 48
unfolding lanes_of
length_lanes l = length-table 48 (λ j. get_or l j 0)

module _ (mask : List ℕ) (i e : ℕ) (xs : List ℕ) (h : i < length mask) (l : Located mask i e xs) where
  -- a byte that is there
  pub located_skip : get_or mask i 0 ≡ 0 → Located mask (i + 1) e xs
  located_skip z = record { most = l.most; front = l.front; next = λ b. l.next b ∙ locators_unmarked mask i h z }

  -- a missing byte, and no room
  pub located_over : 48 ≤ e → Located mask (i + 1) e xs
  located_over o = record { most = l.most; front = l.front; next = λ b. absurd (omega arith) }

  -- a missing byte, and room
  pub located_more : (get_or mask i 0 ≡ 0 → ⊥) → e < 48 → (v : ℕ) → v ≡ alpha (length mask - 1 - i) → Located mask (i + 1) (e + 1) (set xs e v)
  located_more n b v q =
      record {
        most = omega arith;
        front = upto_more (lanes_of (locators (marks mask))) (replicate 48 0) e xs v l.front b (q ∙ sym at);
        next = λ b'. sym (drop-drop 1 e (locators (marks mask))) ∙ ap (drop 1) both;
      }
    where
      both : drop e (locators (marks mask)) ≡ alpha (length mask - 1 - i) ∷ locators (marks (drop (i + 1) mask))
      both = l.next b ∙ locators_marked mask i h n

      at : get_or (lanes_of (locators (marks mask))) e 0 ≡ alpha (length mask - 1 - i)
      at =
          lanes_at (locators (marks mask)) e b ∙ ap (λ n. get_or (locators (marks mask)) n 0) (sym (add-zero e))
          ∙ sym (get_or-drop e (locators (marks mask)) 0 0) ∙ ap (λ t. get_or t 0 0) both

-- the whole mask
pub located_end : (mask : List ℕ) (i e : ℕ) (xs : List ℕ) → length mask ≤ i → Located mask i e xs → xs ≡ lanes_of (locators (marks mask))
unfolding locators marks
located_end mask i e xs h l =
    upto_rest (lanes_of (locators (marks mask))) (replicate 48 0) e xs l.front (length_lanes (locators (marks mask)))
    (λ j b k. zeros_at 48 j ∙ sym (lanes_at (locators (marks mask)) j k ∙ past_end (locators (marks mask)) j (over j b k)))
  where
    over : (j : ℕ) → e ≤ j → j < 48 → length (locators (marks mask)) ≤ j
    over j b k =
        let none = l.next (omega arith) ∙ ap (λ r. locators (marks r)) (drop_of_length-le mask {i = i} h) in
        omega (arith, length-drop e (locators (marks mask)), ap length none)

-- ---- the values that are put in, and those to come

-- the first i places are done, with k values
pub record Filled (mask vs old : List ℕ) (i k : ℕ) (w : List ℕ) : Type 0 where
  pub same : length w ≡ length old
  pub past : drop i w ≡ drop i old
  pub both : take i w ++ fill (marks (drop i mask)) (drop i old) (drop k vs) ≡ fill (marks mask) old vs

-- none yet
pub filled_start : (mask vs old : List ℕ) → Filled mask vs old 0 0 old
filled_start mask vs old = record { same = refl; past = refl; both = refl }

module _ (mask vs old : List ℕ) (i k : ℕ) (w : List ℕ) (h : i < length mask) (room : i < length old) (f : Filled mask vs old i k w) where
  filled_past : (l : List ℕ) → drop i l ≡ drop i old → drop (i + 1) l ≡ drop (i + 1) old
  filled_past l e = sym (drop-drop 1 i l) ∙ ap (drop 1) e ∙ drop-drop 1 i old

  at_i : get_or w i 0 ≡ get_or old i 0
  at_i =
      ap (λ n. get_or w n 0) (sym (add-zero i)) ∙ sym (get_or-drop i w 0 0) ∙ ap (λ l. get_or l 0 0) f.past ∙ get_or-drop i old 0 0
      ∙ ap (λ n. get_or old n 0) (add-zero i)

  old_at : drop i old ≡ get_or old i 0 ∷ drop (i + 1) old
  old_at = drop-cons old i 0 room ∙ ap (λ n. get_or old i 0 ∷ drop n old) (sym (add-one i))

  -- a byte that is there
  pub filled_skip : get_or mask i 0 ≡ 0 → Filled mask vs old (i + 1) k w
  unfolding fill
  filled_skip z =
      record {
        same = f.same;
        past = filled_past w f.past;
        both =
            ap (λ n. take n w ++ fill (marks (drop (i + 1) mask)) (drop (i + 1) old) (drop k vs)) (add-one i)
            ∙ ap (λ t. t ++ fill (marks (drop (i + 1) mask)) (drop (i + 1) old) (drop k vs)) (take-suc w i 0 (omega (arith, f.same)))
            ∙ append_assoc (take i w) (get_or w i 0 ∷ []) (fill (marks (drop (i + 1) mask)) (drop (i + 1) old) (drop k vs))
            ∙ ap (λ c. take i w ++ (c ∷ fill (marks (drop (i + 1) mask)) (drop (i + 1) old) (drop k vs))) at_i
            ∙ ap₂ (λ m o. take i w ++ fill m o (drop k vs)) (sym (unmarked mask i h z)) (sym old_at) ∙ f.both;
      }

  -- a missing byte
  pub filled_more : (get_or mask i 0 ≡ 0 → ⊥) → (v : ℕ) → v ≡ get_or vs k 0 → Filled mask vs old (i + 1) (k + 1) (set w i v)
  unfolding fill
  filled_more n v q =
      record {
        same = length-set w i v ∙ f.same;
        past = drop-set-lt (i + 1) w i v (omega arith) ∙ filled_past w f.past;
        both =
            ap (λ n. take n (set w i v) ++ fill (marks (drop (i + 1) mask)) (drop (i + 1) old) (drop (k + 1) vs)) (add-one i)
            ∙ ap (λ t. t ++ fill (marks (drop (i + 1) mask)) (drop (i + 1) old) (drop (k + 1) vs)) (take-suc-set w i v (omega (arith, f.same)))
            ∙ append_assoc (take i w) (v ∷ []) (fill (marks (drop (i + 1) mask)) (drop (i + 1) old) (drop (k + 1) vs))
            ∙ ap₂ (λ c l. take i w ++ (c ∷ fill (marks (drop (i + 1) mask)) (drop (i + 1) old) l))
            (q ∙ ap (λ n. get_or vs n 0) (sym (add-zero k)) ∙ sym (get_or-drop k vs 0 0)) (sym (drop-drop 1 k vs))
            ∙ ap₂ (λ m o. take i w ++ fill m o (drop k vs)) (sym (marked mask i h n)) (sym old_at) ∙ f.both;
      }

fill_none : (ms : List Bool) (vs : List ℕ) → fill ms [] vs ≡ []
unfolding fill
fill_none [] vs = refl
fill_none (m ∷ ms) vs = refl

-- the shorter of the mask and the word has ended
pub filled_end : (mask vs old : List ℕ) (i k : ℕ) (w : List ℕ) → i ≡ min (length mask) (length old) → Filled mask vs old i k w
    → w ≡ fill (marks mask) old vs
unfolding fill marks
filled_end mask vs old i k w h f =
    sym (take-append-drop i w) ∙ ap (λ t. take i w ++ t) (f.past ∙ sym (go (dec_le (length mask) i))) ∙ f.both
  where
    go : Dec (length mask ≤ i) → fill (marks (drop i mask)) (drop i old) (drop k vs) ≡ drop i old
    go (yes l) = ap (λ m. fill (marks m) (drop i old) (drop k vs)) (drop_of_length-le mask {i = i} l)
    go (no l) = ap (λ o. fill (marks (drop i mask)) o (drop k vs)) none ∙ fill_none (marks (drop i mask)) (drop k vs) ∙ sym none
      where
        none : drop i old ≡ []
        none = drop_of_length-le old {i = i} (omega arith)

-- ---- the missing places cleared

erase_pick : (b : Bool) (x : ℕ) (ms : List Bool) (c : List ℕ) → erase (not b ∷ ms) (x ∷ c) ≡ cond b x 0 ∷ erase ms c
unfolding erase
erase_pick true x ms c = refl
erase_pick false x ms c = refl

-- a place of the mask and of the word
pub erase_in : (m c : List ℕ) (i : ℕ) → i < length c → i < length m → get_or (erase (marks m) c) i 0 ≡ cond (eqb (get_or m i 0) 0) (get_or c i 0) 0
unfolding marks
erase_in m [] i h e = absurd (not-suc-le-zero h)
erase_in [] (x ∷ c) i h e = absurd (not-suc-le-zero e)
erase_in (b ∷ m) (x ∷ c) zero h e = ap (λ l. get_or l 0 0) (erase_pick (eqb b 0) x (marks m) c)
erase_in (b ∷ m) (x ∷ c) (suc i) h e =
    ap (λ l. get_or l (suc i) 0) (erase_pick (eqb b 0) x (marks m) c) ∙ erase_in m c i (le_of_suc-le-suc h) (le_of_suc-le-suc e)

-- the same for a mask as long as the word
pub erase_at : (m c : List ℕ) (i : ℕ) → i < length c → length m ≡ length c → get_or (erase (marks m) c) i 0 ≡ cond (eqb (get_or m i 0) 0) (get_or c i 0) 0
erase_at m c i h e = erase_in m c i h (omega arith)

-- a place behind the mask
erase_past : (m c : List ℕ) (i : ℕ) → length m ≤ i → get_or (erase (marks m) c) i 0 ≡ get_or c i 0
unfolding marks erase
erase_past [] c i h = refl
erase_past (b ∷ m) [] i h = refl
erase_past (b ∷ m) (x ∷ c) zero h = absurd (not-suc-le-zero h)
erase_past (b ∷ m) (x ∷ c) (suc i) h =
    ap (λ l. get_or l (suc i) 0) (erase_pick (eqb b 0) x (marks m) c) ∙ erase_past m c i (le_of_suc-le-suc h)

-- the shorter of the mask and the word has ended
pub erased_end : (m old : List ℕ) (i : ℕ) (c : List ℕ) → i ≡ min (length m) (length old) → Upto (erase (marks m) old) old i c
    → c ≡ erase (marks m) old
erased_end m old i c h u =
    upto_rest (erase (marks m) old) old i c u (length-erase (marks m) old) (λ j b k. sym (erase_past m old j (omega arith)))
