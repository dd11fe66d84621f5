-- What is left of a walk while its items are handed out one by one, and the text on it.
use Prim.Native.Nat.{ℕ, zero, suc, ◌≤◌, ◌<◌}
use mathlib.Core.List.{List, [], ◌∷◌, ◌++◌, append_assoc}
use mathlib.Core.Path.{◌≡◌, refl, sym, ap, ◌∙◌}
use native.Mathlib.Omega.{arith}
use native.Mathlib.Nat.{le_refl, le_of_suc-le-suc, not-suc-le-zero}
use lib.ListN.{take, replicate}
use lib.Seq.{take-nil}
use borrow.Author.Tests.{eq-eqb}
use Rattle.std.specs.Prelude.{Result, Ok, Err}
use Rattle.item_rules.specs.declared.Bytes.{Bytes}
use Rattle.item_rules.specs.declared.Item.{Item}
use Rattle.text_rules.specs.Text.{decimal_of}
use Rattle.text_rules.proofs.Laws.{Lays, lays_none, lays_more, lays_same}
use Rattle.item_rules.specs.declared.Repeats.TheVariants.{Forbidden}
use Rattle.walk_rules.specs.declared.Handed.{Handed}
use Rattle.walk_rules.specs.declared.Handed.TheVariants as handed
use Rattle.walk_rules.specs.declared.Visit.{Visit}
use Rattle.walk_rules.specs.declared.Walked.{Walked}
use Rattle.walk_rules.specs.declared.Walker.{Walker}
use Rattle.walk_rules.specs.Walk.{Tour, visit, ends, stops, refusal, walk_of}
use Rattle.walk_rules.specs.Step.{opens, walk_step}
use Rattle.walk_rules.specs.Claims.{hands_out, told, due}
use Rattle.walk_rules.proofs.Proved.{in_order}
use Rattle.lister_rules.specs.Listing.{pad, newline, item_line, lines_of}

-- so many of more that are the same
take_same : (n m : ℕ) (a : Result Handed ℕ) → n ≤ m → take n (replicate m a) ≡ replicate n a
take_same zero m a h = refl
take_same (suc n) zero a h = absurd (not-suc-le-zero h)
take_same (suc n) (suc m) a h = ap (λ (l : List (Result Handed ℕ)). a ∷ l) (take_same n m a (le_of_suc-le-suc h))

-- the first so many do not tell how often the end is repeated behind them
told_enough : (t : Tour) (n m : ℕ) → n ≤ m → take n (told m t) ≡ take n (told n t)
unfolding told
told_enough (visit d i t) zero m h = refl
told_enough (visit d i t) (suc n) m h =
    ap (λ (l : List (Result Handed ℕ)). Ok (handed.Item (record { depth = d; item = i })) ∷ l) (told_enough t n m (omega arith)
    ∙ sym (told_enough t n (suc n) (omega arith)))
told_enough (ends p) n m h = take_same n m _ h ∙ sym (take_same n n _ (le_refl n))
told_enough (stops r) n m h = refl

-- how many items a tour visits, and how many there are among what is handed out
unfoldable pub visits : Tour → ℕ
visits (visit d i t) = suc (visits t)
visits (ends p) = 0
visits (stops n) = 0

items : List (Result Handed ℕ) → ℕ
items [] = 0
items (Ok (handed.Item v) ∷ hs) = suc (items hs)
items (Ok (handed.End p) ∷ hs) = items hs
items (Err n ∷ hs) = items hs

items_end : (n m : ℕ) (p : Bytes) → items (take n (replicate m (Ok (handed.End p)))) ≡ 0
unfolding items
items_end zero m p = refl
items_end (suc n) zero p = refl
items_end (suc n) (suc m) p = items_end n m p

items_told : (t : Tour) (n m : ℕ) → visits t ≤ n → items (take n (told m t)) ≡ visits t
unfolding told items visits
items_told (visit d i t) zero m h = absurd (not-suc-le-zero h)
items_told (visit d i t) (suc n) m h = ap suc (items_told t n m (le_of_suc-le-suc h))
items_told (ends p) n m h = items_end n m (record { 0 = p })
items_told (stops r) n m h = ap items (take-nil n)

module _ (s l : List ℕ) where
  -- what a walker hands out is a tour's
  abbrev Hands : Walker → Tour → Type 0
  Hands w t = (n : ℕ) → hands_out n s l w ≡ take n (told n t)

  -- the items that a walker has yet to hand out; no walker of this walk has more than the whole walk
  pub left : Walker → ℕ
  left w = items (hands_out (visits (walk_of Forbidden s l)) s l w)

  left_is : (w : Walker) (t : Tour) → Hands w t → visits t ≤ visits (walk_of Forbidden s l) → left w ≡ visits t
  unfolding left
  left_is w t h few = ap items (h (visits (walk_of Forbidden s l))) ∙ items_told t _ _ few

  -- after what is said of a walk, the tour that is left of it says the rest
  pub record Left (said : List ℕ) (w : Walker) : Type 0 where
    pub tour : Tour
    pub hands : Hands w tour
    pub few : visits tour ≤ visits (walk_of Forbidden s l)
    pub text : said ++ lines_of tour ≡ lines_of (walk_of Forbidden s l)

  opens_left : (w : Walker) → w ≡ opens Forbidden s l → refusal (walk_of Forbidden s l) ≡ 0 → Left [] w
  unfolding due
  opens_left w o z =
      record {
        tour = walk_of Forbidden s l;
        hands = λ n. ap (hands_out n s l) o ∙ in_order Forbidden s l n ∙ simp (eq-eqb (refusal (walk_of Forbidden s l)) 0 z);
        few = le_refl _;
        text = refl;
      }

  -- what a step tells by what it hands out: an item is the next to be said, and less is left; at the end the padding is; none is refused
  abbrev Tells : List ℕ → Walker → Walker → Result Handed ℕ → Type 0
  Tells said w next (Ok (handed.Item v)) = Left (said ++ item_line v.depth v.item) next × (left next < left w)
  Tells said w next (Ok (handed.End p)) = said ++ (pad ++ (decimal_of p.0 ++ newline)) ≡ lines_of (walk_of Forbidden s l)
  Tells said w next (Err n) = ⊥

  module _ (w : Walker) (x : Walked) (is : x ≡ walk_step s l w) where
    -- a step hands out the first of the tour, and then the rest of it
    shown : (t : Tour) → Hands w t → x.handed ∷ [] ≡ take 1 (told 1 t)
    unfolding hands_out
    shown t h = ap (λ (y : Walked). y.handed ∷ []) is ∙ h 1

    hands_next : (d : ℕ) (i : Item) (t : Tour) → Hands w (visit d i t) → Hands x.next t
    unfolding hands_out told
    hands_next d i t h n =
        let step : (walk_step s l w).handed ∷ hands_out n s l (walk_step s l w).next ≡ Ok (handed.Item (record { depth = d; item = i })) ∷ take n
        (told (suc n) t) = h (suc n) in
        let rest : hands_out n s l (walk_step s l w).next ≡ take n (told (suc n) t) = cc in
        ap (λ (y : Walked). hands_out n s l y.next) is ∙ rest ∙ told_enough t n (suc n) (omega arith)

    tells_by : (said : List ℕ) (t : Tour) → Hands w t → visits t ≤ visits (walk_of Forbidden s l) → said ++ lines_of t ≡ lines_of (walk_of Forbidden s l)
        → Tells said w x.next x.handed
    unfolding told lines_of visits
    tells_by said (visit d i t) h few text =
        let first : x.handed ∷ [] ≡ Ok (handed.Item (record { depth = d; item = i })) ∷ [] = shown (visit d i t) h in
        let this : x.handed ≡ Ok (handed.Item (record { depth = d; item = i })) = cc in
        let next = hands_next d i t h in
        rw this (
          record { tour = t; hands = next; few = omega arith; text = append_assoc said (item_line d i) (lines_of t) ∙ text },
          omega (arith, left_is w (visit d i t) h few, left_is x.next t next (omega arith)),
        )
    tells_by said (ends p) h few text =
        let first : x.handed ∷ [] ≡ Ok (handed.End (record { 0 = p })) ∷ [] = shown (ends p) h in
        let this : x.handed ≡ Ok (handed.End (record { 0 = p })) = cc in
        rw this text
    tells_by said (stops n) h few text =
        let first : x.handed ∷ [] ≡ [] = shown (stops n) h in
        let z : ◌≡◌ {A = ℕ} 0 1 = cc in
        absurd (omega arith)

    tells : (said : List ℕ) → Left said w → (h : Result Handed ℕ) → x.handed ≡ h → Tells said w x.next h
    tells said p h q = rw q at (tells_by said p.tour p.hands p.few p.text)

  -- a place in the listing of a walk, which began at `at` of the buffer d: what was said is laid down
  pub record Place (d : List ℕ) (at : ℕ) (w : Walker) (to : ℕ) (e : List ℕ) : Type 0 where
    pub said : List ℕ
    pub lays : Lays d at said to e
    pub left_of_walk : Left said w

  -- where a walk opens unrefused its listing begins, with nothing said yet
  pub begins : (d : List ℕ) (at : ℕ) (w : Walker) → w ≡ opens Forbidden s l → refusal (walk_of Forbidden s l) ≡ 0 → Place d at w at d
  begins d at w o z = record { said = []; lays = lays_none d at; left_of_walk = opens_left w o z }

  module _ (d : List ℕ) (at : ℕ) (w : Walker) (to : ℕ) (e : List ℕ) (p : Place d at w to e) (x : Walked) (is : x ≡ walk_step s l w) where
    -- the line on an item leads on to the next place
    pub turn : (v : Visit) → x.handed ≡ Ok (handed.Item v) → (r : ℕ) (f : List ℕ) → Lays e to (item_line v.depth v.item) r f
        → Place d at x.next r f × (left x.next < left w)
    turn v q r f line =
        let t : Tells p.said w x.next (Ok (handed.Item v)) = tells w x is p.said p.left_of_walk (Ok (handed.Item v)) q in
        (record { said = _; lays = lays_more d at p.said _ p.lays line; left_of_walk = t.0 }, t.1)

    -- behind the line on the padding all is said
    pub end : (b : Bytes) → x.handed ≡ Ok (handed.End b) → (r : ℕ) (f : List ℕ) → Lays e to (pad ++ (decimal_of b.0 ++ newline)) r f
        → Lays d at (lines_of (walk_of Forbidden s l)) r f
    end b q r f line = lays_same d at (tells w x is p.said p.left_of_walk (Ok (handed.End b)) q) (lays_more d at p.said _ p.lays line)

    -- from a place in the listing no step of the walk is refused
    pub never : (n : ℕ) → x.handed ≡ Err n → ⊥
    never n q = tells w x is p.said p.left_of_walk (Err n) q
