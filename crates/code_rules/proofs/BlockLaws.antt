-- A block while it is filled, chunk by chunk, and what it is then. Assumes nothing.
use mathlib.Core.Path.{◌≡◌, refl, sym, ap, ◌∙◌, subst}
use mathlib.Core.Bool.{Bool, true, false}
use mathlib.Core.List.{List, []}
use Prim.Native.Nat.{ℕ, zero, suc, ◌+◌, ◌-◌, ◌*◌, ◌≤◌, ◌<◌}
use native.Mathlib.Nat.{not-suc-le-zero, suc-ne-zero}
use native.Mathlib.Decide.{ℕ_discrete}
use native.Mathlib.Omega.{arith}
use borrow.Rule.Slice.PartMut.{put_mid}
use lib.ListN.{length, take, drop, get_or, set, replicate, length-set, get_or-replicate, drop_of_length-le}
use lib.Seq.{length-take-le, get_or-take, get_or-set_same, get_or-set_other}
use Rattle.base_rules.specs.Bytes.{part_of}
use Rattle.base_rules.proofs.Parts.{length_put_mid, part_same, part_other, mid_part, by_parts}
use Rattle.codeword.specs.Erasure.{marks, erase}
use Rattle.codeword.proofs.Erasure.{length-erase}
use Rattle.code_rules.specs.Fill.{Agrees}
use Rattle.code_rules.specs.inner.Block.{Ready, ChunkTried, answer_of, ChunkStatus, BlockStatus}
use Rattle.code_rules.specs.inner.Block.{Later, AllDone, SomeLeft, AfterTurn, BlockFailed}
use Rattle.code_rules.proofs.FillLaws.{erase_twice}
use Rattle.code_rules.proofs.PartLaws.{part_erase}

-- ---- one chunk more has its answer

-- a chunk whose missing bytes are 0 gets its answer
status_by : (k : ℕ) (m a b new : List ℕ) (r : Bool) → b ≡ erase (marks m) a → ChunkTried k m b new r → ChunkStatus k m a new (answer_of r)
unfolding ChunkStatus
status_by k m a b new true e t = record { coded = t.coded; keeps = t.keeps ∙ ap (erase (marks m)) e ∙ erase_twice (marks m) a }
status_by k m a b new false e t =
    (λ w g. t.none w g.coded (g.keeps ∙ sym e), t.keeps ∙ ap (erase (marks m)) e ∙ erase_twice (marks m) a)

answer_low : (r : Bool) → answer_of r < 2
answer_low true = omega arith
answer_low false = omega arith

open_by : (k : ℕ) (m a b : List ℕ) (x : ℕ) → 2 ≤ x → ChunkStatus k m a b x → b ≡ erase (marks m) a
unfolding ChunkStatus
open_by k m a b zero h s = absurd (omega arith)
open_by k m a b (suc zero) h s = absurd (omega arith)
open_by k m a b (suc (suc x)) h s = s

by_open : (k : ℕ) (m a b : List ℕ) (x : ℕ) → 2 ≤ x → b ≡ erase (marks m) a → ChunkStatus k m a b x
unfolding ChunkStatus
by_open k m a b zero h s = absurd (omega arith)
by_open k m a b (suc zero) h s = absurd (omega arith)
by_open k m a b (suc (suc x)) h s = s

module _ (k j v : ℕ) (mask blk ans new : List ℕ) (r : Bool) (ready : Ready k mask (length ans) blk) (hj : j < length ans)
    (size : length new ≡ k + 48) (ev : v ≡ answer_of r) where
  n : ℕ
  n = k + 48

  blk' : List ℕ
  blk' = put_mid (j * n) (j * n + n - j * n) blk new

  one_done : get_or (set ans j v) j 0 < 2
  one_done = subst (λ (x : ℕ). x < 2) (sym (get_or-set_same ans j v 0 hj ∙ ev)) (answer_low r)

  still : (i : ℕ) → get_or ans i 0 < 2 → Dec (i ≡ j) → get_or (set ans j v) i 0 < 2
  still i h (yes q) = subst (λ (i : ℕ). get_or (set ans j v) i 0 < 2) (sym q) one_done
  still i h (no q) = subst (λ (x : ℕ). x < 2) (sym (get_or-set_other ans j i v 0 q)) h

  -- the chunk j, which was open, has its answer then
  pub one_turn : (i : ℕ) → 2 ≤ get_or ans j 0
      → ChunkTried k (take (j * (k + 48) + (k + 48) - j * (k + 48)) (drop (j * (k + 48)) mask))
      (take (j * (k + 48) + (k + 48) - j * (k + 48)) (drop (j * (k + 48)) blk)) new r
      → AfterTurn k i j mask blk ans (put_mid (j * (k + 48)) (j * (k + 48) + (k + 48) - j * (k + 48)) blk new) (set ans j v)
  unfolding n blk'
  one_turn i unset tried =
      record {
        later = record {
          size = length_put_mid n (length ans) j blk new ready.chunks hj size;
          asize = length-set ans j v;
          keep = λ old p. record { each = λ i b. go old p i (subst (λ (n : ℕ). i < n) (length-set ans j v) b) (ℕ_discrete i j) };
          still = λ i h. still i h (ℕ_discrete i j);
        };
        done = λ e. one_done;
      }
    where
      here : ChunkTried k (part_of mask n j) (part_of blk n j) new r
      here =
          subst (λ (m : List ℕ). ChunkTried k m (part_of blk n j) new r) (mid_part n j mask)
          (subst (λ (b : List ℕ). ChunkTried k (take (j * n + n - j * n) (drop (j * n) mask)) b new r) (mid_part n j blk) tried)

      at_j : (old : List ℕ) → BlockStatus k mask old blk ans → ChunkStatus k (part_of mask n j) (part_of old n j) (part_of blk' n j) (get_or (set ans j v) j 0)
      at_j old p =
          rw (part_same n (length ans) j blk new ready.chunks hj size, get_or-set_same ans j v 0 hj, ev)
          (status_by k (part_of mask n j) (part_of old n j) (part_of blk n j) new r
          (open_by k (part_of mask n j) (part_of old n j) (part_of blk n j) _ unset (p.each j hj)) here)

      go : (old : List ℕ) → BlockStatus k mask old blk ans → (i : ℕ) → i < length ans → Dec (i ≡ j)
          → ChunkStatus k (part_of mask n i) (part_of old n i) (part_of blk' n i) (get_or (set ans j v) i 0)
      go old p i b (yes q) =
          subst (λ (i : ℕ). ChunkStatus k (part_of mask n i) (part_of old n i) (part_of blk' n i) (get_or (set ans j v) i 0)) (sym q) (at_j old p)
      go old p i b (no q) = rw (part_other n (length ans) j blk new ready.chunks hj size i b q, get_or-set_other ans j i v 0 q) (p.each i b)

-- ---- later and later

-- a state is no earlier than itself
pub later_refl : (k : ℕ) (mask blk ans : List ℕ) → Later k mask blk ans blk ans
later_refl k mask blk ans = record { size = refl; asize = refl; keep = λ old p. p; still = λ j h. h }

-- one step, and one more
pub later_trans : {k : ℕ} {mask b1 a1 b2 a2 b3 a3 : List ℕ} → Later k mask b1 a1 b2 a2 → Later k mask b2 a2 b3 a3 → Later k mask b1 a1 b3 a3
later_trans p q =
    record {
      size = q.size ∙ p.size;
      asize = q.asize ∙ p.asize;
      keep = λ old x. q.keep old (p.keep old x);
      still = λ j h. q.still j (p.still j h);
    }

-- what a step asks for holds after it
pub ready_later : {k : ℕ} {mask b1 a1 b2 a2 : List ℕ} → Ready k mask (length a1) b1 → Later k mask b1 a1 b2 a2 → Ready k mask (length a2) b2
ready_later {k} {mask} {b1} {a1} {b2} {a2} r l =
    subst (λ (n : ℕ). Ready k mask n b2) (sym l.asize)
    record { short = r.short; some = r.some; masks = r.masks; chunks = l.size ∙ r.chunks; few = r.few }

-- the chunk that a class is named by has its answer after its turn
pub from_done : {k : ℕ} {mask b1 a1 b2 a2 : List ℕ} (i j : ℕ) → Later k mask b1 a1 b2 a2 → i ≤ j → (i < j → get_or a1 i 0 < 2)
    → (j ≡ i → get_or a2 j 0 < 2) → get_or a2 i 0 < 2
from_done {a2 = a2} i j l h before now = go (ℕ_discrete j i)
  where
    go : Dec (j ≡ i) → get_or a2 i 0 < 2
    go (yes e) = subst (λ (x : ℕ). get_or a2 x 0 < 2) e (now e)
    go (no e) = l.still i (before (omega arith))

-- no answer is there at the start
pub done_start : (ans : List ℕ) → AllDone ans 0
unfolding AllDone
done_start ans i h = absurd (not-suc-le-zero h)

-- one answer more
pub done_more : {k : ℕ} {mask b1 a1 b2 a2 : List ℕ} (i : ℕ) → Later k mask b1 a1 b2 a2 → AllDone a1 i → get_or a2 i 0 < 2 → AllDone a2 (i + 1)
unfolding AllDone
done_more {a2 = a2} i l d here j h = go (ℕ_discrete j i)
  where
    go : Dec (j ≡ i) → get_or a2 j 0 < 2
    go (yes q) = subst (λ (i : ℕ). get_or a2 i 0 < 2) (sym q) here
    go (no q) = l.still j (d j (omega arith))

-- ---- all chunks have their answers

keeps_by : (k : ℕ) (m a b : List ℕ) (x : ℕ) → ChunkStatus k m a b x → erase (marks m) b ≡ erase (marks m) a
unfolding ChunkStatus
keeps_by k m a b zero s = s.keeps
keeps_by k m a b (suc zero) s = s.1
keeps_by k m a b (suc (suc x)) s = ap (erase (marks m)) s ∙ erase_twice (marks m) a

found_by : (k : ℕ) (m a b : List ℕ) (x : ℕ) → x ≡ 0 → ChunkStatus k m a b x → Agrees k m a b
unfolding ChunkStatus
found_by k m a b zero e s = s
found_by k m a b (suc x) e s = absurd (suc-ne-zero x e)

none_by : (k : ℕ) (m a b : List ℕ) (x : ℕ) → x < 2 → (x ≡ 0 → ⊥) → ChunkStatus k m a b x → (w : List ℕ) → Agrees k m a w → ⊥
unfolding ChunkStatus
none_by k m a b zero h n s w g = n refl
none_by k m a b (suc zero) h n s w g = s.0 w g
none_by k m a b (suc (suc x)) h n s w g = omega arith

open_size : (c : ℕ) → c ≤ 256 → length (take c (replicate {A = ℕ} 256 3)) ≡ c
open_size c h = length-take-le c (replicate 256 3) h

-- a block whose missing bytes are 0, with an open answer for each chunk
pub ready_open : {k c : ℕ} {mask old blk : List ℕ} → Ready k mask c old → blk ≡ erase (marks mask) old
    → Ready k mask (length (take c (replicate {A = ℕ} 256 3))) blk
ready_open {k} {c} {mask} {old} {blk} r e =
    subst (λ (n : ℕ). Ready k mask n blk) (sym (open_size c (omega (arith, r.some))))
    record {
      short = r.short;
      some = r.some;
      masks = r.masks;
      chunks = ap length e ∙ length-erase (marks mask) old ∙ r.chunks;
      few = r.few;
    }

module _ (k : ℕ) (mask : List ℕ) (c : ℕ) (old blk new ans : List ℕ) (ready : Ready k mask c old) (cleared : blk ≡ erase (marks mask) old)
    (step : Later k mask blk (take c (replicate 256 3)) new ans) where
  size : length (take c (replicate {A = ℕ} 256 3)) ≡ c
  size = open_size c (omega (arith, ready.some))

  first : BlockStatus k mask old blk (take c (replicate 256 3))
  first = record {
    each = λ j h.
        let l : j < c = omega (arith, size) in
        let e : ◌≡◌ {A = ℕ} (get_or (take c (replicate 256 3)) j 0) 3 =
        get_or-take c (replicate 256 3) j 0 l ∙ get_or-replicate 256 j 3 0 (omega (arith, ready.some)) in
        by_open k (part_of mask (k + 48) j) (part_of old (k + 48) j) (part_of blk (k + 48) j) (get_or (take c (replicate 256 3)) j 0) (omega arith)
        (ap (λ (x : List ℕ). part_of x (k + 48) j) cleared ∙ part_erase (k + 48) j mask old);
  }

  filled : BlockStatus k mask old new ans
  filled = step.keep old first

  answers : length ans ≡ c
  answers = step.asize ∙ size

  -- each answer is that the chunk is filled in
  pub block_found : ((j : ℕ) → j < length ans → get_or ans j 0 ≡ 0) → (j : ℕ) → j < c
      → Agrees k (part_of mask (k + 48) j) (part_of old (k + 48) j) (part_of new (k + 48) j)
  block_found z j h =
      let l : j < length ans = omega (arith, answers) in
      found_by k (part_of mask (k + 48) j) (part_of old (k + 48) j) (part_of new (k + 48) j) (get_or ans j 0) (z j l) (filled.each j l)

  same : erase (marks mask) new ≡ erase (marks mask) old
  same =
      by_parts (k + 48) c (erase (marks mask) new) (erase (marks mask) old)
      (λ j h.
      part_erase (k + 48) j mask new
      ∙ keeps_by k (part_of mask (k + 48) j) (part_of old (k + 48) j) (part_of new (k + 48) j) _ (filled.each j (omega (arith, answers)))
      ∙ sym (part_erase (k + 48) j mask old))
      (none_behind new (step.size ∙ ap length cleared ∙ length-erase (marks mask) old) ∙ sym (none_behind old refl))
    where
      none_behind : (l : List ℕ) → length l ≡ length old → drop (c * (k + 48)) (erase (marks mask) l) ≡ []
      none_behind l e = drop_of_length-le (erase (marks mask) l) {i = c * (k + 48)} (omega (arith, length-erase (marks mask) l, ready.chunks))

  -- one answer is that no chunk agrees
  pub block_failed : (last : List ℕ) → AllDone ans (length ans) → SomeLeft ans → last ≡ erase (marks mask) new → BlockFailed k mask c old last
  unfolding AllDone
  block_failed last done some e =
      record {
        at = some.at;
        below = omega (arith, answers, some.below);
        none = none_by k (part_of mask (k + 48) some.at) (part_of old (k + 48) some.at) (part_of new (k + 48) some.at)
            (get_or ans some.at 0) (done some.at some.below) some.left (filled.each some.at some.below);
        zeros = e ∙ same;
      }
