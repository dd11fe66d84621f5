-- Laws of `Wrote`: what a writer of a text writes, and that what two writers write in a row is as one wrote it. Assumes nothing.
use mathlib.Core.Path.{◌≡◌, ap, ap₂, sym, ◌∙◌}
use mathlib.Core.List.{List, ◌++◌}
use Prim.Native.Nat.{ℕ, ◌+◌, ◌-◌, ◌≤◌}
use native.Mathlib.Omega.{arith}
use lib.ListN.{length, take, drop, get_or, take-append-drop}
use lib.Seq.{take-take, drop-drop, get_or-drop}
use Rattle.text_rules.specs.Wrote.{Wrote}
use Rattle.text_rules.proofs.Laws.{Lays, laid_length, laid_front, laid_behind, behind_onward, behind_within}

-- a text that was laid down
pub wrote : (d : List ℕ) (at : ℕ) (t : List ℕ) {r : ℕ} {e : List ℕ} → at ≤ length d → Lays d at t r e → Wrote d at r e
wrote d at t h w =
    rw (w.0, w.1)
    record {
      onward = behind_onward d at t;
      within = behind_within d at t h;
      same = laid_length d at t;
      ahead = laid_front d at t;
      behind = laid_behind d at t;
    }

-- lists that agree from a place on agree from each later place on
further : (y z : ℕ) (l m : List ℕ) → y ≤ z → drop y l ≡ drop y m → drop z l ≡ drop z m
further y z l m h e =
    let s : y + (z - y) ≡ z = omega arith in
    ap (λ (n : ℕ). drop n l) (sym s) ∙ sym (drop-drop (z - y) y l) ∙ ap (drop (z - y)) e ∙ drop-drop (z - y) y m ∙ ap (λ (n : ℕ). drop n m) s

-- one writer goes on where another stopped
pub chain : {a b c : List ℕ} {x y z : ℕ} → Wrote a x y b → Wrote b y z c → Wrote a x z c
chain {a} {b} {c} {x} {y} {z} p q =
    record {
      onward = omega arith;
      within = omega arith;
      same = q.same ∙ p.same;
      ahead = sym (take-take x y c p.onward) ∙ ap (take x) q.ahead ∙ take-take x y b p.onward ∙ p.ahead;
      behind = q.behind ∙ further y z b a q.onward p.behind;
    }

-- a text that goes on where a writer stopped
pub goes : {a b c : List ℕ} {x y z : ℕ} (t : List ℕ) → Wrote a x y b → Lays b y t z c → Wrote a x z c
goes {a} {b} {c} {x} {y} {z} t p w = chain p (wrote b y t (omega arith) w)

-- an answer of a group that is asked where another has none
pub next : {a b c : List ℕ} {x y : ℕ} → Wrote a 0 x b → x ≡ 0 → Wrote b 0 y c → Wrote a 0 y c
next p none q = chain (rw none at p) q

-- nothing written leaves all as it was
pub wrote_none : (a b : List ℕ) (x : ℕ) → Wrote a x x b → b ≡ a
wrote_none a b x w = sym (take-append-drop x b) ∙ ap₂ ◌++◌ w.ahead w.behind ∙ take-append-drop x a

-- a byte behind what was written is as it was
pub wrote_behind : (a b : List ℕ) (x y i : ℕ) → Wrote a x y b → y ≤ i → get_or b i 0 ≡ get_or a i 0
wrote_behind a b x y i w h =
    let s : y + (i - y) ≡ i = omega arith in
    ap (λ n. get_or b n 0) (sym s) ∙ sym (get_or-drop y b (i - y) 0) ∙ ap (λ l. get_or l (i - y) 0) w.behind ∙ get_or-drop y a (i - y) 0 ∙ ap (λ n. get_or a n 0) s
