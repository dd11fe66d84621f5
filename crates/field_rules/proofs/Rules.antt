-- The rules of the two tables, each by one computed test over all its entries. Assumes nothing.
use mathlib.Core.Path.{◌≡◌, sym, ap, ◌∙◌}
use mathlib.Core.Bool.{Bool, true, ◌&&◌}
use mathlib.Core.List.{List, [], ◌∷◌}
use Prim.Native.Nat.{ℕ, zero, suc, ◌+◌, ◌<◌}
use native.Mathlib.Nat.{zero-add, add-zero, not-suc-le-zero, le_of_suc-le-suc}
use native.Mathlib.Numerals.{add-one}
use native.Mathlib.Omega.{arith}
use borrow.Author.Tests.{eqb-true}
use lib.Dec.{eqb}
use lib.ListN.{get_or}
use Rattle.base_rules.proofs.Logic.{and_left, and_right}
use Rattle.field_rules.specs.Field.{times2, alpha, log_of}
use Rattle.field_rules.specs.inner.Tables.{Exps, Logs, Logged}
use Rattle.field_rules.proofs.Powers.{powers, powers_at, log_lt, alpha_log}

-- the powers: the test is that the table is the walk of 255 from 1
pub exps : (t : List ℕ) → t ≡ powers 255 1 → Exps t
unfolding alpha powers
exps t e =
    record {
      start = ap (λ l. get_or l 0 0) e;
      next = λ i h.
          walked (i + 1) h ∙ ap alpha (add-one i) ∙ ap times2 (sym (walked i (omega arith)));
    }
  where
    walked : (i : ℕ) → i < 255 → get_or t i 0 ≡ alpha i
    walked i h = ap (λ l. get_or l i 0) e ∙ powers_at 255 0 i h ∙ ap alpha (zero-add i)

-- so the entry at i is α^i
pub exps_at : (t : List ℕ) → Exps t → (i : ℕ) → i < 255 → get_or t i 0 ≡ alpha i
unfolding alpha
exps_at t r zero h = r.start
exps_at t r (suc i) h =
    ap (λ k. get_or t k 0) (sym (add-one i)) ∙ r.next i (omega arith) ∙ ap times2 (exps_at t r i (omega arith))

-- the logarithms: the entries at the elements of a list are l, l + 1, ..
unfoldable pub numbered : ℕ → List ℕ → List ℕ → Bool
numbered l [] t = true
numbered l (x ∷ xs) t = eqb (get_or t x 0) l && numbered (suc l) xs t

numbered_at : (n l : ℕ) (t : List ℕ) → numbered l (powers n (alpha l)) t ≡ true → (i : ℕ) → i < n → get_or t (alpha (l + i)) 0 ≡ l + i
unfolding numbered powers alpha
numbered_at zero l t e i h = absurd (not-suc-le-zero h)
numbered_at (suc n) l t e zero h =
    ap (λ k. get_or t (alpha k) 0) (add-zero l) ∙ eqb-true (get_or t (alpha l) 0) l (and_left _ _ e) ∙ omega arith
numbered_at (suc n) l t e (suc i) h =
    let r = numbered_at n (suc l) t (and_right (eqb (get_or t (alpha l) 0) l) _ e) i (le_of_suc-le-suc h) in
    let s : l + suc i ≡ suc l + i = omega arith in
    ap (λ k. get_or t (alpha k) 0) s ∙ r ∙ omega arith

-- the test is that the entries at the 255 powers of α are their exponents, and that at 0 is 0
abbrev pub all_logs : List ℕ → Bool
all_logs t = eqb (get_or t 0 0) 0 && numbered 0 (powers 255 1) t

-- a table that passes the test is the table of logarithms
pub logs : (t : List ℕ) → all_logs t ≡ true → Logs t
unfolding alpha
logs t e =
    record {
      none = eqb-true (get_or t 0 0) 0 (and_left _ _ e);
      entry = λ i h. let r = numbered_at 255 0 t (and_right (eqb (get_or t 0 0) 0) _ e) i h in
          ap (λ k. get_or t (alpha k) 0) (sym (zero-add i)) ∙ r ∙ zero-add i;
    }

-- so the entry at an element but 0 is its logarithm
pub logs_at : (t : List ℕ) → Logs t → (x : ℕ) → 0 < x → x < 256 → get_or t x 0 ≡ log_of x
logs_at t r x p h = ap (λ y. get_or t y 0) (sym (alpha_log x p h)) ∙ r.entry (log_of x) (log_lt x p h)

-- and has its power
pub logged : {x l : ℕ} → 0 < x → x < 256 → l ≡ log_of x → Logged x l
logged {x} p h e = record { small = rw e (log_lt x p h); power = ap alpha e ∙ alpha_log x p h }
