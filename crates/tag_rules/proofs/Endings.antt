-- How the run of a packet that is not refused goes on and ends. Assumes nothing.
use Prim.Native.Nat.{ℕ, ◌≤◌}
use mathlib.Core.List.{List, [], ◌∷◌}
use mathlib.Core.Path.{◌≡◌, refl}
use mathlib.Core.Bool.{Bool, true, false, cond, ◌&&◌}
use native.Mathlib.Omega.{arith}
use lib.Dec.{eqb}
use lib.ListN.{length}
use borrow.Author.Tests.{eqb-false}
use Rattle.base_rules.specs.Tests.{among}
use Rattle.item_rules.specs.declared.Repeats.{Repeats}
use Rattle.item_rules.specs.Run.{Run, next_of, run_of, fault_of, forbids, faults_of}
use Rattle.item_rules.proofs.Steps.{item_fits}
use Rattle.item_rules.proofs.Runs.{item_begins, every-run}
use Rattle.item_rules.proofs.Starts.{item_starts}
use Rattle.tag_rules.specs.Find.{check_of}
use Rattle.tag_rules.specs.Reading.{last_of}
use Rattle.tag_rules.specs.Claims.{Padded, Ends, Row, next, rest, InARow}

-- no fault of an item, and none of the rest
rest_by : (m n : ℕ) (b : Bool) → eqb m 0 ≡ b → cond b n m ≡ 0 → n ≡ 0
rest_by m n true q e = e
rest_by m n false q e = absurd (eqb-false m 0 q e)

abbrev Pads : Repeats → ℕ → Run → Type 0
Pads w at r = (seen : List ℕ) → faults_of w seen r ≡ 0 → Padded r

pads : (w : Repeats) (s : List ℕ) (end at : ℕ) → Pads w at (run_of s at end)
unfolding faults_of last_of
pads w s end =
    every-run s end (Pads w)
    (λ at i e behind seen q.
    let fault : ℕ = fault_of (forbids w && among i.name seen) i in
    let v = behind (i.name ∷ seen) (rest_by fault _ (eqb fault 0) refl q) in
    record { bytes = v.bytes; last = v.last; few = v.few })
    (λ at p few left seen q. record { bytes = record { 0 = p }; last = refl; few = few })
    (λ at seen q. let none : ◌≡◌ {A = ℕ} 30 0 = q in absurd (omega arith))

-- a packet that is not refused ends with END, and 7 or fewer bytes are its padding
pub ends : Ends
unfolding check_of
ends w s q = pads w s (length s) 0 [] q

abbrev Rows : Repeats → ℕ → ℕ → Run → Type 0
Rows w end at r = (seen : List ℕ) → at ≤ end → faults_of w seen r ≡ 0 → Row end at r

rows : (w : Repeats) (s : List ℕ) (end at : ℕ) → Rows w end at (run_of s at end)
unfolding faults_of
rows w s end =
    every-run s end (Rows w end)
    (λ at i e behind seen h q.
    let fault : ℕ = fault_of (forbids w && among i.name seen) i in
    let fits : next_of i ≤ end = omega (arith, h, item_begins s at end i e, item_fits s at end i e) in
    next (item_starts s at end i e) (behind (i.name ∷ seen) fits (rest_by fault _ (eqb fault 0) refl q)))
    (λ at p few left seen h q. rest (omega (arith, left)) few)
    (λ at seen h q. let none : ◌≡◌ {A = ℕ} 30 0 = q in absurd (omega arith))

-- its items stand one behind the other from its first byte on, and what is left is its padding
pub in_a_row : InARow
unfolding check_of
in_a_row w s q = rows w s (length s) 0 [] (omega arith) q
