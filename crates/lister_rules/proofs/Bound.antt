-- No listing is longer than most-listing: each item of a walk takes 8 bytes of the payload for its head, and its contents are bytes of its value.
-- Assumes nothing.
use Prim.Native.Nat.{ℕ, zero, suc, ◌+◌, ◌-◌, ◌*◌, ◌≤◌, ◌<◌}
use mathlib.Core.List.{List, [], ◌∷◌}
use mathlib.Core.Path.{◌≡◌, refl, ap}
use mathlib.Core.Bool.{Bool, true, false, cond, ◌&&◌}
use native.Mathlib.Nat.{mod-lt}
use native.Mathlib.Omega.{arith}
use borrow.Author.Tests.{ltb-false, eqb-true, eqb-false}
use lib.Dec.{eqb}
use lib.ListN.{length, length-append, length-take, length-drop}
use Rattle.base_rules.specs.Refusal.{number}
use Rattle.std.specs.Prelude.{Result, Ok, Err}
use Rattle.base_rules.specs.declared.Refusal.{Refusal}
use Rattle.base_rules.specs.Bytes.{Bytes}
use Rattle.base_rules.specs.Tests.{first, among}
use Rattle.base_rules.proofs.Ceil.{up}
use Rattle.base_rules.proofs.Firsts.{clear, clear_rest}
use Rattle.base_rules.proofs.Logic.{either}
use Rattle.base_rules.proofs.Numbers.{number_lt}
use Rattle.af_rules.specs.Packet.{most_payload, seq_of, ar_of, minor_of, len_of, payload_of}
use Rattle.af_rules.specs.Calls.{af_fault}
use Rattle.af_rules.proofs.Checks.{passing}
use Rattle.item_rules.specs.declared.Item.{Item}
use Rattle.item_rules.specs.declared.Repeats.TheVariants.{Forbidden}
use Rattle.item_rules.specs.declared.Step.{Step}
use Rattle.item_rules.specs.declared.Step.TheVariants as step
use Rattle.item_rules.specs.Item.{bytes_for, item_at, step_in}
use Rattle.item_rules.specs.Run.{Run, item, next_of, run_of, fault_of, forbids}
use Rattle.item_rules.proofs.Steps.{item_fits, item_at_lem, end_few, refused_is}
use Rattle.item_rules.proofs.Runs.{item_begins, falls, run-item, run_end, run-refused}
use Rattle.walk_rules.specs.Names.{deepest, names_of, names_fault}
use Rattle.walk_rules.specs.Walk.{Tour, visit, ends, stops, unless, and_then, walk_fault, tour_by, tour_at, refusal, walk_of}
use Rattle.lister_rules.specs.Listing.{containers, lines_of, payload_lines, listing_of, most_listing}
use Rattle.lister_rules.proofs.Left.{visits}
use Rattle.lister_rules.proofs.Lines.{item_line_few, head_line_few, pad-few, refused_line_few}

-- ---- refusals have two digits at most

abbrev Numbered : List (Bool × ℕ) → Type 0
Numbered [] = Unit {0}
Numbered (t ∷ ts) = (t.1 < 100) × Numbered ts

first-few : (ts : List (Bool × ℕ)) → Numbered ts → first ts < 100
unfolding first
first-few [] h = omega arith
first-few (t ∷ ts) h = either t.0 (λ e. simp e h.0) (λ e. simp e (first-few ts h.1))

af-few : (s : List ℕ) → af_fault s < 100
unfolding af_fault
af-few s = first-few _ (omega arith, (omega arith, (omega arith, (omega arith, (omega arith, (omega arith, tt))))))

module _ (cs : List ℕ) (d : ℕ) (b : Bool) (i : Item) where
  fault_few : walk_fault cs d b i < 100
  unfolding walk_fault fault_of
  fault_few = either (eqb (fault_of b i) 0)
      (λ e. simp e (first-few _ (omega arith, (omega arith, tt))))
      (λ e. simp e (first-few _ (omega arith, (omega arith, tt))))

  -- an item without a fault is no deeper than the deepest
  depth_few : walk_fault cs d b i ≡ 0 → d ≤ deepest
  unfolding walk_fault
  depth_few z = either (eqb (fault_of b i) 0)
      (λ e.
      let rest = clear_rest _ 35 _ (λ n. omega arith) (simp e at z) in
      ltb-false deepest d (clear _ 32 _ (λ n. omega arith) rest))
      (λ e. absurd (eqb-false _ _ e (simp e at z)))

-- ---- what a tour's lines need

-- each depth has one digit, the bits five at most, the padding one and the refusal two
abbrev Short : Tour → Type 0
Short (visit d i t) = (d < 10) × (i.bits.0 < 100000) × Short t
Short (ends p) = p < 10
Short (stops n) = n < 100

refusal_few : (t : Tour) → Short t → refusal t < 100
unfolding refusal
refusal_few (visit d i t) h = refusal_few t h.2
refusal_few (ends p) h = omega arith
refusal_few (stops n) h = h

lines_few : (t : Tour) → Short t → length (lines_of t) ≤ visits t * 17 + 6
unfolding lines_of visits
lines_few (visit d i t) h = simp length-append (omega (arith, item_line_few d i h.0 h.1, lines_few t h.2))
lines_few (ends p) h = simp length-append (omega (arith, pad-few p h))
lines_few (stops n) h = omega arith

-- a tour whose items fit n bytes, 8 for each
abbrev Fits : Tour → ℕ → Type 0
Fits t n = Short t × (visits t * 8 ≤ n)

unless_fits : (m : ℕ) (t : Tour) (n : ℕ) → m < 100 → (m ≡ 0 → Fits t n) → Fits (unless m t) n
unfolding visits
unless_fits m t n h f = either (eqb m 0) (λ e. simp e (f (eqb-true m 0 e))) (λ e. simp e (h, omega arith))

then_fits : (t u : Tour) (n k : ℕ) → Fits t n → Fits u k → Fits (and_then t u) (n + k)
unfolding and_then visits
then_fits (visit d i t) u n k h g =
    let rest : Fits (and_then t u) (n - 8 + k) = then_fits t u (n - 8) k (h.0.2, omega (arith, h.1)) g in
    ((h.0.0, h.0.1, rest.0), omega (arith, rest.1, h.1))
then_fits (ends p) u n k h g = (g.0, omega (arith, g.1))
then_fits (stops m) u n k h g = unless_fits m u (n + k) h.0 (λ z. (g.0, omega (arith, g.1)))

within_fits : (b : Bool) (t : Tour) (n : ℕ) → Fits t n → Fits (cond b t (ends 0)) n
unfolding visits
within_fits true t n h = h
within_fits false t n h = (omega arith, omega arith)

-- ---- the walk of a run of at most 8,180 bytes

module _ (inner : Item → Tour) (fits : (i : Item) → i.len.0 ≤ most_payload → Fits (inner i) i.len.0) (s cs : List ℕ) (d : ℕ) where
  -- an item, its contents and the items behind it
  item_fits_in : (seen : List ℕ) (i : Item) (r : Run) (k : ℕ) → i.bits.0 ≤ i.len.0 * 8 → i.len.0 ≤ most_payload
      → Fits (tour_by Forbidden inner cs d (i.name ∷ seen) r) k → Fits (tour_by Forbidden inner cs d seen (item i r)) (8 + i.len.0 + k)
  unfolding tour_by visits
  item_fits_in seen i r k bits short rest =
      let fault : ℕ = walk_fault cs d (forbids Forbidden && among i.name seen) i in
      let contents = within_fits (among i.name cs) (inner i) i.len.0 (fits i short) in
      let both = then_fits _ _ i.len.0 k contents rest in
      unless_fits fault _ _ (fault_few cs d (forbids Forbidden && among i.name seen) i)
      (λ z. ((omega (arith, depth_few cs d (forbids Forbidden && among i.name seen) i z), omega (arith, bits), both.0), omega (arith, both.1)))

  bits_few : (at end : ℕ) (i : Item) → step_in s at end ≡ Ok (step.Item i) → i.bits.0 ≤ i.len.0 * 8
  unfolding item_at bytes_for
  bits_few at end i e = rw (item_at_lem s at end i e) (omega (arith, up (item_at s at).bits.0 8 (omega arith)))

  step_fits : (at end : ℕ) (seen : List ℕ) → end - at ≤ most_payload
      → ((b : ℕ) (names : List ℕ) → end - b < end - at → Fits (tour_by Forbidden inner cs d names (run_of s b end)) (end - b))
      → (x : Result Step Refusal) → step_in s at end ≡ x → Fits (tour_by Forbidden inner cs d seen (run_of s at end)) (end - at)
  unfolding tour_by visits number
  step_fits at end seen short rest (Ok (step.Item i)) e =
      let room = item_fits s at end i e in
      let behind = rest (next_of i) (i.name ∷ seen) (falls s at end i e) in
      let all = item_fits_in seen i (run_of s (next_of i) end) (end - next_of i) (bits_few at end i e) (omega arith) behind in
      rw (run-item s at end i e) (all.0, omega (arith, all.1, item_begins s at end i e))
  step_fits at end seen short rest (Ok (step.End p)) e = rw (run_end s at end p e) (omega (arith, end_few s at end p e), omega arith)
  step_fits at end seen short rest (Err n) e = rw (run-refused s at end n e) (omega (arith, ap number (refused_is s at end n e)), omega arith)

  -- the items of a run fit its bytes; `most` counts the turns
  run_fits : (most at end : ℕ) (seen : List ℕ) → end - at ≤ most → end - at ≤ most_payload
      → Fits (tour_by Forbidden inner cs d seen (run_of s at end)) (end - at)
  run_fits zero at end seen few short = step_fits at end seen short (λ b names h. absurd (omega arith)) (step_in s at end) refl
  run_fits (suc most) at end seen few short =
      step_fits at end seen short (λ b names h. run_fits most b end names (omega arith) (omega arith)) (step_in s at end) refl

tour_fits : (levels : ℕ) (s cs : List ℕ) (d at end : ℕ) → end - at ≤ most_payload
    → Fits (tour_at Forbidden levels s cs d [] (run_of s at end)) (end - at)
unfolding tour_at visits
tour_fits zero s cs d at end short = run_fits (λ i. ends 0) (λ i h. (omega arith, omega arith)) s cs d (end - at) at end [] (omega arith) short
tour_fits (suc levels) s cs d at end short =
    run_fits _ (λ i h.
    let inner = tour_fits levels s cs (d + 1) i.from (next_of i) (omega arith) in
    (inner.0, omega (arith, inner.1)))
    s cs d (end - at) at end [] (omega arith) short

-- the items of a walk of at most 8,180 bytes are at most an eighth of them
walk_fits : (s l : List ℕ) → length s ≤ most_payload → Fits (walk_of Forbidden s l) (length s)
unfolding walk_of names_fault
walk_fits s l short =
    unless_fits (names_fault l) _ (length s) (first-few _ (omega arith, tt))
    (λ z.
    let tour = tour_fits (deepest + 1) s (names_of l) 0 0 (length s) (omega arith) in
    (tour.0, omega (arith, tour.1)))

-- ---- the listing

payload_few : (front : List ℕ) (s : List ℕ) → length front ≤ 19 → length s ≤ most_payload
    → length (payload_lines front (walk_of Forbidden s containers)) ≤ most_listing
unfolding payload_lines
payload_few front s few short =
    let walk = walk_fits s containers short in
    let t : Tour = walk_of Forbidden s containers in
    either (eqb (refusal t) 0)
    (λ e. simp (e, length-append) (omega (arith, lines_few t walk.0, walk.1)))
    (λ e. simp e (omega (arith, refused_line_few (refusal t) (refusal_few t walk.0))))

payload_short : (s : List ℕ) → length s ≤ 8192 → length (payload_of s) ≤ most_payload
unfolding payload_of
payload_short s h = simp (length-take, length-drop) (omega arith)

-- no listing of bytes has more than most_listing letters
pub listing_few : (s : List ℕ) → Bytes s → length (listing_of s) ≤ most_listing
unfolding listing_of
listing_few s bytes =
    either (eqb (af_fault s) 0)
    (λ e.
    let p = passing s (eqb-true _ _ e) in
    let front = head_line_few (seq_of s) (minor_of s) (len_of s) (number_lt 2 s 6 bytes) (mod-lt (ar_of s) (omega arith))
    (omega (arith, p.sized, p.most)) in
    simp e (payload_few _ (payload_of s) front (payload_short s p.most)))
    (λ e. simp e (omega (arith, refused_line_few (af_fault s) (af-few s))))
