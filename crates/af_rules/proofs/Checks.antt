-- The AF checks: which number is due after which tests, and what a packet that passes is known to be. Assumes nothing.
use mathlib.Core.Path.{◌≡◌, refl, ◌∙◌}
use mathlib.Core.Bool.{Bool, true, false, not}
use mathlib.Core.List.{List, [], ◌∷◌}
use Prim.Native.Nat.{ℕ, suc, ◌+◌, ◌%◌, ◌≤◌}
use native.Mathlib.Omega.{arith}
use borrow.Author.Tests.{ltb-false, le-ltb, eq-eqb, ne_eqb}
use lib.Dec.{ltb, eqb}
use lib.ListN.{length}
use Rattle.std.specs.Prelude.{Result, Ok, Err}
use Rattle.base_rules.specs.Refusal.{number}
use Rattle.base_rules.specs.declared.Refusal.{Refusal}
use Rattle.base_rules.specs.Bounds.{least_l, most_l}
use Rattle.base_rules.specs.Tests.{first, bit}
use Rattle.base_rules.proofs.Answers.{one_told}
use Rattle.base_rules.proofs.ByFault.{told_ok, told_err}
use Rattle.base_rules.proofs.Firsts.{skip, none_due, clear, clear_rest}
use Rattle.base_rules.proofs.Logic.{or_left, or_right, same, same_from, bit_one}
use Rattle.af_rules.specs.Packet.{sync, major, packet_type, sync_of, len_of, seq_of, ar_of, major_of, minor_of, pt_of, cf_of, covered_of, crc_of, crc_for}
use Rattle.af_rules.specs.Calls.{bad_length, bad_crc, af_fault, check_call, values_of, number_of}
use Rattle.af_rules.specs.declared.Figures.{Figures}

-- ---- the tests from each number on

module _ (s : List ℕ) where
  -- the last of the AF tests alone: a CRC field that is not as CF calls for gives 25
  abbrev pub from_25 : List (Bool × ℕ)
  from_25 = (bad_crc s, 25) ∷ []

  -- from 24 on: a PT that is not "T", then the CRC field
  abbrev pub from_24 : List (Bool × ℕ)
  from_24 = (not (eqb (pt_of s) packet_type), 24) ∷ from_25

  -- from 23 on: a major revision that is not 1, then PT and the CRC field
  abbrev pub from_23 : List (Bool × ℕ)
  from_23 = (not (eqb (major_of s) major), 23) ∷ from_24

  -- from 22 on: a length that is not LEN + 12 or is over 8,192, then the tests of 23 to 25
  abbrev pub from_22 : List (Bool × ℕ)
  from_22 = (bad_length s, 22) ∷ from_23

  -- from 21 on: a packet that does not begin with "AF", then the tests of 22 to 25
  abbrev pub from_21 : List (Bool × ℕ)
  from_21 = (not (eqb (sync_of s) sync), 21) ∷ from_22

  abbrev pub from_20 : List (Bool × ℕ)
  from_20 = (ltb (length s) least_l, 20) ∷ from_21

  -- the first of the tests 20 to 25 that a packet fails gives its number, and 0 is given if it fails none
  pub in_order : first from_20 ≡ af_fault s
  unfolding af_fault
  in_order = refl

-- ---- the two tests that have a name

module _ (s : List ℕ) where
  pub fit_length : length s ≡ len_of s + least_l → length s ≤ most_l → bad_length s ≡ false
  unfolding bad_length
  fit_length e h = rw (eq-eqb (length s) (len_of s + least_l) e, le-ltb most_l (length s) h)

  -- the same as it is worked out, with LEN as it was read
  module _ (len : ℕ) (is-len : len ≡ len_of s) where
    -- a length other than LEN + 12 fails the test of 22
    pub length_other : (length s ≡ len + least_l → ⊥) → true ≡ bad_length s
    unfolding bad_length
    length_other ne = rw (← is-len, ne_eqb (length s) (len + least_l) ne)

    -- of a length that is LEN + 12, the test of 22 asks only whether it is over 8,192
    pub length_over : length s ≡ len + least_l → ltb most_l (length s) ≡ bad_length s
    unfolding bad_length
    length_over e = rw (← is-len, eq-eqb (length s) (len + least_l) e)

  pub length_from : bad_length s ≡ false → (length s ≡ len_of s + least_l) × (length s ≤ most_l)
  unfolding bad_length
  length_from e =
      let other_length : Bool = not (eqb (length s) (len_of s + least_l)) in
      (same_from (or_left other_length _ e), ltb-false most_l (length s) (or_right other_length _ e))

  pub crc_from : bad_crc s ≡ false → crc_of s ≡ crc_for (cf_of s) (covered_of s)
  unfolding bad_crc
  crc_from e = same_from e

  pub fit_crc : crc_of s ≡ crc_for (cf_of s) (covered_of s) → bad_crc s ≡ false
  unfolding bad_crc
  fit_crc e = same e

-- ---- a packet that passes

-- all that the checks 20 to 25 ask of a packet
pub record Passing (s : List ℕ) : Type 0 where
  pub long : least_l ≤ length s
  pub synced : sync_of s ≡ sync
  pub sized : length s ≡ len_of s + least_l
  pub most : length s ≤ most_l
  pub revised : major_of s ≡ major
  pub typed : pt_of s ≡ packet_type
  pub summed : crc_of s ≡ crc_for (cf_of s) (covered_of s)

-- a packet that has all this passes the AF checks
pub passes : (s : List ℕ) → Passing s → 0 ≡ af_fault s
passes s p =
    skip 20 (from_21 s) (le-ltb (length s) least_l p.long)
    (skip 21 (from_22 s) (same p.synced)
    (skip 22 (from_23 s) (fit_length s p.sized p.most)
    (skip 23 (from_24 s) (same p.revised)
    (skip 24 (from_25 s) (same p.typed)
    (skip 25 [] (fit_crc s p.summed) none_due)))))
    ∙ in_order s

-- and one that passes them has all this
pub passing : (s : List ℕ) → af_fault s ≡ 0 → Passing s
passing s e =
    let some : (n : ℕ) → (suc n ≡ 0 → ⊥) = λ n (z : suc n ≡ 0). omega arith in
    let e₀ : first (from_20 s) ≡ 0 = in_order s ∙ e in
    let e₁ : first (from_21 s) ≡ 0 = clear_rest _ 20 (from_21 s) (some 19) e₀ in
    let e₂ : first (from_22 s) ≡ 0 = clear_rest _ 21 (from_22 s) (some 20) e₁ in
    let e₃ : first (from_23 s) ≡ 0 = clear_rest _ 22 (from_23 s) (some 21) e₂ in
    let e₄ : first (from_24 s) ≡ 0 = clear_rest _ 23 (from_24 s) (some 22) e₃ in
    let e₅ : first (from_25 s) ≡ 0 = clear_rest _ 24 (from_25 s) (some 23) e₄ in
    let lengths = length_from s (clear _ 22 (from_23 s) (some 21) e₂) in
    record {
      long = ltb-false (length s) least_l (clear _ 20 (from_21 s) (some 19) e₀);
      synced = same_from (clear _ 21 (from_22 s) (some 20) e₁);
      sized = lengths.0;
      most = lengths.1;
      revised = same_from (clear _ 23 (from_24 s) (some 22) e₃);
      typed = same_from (clear _ 24 (from_25 s) (some 23) e₄);
      summed = crc_from s (clear _ 25 [] (some 24) e₅);
    }

-- ---- the answers of a check, case by case

module _ (s : List ℕ) where
  -- where a number is due, the check refuses with it
  pub check_refused : (e : Refusal) → number e ≡ af_fault s → number_of (Err e) ≡ check_call s
  unfolding check_call number_of
  check_refused e due = told_err (af_fault s) values_of _ e due

  -- where none is due, it answers SEQ, CF, the minor revision out of AR, and LEN
  pub check_granted : (p : Figures) (ar : ℕ) → 0 ≡ af_fault s → p.seq ≡ seq_of s → p.cf ≡ cf_of s → ar ≡ ar_of s → p.minor ≡ ar % 16
      → p.len ≡ len_of s → number_of (Ok p) ≡ check_call s
  unfolding check_call number_of values_of
  check_granted p ar e is-seq is-cf is-ar is-minor is-len =
      let values : p.seq ∷ bit p.cf ∷ p.minor ∷ p.len ∷ [] ≡ seq_of s ∷ bit (cf_of s) ∷ minor_of s ∷ len_of s ∷ [] = simp
      (is-seq, is-cf, is-minor, is-ar, is-len) in
      told_ok (af_fault s) values_of _ p e values

-- no second answer fits
made : ℕ → Bool → ℕ → ℕ → Figures
made seq cf minor len = record { seq = seq; cf = cf; minor = minor; len = len }

figures_one : (p q : Figures) → p.seq ≡ q.seq → p.cf ≡ q.cf → p.minor ≡ q.minor → p.len ≡ q.len
    → made p.seq p.cf p.minor p.len ≡ made q.seq q.cf q.minor q.len
figures_one p q e₁ e₂ e₃ e₄ = cc

one_figures : (p q : Figures) → values_of p ≡ values_of q → p ≡ q
unfolding values_of made
one_figures p q e = figures_one p q (cc) (bit_one p.cf q.cf (cc)) (cc) (cc)

pub one_checked : (a b : Result Figures Refusal) → number_of a ≡ number_of b → a ≡ b
unfolding number_of
one_checked a b e = one_told values_of one_figures a b e
