-- No refusal of the TAG layer is 60, so that 60 says which item was found. Assumes nothing.
use mathlib.Core.Path.{◌≡◌, refl, sym, ap, ◌∙◌}
use mathlib.Core.Bool.{Bool, true, false, not, ◌&&◌, ◌||◌}
use mathlib.Core.List.{List, [], ◌∷◌}
use Prim.Native.Nat.{ℕ, zero, suc}
use native.Mathlib.Omega.{arith}
use lib.Dec.{eqb}
use lib.ListN.{length}
use borrow.Author.Tests.{eq-eqb, ne_eqb}
use Rattle.base_rules.specs.Tests.{first, among}
use Rattle.base_rules.proofs.Logic.{either}
use Rattle.base_rules.specs.Refusal.{number, told}
use Rattle.item_rules.specs.declared.Item.{Item}
use Rattle.item_rules.specs.declared.Repeats.{Repeats}
use Rattle.item_rules.specs.Run.{bad_ptr, dmy, fault_of, faults_of, forbids, has_name, or_else}
use Rattle.item_rules.proofs.Repeated.{or-never}
use Rattle.item_rules.proofs.Runs.{every-run}
use Rattle.tag_rules.specs.Find.{whole_run, check_of}
use Rattle.tag_rules.specs.Calls.{locate_fault}
use Rattle.tag_rules.proofs.Numbers.{refused_by}
use Rattle.bandwidth_rules.specs.Read.{rbw, rbw_bits, bandwidth_number, bits_told, bandwidth_fault, bandwidth_values, bandwidth_call}
use Rattle.bandwidth_rules.specs.Claims.{OtherLength}
use Rattle.bandwidth_rules.proofs.Reading.{read_number}

-- a list of tests with other numbers does not give 60,
one_not_60 : (b : Bool) (n : ℕ) → (n ≡ 60 → ⊥) → first ((b, n) ∷ []) ≡ 60 → ⊥
unfolding first
one_not_60 true n p e = p e
one_not_60 false n p e = omega (arith, e)

two-not_60 : (b c : Bool) (n m : ℕ) → (n ≡ 60 → ⊥) → (m ≡ 60 → ⊥) → first ((b, n) ∷ (c, m) ∷ []) ≡ 60 → ⊥
unfolding first
two-not_60 true c n m p q e = p e
two-not_60 false c n m p q e = one_not_60 c m q e

-- so no item's own fault is 60,
fault_not_60 : (before : Bool) (i : Item) → fault_of before i ≡ 60 → ⊥
unfolding fault_of
fault_not_60 before i =
    two-not_60 (not (eqb i.name dmy) && before) (bad_ptr i.name i.bits.0) 31 33 (λ e. omega (arith, e)) (λ e. omega (arith, e))

-- nor that of a packet,
check_not_60 : (w : Repeats) (s : List ℕ) → check_of w s ≡ 60 → ⊥
unfolding check_of faults_of
check_not_60 w s =
    every-run s (length s) (λ at r. (seen : List ℕ) → faults_of w seen r ≡ 60 → ⊥)
    (λ at i e behind seen. or-never 60 _ _ (fault_not_60 (forbids w && among i.name seen) i) (behind (i.name ∷ seen)))
    (λ at p few left seen e. omega (arith, e)) (λ at seen e. omega (arith, e)) 0 []

-- nor that of a search
locate_not_60 : (w : Repeats) (s t : List ℕ) (name : ℕ) → locate_fault w s t name ≡ 60 → ⊥
unfolding locate_fault
locate_not_60 w s t name =
    or-never 60 _ _ (check_not_60 w s)
    (or-never 60 _ _ (check_not_60 w t)
    (one_not_60 (not (has_name name (whole_run s) || has_name name (whole_run t))) 34 (λ e. omega (arith, e))))

-- what is refused with 60 has a length that is neither
other_by : (fault bits : ℕ) → (fault ≡ 60 → ⊥) → 60 ≡ or_else fault (first ((not (eqb bits rbw_bits || eqb bits 0), 60) ∷ []))
    → (fault ≡ 0) × (bits ≡ rbw_bits → ⊥) × (bits ≡ 0 → ⊥)
unfolding first
other_by (suc n) bits none e = absurd (none (sym (rw (ne_eqb (suc n) 0 (λ z. omega (arith, z))) at e)))
other_by zero bits none e = (
  refl,
  (λ b. let q : ◌≡◌ {A = ℕ} 60 0 = rw (eq-eqb bits rbw_bits b) at e in omega (arith, q)),
  (λ b. let z : bits ≡ 0 = b in left z),
)
  where
    left : bits ≡ 0 → ⊥
    left z = either (eqb bits rbw_bits) (λ t. let q : ◌≡◌ {A = ℕ} 60 0 = rw t at e in omega (arith, q))
        (λ f. let q : ◌≡◌ {A = ℕ} 60 0 = rw (f, eq-eqb bits 0 z) at e in omega (arith, q))

pub other_length : OtherLength
unfolding bandwidth_number told number bandwidth_call bandwidth_fault
other_length w s t e =
    other_by (locate_fault w s t rbw) (bits_told s t) (locate_not_60 w s t rbw)
    (refused_by 60 (bandwidth_fault w s t) (bandwidth_values w s t) (sym (ap bandwidth_number e) ∙ read_number w s t)).0
