-- An item's own fault, by what the tests say.
use mathlib.Core.Path.{◌≡◌, refl, sym}
use mathlib.Core.Bool.{Bool, true, false, not, ◌&&◌}
use mathlib.Core.List.{[], ◌∷◌}
use Prim.Native.Nat.{ℕ}
use native.Mathlib.Omega.{arith}
use lib.Dec.{eqb}
use borrow.Author.Tests.{ne_eqb}
use Rattle.base_rules.specs.Tests.{first}
use Rattle.base_rules.proofs.Logic.{either, and_false}
use Rattle.base_rules.proofs.Firsts.{due, skip, none_due}
use Rattle.item_rules.specs.declared.Item.{Item}
use Rattle.item_rules.specs.Run.{dmy, bad_ptr, fault_of}

-- a "*dmy" has no fault, whether its name has stood before or not
pub fault_dmy : (before : Bool) (i : Item) → i.name ≡ dmy → ◌≡◌ {A = ℕ} 0 (fault_of before i)
unfolding fault_of first bad_ptr
fault_dmy before i q = rw q

module _ (before : Bool) (i : Item) where
  -- any other name that has stood before is refused as 31 TWICE
  pub fault_again : (i.name ≡ dmy → ⊥) → before ≡ true → ◌≡◌ {A = ℕ} 31 (fault_of before i)
  unfolding fault_of
  fault_again h q = due _ _ (simp (ne_eqb _ _ h, q))

  fresh : before ≡ false → not (eqb i.name dmy) && before ≡ false
  fresh q = simp (q, and_false)

  -- a first "*ptr" that has not 64 bits is refused as 33 PTR
  pub fault_ptr : before ≡ false → bad_ptr i.name i.bits.0 ≡ true → ◌≡◌ {A = ℕ} 33 (fault_of before i)
  unfolding fault_of
  fault_ptr q p = skip _ _ (fresh q) (due _ _ p)

  -- an item whose name has not stood before, and that is no "*ptr" of other than 64 bits, has no fault
  pub fault_none : before ≡ false → bad_ptr i.name i.bits.0 ≡ false → ◌≡◌ {A = ℕ} 0 (fault_of before i)
  unfolding fault_of
  fault_none q p = skip _ _ (fresh q) (skip _ _ p none_due)

-- ---- where names may repeat

-- an item that is not refused as 31 has the same fault where it does not count that its name has stood before
pub fault_still : (before : Bool) (i : Item) → (fault_of before i ≡ 31 → ⊥) → fault_of false i ≡ fault_of before i
unfolding fault_of
fault_still false i h = refl
fault_still true i h = either (eqb i.name dmy) (λ t. simp t) (λ f. absurd (h (sym (due _ _ (simp f)))))

-- and there no item is refused as 31
pub fault_never : (i : Item) → fault_of false i ≡ 31 → ⊥
unfolding fault_of first
fault_never i = go (eqb i.name dmy) (bad_ptr i.name i.bits.0)
  where
    go : (d p : Bool) → first ((not d && false, 31) ∷ (p, 33) ∷ []) ≡ 31 → ⊥
    go true true q = omega arith
    go true false q = omega arith
    go false true q = omega arith
    go false false q = omega arith
