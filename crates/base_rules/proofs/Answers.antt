-- Laws of answers: which case of a definition is which case of a call. Assumes nothing.
use mathlib.Core.Path.{◌≡◌, refl}
use mathlib.Core.List.{List, []}
use Prim.Native.Nat.{ℕ, zero, suc, ◌+◌, ◌<◌, ◌≤◌}
use native.Mathlib.Nat.{not-suc-le-zero}
use borrow.Author.Tests.{lt-ltb, le-ltb}
use lib.Dec.{lit<}
use lib.ListN.{length}
use Rattle.base_rules.specs.Answer.{Answer, granted, refused, outcome, answered, settled}
use Rattle.base_rules.specs.Bytes.{splice}
use Rattle.base_rules.specs.Written.{number_of, put_fault, put_of}
use Rattle.std.specs.Prelude.{Result, Ok, Err}
use Rattle.base_rules.specs.Refusal.{number, refusal_of, told, fault_in}
use Rattle.base_rules.specs.declared.Refusal.{Refusal}
use Rattle.base_rules.specs.declared.Refusal.TheVariants as refusal
use Rattle.base_rules.proofs.Firsts.{due, skip, none_due}

-- a call that grants, and one that refuses
pub grants : (fault : ℕ) (values : List ℕ) → 0 ≡ fault → granted values ≡ answered fault values
unfolding answered
grants fault values e = rw (← e)

-- where a number other than 0 is due, the call refuses with that number, alone
pub refuses : (n fault : ℕ) (values : List ℕ) → 0 < n → n ≡ fault → refused n ≡ answered fault values
unfolding answered
refuses zero fault values h e = absurd (not-suc-le-zero h)
refuses (suc n) fault values h e = rw (← e)

-- the same with lent bytes
pub writes : (fault : ℕ) (values written before after : List ℕ) → 0 ≡ fault → after ≡ written
    → outcome (granted values) after ≡ settled fault values written before
unfolding settled
writes fault values written before after e w = rw (← e, w)

-- where a number other than 0 is due, the call refuses and the lent bytes stay as they were before
pub leaves : (n fault : ℕ) (values written before : List ℕ) → 0 < n → n ≡ fault
    → outcome (refused n) before ≡ settled fault values written before
unfolding settled
leaves zero fault values written before h e = absurd (not-suc-le-zero h)
leaves (suc n) fault values written before h e = rw (← e)

-- a refusal is that of its number
pub refusal_of-number : (e : Refusal) → refusal_of (number e) ≡ e
unfolding number refusal_of
refusal_of-number refusal.Room = refl
refusal_of-number refusal.Short = refl
refusal_of-number refusal.Sync = refl
refusal_of-number refusal.Hcrc = refl
refusal_of-number refusal.Length = refl
refusal_of-number refusal.Address = refl
refusal_of-number refusal.Count = refl
refusal_of-number refusal.Size = refl
refusal_of-number refusal.Mismatch = refl
refusal_of-number refusal.Spoiled = refl
refusal_of-number refusal.Late = refl
refusal_of-number refusal.Repeat = refl
refusal_of-number refusal.Damaged = refl
refusal_of-number refusal.State = refl
refusal_of-number refusal.AfShort = refl
refusal_of-number refusal.AfSync = refl
refusal_of-number refusal.AfLength = refl
refusal_of-number refusal.AfMajor = refl
refusal_of-number refusal.AfType = refl
refusal_of-number refusal.AfCrc = refl
refusal_of-number refusal.Overrun = refl
refusal_of-number refusal.Twice = refl
refusal_of-number refusal.Depth = refl
refusal_of-number refusal.Ptr = refl
refusal_of-number refusal.Absent = refl
refusal_of-number refusal.Whole = refl
refusal_of-number refusal.Settings = refl
refusal_of-number refusal.TooMany = refl
refusal_of-number refusal.Index = refl
refusal_of-number refusal.Bits = refl
refusal_of-number refusal.Zero = refl
refusal_of-number refusal.Width = refl
refusal_of-number refusal.Figure = refl

-- no two refusals have one number
pub one_refusal : (a b : Refusal) → number a ≡ number b → a ≡ b
one_refusal a b e = rw (← refusal_of-number a, e, refusal_of-number b) refl

-- every refusal has a number other than 0
pub number-positive : (e : Refusal) → 0 < number e
unfolding number
number-positive refusal.Room = lit< tt
number-positive refusal.Short = lit< tt
number-positive refusal.Sync = lit< tt
number-positive refusal.Hcrc = lit< tt
number-positive refusal.Length = lit< tt
number-positive refusal.Address = lit< tt
number-positive refusal.Count = lit< tt
number-positive refusal.Size = lit< tt
number-positive refusal.Mismatch = lit< tt
number-positive refusal.Spoiled = lit< tt
number-positive refusal.Late = lit< tt
number-positive refusal.Repeat = lit< tt
number-positive refusal.Damaged = lit< tt
number-positive refusal.State = lit< tt
number-positive refusal.AfShort = lit< tt
number-positive refusal.AfSync = lit< tt
number-positive refusal.AfLength = lit< tt
number-positive refusal.AfMajor = lit< tt
number-positive refusal.AfType = lit< tt
number-positive refusal.AfCrc = lit< tt
number-positive refusal.Overrun = lit< tt
number-positive refusal.Twice = lit< tt
number-positive refusal.Depth = lit< tt
number-positive refusal.Ptr = lit< tt
number-positive refusal.Absent = lit< tt
number-positive refusal.Whole = lit< tt
number-positive refusal.Settings = lit< tt
number-positive refusal.TooMany = lit< tt
number-positive refusal.Index = lit< tt
number-positive refusal.Bits = lit< tt
number-positive refusal.Zero = lit< tt
number-positive refusal.Width = lit< tt
number-positive refusal.Figure = lit< tt

-- no second answer of a call has the same number and values, where no second grant has the same values
pub one_told : {A : Type 0} (values : A → List ℕ) → ((a b : A) → values a ≡ values b → a ≡ b)
    → (r t : Result A Refusal) → told values r ≡ told values t → r ≡ t
unfolding told
one_told values one (Ok a) (Ok b) e = rw (one a b cc) refl
one_told values one (Ok a) (Err n) e = cc
one_told values one (Err n) (Ok b) e = cc
one_told values one (Err n) (Err m) e = rw (one_refusal n m cc) refl

-- no second answer of a call that only writes has the same number
pub one_written : (a b : Result (Unit {0}) Refusal) → number_of a ≡ number_of b → a ≡ b
unfolding number_of
one_written a b e = one_told (λ u. []) (λ (a b : Unit {0}) e. refl) a b e

-- a call that only writes answers the number that is due
pub written_by : (r : Result (Unit {0}) Refusal) (fault : ℕ) → fault_in r ≡ fault → number_of r ≡ answered fault []
unfolding number_of told fault_in
written_by (Ok u) fault e = grants fault [] e
written_by (Err n) fault e = refuses (number n) fault [] (number-positive n) e

-- copying
module _ (d s : List ℕ) (at : ℕ) where
  -- bytes that would pass the end of the buffer are refused as 1 ROOM, and the buffer stays as it was
  pub put_refused : length d < at + length s → outcome (number_of (Err refusal.Room)) d ≡ put_of d at s
  unfolding number_of told number put_of put_fault
  put_refused h = leaves 1 _ _ _ _ (lit< tt) (due 1 _ (lt-ltb (length d) (at + length s) h))

  -- bytes that there is room for are granted, and the buffer has them from `at` on
  pub put_done : (y : List ℕ) → at + length s ≤ length d → y ≡ splice d at s → outcome (number_of (Ok tt)) y ≡ put_of d at s
  unfolding number_of told number put_of put_fault
  put_done y h e = writes _ _ _ _ _ (skip 1 _ (le-ltb (length d) (at + length s) h) none_due) e

-- what is put where there is room is spliced in, whatever was answered
pub put_is : (d s y : List ℕ) (at : ℕ) (a : Answer) → at + length s ≤ length d → outcome a y ≡ put_of d at s → y ≡ splice d at s
put_is d s y at a h e =
    let done : outcome (number_of (Ok tt)) (splice d at s) ≡ put_of d at s = put_done d s at (splice d at s) h refl in
    cc
