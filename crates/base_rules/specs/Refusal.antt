-- Document 01, "Numbers given back": the number of each refusal; 60 and 61 are document 02's.
use Rattle.std.specs.Prelude.{List, ℕ, cond, eqb, Result, Ok, Err}
use Rattle.base_rules.specs.Answer.{Answer, granted, refused}
use Rattle.base_rules.specs.declared.Refusal.{Refusal}
use Rattle.base_rules.specs.declared.Refusal.TheVariants as refusal

-- the number that stands for a refusal
unfoldable pub number : Refusal → ℕ
number refusal.Room = 1
number refusal.Short = 2
number refusal.Sync = 3
number refusal.Hcrc = 4
number refusal.Length = 5
number refusal.Address = 6
number refusal.Count = 7
number refusal.Size = 8
number refusal.Mismatch = 9
number refusal.Spoiled = 10
number refusal.Late = 11
number refusal.Repeat = 12
number refusal.Damaged = 13
number refusal.State = 14
number refusal.AfShort = 20
number refusal.AfSync = 21
number refusal.AfLength = 22
number refusal.AfMajor = 23
number refusal.AfType = 24
number refusal.AfCrc = 25
number refusal.Overrun = 30
number refusal.Twice = 31
number refusal.Depth = 32
number refusal.Ptr = 33
number refusal.Absent = 34
number refusal.Whole = 35
number refusal.Settings = 40
number refusal.TooMany = 41
number refusal.Index = 42
number refusal.Bits = 43
number refusal.Zero = 44
number refusal.Width = 60
number refusal.Figure = 61

-- the refusal that a number stands for; no definition names a number that stands for none
unfoldable pub refusal_of : ℕ → Refusal
refusal_of n =
    cond (eqb n 2) refusal.Short
    (cond (eqb n 3) refusal.Sync
    (cond (eqb n 4) refusal.Hcrc
    (cond (eqb n 5) refusal.Length
    (cond (eqb n 6) refusal.Address
    (cond (eqb n 7) refusal.Count
    (cond (eqb n 8) refusal.Size
    (cond (eqb n 9) refusal.Mismatch
    (cond (eqb n 10) refusal.Spoiled
    (cond (eqb n 11) refusal.Late
    (cond (eqb n 12) refusal.Repeat
    (cond (eqb n 13) refusal.Damaged
    (cond (eqb n 14) refusal.State
    (cond (eqb n 20) refusal.AfShort
    (cond (eqb n 21) refusal.AfSync
    (cond (eqb n 22) refusal.AfLength
    (cond (eqb n 23) refusal.AfMajor
    (cond (eqb n 24) refusal.AfType
    (cond (eqb n 25) refusal.AfCrc
    (cond (eqb n 30) refusal.Overrun
    (cond (eqb n 31) refusal.Twice
    (cond (eqb n 32) refusal.Depth
    (cond (eqb n 33) refusal.Ptr
    (cond (eqb n 34) refusal.Absent
    (cond (eqb n 35) refusal.Whole
    (cond (eqb n 40) refusal.Settings
    (cond (eqb n 41) refusal.TooMany
    (cond (eqb n 42) refusal.Index
    (cond (eqb n 43) refusal.Bits
    (cond (eqb n 44) refusal.Zero
    (cond (eqb n 60) refusal.Width
    (cond (eqb n 61) refusal.Figure
    refusal.Room)))))))))))))))))))))))))))))))

-- document 01's number and values for each case: what is granted carries the values of what it holds, a refusal its number alone
unfoldable pub told : {A : Type 0} → (A → List ℕ) → Result A Refusal → Answer
told values (Ok a) = granted (values a)
told values (Err e) = refused (number e)

-- the number that is due, 0 for none
unfoldable pub fault_in : {A : Type 0} → Result A Refusal → ℕ
fault_in (Ok a) = 0
fault_in (Err e) = number e

-- what a call answers, where `fault` is the number that is due, 0 for none
unfoldable pub answer_by : {A : Type 0} → ℕ → A → Result A Refusal
answer_by fault a = cond (eqb fault 0) (Ok a) (Err (refusal_of fault))

-- an answer with its refusal as a number, as where a caller hands the number in: any number stands there then
abbrev pub numbered : {A : Type 0} → Result A Refusal → Result A ℕ
numbered (Ok a) = Ok a
numbered (Err e) = Err (number e)

-- and such an answer as document 01's number and values
unfoldable pub told_number : {A : Type 0} → (A → List ℕ) → Result A ℕ → Answer
told_number values (Ok a) = granted (values a)
told_number values (Err n) = refused n
