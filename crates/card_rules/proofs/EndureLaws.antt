-- What is told of the losses that a cut stands: the numbers as they are laid in an array, and read back from the bytes. Assumes nothing.
use mathlib.Core.Path.{◌≡◌, refl, sym, ap, ◌∙◌, subst}
use mathlib.Core.Bool.{Bool, true, false}
use mathlib.Core.List.{List, [], ◌∷◌, ◌++◌, map}
use Prim.Native.Nat.{ℕ, suc, ◌+◌, ◌≤◌, ◌<◌}
use native.Mathlib.Omega.{arith}
use lib.ListN.{length, get_or, set, take, drop, replicate, length-map, get_or-append, get_or-map}
use lib.Seq.{take_all}
use Rattle.std.specs.Prelude.{Result, Ok, Err}
use Rattle.base_rules.specs.Answer.{Answer, granted}
use Rattle.base_rules.specs.Refusal.{number, told}
use Rattle.base_rules.specs.declared.Refusal.{Refusal}
use Rattle.base_rules.specs.Bounds.{most_f}
use Rattle.base_rules.specs.Bytes.{splice, number_at, bytes_of}
use Rattle.base_rules.specs.Tests.{bit}
use Rattle.base_rules.proofs.Answers.{grants}
use Rattle.base_rules.proofs.Numbers.{number_back}
use Rattle.cut_rules.specs.Plan.{plan_fault}
use Rattle.cut_rules.specs.Sizes.{f}
use Rattle.cut_rules.proofs.PlanCases.{within}
use Rattle.endurance_rules.specs.Endure.{stands_of, flagged, losing, endure_call, losses_values, endured_number, endurance_of}
use Rattle.endurance_rules.specs.declared.Endurance.{Endurance}
use Rattle.endurance_rules.specs.declared.Losses.{Losses}
use Rattle.packed_rules.proofs.FlagLaws.{filled_more, filled_all}
use Rattle.endurance_rules.proofs.Cuts.{losing-taken}
use Rattle.endurance_rules.proofs.Flags.{length-flagged}
use Rattle.endurance_rules.proofs.Proved.{below}
use Rattle.card_rules.specs.Claims.{EnduranceWhole}
use Rattle.card_rules.specs.Endurance.{with_flags, endure_for, endure_widths}
use Rattle.card_rules.specs.Told.{refusal_in, in_widths, room_for, told_of, CardTold}
use Rattle.card_rules.proofs.TellLaws.{fits_room}
use Rattle.card_rules.proofs.ToldLaws.{told_as, told_refused}

-- ---- the numbers that are told, laid in an array from the left: a list that is filled by the rule that keeps each number as it is

abbrev same : ℕ → ℕ
same x = x

all_same : (xs : List ℕ) → map same xs ≡ xs
all_same [] = refl
all_same (x ∷ xs) = ap (λ (l : List ℕ). x ∷ l) (all_same xs)

module _ (most f : ℕ) (flags : List Bool) where
  abbrev figures : List ℕ
  figures = most ∷ f ∷ map bit flags

  -- the first j are laid
  pub record Laid (told : List ℕ) (j : ℕ) : Type 0 where
    pub front : take j told ≡ map same (take j figures)

  -- the two figures,
  pub laid_two : (rest : List ℕ) → Laid (most ∷ f ∷ rest) (2 + 0)
  laid_two rest = record { front = refl }

  -- one flag more,
  pub laid_flag : (told : List ℕ) (i v : ℕ) → Laid told (2 + i) → 2 + i < length told → i < length flags → v ≡ bit (get_or flags i false)
      → Laid (set told (2 + i) v) (2 + (i + 1))
  laid_flag told i v laid room inside is =
      let two : suc (suc i) ≡ 2 + i = omega arith in
      let next : 2 + i + 1 ≡ 2 + (i + 1) = omega arith in
      let third : v ≡ get_or figures (2 + i) 0 = is ∙ sym (get_or-map bit flags i false) ∙ ap (λ (x : ℕ). get_or figures x 0) two in
      record {
        front = subst (λ (j : ℕ). take j (set told (2 + i) v) ≡ map same (take j figures)) next
            (filled_more same figures told (2 + i) v 0 laid.front room (omega (arith, length-map flags bit)) third);
      }

  -- and all of them
  pub laid_all : (told : List ℕ) (i : ℕ) → Laid told (2 + i) → length told ≤ 2 + i → length flags ≤ i → told ≡ figures
  laid_all told i laid end all =
      filled_all told _ (2 + i) end laid.front
      ∙ all_same (take (2 + i) figures)
      ∙ take_all (2 + i) figures (omega (arith, length-map flags bit))

-- ---- the answer, case by case

module _ (e : Endurance) (before : List ℕ) where
  -- what a cut stands is told: w, f and the set
  pub told_losses : {x : Losses} {widths values after : List ℕ} {r : ℕ} → e.answer ≡ Ok x → widths ≡ endure_widths
      → values ≡ x.most ∷ x.f ∷ map bit e.lost → CardTold widths (granted values) before after r
      → CardTold endure_widths (with_flags (endurance_of e)) before after r
  unfolding with_flags endured_number losses_values told
  told_losses {values = values} {after = after} {r = r} is w v said =
      told_as endure_widths before (ap granted v ∙ sym (ap (λ (a : Result Losses Refusal). with_flags (endured_number a, e.lost)) is))
      (subst (λ (x : List ℕ). CardTold x (granted values) before after r) w said)

  -- of a refusal nothing is
  pub told_nothing : {n : Refusal} → e.answer ≡ Err n → CardTold endure_widths (with_flags (endurance_of e)) before before (number n)
  unfolding with_flags endured_number losses_values told
  told_nothing is = told_refused endure_widths before (ap (λ (a : Result Losses Refusal). with_flags (endured_number a, e.lost)) is)

-- ---- what is told, read back

-- a flag in a byte is the flag's number
flags-bytes : (flags : List Bool) → in_widths (replicate (length flags) 1) (map bit flags) ≡ map bit flags
unfolding in_widths bytes_of
flags-bytes [] = refl
flags-bytes (true ∷ flags) = ap (λ (l : List ℕ). 1 ∷ l) (flags-bytes flags)
flags-bytes (false ∷ flags) = ap (λ (l : List ℕ). 0 ∷ l) (flags-bytes flags)

-- of any number of flags, behind two numbers in two bytes each
module _ (told : List ℕ) (w f n : ℕ) (flags : List Bool) (long : length flags ≡ n) where
  abbrev bytes : List ℕ
  bytes = splice told 0 (in_widths (2 ∷ 2 ∷ replicate n 1) (w ∷ f ∷ map bit flags))

  most_back : w < 65536 → number_at 2 bytes 0 ≡ w
  unfolding splice in_widths bytes_of number_at
  most_back small = number_back 2 w [] small

  count_back : f < 65536 → number_at 2 bytes 2 ≡ f
  unfolding splice in_widths bytes_of number_at
  count_back small = number_back 2 f [] small

  ones : in_widths (replicate n 1) (map bit flags) ≡ map bit flags
  ones = ap (λ (x : ℕ). in_widths (replicate x 1) (map bit flags)) (sym long) ∙ flags-bytes flags

  flag_back : (i : ℕ) → i < n → get_or bytes (4 + i) 0 ≡ bit (get_or flags i false)
  unfolding splice in_widths bytes_of
  flag_back i inside =
      let four : 4 + i ≡ suc (suc (suc (suc i))) = omega arith in
      let room : i < length (map bit flags) = omega (arith, length-map flags bit) in
      ap (λ (x : ℕ). get_or bytes x 0) four
      ∙ ap (λ (l : List ℕ). get_or (l ++ drop (0 + length (in_widths (2 ∷ 2 ∷ replicate n 1) (w ∷ f ∷ map bit flags))) told) i 0) ones
      ∙ get_or-append (map bit flags) _ 0 i room
      ∙ get_or-map bit flags i false

-- what is told of a plan that is not refused reads back as w, f and the set
pub endurance_whole : EnduranceWhole
unfolding endure_for endure_call with_flags refusal_in told_of
endurance_whole g l fault before after r room said =
    let w : ℕ = stands_of g l in
    let count : ℕ = f g l in
    let flags : List Bool = flagged (losing g l) in
    let few = below g l fault in
    let all = (within g l fault).few in
    let due : room_for endure_widths before (endure_for g l) ≡ granted (w ∷ count ∷ map bit flags) =
    fits_room endure_widths before (endure_for g l) room
    ∙ ap (λ (a : Answer). with_flags (a, flags)) (sym (grants (plan_fault g l) (w ∷ count ∷ []) (sym fault))) in
    let told : after ≡ splice before 0 (in_widths endure_widths (w ∷ count ∷ map bit flags)) =
    said.told ∙ ap (λ (a : Answer). told_of endure_widths a before) due in
    let long : length flags ≡ most_f = length-flagged (losing g l) (omega (arith, losing-taken g l fault)) in (
      said.number ∙ ap refusal_in due,
      record {
        most = ap (λ (x : List ℕ). number_at 2 x 0) told ∙ most_back before w count most_f flags long (omega arith);
        count = ap (λ (x : List ℕ). number_at 2 x 2) told ∙ count_back before w count most_f flags long (omega arith);
        set = λ i inside. ap (λ (x : List ℕ). get_or x (4 + i) 0) told ∙ flag_back before w count most_f flags long i inside;
      },
    )
