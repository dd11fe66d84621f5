-- Numbers of eight bytes, and a walk as bytes. Assumes nothing.
use mathlib.Core.Path.{◌≡◌, refl, sym, ap, ◌∙◌}
use mathlib.Core.Bool.{true, false, not, or-true}
use mathlib.Core.List.{List, [], ◌∷◌}
use Prim.Native.Nat.{ℕ, ◌+◌, ◌*◌, ◌<◌, ◌≤◌}
use native.Mathlib.Nat.{pos_of_ne-zero}
use native.Mathlib.Omega.{arith}
use borrow.Author.Tests.{eq-eqb, ne_eqb, lt-ltb, le-ltb}
use lib.Dec.{eqb, lit<}
use lib.ListN.{length, get_or}
use Rattle.base_rules.specs.Answer.{Answer, granted, refused, outcome}
use Rattle.base_rules.specs.Bytes.{number_at, bytes_of}
use Rattle.base_rules.proofs.Answers.{writes, leaves}
use Rattle.base_rules.proofs.Firsts.{due, skip, none_due}
use Rattle.base_rules.proofs.Logic.{hit, same, other}
use Rattle.item_rules.specs.declared.Repeats.{Repeats}
use Rattle.walk_rules.specs.declared.Walked.{Walked}
use Rattle.walk_rules.specs.declared.Walker.{Walker}
use Rattle.walk_rules.specs.Step.{opens}
use Rattle.card_rules.specs.Told.{refusal_in, in_widths, told_length, room_for, told_of, CardTold}
use Rattle.card_rules.specs.Items.{walker_widths, walker_bytes, walker_bytes_of, walker_from, walk_open_fault, walk_open_call}
use Rattle.card_rules.specs.Items.{step_widths, stepped_number, stepped, step_room, walk_step_call, walker_after, CardStepped}
use Rattle.card_rules.proofs.TellLaws.{fits_room, told_room, whole}

-- ---- numbers

-- a number of eight bytes is that of its first four, times 2^32, and that of its last four
pub eight_read : (s : List ℕ) (i : ℕ) {a b : ℕ} → a ≡ number_at 4 s i → b ≡ number_at 4 s (i + 4) → a * 4294967296 + b ≡ number_at 8 s i
unfolding number_at
eight_read s i p q =
    let at : (k n : ℕ) → i + 4 + k ≡ i + n → get_or s (i + 4 + k) 0 ≡ get_or s (i + n) 0 = λ k n e. ap (λ (j : ℕ). get_or s j 0) e in
    omega (arith, at 0 4 (omega arith), at 1 5 (omega arith), at 2 6 (omega arith), at 3 7 (omega arith))

-- ---- a walk as bytes

-- the seven numbers of eight bytes each are the position, the depth and the five ends of the walk
pub walker_read : (s : List ℕ) {at depth a b c d e : ℕ} → at ≡ number_at 8 s 0 → depth ≡ number_at 8 s 8 → a ≡ number_at 8 s 16 → b ≡ number_at 8 s 24
    → c ≡ number_at 8 s 32 → d ≡ number_at 8 s 40 → e ≡ number_at 8 s 48
    → record { refusal = 0; at = at; depth = depth; ends = a ∷ b ∷ c ∷ d ∷ e ∷ [] } ≡ walker_from s
unfolding walker_from
walker_read s is_at is-depth is-a is_b is_c is-d is-e = rw (is_at, is-depth, is-a, is_b, is_c, is-d, is-e)

-- the ends are five
pub five : (l : List ℕ) → length l ≡ 5 → l ≡ get_or l 0 0 ∷ get_or l 1 0 ∷ get_or l 2 0 ∷ get_or l 3 0 ∷ get_or l 4 0 ∷ []
five (a ∷ b ∷ c ∷ d ∷ e ∷ []) h = refl
five [] h = absurd (omega arith)
five (a ∷ []) h = absurd (omega arith)
five (a ∷ b ∷ []) h = absurd (omega arith)
five (a ∷ b ∷ c ∷ []) h = absurd (omega arith)
five (a ∷ b ∷ c ∷ d ∷ []) h = absurd (omega arith)
five (a ∷ b ∷ c ∷ d ∷ e ∷ f ∷ l) h = absurd (omega arith)

-- its numbers are all of the bytes
pub walker_laid : (d : List ℕ) (w : Walker) {y : List ℕ} {r : ℕ} → length d ≡ walker_bytes → length w.ends ≡ 5
    → (let ends = w.ends in
    CardTold walker_widths (granted (w.at ∷ w.depth ∷ get_or ends 0 0 ∷ get_or ends 1 0 ∷ get_or ends 2 0 ∷ get_or ends 3 0 ∷ get_or ends 4 0 ∷ [])) d y r)
    → y ≡ walker_bytes_of w
unfolding walker_bytes_of in_widths bytes_of told_length
walker_laid d w long ends said =
    said.told ∙ told_room walker_widths _ d (omega arith) ∙ whole d _ (sym long)
    ∙ ap (λ (l : List ℕ). in_widths walker_widths (w.at ∷ w.depth ∷ l)) (sym (five w.ends ends))

-- ---- opening a walk

module _ (word : Repeats) (packet names walker : List ℕ) (w : Walker) (e : w ≡ opens word packet names) where
  is_refusal : w.refusal ≡ (opens word packet names).refusal
  is_refusal = ap (λ (x : Walker). x.refusal) e

  -- a walk that is refused gives its number and leaves the lent bytes, however many they are
  pub open_refused : (w.refusal ≡ 0 → ⊥) → outcome (refused w.refusal) walker ≡ walk_open_call word packet names walker
  unfolding walk_open_call walk_open_fault
  open_refused h =
      leaves w.refusal _ _ _ _ (pos_of_ne-zero h)
      (is_refusal ∙ due (opens word packet names).refusal _ (other (λ (z : (opens word packet names).refusal ≡ 0). h (is_refusal ∙ z))))

  -- a walk that is not refused gives 1 where the lent bytes are not 56, and leaves them
  pub open_short : w.refusal ≡ 0 → (length walker ≡ walker_bytes → ⊥) → outcome (refused 1) walker ≡ walk_open_call word packet names walker
  unfolding walk_open_call walk_open_fault
  open_short z h = leaves 1 _ _ _ _ (lit< tt) (skip _ _ (same (sym is_refusal ∙ z)) (due 1 _ (other h)))

  -- with 56 bytes lent, a walk that is not refused stands in them
  pub open_done : {y : List ℕ} → w.refusal ≡ 0 → length walker ≡ walker_bytes → y ≡ walker_bytes_of w
      → outcome (granted []) y ≡ walk_open_call word packet names walker
  unfolding walk_open_call walk_open_fault
  open_done z l is_y = writes _ _ _ _ _ (skip _ _ (same (sym is_refusal ∙ z)) (skip 1 _ (same l) none_due)) (is_y ∙ ap walker_bytes_of e)

-- ---- a step

module _ (walker told : List ℕ) where
  -- 1 ROOM where the bytes are not those of a walk,
  no_walk : (length walker ≡ walker_bytes → ⊥) → step_room walker told ≡ true
  unfolding step_room
  no_walk h = sym (hit _ (other h))

  -- or too few to tell in,
  no_place : length told < told_length step_widths → step_room walker told ≡ true
  unfolding step_room
  no_place short = rw (lt-ltb (length told) (told_length step_widths) short) (or-true (not (eqb (length walker) walker_bytes)))

  -- and else not
  room : length walker ≡ walker_bytes → told_length step_widths ≤ length told → step_room walker told ≡ false
  unfolding step_room
  room long fits = rw (same long, le-ltb (length told) (told_length step_widths) fits)

-- what is answered where there is room
pub answers : (packet names walker told : List ℕ) (x : Walked) → length walker ≡ walker_bytes → told_length step_widths ≤ length told
    → x ≡ stepped packet names walker → stepped_number x.handed ≡ walk_step_call packet names walker told
unfolding walk_step_call
answers packet names walker told x long fits is_x = rw (room walker told long fits) (ap (λ (y : Walked). stepped_number y.handed) is_x)

module _ (packet names walker told : List ℕ) where
  no_room : step_room walker told ≡ true → CardStepped packet names walker walker told told 1
  unfolding walk_step_call walker_after refusal_in told_of
  no_room e = record { number = rw e refl; tells = rw e refl; goes = rw e refl }

  -- a step gives 1 where the bytes of the walk are not 56, tells nothing and leaves them,
  pub step_short : (length walker ≡ walker_bytes → ⊥) → CardStepped packet names walker walker told told 1
  step_short h = no_room (no_walk walker told h)

  -- and where those to tell in are too few
  pub step_untold : length told < told_length step_widths → CardStepped packet names walker walker told told 1
  step_untold short = no_room (no_place walker told short)

  module _ (x : Walked) (long : length walker ≡ walker_bytes) (fits : told_length step_widths ≤ length told) (is_x : x ≡ stepped packet names walker) where
    -- where a step goes on, and where it is refused
    module _ {r : ℕ} {told_afterwards : List ℕ} (said : CardTold step_widths (stepped_number x.handed) told told_afterwards r) where
      answered_so : room_for step_widths told (stepped_number x.handed) ≡ walk_step_call packet names walker told
      answered_so = fits_room step_widths told (stepped_number x.handed) fits ∙ answers packet names walker told x long fits is_x

      is_number : r ≡ refusal_in (walk_step_call packet names walker told)
      is_number = said.number ∙ ap refusal_in answered_so

      is_told : told_afterwards ≡ told_of step_widths (walk_step_call packet names walker told) told
      is_told = said.told ∙ ap (λ (a : Answer). told_of step_widths a told) answered_so

      -- after a step that is not refused, the bytes are those of the walk where it goes on
      pub step_on : {y : List ℕ} → r ≡ 0 → y ≡ walker_bytes_of x.next → CardStepped packet names walker y told told_afterwards r
      unfolding walker_after
      step_on z is_y = record {
        number = is_number;
        tells = is_told;
        goes =
            rw (eq-eqb (refusal_in (walk_step_call packet names walker told)) 0 (sym is_number ∙ z))
            (is_y ∙ ap (λ (y : Walked). walker_bytes_of y.next) is_x);
      }

      -- a step that is refused leaves the bytes of the walk as they were
      pub step-not : (r ≡ 0 → ⊥) → CardStepped packet names walker walker told told_afterwards r
      unfolding walker_after
      step-not h = record {
        number = is_number;
        tells = is_told;
        goes =
            rw (ne_eqb (refusal_in (walk_step_call packet names walker told)) 0
            (λ (z : refusal_in (walk_step_call packet names walker told) ≡ 0). h (is_number ∙ z)))
            refl;
      }
