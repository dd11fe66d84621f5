-- The lines of a run beside its calls: that there are such calls, and what came in them, by tests that are computed over the lines. Assumes nothing.
use mathlib.Core.Path.{◌≡◌, refl, sym, ap, ap₂, ◌∙◌, fun_ext}
use mathlib.Core.Bool.{Bool, true, false, not, ◌&&◌, ◌||◌}
use mathlib.Core.List.{List, [], ◌∷◌, map, reverse}
use Prim.Native.Nat.{ℕ, zero, suc, ◌≤◌, ◌<◌}
use native.Mathlib.Omega.{arith}
use borrow.Author.Tests.{eqb-true, ne_eqb}
use lib.Dec.{leb, eqb}
use lib.ListN.{length, take, drop}
use Rattle.base_rules.specs.Bounds.{most_l}
use Rattle.base_rules.specs.Tests.{among}
use Rattle.base_rules.proofs.Logic.{either, clash, and_left, and_right}
use Rattle.cut_rules.specs.Missing.{losses}
use Rattle.link.specs.Run.{Call, fresh_with, heard, number_in, index_in, come, lost, All, Each, Input, input_of, Lawful}
use Rattle.link.specs.Demand.{count, key_for, Among, Begins, enough_after, BeforeDone}
use Rattle.link.specs.Examples.{settings_of, packet_under, own_at, datagram_at, Arrival, Line, Comes, Beside, none, one_more, Playable}
use Rattle.link.proofs.Enough.{suffices, enough_is}
use Rattle.link.proofs.Runs.{some_run}
use Rattle.link.proofs.Packets.{count_under, bearable, sent_takes, sent_count, sent_bears, its_key}
use Rattle.link.proofs.Brings.{possible, hears, number_at, index_at, bytes_arrival, Kind, fault_is, number_is, index_is}

-- ---- lines beside calls

module _ {P : Line → Call → Type 0} where
  -- the last ones of both lists
  pub beside_take : {ls : List Line} {es : List Call} (k : ℕ) → Beside P ls es → Beside P (take k ls) (take k es)
  beside_take zero b = none
  beside_take (suc k) none = none
  beside_take (suc k) (one_more p b) = one_more p (beside_take k b)

  -- and what stands before them
  pub beside_drop : {ls : List Line} {es : List Call} (k : ℕ) → Beside P ls es → Beside P (drop k ls) (drop k es)
  beside_drop zero b = b
  beside_drop (suc k) none = none
  beside_drop (suc k) (one_more p b) = beside_drop k b

-- the calls have what the lines say, and that is possible
abbrev pub Kinds : List Line → List Call → Type 0
Kinds ls es = Beside (λ l e. Kind l.0 e) ls es

-- each line is possible
unfoldable pub all_possible : List Line → Bool
all_possible [] = true
all_possible (l ∷ ls) = possible l.0 && all_possible ls

-- then so are the calls that have what they say
pub kinds : {ls : List Line} {es : List Call} → all_possible ls ≡ true → Beside Comes ls es → Kinds ls es
unfolding all_possible
kinds p none = none
kinds p (one_more {l = l} c b) =
    one_more (record { fine = and_left (possible l.0) _ p; own = c.own; datagram = c.datagram }) (kinds (and_right (possible l.0) _ p) b)

-- ---- there are such calls

module _ (out : List ℕ) where
  abbrev input_for : Line → Input
  input_for l = record { own = own_at l.0; datagram = datagram_at l.0; lent = out }

  lawful : most_l ≤ length out → (ls : List Line) → all_possible ls ≡ true → Lawful (map input_for ls)
  unfolding Lawful all_possible
  lawful room [] p = tt
  lawful room (l ∷ ls) p = (room, bytes_arrival l.0 (and_left (possible l.0) _ p), lawful room ls (and_right (possible l.0) _ p))

  inputs_are : (ls : List Line) (es : List Call) → map input_of es ≡ map input_for ls → Beside Comes ls es × All (λ e. e.lent ≡ out) es
  unfolding All
  inputs_are [] [] is = (none, tt)
  inputs_are [] (e ∷ es) is = let z : suc (length (map input_of es)) ≡ 0 = ap length is in absurd (omega arith)
  inputs_are (l ∷ ls) [] is = let z : 0 ≡ suc (length (map input_for ls)) = ap length is in absurd (omega arith)
  inputs_are (l ∷ ls) (e ∷ es) is =
      let head : input_of e ≡ input_for l = cc in
      let rest : map input_of es ≡ map input_for ls = cc in
      let more = inputs_are ls es rest in (
        one_more (record { own = ap (λ (i : Input). i.own) head; datagram = ap (λ (i : Input). i.datagram) head }) more.0,
        (ap (λ (i : Input). i.lent) head, more.1),
      )

-- possible lines can be played, with any lent bytes and any buffer with room
pub playable : (lines : List Line) → all_possible (reverse lines) ≡ true → Playable lines
playable lines p lent out all room =
    let x = some_run (fresh_with lent) (map (input_for out) (reverse lines)) (lawful out room (reverse lines) p) in
    let comes = inputs_are out (reverse lines) x.0 x.2 in
    (record { lent = lent; all = all; es = x.0; now = x.1; run = x.3; comes = comes.0 }, refl, comes.1)

-- ---- what came

-- fragment i of the number n is among these lines, and heard
unfoldable pub came : ℕ → List Line → ℕ → Bool
came n [] i = false
came n (l ∷ ls) i = (hears l.0 && (eqb (number_at l.0) n && eqb (index_at l.0) i)) || came n ls i

-- a call is heard just where what comes is
pub heard_is : {a : Arrival} {e : Call} → Kind a e → heard e ≡ hears a
heard_is k = ap (λ (x : ℕ). eqb x 0) (fault_is k)

one_came : (n i : ℕ) {a : Arrival} {e : Call} → Kind a e
    → (heard e && (eqb (number_in e) n && eqb (index_in e) i)) ≡ (hears a && (eqb (number_at a) n && eqb (index_at a) i))
one_came n i {a} {e} k =
    either (hears a)
    (λ h. simp (heard_is k ∙ h, h, number_is k h, index_is k h))
    (λ h. simp (heard_is k ∙ h, h))

-- the fragments that came in the calls are those among the lines
come_is : (n : ℕ) {ls : List Line} {es : List Call} → Kinds ls es → come n es ≡ came n ls
unfolding come came
come_is n none = fun_ext (λ i. refl)
come_is n (one_more k b) = fun_ext (λ i. ap₂ ◌||◌ (one_came n i k) (ap (λ (c : ℕ → Bool). c i) (come_is n b)))

-- how many fragments of the number n are missing
unfoldable pub missed : ℕ → List Line → ℕ
missed n ls = losses (λ i. not (came n ls i)) (count_under n)

-- and whether the others are enough
unfoldable pub enough_in : ℕ → List Line → Bool
enough_in n ls = leb (missed n ls) (bearable n)

module _ (n : ℕ) {ls : List Line} {es : List Call} (k : Kinds ls es) where
  -- the same by the number that the receiver tells it by
  pub come-key : come (key_for (settings_of n) n) es ≡ came n ls
  come-key = ap (λ (key : ℕ). come key es) (its_key n) ∙ come_is n k

  -- so many of its fragments are lost
  pub lost_is : losses (lost (key_for (settings_of n) n) es) (count (settings_of n) (packet_under n)) ≡ missed n ls
  unfolding missed
  lost_is = ap₂ (λ (c : ℕ → Bool) (f : ℕ). losses (λ i. not (c i)) f) come-key (sent_count n)

  -- and it is enough just where the lines say it
  pub enough_told : n < 65536 → enough_after (settings_of n) n (packet_under n) es ≡ enough_in n ls
  unfolding enough_in missed
  enough_told small =
      enough_is (settings_of n) (packet_under n) (sent_takes n small).passed n es ∙ ap (suffices (settings_of n) (packet_under n)) come-key
      ∙ sent_bears n (came n ls)

-- ---- what demand 3 supposes

-- the oldest line is heard, with the number n
unfoldable pub begins_with : ℕ → List Line → Bool
begins_with n [] = true
begins_with n (l ∷ []) = hears l.0 && eqb (number_at l.0) n
begins_with n (l ∷ (k ∷ ls)) = begins_with n (k ∷ ls)

-- then the first call is
pub begins : (n : ℕ) {ls : List Line} {es : List Call} → Kinds ls es → begins_with n ls ≡ true → Begins (key_for (settings_of n) n) es
unfolding Begins begins_with
begins n none t = tt
begins n (one_more {l = l} k none) t =
    let h : hears l.0 ≡ true = and_left (hears l.0) _ t in
    (heard_is k ∙ h, number_is k h ∙ eqb-true _ n (and_right (hears l.0) _ t) ∙ sym (its_key n))
begins n (one_more k (one_more {l = l} j b)) t = begins n (one_more {l = l} j b) t

-- before it is enough, what is heard has the number n or one of the others
abbrev allowed : ℕ → List ℕ → Arrival → List Line → Bool
allowed n others a ls = not (hears a) || (eqb (number_at a) n || (enough_in n ls || among (number_at a) others))

-- of each line
unfoldable pub limited : ℕ → List ℕ → List Line → Bool
limited n others [] = true
limited n others (l ∷ ls) = allowed n others l.0 ls && limited n others ls

-- of two tests of which one is true and the first is not, it is the second
pub or_false : (a b : Bool) → (a || b) ≡ true → a ≡ false → b ≡ true
or_false true b t f = clash refl f
or_false false b t f = t

-- then so is it of the calls
pub limit : (n : ℕ) → n < 65536 → (others : List ℕ) {ls : List Line} {es : List Call} → Kinds ls es → limited n others ls ≡ true
    → BeforeDone (settings_of n) n (packet_under n) (Among (key_for (settings_of n) n) others) es
unfolding Each Among limited
limit n small others none t = tt
limit n small others (one_more {l = l} {ls = ls} k b) t = (
  (λ before h strange.
      let hears-it : hears l.0 ≡ true = sym (heard_is k) ∙ h in
      let is = number_is k hears-it in
      let other : eqb (number_at l.0) n ≡ false = ne_eqb _ n (λ z. strange (is ∙ z ∙ sym (its_key n))) in
      let not_yet : enough_in n ls ≡ false = sym (enough_told n b small) ∙ before in
      let t' = or_false (not (hears l.0)) _ (and_left (allowed n others l.0 ls) _ t) (ap not hears-it) in
      ap (λ (m : ℕ). among m others) is ∙ or_false (enough_in n ls) _ (or_false (eqb (number_at l.0) n) _ t' other) not_yet),
  limit n small others b (and_right (allowed n others l.0 ls) _ t),
)
