-- What is read, by where the name was found. Assumes nothing.
use mathlib.Core.Path.{◌≡◌, refl, sym, ap, subst, ◌∙◌}
use mathlib.Core.Bool.{Bool, true, false, cond, not, ◌||◌}
use mathlib.Core.List.{List, [], ◌∷◌}
use Prim.Native.Nat.{ℕ, zero, suc, ◌+◌, ◌*◌, ◌<◌}
use native.Mathlib.Nat.{zero-add}
use native.Mathlib.Omega.{arith}
use lib.Dec.{eqb}
use lib.ListN.{length, get_or, take, drop}
use borrow.Author.Tests.{eq-eqb, eqb-true, ne_eqb}
use lib.Ieee.{Float, to_bits, of_bits, binary32}
use lib.Ieee.Bits.{of_bits-to_bits}
use lib.Ieee.Exact.{HasValue}
use Rattle.std.specs.Prelude.{Result, Ok, Err, Option, Some, None}
use Rattle.base_rules.specs.declared.Refusal.{Refusal}
use Rattle.base_rules.specs.declared.Refusal.TheVariants as refusal
use Rattle.base_rules.specs.Refusal.{number, told}
use Rattle.base_rules.proofs.Answers.{one_refusal}
use Rattle.base_rules.specs.Answer.{answered}
use Rattle.base_rules.specs.Bytes.{Bytes, number_at}
use Rattle.base_rules.specs.Round.{ceil}
use Rattle.base_rules.specs.Tests.{first}
use Rattle.base_rules.proofs.ByteLaws.{bytes_take, bytes_drop}
use Rattle.base_rules.proofs.Numbers.{number_lt}
use Rattle.item_rules.specs.declared.Item.{Item}
use Rattle.item_rules.specs.declared.Repeats.{Repeats}
use Rattle.item_rules.specs.Item.{bytes_for}
use Rattle.item_rules.specs.Run.{or_else}
use Rattle.item_rules.proofs.Steps.{zero_one}
use Rattle.tag_rules.specs.Find.{locate_of, value_of, shown_by}
use Rattle.tag_rules.specs.Calls.{values_at, located_number, locate_call, locate_fault, locate_values}
use Rattle.tag_rules.specs.declared.Located.{Located}
use Rattle.tag_rules.specs.declared.Located.TheVariants as located
use Rattle.tag_rules.specs.Claims.{Shown}
use Rattle.tag_rules.proofs.Inside.{found_in}
use Rattle.tag_rules.proofs.Numbers.{locate_number}
use Rattle.bandwidth_rules.specs.Figure.{figures, figure_of}
use Rattle.bandwidth_rules.specs.Read.{rbw, rbw_bits, held_in, pattern_of, said_by, bandwidth_of, bandwidth_number, bits_told}
use Rattle.bandwidth_rules.specs.Read.{bandwidth_fault, bandwidth_values, bandwidth_call}
use Rattle.bandwidth_rules.specs.Claims.{Sent, ReadSent, TwoBytes, ReadExact, OneBandwidth}
use Rattle.bandwidth_rules.proofs.Exact.{figure_exact}
use Rattle.bandwidth_rules.proofs.Range.{figure_fits}
use Rattle.bandwidth_rules.proofs.Figures.{figure_test}

-- ---- the number and the value

-- by the two tests of the bits
held_by : (b c : Bool) (x : Float)
    → bandwidth_number (cond b (Ok (Some x)) (cond c (Ok None) (Err refusal.Width)))
    ≡ answered (first ((not (b || c), 60) ∷ [])) (cond b (to_bits binary32 x ∷ []) [])
unfolding bandwidth_number told pattern_of number answered first
held_by true c x = refl
held_by false true x = refl
held_by false false x = refl

-- the same with the bits that a search tells in values vs
told_held : (bits : ℕ) (value vs : List ℕ) → get_or vs 2 0 ≡ bits → bandwidth_number (held_in bits value)
    ≡ answered (first ((not (eqb (get_or vs 2 0) rbw_bits || eqb (get_or vs 2 0) 0), 60) ∷ []))
    (cond (eqb (get_or vs 2 0) rbw_bits) (to_bits binary32 (figure_of (number_at 2 value 0)) ∷ []) [])
unfolding held_in
told_held bits value vs e = rw e (held_by (eqb bits rbw_bits) (eqb bits 0) (figure_of (number_at 2 value 0)))

module _ (s t : List ℕ) where
  -- what is said has the number of the search, or else that of the bits
  said_number : (l : Result Located Refusal) (fault : ℕ) (vs : List ℕ) → located_number l ≡ answered fault vs → bandwidth_number (said_by s t l)
      ≡ answered (or_else fault (first ((not (eqb (get_or vs 2 0) rbw_bits || eqb (get_or vs 2 0) 0), 60) ∷ [])))
      (cond (eqb (get_or vs 2 0) rbw_bits) (to_bits binary32 (figure_of (number_at 2 (shown_by s t l) 0)) ∷ []) [])
  unfolding located_number told values_at said_by bandwidth_number answered
  said_number (Ok (located.Packet i)) zero vs e = told_held i.bits.0 (value_of s i) vs (sym (cc))
  said_number (Ok (located.Packet i)) (suc n) vs e = absurd (zero_one (cc))
  said_number (Ok (located.Standing i)) zero vs e = told_held i.bits.0 (value_of t i) vs (sym (cc))
  said_number (Ok (located.Standing i)) (suc n) vs e = absurd (zero_one (cc))
  said_number (Err n) zero vs e = absurd (zero_one (cc))
  said_number (Err n) (suc m) vs e = simp (ne_eqb (suc m) 0 (λ z. omega arith)) e

module _ (w : Repeats) (s t : List ℕ) where
  -- so is what is read
  pub read_number : bandwidth_number (bandwidth_of w s t) ≡ bandwidth_call w s t
  unfolding bandwidth_of bandwidth_call bandwidth_fault bandwidth_values bits_told locate_call
  read_number = said_number s t (locate_of w s t rbw) (locate_fault w s t rbw) (locate_values s t rbw) (locate_number w s t rbw)

  -- so an answer that is the defined one has that number
  pub read_told : (a : Result (Option Float) Refusal) → a ≡ bandwidth_of w s t → (a ≡ bandwidth_of w s t) × (bandwidth_number a ≡ bandwidth_call w s t)
  read_told a e = (e, ap bandwidth_number e ∙ read_number)

  -- the answer is what is said by where the name was found
  pub read_by : (l : Result Located Refusal) (a : Result (Option Float) Refusal) → l ≡ locate_of w s t rbw → a ≡ said_by s t l → (a ≡ bandwidth_of w s t) × (bandwidth_number a ≡ bandwidth_call w s t)
  unfolding bandwidth_of
  read_by l a p e = read_told a (e ∙ ap (said_by s t) p)

-- ---- what an item says, by its bits

module _ (bits : ℕ) (value : List ℕ) where
  -- a figure,
  pub says_width : (n : ℕ) (x : Float) → bits ≡ rbw_bits → n ≡ number_at 2 value 0 → x ≡ figure_of n → Ok (Some x) ≡ held_in bits value
  unfolding held_in
  says_width n x b e q = ap (λ (y : Float). Ok (Some y)) (q ∙ ap figure_of e) ∙ sym (simp (eq-eqb bits rbw_bits b))

  -- none available,
  pub says_none : (bits ≡ rbw_bits → ⊥) → bits ≡ 0 → Ok None ≡ held_in bits value
  unfolding held_in
  says_none b c = sym (simp (ne_eqb bits rbw_bits b, eq-eqb bits 0 c))

  -- or nothing, and is refused
  pub says_nothing : (bits ≡ rbw_bits → ⊥) → (bits ≡ 0 → ⊥) → Err refusal.Width ≡ held_in bits value
  unfolding held_in
  says_nothing b c = sym (simp (ne_eqb bits rbw_bits b, ne_eqb bits 0 c))

-- ---- a figure

width_by : (b c : Bool) (x y : Float) → cond b (Ok (Some x)) (cond c (Ok None) (Err refusal.Width)) ≡ Ok (Some y)
    → (b ≡ true) × (y ≡ x)
width_by true c x y e = (refl, cc)
width_by false true x y e = absurd (zero_one (cc))
width_by false false x y e = absurd (zero_one (cc))

none_by : (b c : Bool) (x : Float) → cond b (Ok (Some x)) (cond c (Ok None) (Err refusal.Width)) ≡ Ok None → c ≡ true
none_by true c x e = absurd (zero_one (cc))
none_by false true x e = refl
none_by false false x e = absurd (zero_one (cc))

-- an item that says a figure has 16 bits, and the figure is that of its value
pub held_width : (bits : ℕ) (value : List ℕ) (x : Float) → held_in bits value ≡ Ok (Some x) → (bits ≡ rbw_bits) × (x ≡ figure_of (number_at 2 value 0))
unfolding held_in
held_width bits value x e =
    let by = width_by (eqb bits rbw_bits) (eqb bits 0) (figure_of (number_at 2 value 0)) x e in (eqb-true bits rbw_bits by.0, by.1)

-- and one that says none has 0
pub held_none : (bits : ℕ) (value : List ℕ) → held_in bits value ≡ Ok None → bits ≡ 0
unfolding held_in
held_none bits value e = eqb-true bits 0 (none_by (eqb bits rbw_bits) (eqb bits 0) (figure_of (number_at 2 value 0)) e)

-- the number of two bytes has 16 bits
pub value_below : (s : List ℕ) (i : Item) → Bytes s → number_at 2 (value_of s i) 0 < figures
unfolding value_of
value_below s i h = number_lt 2 (take i.len.0 (drop i.from s)) 0 (bytes_take i.len.0 (drop i.from s) (bytes_drop i.from s h))

-- two bytes
two_bytes : (v : List ℕ) → length v ≡ 2 → v ≡ get_or v 0 0 ∷ get_or v 1 0 ∷ []
two_bytes [] e = absurd (omega (arith, e))
two_bytes (a ∷ []) e = absurd (omega (arith, e))
two_bytes (a ∷ b ∷ []) e = refl
two_bytes (a ∷ b ∷ c ∷ v) e = absurd (omega (arith, e))

-- an item that says a figure has the two bytes of it
held_exact : (s : List ℕ) (i : Item) (x : Float) → Bytes s → Shown s i → held_in i.bits.0 (value_of s i) ≡ Ok (Some x) → TwoBytes (value_of s i) x
unfolding number_at bytes_for ceil
held_exact s i x bytes shown e =
    let v : List ℕ = value_of s i in
    let by = held_width i.bits.0 v x e in
    let n : number_at 2 v 0 ≡ get_or v 0 0 * 256 + get_or v 1 0 = ap (λ (k : ℕ). k * 256 + get_or v 1 0) (zero-add (get_or v 0 0)) in
    record {
      byte1 = get_or v 0 0;
      byte2 = get_or v 1 0;
      two = two_bytes v (shown.whole ∙ ap bytes_for by.0);
      exact = subst (λ (y : Float). HasValue y false (get_or v 0 0 * 256 + get_or v 1 0) 256) (sym by.1)
          (subst (λ (k : ℕ). HasValue (figure_of (number_at 2 v 0)) false k 256) n (figure_exact (number_at 2 v 0) (value_below s i bytes)));
    }

said_exact : (w : Repeats) (s t : List ℕ) (x : Float) → Bytes s → Bytes t → (l : Result Located Refusal) → locate_of w s t rbw ≡ l → said_by s t l ≡ Ok (Some x)
    → TwoBytes (shown_by s t l) x
unfolding said_by
said_exact w s t x bs bt (Ok (located.Packet i)) q e = held_exact s i x bs ((found_in w s t rbw i).0 q) e
said_exact w s t x bs bt (Ok (located.Standing i)) q e = held_exact t i x bt ((found_in w s t rbw i).1 q) e
said_exact w s t x bs bt (Err n) q e = absurd (zero_one (cc))

pub read_exact : ReadExact
unfolding bandwidth_of
read_exact w s t x bs bt e = said_exact w s t x bs bt (locate_of w s t rbw) refl e

sent_by : (b c : Bool) (n : ℕ) → n < figures → Sent (cond b (Ok (Some (figure_of n))) (cond c (Ok None) (Err refusal.Width)))
sent_by true c n h = (figure_fits n, (figure_test n h).0)
sent_by false true n h = tt
sent_by false false n h = tt

said_sent : (s t : List ℕ) (l : Result Located Refusal) → Bytes s → Bytes t → Sent (said_by s t l)
unfolding said_by held_in
said_sent s t (Ok (located.Packet i)) hs ht = sent_by (eqb i.bits.0 rbw_bits) (eqb i.bits.0 0) (number_at 2 (value_of s i) 0) (value_below s i hs)
said_sent s t (Ok (located.Standing i)) hs ht = sent_by (eqb i.bits.0 rbw_bits) (eqb i.bits.0 0) (number_at 2 (value_of t i) 0) (value_below t i ht)
said_sent s t (Err n) hs ht = tt

pub read_sent : ReadSent
unfolding bandwidth_of
read_sent w s t hs ht = said_sent s t (locate_of w s t rbw) hs ht

-- ---- no second answer

pub one_bandwidth : OneBandwidth
unfolding bandwidth_number told pattern_of
one_bandwidth (Ok (Some x)) (Ok (Some y)) p q e =
    let same : to_bits binary32 x ≡ to_bits binary32 y = cc in
    ap (λ (z : Float). Ok (Some z)) (sym (of_bits-to_bits binary32 x p) ∙ ap (of_bits binary32) same ∙ of_bits-to_bits binary32 y q)
one_bandwidth (Ok (Some x)) (Ok None) p q e = absurd (zero_one (cc))
one_bandwidth (Ok (Some x)) (Err n) p q e = absurd (zero_one (cc))
one_bandwidth (Ok None) (Ok (Some y)) p q e = absurd (zero_one (cc))
one_bandwidth (Ok None) (Ok None) p q e = refl
one_bandwidth (Ok None) (Err n) p q e = absurd (zero_one (cc))
one_bandwidth (Err n) (Ok (Some y)) p q e = absurd (zero_one (cc))
one_bandwidth (Err n) (Ok None) p q e = absurd (zero_one (cc))
one_bandwidth (Err n) (Err m) p q e = rw (one_refusal n m cc) refl
