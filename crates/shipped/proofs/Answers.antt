-- What the caller reads of a call's answer, and the answer of `receive` that it is. Assumes nothing.
use mathlib.Core.Logic.{◌⊎◌, inl, inr, ⊎_elim}
use mathlib.Core.Path.{◌≡◌, sym, ap, ap₂, ◌∙◌, subst}
use mathlib.Core.List.{List, [], ◌∷◌, ◌++◌}
use Prim.Native.Nat.{ℕ, ◌<◌}
use native.Mathlib.Omega.{arith}
use borrow.Author.Tests.{ne_eqb}
use lib.Dec.{eqb}
use lib.ListN.{get_or}
use Rattle.std.specs.Prelude.{Option, Some, None, Result, Ok}
use Rattle.base_rules.specs.declared.Refusal.{Refusal}
use Rattle.base_rules.specs.Bytes.{number_at}
use Rattle.base_rules.proofs.Logic.{either}
use Rattle.receiver_rules.specs.Promise.{displaced_values, number_of}
use Rattle.receiver_rules.specs.declared.Received.{Received}
use Rattle.receiver_rules.specs.declared.Received.TheVariants.{Kept, Delivered, Damaged}
use Rattle.receiver_rules.proofs.Proved.{one_received}
use Rattle.card_rules.specs.Receiving.{told_after}
use Rattle.link.specs.Demand as link
use Rattle.link.specs.Demand.{by_kept, by_delivered, by_damaged}
use Rattle.link.proofs.Basic.{same_or_not}
use Rattle.shipped.specs.Runs.{Call, displaced_from, handed_from, answer_from, call_of}
use Rattle.shipped.specs.Main.{HandsOut, Names}
use Rattle.shipped.proofs.Read.{Fits, stands, displaced_told_lem, handed_told}
use Rattle.shipped.proofs.Runs.{Gave}

-- ---- from what `receive` answers to what is told

module _ {e : Call} (gave : Gave e) where
  -- where `receive` answers a, the number of a was given, and a was told whole
  record Tells (a : Result Received Refusal) : Type 0 where
    pub number : e.given ≡ (number_of a).0
    pub told : e.left.told ≡ told_after a e.told
    pub whole : Fits a

  tells : (a : Result Received Refusal) → (call_of e).left.answer ≡ number_of a → Tells a
  tells a q =
      let is : gave.answer ≡ a = one_received gave.answer a (sym gave.read ∙ q) in
      record {
        number = gave.number ∙ ap (λ (x : Result Received Refusal). (number_of x).0) is;
        told = gave.told ∙ ap (λ (x : Result Received Refusal). told_after x e.told) is;
        whole = subst Fits is gave.whole;
      }

  -- a packet that is handed out is told, with its length and the count of its fragments not held
  pub told_handed : (l m : ℕ) (d : Option ℕ) → link.HandsOut (call_of e) l m d
      → HandsOut e × (number_at 2 e.left.told 1 ≡ l) × (number_at 2 e.left.told 3 ≡ m)
  unfolding number_of told_after stands
  told_handed l m d q =
      let t = tells (Ok (Delivered l m d)) q in
      let there = handed_told e.told l m d t.whole.0 t.whole.1 in
      let is : e.left.told ≡ stands e.told 1 l m d = t.told in
      rw is ((t.number, there.0), there.1, there.2)

  names : (handed l m n : ℕ) → n < 65536 → (e.given ≡ 0) ⊎ (e.given ≡ 13)
      → e.left.told ≡ stands e.told handed l m (Some n) → Names e n
  names handed l m n small given is =
      let there = displaced_told_lem e.told handed l m n small in
      record { answered = given; displaced = rw is there.0; number = rw is there.1 }

  -- a number that is named is told
  pub told_named : (n : ℕ) (a : ℕ × List ℕ) → (call_of e).left.answer ≡ a → link.Names (Some n) a → Names e n
  unfolding number_of told_after stands
  told_named n a q by_kept = let t = tells (Ok (Kept (Some n))) q in names 0 0 0 n t.whole (inl t.number) t.told
  told_named n a q (by_delivered l m) = let t = tells (Ok (Delivered l m (Some n))) q in names 1 l m n t.whole.2 (inl t.number) t.told
  told_named n a q by_damaged = let t = tells (Ok (Damaged (Some n))) q in names 0 0 0 n t.whole (inr t.number) t.told

-- ---- from what is told to what `receive` answers

-- the displaced number that is read, or that there was none
displaced_of : (told : List ℕ) → (d : Option ℕ) × (displaced_from told ≡ displaced_values d)
unfolding displaced_from displaced_values
displaced_of told = either (eqb (get_or told 5 0) 0) (λ b. (None, rw b)) (λ b. (Some (number_at 2 told 6), rw b))

-- one that is told is that
displaced_is : (told : List ℕ) (n : ℕ) → get_or told 5 0 ≡ 1 → number_at 2 told 6 ≡ n → displaced_from told ≡ displaced_values (Some n)
unfolding displaced_from displaced_values
displaced_is told n one is = rw (one, is)

module _ (e : Call) where
  abbrev t : List ℕ
  t = e.left.told

  answer_0 : e.given ≡ 0 → (call_of e).left.answer ≡ (0, handed_from t ++ displaced_from t)
  unfolding answer_from
  answer_0 given = rw given

  answer_13 : e.given ≡ 13 → (call_of e).left.answer ≡ (13, displaced_from t)
  unfolding answer_from
  answer_13 given = rw given

  handed_yes : (get_or t 0 0 ≡ 0 → ⊥) → handed_from t ≡ number_at 2 t 1 ∷ number_at 2 t 3 ∷ []
  unfolding handed_from
  handed_yes some = rw (ne_eqb (get_or t 0 0) 0 some)

  handed_no : get_or t 0 0 ≡ 0 → handed_from t ≡ []
  unfolding handed_from
  handed_no none = rw none

  -- what is told as handed out is handed out
  pub link_handed : HandsOut e → (d : Option ℕ) × link.HandsOut (call_of e) (number_at 2 t 1) (number_at 2 t 3) d
  unfolding number_of
  link_handed out =
      let d = displaced_of t in
      (d.0, answer_0 out.0 ∙ ap₂ (λ (x y : List ℕ). (0, x ++ y)) (handed_yes (λ z. omega (arith, out.1))) d.1)

  -- what is told as named is named
  pub link_named : (n : ℕ) → Names e n → link.Names (Some n) (call_of e).left.answer
  unfolding number_of
  link_named n named =
      let d : displaced_from t ≡ displaced_values (Some n) = displaced_is t n named.displaced named.number in
      ⊎_elim
      (λ (given : e.given ≡ 0).
      same_or_not (get_or t 0 0) 0
      (λ none. subst (link.Names (Some n)) (sym (answer_0 given ∙ ap₂ (λ (x y : List ℕ). (0, x ++ y)) (handed_no none) d)) by_kept)
      (λ some. subst (link.Names (Some n)) (sym (answer_0 given ∙ ap₂ (λ (x y : List ℕ). (0, x ++ y)) (handed_yes some) d)) (by_delivered _ _)))
      (λ (given : e.given ≡ 13). subst (link.Names (Some n)) (sym (answer_13 given ∙ ap (λ (x : List ℕ). (13, x)) d)) by_damaged)
      named.answered
