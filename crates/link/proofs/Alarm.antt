-- No answer names a number that it did not displace. Assumes nothing.
use mathlib.Core.Path.{◌≡◌, refl, sym, ap, ◌∙◌}
use mathlib.Core.Bool.{Bool, true, cond}
use mathlib.Core.List.{List, [], ◌∷◌}
use Prim.Native.Nat.{ℕ, ◌+◌, ◌≤◌}
use native.Mathlib.Omega.{arith}
use borrow.Author.Tests.{eqb-true}
use lib.Dec.{eqb}
use Rattle.std.specs.Prelude.{Option, Some, None}
use Rattle.base_rules.proofs.Logic.{either, clash}
use Rattle.header_rules.specs.Read.{fields_of}
use Rattle.places_rules.specs.declared.Place.{Place}
use Rattle.places_rules.specs.declared.Table.{Table}
use Rattle.places_rules.specs.Places.{four, open_now, place_at, key_in, key_of, holds, held_at, open_at, displaced_at, turned}
use Rattle.receiver_rules.specs.Promise.{displaced_values, number_of, Reception, refused_as, State, keep_at}
use Rattle.link.specs.Run.{Call, after, Made, Reached, Holds, ShownOpen}
use Rattle.link.specs.Demand.{Names, by_kept, by_delivered, by_damaged, NamesGone}
use Rattle.link.proofs.Basic.{same_or_not, held_absent, held_none, holds_yes, holds_other}
use Rattle.link.proofs.View.{View, unheard, refuses, keeps, opens}
use Rattle.link.proofs.Frame.{Wrote, wrote_opened, see, good_reached}
use Rattle.link.proofs.Ring.{held_once}
use Rattle.link.proofs.Shown.{shown_open}
use Rattle.link.proofs.Stage.{settled_names}

-- ---- what an answer names

-- 0 where it names none, else the number and one more
named_in : List ℕ → ℕ
named_in [] = 0
named_in (a ∷ []) = 0
named_in (a ∷ (b ∷ [])) = b + 1
named_in (a ∷ (b ∷ (c ∷ []))) = 0
named_in (a ∷ (b ∷ (c ∷ (d ∷ s)))) = d + 1

code : Option ℕ → ℕ
code None = 0
code (Some n) = n + 1

names_code : (d : Option ℕ) (a : ℕ × List ℕ) → Names d a → named_in a.1 ≡ code d
unfolding number_of displaced_values named_in code
names_code None a by_kept = refl
names_code None a (by_delivered l m) = refl
names_code None a by_damaged = refl
names_code (Some n) a by_kept = refl
names_code (Some n) a (by_delivered l m) = refl
names_code (Some n) a by_damaged = refl

displaced_code : (t : Table) (i n : ℕ) → code (displaced_at t i) ≡ n + 1 → ((place_at t i).condition ≡ open_now) × (key_in (place_at t i) ≡ n)
unfolding displaced_at code
displaced_code t i n e =
    let p : Place = place_at t i in
    either (eqb p.condition open_now)
    (λ is.
    let z : key_in p + 1 ≡ n + 1 = sym (ap (λ (v : Bool). code (cond v (Some (key_in p)) None)) is) ∙ e in
    (eqb-true _ _ is, omega (arith, z)))
    (λ no.
    let z : 0 ≡ n + 1 = sym (ap (λ (v : Bool). code (cond v (Some (key_in p)) None)) no) ∙ e in
    absurd (omega (arith, z)))

module _ (s : State) (c : Reached s) (e : Call) (made : Made s e) (n : ℕ) (names : Names (Some n) e.left.answer) where
  its_code : named_in e.left.answer.1 ≡ n + 1
  unfolding code
  its_code = names_code (Some n) e.left.answer names

  refused_none : (x : ℕ) → e.left ≡ refused_as x s.table s.bytes e.lent → ⊥
  unfolding refused_as named_in
  refused_none x q =
      let z : 0 ≡ n + 1 = sym (ap (λ (y : Reception). named_in y.answer.1) q) ∙ its_code in
      omega (arith, z)

  gone : View e.own s e.datagram e.lent e.left → ShownOpen s n × (Holds (after e) n → ⊥)
  unfolding keep_at code
  gone (unheard fault q) = absurd (refused_none _ q)
  gone (refuses passes low fault q) = absurd (refused_none _ q)
  gone (keeps passes low fault z) =
      let none : named_in e.left.answer.1 ≡ 0 = names_code None _ (settled_names z) in
      absurd (omega (arith, none, its_code))
  gone (opens passes high z) =
      let t : Table = s.table in
      let j : ℕ = open_at t in
      let w : Wrote s (turned t j) (fields_of e.datagram) j e.left =
      wrote_opened e.own s (good_reached c) e.datagram e.lent made.bytes passes e.left _ z in
      let was : ((place_at t j).condition ≡ open_now) × (key_in (place_at t j) ≡ n) =
      displaced_code t j n (sym (names_code (displaced_at t j) _ (settled_names z)) ∙ its_code) in
      let held : holds (place_at t j) n ≡ true = holds_yes (place_at t j) n (λ q. omega (arith, was.0, q)) was.1 in
      let other : key_of (fields_of e.datagram) ≡ n → ⊥ =
      λ q. clash held (ap (λ (x : ℕ). holds (place_at t j) x) (sym q) ∙ held_absent t (key_of (fields_of e.datagram)) high j w.below) in
      let none : four ≤ held_at e.left.table n =
      held_none e.left.table n
      (λ i l.
      same_or_not i j
      (λ q.
      ap (λ (x : ℕ). holds (place_at e.left.table x) n) q ∙ ap (λ (p : Place). holds p n) w.here
      ∙ holds_other w.place_now n (λ is. other (sym w.number ∙ is)))
      (λ q.
      ap (λ (p : Place). holds p n) (w.others i q)
      ∙ either (holds (place_at t i) n) (λ h. absurd (q (held_once s c i j n l w.below h held))) (λ h. h))) in
      (shown_open (good_reached c) j n w.below was.0 was.1, (λ h. omega (arith, none, h)))

pub names_gone : NamesGone
names_gone s c e made n names = gone s c e made n names (see (good_reached c) made)
