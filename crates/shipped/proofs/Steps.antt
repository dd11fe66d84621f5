-- What a call of `receive` answers fits the bytes in which C has it: numbers of two bytes, and no refusal as 13. Assumes nothing.
use mathlib.Core.Path.{◌≡◌, refl, sym, ap, ◌∙◌, subst}
use mathlib.Core.Bool.{true}
use mathlib.Core.List.{List, []}
use Prim.Native.Nat.{ℕ, ◌≤◌, ◌<◌}
use native.Mathlib.Omega.{arith}
use lib.Dec.{eqb}
use lib.ListN.{length}
use Rattle.std.specs.Prelude.{Option, Result, Ok, Err}
use Rattle.base_rules.specs.Refusal.{number, refusal_of}
use Rattle.base_rules.specs.declared.Refusal.{Refusal}
use Rattle.base_rules.specs.Bounds.{most_l, most_f}
use Rattle.base_rules.proofs.ByFault.{named}
use Rattle.base_rules.proofs.Refusals.{named_is}
use Rattle.base_rules.proofs.Logic.{either}
use Rattle.cut_rules.specs.declared.Address.{Address}
use Rattle.header_rules.specs.declared.Header.{Header}
use Rattle.header_rules.specs.Read.{fields_of}
use Rattle.header_rules.proofs.Numbers.{fault_named}
use Rattle.packed_rules.specs.Claims.{TypedTable}
use Rattle.places_rules.specs.declared.Table.{Table}
use Rattle.places_rules.specs.Places.{open_now, place_at, key_in, displaced_at}
use Rattle.receiver_rules.specs.Promise.{number_of, Reception, reception, refused_as, keep_at, Settled, waits, delivers, damaged, State, Step}
use Rattle.receiver_rules.specs.declared.Received.{Received}
use Rattle.receiver_rules.specs.declared.Received.TheVariants.{Kept, Delivered, Damaged}
use Rattle.receiver_rules.proofs.Named.{place_named}
use Rattle.receiver_rules.proofs.Proved.{one_received}
use Rattle.receiver_rules.proofs.Ranges.{opens_below}
use Rattle.card_rules.proofs.Proved.{receipt_whole}
use Rattle.card_rules.proofs.RefusalLaws.{header_other, place_other}
use Rattle.link.proofs.View.{Good, View, unheard, refuses, keeps, opens, view}
use Rattle.shipped.proofs.Read.{FitsDisplaced, Fits}
use Rattle.shipped.proofs.Typed.{key_small}

-- ---- numbers

displaced_fits : (t : Table) (i : ℕ) → key_in (place_at t i) < 65536 → FitsDisplaced (displaced_at t i)
unfolding displaced_at
displaced_fits t i l = either (eqb (place_at t i).condition open_now) (λ e. rw e l) (λ e. rw e tt)

-- an answer whose numbers are those of y, and which is told whole
abbrev pub Answers : Reception → Type 0
Answers y = (a : Result Received Refusal) × (y.answer ≡ number_of a) × Fits a

settled_fits : {t : Table} {i : ℕ} {d : Option ℕ} {b out : List ℕ} {y : Reception} → FitsDisplaced d
    → ((l m : ℕ) (d : Option ℕ) → y.answer ≡ number_of (Ok (Delivered l m d)) → (l ≤ most_l) × (m ≤ most_f))
    → Settled t i d b out y → Answers y
unfolding reception
settled_fits {d = d} f whole (waits e) = (Ok (Kept d), refl, f)
settled_fits {d = d} f whole (delivers P e a) =
    (Ok (Delivered _ _ d), refl, (omega (arith, (whole _ _ d refl).0), omega (arith, (whole _ _ d refl).1), f))
settled_fits {d = d} f whole (damaged e a) = (Ok (Damaged d), refl, f)

-- a number that stands for a refusal, and is neither 0 nor 13, is told whole
refused_fits : {n : ℕ} {y : Reception} (t : Table) (b o : List ℕ) → named n ≡ true → (n ≡ 0 → ⊥) → (n ≡ 13 → ⊥) → y ≡ refused_as n t b o → Answers y
unfolding refused_as number_of
refused_fits {n} t b o stands some other q =
    let due : number (refusal_of n) ≡ n = named_is n stands some in (
      Err (refusal_of n),
      ap (λ (z : Reception). z.answer) q ∙ ap (λ (x : ℕ). (x, [])) (sym due),
      (λ z. some (sym due ∙ z), λ z. other (sym due ∙ z)),
    )

module _ (own : Option Address) (s : State) (d o : List ℕ) (y : Reception) (r : Good s) (typed : TypedTable s.table) where
  abbrev h : Header
  h = fields_of d

  view_fits : Step own s d o y → View own s d o y → Answers y
  unfolding keep_at
  view_fits step (unheard n q) = refused_fits s.table s.bytes o (fault_named own d) n (header_other own d) q
  view_fits step (refuses e l n q) = refused_fits s.table s.bytes o (place_named _ h) n (place_other _ h) q
  view_fits step (keeps e l n z) = settled_fits tt (receipt_whole own s d o y step) z
  view_fits step (opens e l z) =
      settled_fits (displaced_fits s.table _ (key_small (typed.each _ (opens_below s.table r.ranged)))) (receipt_whole own s d o y step) z

  -- what a call answers is the answer of some case, which is told whole,
  pub step_answers : most_l ≤ length o → Step own s d o y → Answers y
  step_answers room step = view_fits step (view own s d o y r room step)

  -- and so is every answer that it can be taken for
  pub step_fits : most_l ≤ length o → Step own s d o y → (a : Result Received Refusal) → y.answer ≡ number_of a → Fits a
  step_fits room step a q =
      let there = step_answers room step in
      subst Fits (one_received there.0 a (sym there.1 ∙ q)) there.2
