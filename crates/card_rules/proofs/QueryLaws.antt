-- What the query's and the clearing's calls for C tell and leave. Assumes nothing.
use mathlib.Core.Path.{◌≡◌, refl, sym, ap, ap₂, ◌∙◌}
use mathlib.Core.Bool.{Bool, cond}
use mathlib.Core.List.{List, [], ◌∷◌, ◌++◌, append-nil, append_assoc}
use Prim.Native.Nat.{ℕ, zero, suc}
use native.Mathlib.Omega.{arith}
use borrow.Author.Tests.{eq-eqb, ne_eqb}
use lib.Dec.{eqb}
use lib.ListN.{length, get_or, length-replicate}
use Rattle.std.specs.Prelude.{Result, Ok, Err}
use Rattle.base_rules.specs.Answer.{Answer, granted, refused, answered, outcome}
use Rattle.base_rules.specs.Bounds.{most_l}
use Rattle.base_rules.specs.Written.{number_of}
use Rattle.base_rules.specs.Refusal.{number, told}
use Rattle.base_rules.specs.declared.Refusal.{Refusal}
use Rattle.base_rules.proofs.Answers.{grants, refuses, writes, leaves}
use Rattle.code_rules.proofs.CallCases.{granted_by, refused_by}
use Rattle.packed_rules.specs.Packed.{table-bytes, packed_of, pack_call, unpack_call}
use Rattle.packed_rules.proofs.Proved.{fresh_zeros}
use Rattle.places_rules.specs.declared.Place.{Place}
use Rattle.places_rules.specs.declared.Table.{Table}
use Rattle.places_rules.specs.Places.{free, fresh_table, place_at, key_in}
use Rattle.receiver_rules.specs.Promise.{room_fault}
use Rattle.receiver_rules.specs.Calls.{shown_of, seen_values, queried_number, query_call, clear_call}
use Rattle.receiver_rules.specs.declared.Seen.{Seen}
use Rattle.receiver_rules.specs.declared.Seen.TheVariants as seen
use Rattle.receiver_rules.specs.declared.Shown.{Shown}
use Rattle.card_rules.specs.Told.{refusal_in, CardWritten, CardTold}
use Rattle.card_rules.specs.Receiving.{place_told, places_told, places_widths, query_for, clear_for}
use Rattle.card_rules.specs.inner.Queried.{seen_told, shown_told, queried_in}
use Rattle.card_rules.proofs.ReceiveLaws.{refused_record, good_record, taken_record, long_record, packed_there}
use Rattle.card_rules.proofs.ToldLaws.{handed_on, told_refused, told_as}

-- ---- the values of a query, with a number for a free place too

spread : List ℕ → List ℕ
spread [] = []
spread (zero ∷ v) = 0 ∷ 0 ∷ spread v
spread (suc x ∷ []) = []
spread (suc x ∷ n ∷ v) = suc x ∷ n ∷ spread v

seen_spread : (s : Seen) (v : List ℕ) → spread (seen_values s ++ v) ≡ seen_told s ++ spread v
unfolding spread seen_values seen_told
seen_spread seen.Free v = refl
seen_spread (seen.Open n) v = refl
seen_spread (seen.Delivered n) v = refl
seen_spread (seen.Spoiled n) v = refl

figures_spread : (x n : ℕ) (v : List ℕ) → spread (cond (eqb x free) (free ∷ []) (x ∷ n ∷ []) ++ v) ≡ x ∷ cond (eqb x free) 0 n ∷ spread v
unfolding spread
figures_spread zero n v = refl
figures_spread (suc x) n v = rw (ne_eqb (suc x) free (λ (z : suc x ≡ 0). omega arith))

place_spread : (p : Place) (v : List ℕ) → spread (shown_of p ++ v) ≡ place_told p ++ spread v
unfolding shown_of place_told
place_spread p v = figures_spread p.condition (key_in p) v

-- of four
to_right : (a b c d : List ℕ) → a ++ b ++ c ++ d ≡ a ++ (b ++ (c ++ d))
to_right a b c d = append_assoc (a ++ b) c d ∙ append_assoc a b (c ++ d)

module _ {A : Type 0} (values told : A → List ℕ) (one : (x : A) (v : List ℕ) → spread (values x ++ v) ≡ told x ++ spread v) where
  last : (x : A) → spread (values x) ≡ told x
  unfolding spread
  last x = ap spread (sym (append-nil (values x))) ∙ one x [] ∙ append-nil (told x)

  four_spread : (a b c d : A) → spread (values a ++ values b ++ values c ++ values d) ≡ told a ++ told b ++ told c ++ told d
  four_spread a b c d =
      ap spread (to_right (values a) (values b) (values c) (values d))
      ∙ one a _
      ∙ ap (λ (l : List ℕ). told a ++ l) (one b _ ∙ ap (λ (l : List ℕ). told b ++ l) (one c _ ∙ ap (λ (l : List ℕ). told c ++ l) (last d)))
      ∙ sym (to_right (told a) (told b) (told c) (told d))

-- what a query is answered, as it is told
pub query_told : (q : Result Shown Refusal) (t : Table) (lent : ℕ) → queried_number q ≡ query_call t lent
    → queried_in q ≡ answered (room_fault t lent most_l) (places_told t)
unfolding queried_number query_call queried_in told shown_told places_told
query_told (Ok p) t lent e =
    let shown = granted_by (room_fault t lent most_l) _ _ e in
    ap granted
    (sym (four_spread seen_values seen_told seen_spread p.first p.second p.third p.fourth)
    ∙ ap spread shown.1
    ∙ four_spread shown_of place_told place_spread (place_at t 0) (place_at t 1) (place_at t 2) (place_at t 3))
    ∙ grants (room_fault t lent most_l) (places_told t) shown.0
query_told (Err n) t lent e =
    let due = refused_by (number n) (room_fault t lent most_l) _ e in
    refuses (number n) (room_fault t lent most_l) (places_told t) due.1 due.0

-- ---- the values, one by one

pair : (s : Seen) (rest : List ℕ) → get_or (seen_told s) 0 0 ∷ get_or (seen_told s) 1 0 ∷ rest ≡ seen_told s ++ rest
unfolding seen_told
pair seen.Free rest = refl
pair (seen.Open n) rest = refl
pair (seen.Delivered n) rest = refl
pair (seen.Spoiled n) rest = refl

next : (s : Seen) {l rest more : List ℕ} → l ≡ seen_told s → rest ≡ more → get_or l 0 0 ∷ get_or l 1 0 ∷ rest ≡ seen_told s ++ more
next s {more = more} e h = ap₂ (λ (x y : List ℕ). get_or x 0 0 ∷ get_or x 1 0 ∷ y) e h ∙ pair s more

-- condition and number taken place by place are the eight figures told of all four
pub eight : (p : Shown) {a b c d : List ℕ} → a ≡ seen_told p.first → b ≡ seen_told p.second → c ≡ seen_told p.third → d ≡ seen_told p.fourth
    → get_or a 0 0 ∷ get_or a 1 0 ∷ get_or b 0 0 ∷ get_or b 1 0 ∷ get_or c 0 0 ∷ get_or c 1 0 ∷ get_or d 0 0 ∷ get_or d 1 0 ∷ [] ≡ shown_told p
unfolding shown_told
eight p ea eb ec ed =
    next p.first ea (next p.second eb (next p.third ec (next p.fourth ed refl ∙ append-nil (seen_told p.fourth))))
    ∙ sym (to_right (seen_told p.first) (seen_told p.second) (seen_told p.third) (seen_told p.fourth))

-- ---- the query's ends

module _ (s : List ℕ) (lent : ℕ) (before : List ℕ) (w : Result (Unit {0}) Refusal) (t : Table) (e : (number_of w, t) ≡ unpack_call s) where
  -- a query of bytes that are no record gives the number of unpacking and tells nothing
  pub query_refused : (n : Refusal) → w ≡ Err n → CardTold places_widths (query_for s lent) before before (number n)
  unfolding query_for
  query_refused n is = told_refused places_widths before (refused_record s w t e refused _ n is)

  -- a query of a record tells what `query` answers of it
  pub query_done : {after : List ℕ} {r : ℕ} (q : Result Shown Refusal) → w ≡ Ok tt → queried_number q ≡ query_call t lent
      → CardTold places_widths (queried_in q) before after r → CardTold places_widths (query_for s lent) before after r
  unfolding query_for
  query_done q is asked said = told_as places_widths before (query_told q t lent asked ∙ sym (taken_record s w t e refused _ is)) said

-- ---- the clearing's ends

fresh_length : length (packed_of fresh_table) ≡ table-bytes
fresh_length = ap length fresh_zeros ∙ length-replicate {A = ℕ} table-bytes 0

module _ (s : List ℕ) (lent : ℕ) (w : Result (Unit {0}) Refusal) (t : Table) (e : (number_of w, t) ≡ unpack_call s) where
  -- a clearing of bytes that are no record gives the number of unpacking and leaves them
  pub clear_no_record : (n : Refusal) → w ≡ Err n → CardWritten (clear_for s lent) s (number n)
  unfolding clear_for refusal_in
  clear_no_record n is = handed_on {a = refused (number n)} (sym (refused_record s w t e _ _ n is)) refl

  module _ (v : Result (Unit {0}) Refusal) (x : Table) (cleared : (number_of v, x) ≡ clear_call t lent) (is : w ≡ Ok tt) where
    due : number_of v ≡ answered (room_fault t lent most_l) []
    unfolding clear_call
    due = ap (λ (y : Answer × Table). y.0) cleared

    -- a clearing that `clear` refuses gives its number and leaves the bytes of the record
    pub clear_refused : (n : Refusal) → v ≡ Err n → CardWritten (clear_for s lent) s (number n)
    unfolding clear_for refusal_in number_of told
    clear_refused n is-v =
        let by = refused_by (number n) (room_fault t lent most_l) [] (sym (ap number_of is-v) ∙ due) in
        handed_on {a = refused (number n)}
        (leaves (number n) (room_fault t lent most_l) [] (packed_of fresh_table) s by.1 by.0 ∙ sym (taken_record s w t e _ _ is))
        refl

    -- a clearing that is not refused gives 0 and leaves the bytes of a fresh record
    pub clear_done : (after : List ℕ) (u : Result (Unit {0}) Refusal) → v ≡ Ok tt → outcome (number_of u) after ≡ pack_call x s → CardWritten (clear_for s lent) after 0
    unfolding clear_for clear_call refusal_in number_of told
    clear_done after u is-v packed =
        let fault : ℕ = room_fault t lent most_l in
        let by = granted_by fault [] [] (sym (ap number_of is-v) ∙ due) in
        let chosen : x ≡ cond (eqb fault 0) fresh_table t = ap (λ (y : Answer × Table). y.1) cleared in
        let fresh : x ≡ fresh_table = chosen ∙ ap (λ (b : Bool). cond b fresh_table t) (eq-eqb fault 0 (sym by.0)) in
        let there : after ≡ packed_of fresh_table =
        packed_there fresh_table s after u fresh_length (long_record s (good_record s w t e is).0) (packed
        ∙ ap (λ (y : Table). pack_call y s) fresh) in
        handed_on {a = granted []} (writes fault [] (packed_of fresh_table) s after by.0 there ∙ sym (taken_record s w t e _ _ is)) refl
