-- Writing the record: what is laid down piece by piece is the record. Assumes nothing.
use mathlib.Core.Path.{◌≡◌, refl, sym, ap, ap₂, ◌∙◌, subst}
use mathlib.Core.List.{List, [], ◌∷◌, ◌++◌, map}
use Prim.Native.Nat.{ℕ, ◌+◌, ◌*◌, ◌≤◌, ◌<◌}
use native.Mathlib.Omega.{arith}
use borrow.Author.Tests.{lt-ltb, le-ltb}
use lib.Dec.{lit<}
use lib.ListN.{length, get_or, length-append, length-map}
use Rattle.base_rules.specs.Answer.{Answer, outcome}
use Rattle.base_rules.specs.Bounds.{most_f}
use Rattle.base_rules.specs.Bytes.{splice, bytes_of}
use Rattle.base_rules.specs.Tests.{bit}
use Rattle.base_rules.specs.Written.{number_of, put_of}
use Rattle.std.specs.Prelude.{Result, Err}
use Rattle.base_rules.specs.Refusal.{told, number}
use Rattle.base_rules.specs.declared.Refusal.{Refusal}
use Rattle.base_rules.specs.declared.Refusal.TheVariants as refusal
use Rattle.base_rules.proofs.Answers.{writes, leaves, put_is, put_done}
use Rattle.base_rules.proofs.Firsts.{due, skip, none_due}
use Rattle.base_rules.proofs.Splice.{splice-length, splice_next, splice-then}
use Rattle.places_rules.specs.declared.Place.{Place}
use Rattle.places_rules.specs.declared.Table.{Table}
use Rattle.places_rules.specs.Places.{four, place_at}
use Rattle.packed_rules.specs.Packed.{figures_of, packed_place, place-bytes, table-bytes, packed_of, pack_call}

-- ---- the figures

-- the 14 bytes that were worked out, each in its turn, are the figures of the place
pub figures_are : (p : Place) {n f s l : List ℕ} {fec : ℕ} → n ≡ bytes_of 2 p.number → f ≡ bytes_of 4 p.count → s ≡ bytes_of 2 p.size
    → l ≡ bytes_of 2 p.last → fec ≡ bit p.fec
    → p.condition ∷ get_or n 0 0 ∷ get_or n 1 0 ∷ get_or f 0 0 ∷ get_or f 1 0 ∷ get_or f 2 0 ∷ get_or f 3 0 ∷ fec ∷ p.rsk ∷ p.rsz
    ∷ get_or s 0 0 ∷ get_or s 1 0 ∷ get_or l 0 0 ∷ get_or l 1 0 ∷ [] ≡ figures_of p
unfolding figures_of bytes_of
figures_are p is_n is_f is_s is-l is-fec = rw (is_n, is_f, is_s, is-l, is-fec)

length_figures : (p : Place) → length (figures_of p) ≡ 14
unfolding figures_of bytes_of
length_figures p = refl

-- a place with 256 flags is packed into 14 + 256 bytes
pub length-place : (p : Place) → length p.kept ≡ most_f → length (packed_place p) ≡ place-bytes
unfolding packed_place
length-place p e = omega (arith, length-append (figures_of p) (map bit p.kept), length_figures p, length-map p.kept bit)

-- ---- a place

-- what is laid down of place i, from `at` on
abbrev Laid : Table → ℕ → ℕ → List ℕ → List ℕ → Type 0
Laid t i at x y = (length (packed_place (place_at t i)) ≡ place-bytes) × (y ≡ splice x at (packed_place (place_at t i)))

-- the figures, and behind them the flags
pub place_laid : (t : Table) (i : ℕ) (p : Place) (out x y f k : List ℕ) (at : ℕ) (a b : Answer) → p ≡ place_at t i → at + place-bytes ≤ length out
    → length p.kept ≡ most_f → f ≡ figures_of p → k ≡ map bit p.kept → outcome a x ≡ put_of out at f → outcome b y ≡ put_of x (at + 14) k
    → Laid t i at out y
unfolding packed_place
place_laid t i p out x y f k at a b is-p room long is_f is_k e₁ e₂ =
    let long-f : length f ≡ 14 = ap length is_f ∙ length_figures p in
    let long-k : length k ≡ most_f = ap length is_k ∙ length-map p.kept bit ∙ long in
    let is_x : x ≡ splice out at f = put_is out f x at a (omega arith) e₁ in
    let same : length x ≡ length out = ap length is_x ∙ splice-length out at f (omega arith) in
    let is_y : y ≡ splice out at (packed_place p) =
    put_is x k y (at + 14) b (omega arith) e₂
    ∙ ap (λ (l : List ℕ). splice l (at + 14) k) is_x
    ∙ ap (λ (n : ℕ). splice (splice out at f) n k) (omega (arith, long-f))
    ∙ splice-then out f k at (omega arith)
    ∙ ap₂ (λ (l m : List ℕ). splice out at (l ++ m)) is_f is_k in
    subst (λ (q : Place). (length (packed_place q) ≡ place-bytes) × (y ≡ splice out at (packed_place q))) is-p (length-place p long, is_y)

-- ---- the record

-- one run behind another, from the start
next_laid : (out x y a b : List ℕ) (n : ℕ) → length a ≡ n → x ≡ splice out 0 a → y ≡ splice x n b → y ≡ splice out 0 (a ++ b)
next_laid out x y a b n long is_x is_y = is_y ∙ ap (λ (l : List ℕ). splice l n b) is_x ∙ splice_next out a b n long

module _ (t : Table) (out : List ℕ) where
  -- packing into fewer bytes than a record takes is refused as 1 ROOM, and the bytes stay
  pub no_room : length out < table-bytes → outcome (number_of (Err refusal.Room)) out ≡ pack_call t out
  unfolding number_of told number pack_call
  no_room h = leaves 1 _ _ _ _ (lit< tt) (due 1 _ (lt-ltb (length out) table-bytes h))

  -- with room, the four places one behind another and then the oldest are what packing writes
  pub table_laid : (x₁ x₂ x₃ x₄ y : List ℕ) (w : Result (Unit {0}) Refusal) → table-bytes ≤ length out → Laid t 0 0 out x₁ → Laid t 1 place-bytes x₁ x₂
      → Laid t 2 (2 * place-bytes) x₂ x₃ → Laid t 3 (3 * place-bytes) x₃ x₄
      → outcome (number_of w) y ≡ put_of x₄ (four * place-bytes) (t.oldest ∷ []) → outcome (number_of w) y ≡ pack_call t out
  unfolding number_of told pack_call packed_of
  table_laid x₁ x₂ x₃ x₄ y w room e₁ e₂ e₃ e₄ e =
      let p₀ : List ℕ = packed_place (place_at t 0) in
      let p₁ : List ℕ = packed_place (place_at t 1) in
      let p₂ : List ℕ = packed_place (place_at t 2) in
      let p₃ : List ℕ = packed_place (place_at t 3) in
      let n₂ : length (p₀ ++ p₁) ≡ 2 * place-bytes = omega (arith, length-append p₀ p₁, e₁.0, e₂.0) in
      let n₃ : length (p₀ ++ p₁ ++ p₂) ≡ 3 * place-bytes = omega (arith, length-append (p₀ ++ p₁) p₂, e₃.0) in
      let n₄ : length (p₀ ++ p₁ ++ p₂ ++ p₃) ≡ four * place-bytes = omega (arith, length-append (p₀ ++ p₁ ++ p₂) p₃, e₄.0) in
      let z₂ : x₂ ≡ splice out 0 (p₀ ++ p₁) = next_laid out x₁ x₂ p₀ p₁ place-bytes e₁.0 e₁.1 e₂.1 in
      let z₃ : x₃ ≡ splice out 0 (p₀ ++ p₁ ++ p₂) = next_laid out x₂ x₃ (p₀ ++ p₁) p₂ (2 * place-bytes) n₂ z₂ e₃.1 in
      let z₄ : x₄ ≡ splice out 0 (p₀ ++ p₁ ++ p₂ ++ p₃) = next_laid out x₃ x₄ (p₀ ++ p₁ ++ p₂) p₃ (3 * place-bytes) n₃ z₃ e₄.1 in
      let same : length x₄ ≡ length out = ap length z₄ ∙ splice-length out 0 (p₀ ++ p₁ ++ p₂ ++ p₃) (omega arith) in
      let is_y : splice x₄ (four * place-bytes) (t.oldest ∷ []) ≡ splice out 0 (packed_of t) =
      next_laid out x₄ _ (p₀ ++ p₁ ++ p₂ ++ p₃) (t.oldest ∷ []) (four * place-bytes) n₄ z₄ refl in
      e
      ∙ sym (put_done x₄ (t.oldest ∷ []) (four * place-bytes) _ (omega arith) refl)
      ∙ writes _ _ _ _ _ (skip 1 _ (le-ltb (length out) table-bytes room) none_due) is_y
