-- A fragment that a place keeps has the place's figures, and two fragments of a place do not overlap. Assumes nothing.
use mathlib.Core.Path.{◌≡◌, refl, sym, ap, ◌∙◌}
use mathlib.Core.Bool.{Bool, true, false, not, cond, beq}
use Prim.Native.Nat.{ℕ, ◌+◌, ◌*◌, ◌≤◌, ◌<◌}
use native.Mathlib.Nat.{mul-le-mul_right}
use native.Mathlib.Omega.{arith}
use borrow.Author.Tests.{leb-true, not-false, eqb-false}
use lib.Dec.{leb, eqb}
use lib.ListN.{get_or}
use Rattle.base_rules.proofs.Firsts.{clear, clear_rest}
use Rattle.base_rules.proofs.Logic.{either, clash, and_right, or_left, or_right, same_from}
use Rattle.header_rules.specs.declared.Header.{Header}
use Rattle.header_rules.specs.Claims.{Sound}
use Rattle.places_rules.specs.declared.Place.{Place}
use Rattle.places_rules.specs.Places.{free, open_now, delivered, spoiled, is_last, offset_of}
use Rattle.places_rules.specs.Places.{kept_in}
use Rattle.places_rules.specs.Faults.{bad_size_in, mismatch, place_fault}
use Rattle.places_rules.proofs.Checks as checks
use Rattle.places_rules.proofs.Ranges.{InRange, matched, size_fits}
use Rattle.places_rules.proofs.Records.{offset_last, offset_other}
use Rattle.link.proofs.Basic.{same_or_not, less_or-not}

-- ---- a fragment that a place keeps has the place's figures

-- the fragment is of the place's cut: the place has its header's Fcount, FEC bit, RSk and RSz
pub record OfCut (p : Place) (h : Header) : Type 0 where
  pub count : p.count ≡ h.count
  pub fec : p.fec ≡ h.fec
  pub rsk : p.rsk ≡ h.rsk
  pub rsz : p.rsz ≡ h.rsz

-- and the place has its Plen as size, or as last where it is the last
pub record Fits (p : Place) (h : Header) : Type 0 where
  pub sound : Sound h
  pub cut : OfCut p h
  pub size : is_last h ≡ false → p.size ≡ h.plen
  pub last : is_last h ≡ true → p.last ≡ h.plen

beq_equal : (a b : Bool) → beq a b ≡ true → a ≡ b
beq_equal true true e = refl
beq_equal true false e = sym e
beq_equal false true e = e
beq_equal false false e = refl

-- what a place that does not refuse a fragment tells of it
module _ (p : Place) (h : Header) (passes : place_fault p h ≡ 0) where
  none_due : (eqb p.condition spoiled ≡ false) × (eqb p.condition delivered ≡ false) × (get_or p.kept h.index false ≡ false)
  unfolding place_fault
  none_due =
      let r₉ = clear_rest (mismatch p h) 9 _ (λ z. omega arith) passes in
      let r₁₀ = clear_rest (eqb p.condition spoiled) 10 _ (λ z. omega arith) r₉ in
      let r₁₁ = clear_rest (eqb p.condition delivered) 11 _ (λ z. omega arith) r₁₀ in (
        clear (eqb p.condition spoiled) 10 _ (λ z. omega arith) r₉,
        clear (eqb p.condition delivered) 11 _ (λ z. omega arith) r₁₀,
        clear (get_or p.kept h.index false) 12 _ (λ z. omega arith) r₁₁,
      )

  -- its index is not kept yet
  pub is_new : get_or p.kept h.index false ≡ false
  is_new = none_due.2

  -- the place is open, where it is in range and not free
  pub still_open : (p.condition ≡ free → ⊥) → p.condition ≤ spoiled → p.condition ≡ open_now
  still_open some known = omega (arith, eqb-false p.condition spoiled none_due.0, eqb-false p.condition delivered none_due.1)

  -- it is of the place's cut
  pub of_cut : OfCut p h
  unfolding mismatch
  of_cut =
      let e₀ : mismatch p h ≡ false = matched p h passes in
      let e₁ = or_right (not (eqb p.count h.count)) _ e₀ in
      let e₂ = or_right (not (beq p.fec h.fec)) _ e₁ in
      let e₃ = or_right (not (eqb p.rsk h.rsk)) _ e₂ in
      record {
        count = same_from (or_left (not (eqb p.count h.count)) _ e₀);
        fec = beq_equal _ _ (not-false _ (or_left (not (beq p.fec h.fec)) _ e₁));
        rsk = same_from (or_left (not (eqb p.rsk h.rsk)) _ e₂);
        rsz = same_from (or_left (not (eqb p.rsz h.rsz)) _ e₃);
      }

  right_size : bad_size_in p h ≡ false
  right_size = size_fits p h (matched p h passes)

  -- a size that is known is that of each fragment before the last
  same_size : is_last h ≡ false → (p.size ≡ 0 → ⊥) → p.size ≡ h.plen
  same_size inner known =
      either h.fec
      (λ f. same_from (checks.size-coded p h f ∙ right_size))
      (λ f. same_or_not p.size h.plen (λ e. e) (λ o. clash (sym (checks.inner_other p h f refl inner known o)) right_size))

last-index : (h : Header) → Sound h → is_last h ≡ true → h.index + 1 ≡ h.count
unfolding is_last
last-index h s e = let z : h.count ≤ h.index + 1 = leb-true _ _ (and_right (not h.fec) (leb h.count (h.index + 1)) e) in omega
    (arith, s.below)

module _ (p : Place) (h : Header) where
  size_inner : is_last h ≡ false → (kept_in p h).size ≡ h.plen
  unfolding kept_in
  size_inner e = ap (λ (v : Bool). cond v p.size h.plen) e

  size_ends : is_last h ≡ true → (kept_in p h).size ≡ p.size
  unfolding kept_in
  size_ends e = ap (λ (v : Bool). cond v p.size h.plen) e

  last_inner : is_last h ≡ false → (kept_in p h).last ≡ p.last
  unfolding kept_in
  last_inner e = ap (λ (v : Bool). cond v h.plen p.last) e

  last_ends : is_last h ≡ true → (kept_in p h).last ≡ h.plen
  unfolding kept_in
  last_ends e = ap (λ (v : Bool). cond v h.plen p.last) e

  -- to keep one changes nothing of the cut
  cut_kept : (k : Header) → OfCut p k → OfCut (kept_in p h) k
  unfolding kept_in
  cut_kept k c = record { count = c.count; fec = c.fec; rsk = c.rsk; rsz = c.rsz }

  -- the fragment that is kept,
  pub itself_fits : Sound h → OfCut p h → Fits (kept_in p h) h
  itself_fits s c = record { sound = s; cut = cut_kept h c; size = size_inner; last = last_ends }

  -- and each that was kept before
  pub still_fits : (k : Header) → Fits p k → (k.index ≡ h.index → ⊥) → Sound h → place_fault p h ≡ 0 → Fits (kept_in p h) k
  still_fits k f other s passes =
      record {
        sound = f.sound;
        cut = cut_kept k f.cut;
        size = λ e.
            either (is_last h)
            (λ l. size_ends l ∙ f.size e)
            (λ l. size_inner l ∙ sym (same_size p h passes l (λ z. omega (arith, f.size e, f.sound.some))) ∙ f.size e);
        last = λ e.
            either (is_last h)
            (λ l. absurd (other (omega (arith, last-index h s l, last-index k f.sound e, f.cut.count, (of_cut p h passes).count))))
            (λ l. last_inner l ∙ f.last e);
      }

-- ---- two fragments of a place do not overlap

module _ (q : Place) (r : InRange q) where
  rows : (j k : ℕ) → j < k → j * q.size + q.size ≤ k * q.size
  rows j k l = let a : (j + 1) * q.size ≤ k * q.size = mul-le-mul_right q.size (omega arith) in omega (arith, a)

  begins : (h : Header) → Fits q h → is_last h ≡ false → offset_of h ≡ h.index * q.size
  begins h f e = sym (offset_other h refl e) ∙ ap (λ (x : ℕ). h.index * x) (sym (f.size e))

  before_last : (h k : Header) → Fits q h → Fits q k → (h.index ≡ k.index → ⊥) → is_last h ≡ false → is_last k ≡ true
      → offset_of h + h.plen ≤ offset_of k
  before_last h k f g other e l =
      let one : k.index + 1 ≡ q.count = last-index k g.sound l ∙ sym g.cut.count in
      let all : (k.index + 1) * q.size ≡ q.count * q.size = ap (λ (x : ℕ). x * q.size) one in
      omega (
        arith,
        begins h f e,
        offset_last k refl l,
        f.size e,
        g.last l,
        r.less (λ z. omega (arith, f.size e, f.sound.some)),
        rows h.index k.index (below one),
        r.size,
        all,
      )
    where
      below : k.index + 1 ≡ q.count → h.index < k.index
      below one = omega (arith, f.sound.below, f.cut.count)

  -- of two fragments with different indices in a place in range, one ends before the other begins
  pub apart : {P : Type 0} (h k : Header) → Fits q h → Fits q k → (h.index ≡ k.index → ⊥)
      → (offset_of h + h.plen ≤ offset_of k → P) → (offset_of k + k.plen ≤ offset_of h → P) → P
  apart h k f g other a b =
      either (is_last h)
      (λ e.
      either (is_last k)
      (λ l. absurd (other (omega (arith, last-index h f.sound e, last-index k g.sound l, f.cut.count, g.cut.count))))
      (λ l. b (before_last k h g f (λ z. other (sym z)) l e)))
      (λ e.
      either (is_last k)
      (λ l. a (before_last h k f g other e l))
      (λ l.
      less_or-not h.index k.index
      (λ z. a (omega (arith, begins h f e, begins k g l, f.size e, rows h.index k.index z)))
      (λ z. b (omega (arith, begins h f e, begins k g l, g.size l, rows k.index h.index (above z))))))
    where
      above : k.index ≤ h.index → k.index < h.index
      above z = omega arith
