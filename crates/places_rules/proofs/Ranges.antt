-- Places in their range, and that keeping a fragment leaves them there. Assumes nothing.
use mathlib.Core.Path.{◌≡◌, refl, sym, ap, ◌∙◌, subst}
use mathlib.Core.Bool.{Bool, true, false, not, cond, beq, ◌&&◌, ◌||◌}
use Prim.Native.Nat.{ℕ, ◌+◌, ◌*◌, ◌≤◌, ◌<◌}
use native.Mathlib.Nat.{mul-zero, mul-le-mul_right}
use native.Mathlib.Omega.{arith}
use borrow.Author.Tests.{eqb-true, eqb-false, ltb-false, leb-false, ne_eqb, le-ltb, lt-leb, not-false, not-true}
use lib.Dec.{ltb, leb, eqb}
use Rattle.base_rules.specs.Bounds.{most_f, most_k, bad_k, place}
use Rattle.base_rules.proofs.ChunkSize.{k_fits, k_some, k_most}
use Rattle.base_rules.proofs.Firsts.{clear}
use Rattle.base_rules.proofs.Logic.{either, clash, or_left, or_right}
use Rattle.header_rules.specs.declared.Header.{Header}
use Rattle.header_rules.specs.Claims.{Sound}
use Rattle.places_rules.specs.declared.Place.{Place}
use Rattle.places_rules.specs.Places.{spoiled, is_last, opened_by, kept_in}
use Rattle.places_rules.specs.Faults.{bad_figures, bad_code, bad_place, bad_size_in, mismatch, place_fault}

-- ---- what a place in range is known to be, and how it is made to be

-- RSk and RSz of a chunk
abbrev Chunk : ℕ → ℕ → Type 0
Chunk k z = (0 < k) × (k ≤ most_k) × (z < k)

-- a place in range: a known condition, fragments that fit the place, and with FEC k and z of a chunk
pub record InRange (p : Place) : Type 0 where
  pub condition : p.condition ≤ spoiled
  pub count : p.count ≤ most_f
  pub size : p.count * p.size ≤ place
  pub last : p.last ≤ place
  pub less : (p.size ≡ 0 → ⊥) → p.last ≤ p.size
  pub coded : p.fec ≡ true → Chunk p.rsk p.rsz

-- the second of two tests that are not both true
and_then : (a b : Bool) → (a && b) ≡ false → a ≡ true → b ≡ false
and_then true b e f = e
and_then false b e f = clash f refl

and-not : (a b : Bool) → (a ≡ true → b ≡ false) → (a && b) ≡ false
and-not true b e = e refl
and-not false b e = refl

or-not : {a b : Bool} → a ≡ false → b ≡ false → (a || b) ≡ false
or-not p q = simp (p, q)

module _ (p : Place) where
  figures : bad_place p ≡ false → bad_figures p ≡ false
  unfolding bad_place
  figures e = or_left (bad_figures p) _ (or_right (ltb spoiled p.condition) _ e)

  code : bad_place p ≡ false → bad_code p ≡ false
  unfolding bad_place
  code e = or_right (bad_figures p) _ (or_right (ltb spoiled p.condition) _ e)

  known : bad_place p ≡ false → p.condition ≤ spoiled
  unfolding bad_place
  known e = ltb-false spoiled p.condition (or_left (ltb spoiled p.condition) _ e)

  chunk_from : bad_code p ≡ false → p.fec ≡ true → Chunk p.rsk p.rsz
  unfolding bad_code
  chunk_from e f =
      let e₀ = and_then p.fec _ e f in
      let sized = or_left (bad_k p.rsk) _ e₀ in
      (k_some p.rsk sized, k_most p.rsk sized, leb-false p.rsk p.rsz (or_right (bad_k p.rsk) _ e₀))

  -- a place that is not refused with 14 has every field in range
  pub range_from : bad_place p ≡ false → InRange p
  unfolding bad_figures
  range_from e =
      let e₀ : bad_figures p ≡ false = figures e in
      let e₁ = or_right (ltb most_f p.count) _ e₀ in
      let e₂ = or_right (ltb place (p.count * p.size)) _ e₁ in
      let e₃ = or_right (ltb place p.last) _ e₂ in
      record {
        condition = known e;
        count = ltb-false most_f p.count (or_left (ltb most_f p.count) _ e₀);
        size = ltb-false place (p.count * p.size) (or_left (ltb place (p.count * p.size)) _ e₁);
        last = ltb-false place p.last (or_left (ltb place p.last) _ e₂);
        less = λ some. ltb-false p.size p.last (and_then (not (eqb p.size 0)) _ e₃ (ap not (ne_eqb p.size 0 some)));
        coded = chunk_from (code e);
      }

  -- a place with every field in range is not refused with 14
  pub range_to : InRange p → bad_place p ≡ false
  unfolding bad_place bad_figures bad_code
  range_to r =
      or-not (le-ltb spoiled p.condition r.condition)
      (or-not
      (or-not (le-ltb most_f p.count r.count)
      (or-not (le-ltb place (p.count * p.size) r.size)
      (or-not (le-ltb place p.last r.last)
      (and-not (not (eqb p.size 0)) _
      (λ e. le-ltb p.size p.last (r.less (eqb-false p.size 0 (not-true (eqb p.size 0) e))))))))
      (and-not p.fec _
      (λ e.
      let c = r.coded e in
      or-not (k_fits p.rsk (λ z. omega (arith, c.0)) c.1) (lt-leb p.rsk p.rsz c.2))))

-- ---- a fragment that may be kept in a place

-- a fragment that belongs to a place: the same count, and no last fragment longer than the others
pub record Belongs (p : Place) (h : Header) : Type 0 where
  pub count : p.count ≡ h.count
  pub ends : is_last h ≡ true → (p.size ≡ 0 → ⊥) → h.plen ≤ p.size
  pub inner : is_last h ≡ false → p.last ≤ h.plen

-- what the test of the size tells, over plain values
size_told : (fec ends : Bool) (size plen last : ℕ) → (fec ≡ true → ends ≡ false)
    → cond fec (not (eqb size plen)) (cond ends (not (eqb size 0) && ltb size plen)
    ((not (eqb size 0) && not (eqb size plen)) || ltb plen last)) ≡ false
    → (ends ≡ true → (size ≡ 0 → ⊥) → plen ≤ size) × (ends ≡ false → (fec ≡ true → size ≡ plen) × (fec ≡ false → last ≤ plen))
size_told true ends size plen last never e =
    ((λ f some. clash f (never refl)), (λ f. ((λ g. eqb-true size plen (not-false (eqb size plen) e)), (λ g. clash refl g))))
size_told false true size plen last never e =
    ((λ f some. ltb-false size plen (and_then (not (eqb size 0)) _ e (ap not (ne_eqb size 0 some)))), (λ f. clash refl f))
size_told false false size plen last never e =
    ((λ f some. clash f refl), (λ f. ((λ g. clash g refl), (λ g. ltb-false plen last (or_right (not (eqb size 0) && not (eqb size plen)) _ e)))))

module _ (p : Place) (h : Header) where
  -- a fragment that its place does not refuse is no mismatch
  pub matched : place_fault p h ≡ 0 → mismatch p h ≡ false
  unfolding place_fault
  matched e = clear (mismatch p h) 9 _ (λ z. omega arith) e

  same_count : mismatch p h ≡ false → p.count ≡ h.count
  unfolding mismatch
  same_count e = eqb-true p.count h.count (not-false (eqb p.count h.count) (or_left (not (eqb p.count h.count)) _ e))

  -- where there is no mismatch, the size can belong
  pub size_fits : mismatch p h ≡ false → bad_size_in p h ≡ false
  unfolding mismatch
  size_fits e =
      or_right (not (eqb p.rsz h.rsz)) _
      (or_right (not (eqb p.rsk h.rsk)) _
      (or_right (not (beq p.fec h.fec)) _ (or_right (not (eqb p.count h.count)) _ e)))

  never-last : h.fec ≡ true → is_last h ≡ false
  unfolding is_last
  never-last e = ap (λ (b : Bool). not b && leb h.count (h.index + 1)) e

  -- a sound fragment that a place in range does not refuse belongs to it
  pub belongs : Sound h → InRange p → place_fault p h ≡ 0 → Belongs p h
  unfolding bad_size_in
  belongs s r e =
      let m : mismatch p h ≡ false = matched e in
      let t = size_told h.fec (is_last h) p.size h.plen p.last never-last (size_fits m) in
      record {
        count = same_count m;
        ends = t.0;
        inner = λ z.
            either h.fec
            (λ f. let q : p.size ≡ h.plen = (t.1 z).0 f in omega (arith, r.less (λ y. omega (arith, s.some))))
            (λ f. (t.1 z).1 f);
      }

-- ---- keeping leaves it in range

module _ (p : Place) (h : Header) (s : Sound h) (r : InRange p) (b : Belongs p h) where
  fits : p.count * h.plen ≤ place
  fits = omega (arith, s.fits, ap (λ (n : ℕ). n * h.plen) b.count)

  -- one fragment fits where all of them do
  one_fits : h.plen ≤ place
  one_fits =
      let some : 1 * h.plen ≤ h.count * h.plen = mul-le-mul_right h.plen (omega (arith, s.below)) in
      omega (arith, s.fits, some)

  -- a place in range that keeps a sound fragment which belongs to it stays in range
  pub range_kept : InRange (kept_in p h)
  unfolding kept_in
  range_kept =
      either (is_last h)
      (λ e.
      let is-size : cond (is_last h) p.size h.plen ≡ p.size = ap (λ (v : Bool). cond v p.size h.plen) e in
      let is-last : cond (is_last h) h.plen p.last ≡ h.plen = ap (λ (v : Bool). cond v h.plen p.last) e in
      record {
        condition = r.condition;
        count = r.count;
        size = subst (λ (n : ℕ). p.count * n ≤ place) (sym is-size) r.size;
        last = omega (arith, is-last, one_fits);
        less = λ some. omega (arith, is-size, is-last, b.ends e (λ z. some (is-size ∙ z)));
        coded = r.coded;
      })
      (λ e.
      let is-size : cond (is_last h) p.size h.plen ≡ h.plen = ap (λ (v : Bool). cond v p.size h.plen) e in
      let is-last : cond (is_last h) h.plen p.last ≡ p.last = ap (λ (v : Bool). cond v h.plen p.last) e in
      record {
        condition = r.condition;
        count = r.count;
        size = subst (λ (n : ℕ). p.count * n ≤ place) (sym is-size) fits;
        last = omega (arith, is-last, r.last);
        less = λ some. omega (arith, is-size, is-last, b.inner e);
        coded = r.coded;
      })

-- ---- a place that was just opened

module _ (h : Header) where
  -- a place that a sound fragment opens is in range before it keeps anything
  pub range_opened : Sound h → InRange (opened_by h)
  unfolding opened_by
  range_opened s =
      record {
        condition = omega arith;
        count = s.few;
        size = omega (arith, mul-zero h.count);
        last = omega arith;
        less = λ some. absurd (some refl);
        coded = λ e. let c = s.chunk e in (c.0, c.1, c.2);
      }

  -- a fragment belongs to the place that it opens
  pub belongs_opened : Belongs (opened_by h) h
  unfolding opened_by
  belongs_opened = record { count = refl; ends = λ e some. absurd (some refl); inner = λ e. omega arith }
