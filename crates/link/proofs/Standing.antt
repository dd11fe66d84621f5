-- A fragment that came and stands in a place: it stands there after a call that leaves the place alone, and after one that keeps
-- another fragment in it. Assumes nothing.
use mathlib.Core.Path.{◌≡◌, refl, sym, ap, ap₂, ◌∙◌, subst}
use mathlib.Core.Bool.{Bool, true, false, not, cond, ◌&&◌}
use mathlib.Core.List.{List, ◌∷◌}
use Prim.Native.Nat.{ℕ, ◌+◌, ◌-◌, ◌*◌, ◌≤◌, ◌<◌}
use native.Mathlib.Omega.{arith}
use borrow.Author.Tests.{eq-eqb}
use lib.Dec.{leb}
use lib.ListN.{length, get_or, take, drop, set}
use lib.Seq.{get_or-set_other, drop-drop}
use Rattle.std.specs.Prelude.{Option}
use Rattle.base_rules.specs.Bounds.{place}
use Rattle.base_rules.specs.Bytes.{Bytes, splice, part_of}
use Rattle.base_rules.proofs.Logic.{either}
use Rattle.base_rules.proofs.Splice.{splice_here}
use Rattle.header_rules.specs.declared.Header.{Header}
use Rattle.header_rules.specs.Read.{fields_of, fault_of}
use Rattle.places_rules.specs.declared.Place.{Place}
use Rattle.places_rules.specs.declared.Table.{Table}
use Rattle.places_rules.specs.Places.{four, free, spoiled, place_at, key_of, key_in, holds, is_last, offset_of}
use Rattle.places_rules.specs.Places.{kept_in, in_condition}
use Rattle.places_rules.proofs.Ranges.{InRange}
use Rattle.places_rules.proofs.Records.{offset_last, offset_other}
use Rattle.places_rules.proofs.Keys.{key-kept, key-closed}
use Rattle.receiver_rules.specs.Promise.{Reception, State, payload_of, bytes_at, keep_at, SettledAfter}
use Rattle.receiver_rules.proofs.Ranges.{written_place}
use Rattle.receiver_rules.proofs.Offsets.{offset_fits}
use Rattle.link.specs.Run.{Call, heard, number_in, index_in}
use Rattle.link.specs.Reached.{part_in, HeldSince, just_now, before}
use Rattle.link.proofs.Basic.{spared_before, spared_behind, holds_number}
use Rattle.link.proofs.View.{Good}
use Rattle.link.proofs.Frame.{settled-place, settled-bytes, payload_long, Spared}
use Rattle.link.proofs.Fitting.{Fits, apart}

-- ---- a fragment that came in the call k, and stands in place i

-- it brought fragment j of number n, held in place i since; it fits p, and its payload stands in b
pub record Stood (k : Call) (es : List Call) (p : Place) (b : List ℕ) (i n j : ℕ) : Type 0 where
  pub since : HeldSince i n k es
  pub passed : heard k ≡ true
  pub number : number_in k ≡ n
  pub index : index_in k ≡ j
  pub fits : Fits p (fields_of k.datagram)
  pub bytes : take (fields_of k.datagram).plen (drop (i * place + offset_of (fields_of k.datagram)) b) ≡ payload_of k.datagram

module _ {k : Call} {es : List Call} {p : Place} {b : List ℕ} {i n j : ℕ} (z : Stood k es p b i n j) where
  abbrev f : Header
  f = fields_of k.datagram

  -- its payload stands in the bytes of the place where its own header says
  pub stands_there : take f.plen (drop (offset_of f) (bytes_at b i)) ≡ payload_of k.datagram
  unfolding bytes_at
  stands_there = ap (take f.plen) (drop-drop (offset_of f) (i * place) b) ∙ z.bytes

  -- the place tells from its figures which is the last
  pub last_told : (not p.fec && leb p.count (j + 1)) ≡ is_last f
  unfolding is_last
  last_told =
      ap (λ (v : Bool). not v && leb p.count (j + 1)) z.fits.cut.fec
      ∙ ap₂ (λ (c x : ℕ). not f.fec && leb c (x + 1)) z.fits.cut.count (sym z.index)

  -- and where the figures of the place say
  pub part_there : part_in p (bytes_at b i) j ≡ payload_of k.datagram
  unfolding part_in part_of
  part_there =
      either (is_last f)
      (λ e.
      ap (λ (v : Bool). cond v (take p.last (drop (place - p.last) (bytes_at b i))) (part_of (bytes_at b i) p.size j))
      (last_told ∙ e)
      ∙ ap (λ (x : ℕ). take x (drop (place - x) (bytes_at b i))) (z.fits.last e)
      ∙ ap (λ (x : ℕ). take f.plen (drop x (bytes_at b i))) (offset_last f refl e)
      ∙ stands_there)
      (λ e.
      ap (λ (v : Bool). cond v (take p.last (drop (place - p.last) (bytes_at b i))) (part_of (bytes_at b i) p.size j))
      (last_told ∙ e)
      ∙ ap₂ (λ (x y : ℕ). take x (drop (y * x) (bytes_at b i))) (z.fits.size e) (sym z.index)
      ∙ ap (λ (x : ℕ). take f.plen (drop x (bytes_at b i))) (offset_other f refl e)
      ∙ stands_there)

-- ---- after a call that leaves the place alone

module _ {k : Call} {es : List Call} {s : State} {i n j : ℕ} (e : Call) (spared : Spared s i e.left) where
  -- it still stands there, if the place still holds the number
  pub stood_spared : Stood k es (place_at s.table i) s.bytes i n j → holds (place_at e.left.table i) n ≡ true
      → Stood k (e ∷ es) (place_at e.left.table i) e.left.bytes i n j
  stood_spared z held =
      record {
        since = before e z.since held;
        passed = z.passed;
        number = z.number;
        index = z.index;
        fits = subst (λ (p : Place). Fits p (fields_of k.datagram)) (sym spared.kept-place) z.fits;
        bytes =
            spared.kept-bytes (i * place + offset_of (fields_of k.datagram)) (fields_of k.datagram).plen (omega arith)
            (omega (arith, offset_fits (fields_of k.datagram) z.fits.sound))
            ∙ z.bytes;
      }

-- a call that leaves table and lent bytes as they were leaves each place alone
pub unchanged : {s : State} (i : ℕ) (y : Reception) → y.table ≡ s.table → y.bytes ≡ s.bytes → Spared s i y
unchanged i y t b = record { kept-place = ap (λ (x : Table). place_at x i) t; kept-bytes = λ a n low high. ap (λ (x : List ℕ). take n (drop a x)) b }

-- ---- after a call that keeps a fragment in the place

-- place i, which was p, keeps the call's fragment, and has at most another condition
pub record Put (e : Call) (s : State) (p : Place) (i : ℕ) : Type 0 where
  pub condition : ℕ
  pub here : place_at e.left.table i ≡ in_condition (kept_in p (fields_of e.datagram)) condition
  pub bytes : e.left.bytes ≡ splice s.bytes (i * place + offset_of (fields_of e.datagram)) (payload_of e.datagram)

-- a call that keeps its fragment in place i puts it there, however it settles
pub put_in : (e : Call) (s : State) (u : Table) (i : ℕ) (p : Place) (l : Option ℕ) → length u.places ≡ four → i < four
    → (p.condition ≡ free → ⊥) → p.condition ≤ spoiled
    → SettledAfter (keep_at u i p l (fields_of e.datagram) s.bytes (payload_of e.datagram)) e.lent e.left → Put e s p i
unfolding keep_at kept_in
put_in e s u i p l size low some known settled =
    let now = settled-place u i (kept_in p (fields_of e.datagram)) low size some known settled in
    record {
      condition = now.condition;
      here = ap (λ (t : Table). place_at t i) now.table
          ∙ written_place u i (in_condition (kept_in p (fields_of e.datagram)) now.condition) size low;
      bytes = settled-bytes settled;
    }

closed_fits : (p : Place) (c : ℕ) (h : Header) → Fits p h → Fits (in_condition p c) h
unfolding in_condition
closed_fits p c h f =
    let cut = f.cut in
    record {
      sound = f.sound;
      cut = record { count = cut.count; fec = cut.fec; rsk = cut.rsk; rsz = cut.rsz };
      size = f.size;
      last = f.last;
    }

module _ (e : Call) (es : List Call) (s : State) (good : Good s) (bytes : Bytes e.datagram) (passes : fault_of e.own e.datagram ≡ 0)
    (p : Place) (i : ℕ) (low : i < four) (put : Put e s p i) where
  abbrev h : Header
  h = fields_of e.datagram

  -- the place has the number that it had
  pub number_here : key_in (place_at e.left.table i) ≡ key_in p
  number_here = ap key_in put.here ∙ key-closed (kept_in p h) put.condition ∙ key-kept p h

  kept_here : (j : ℕ) → get_or (place_at e.left.table i).kept j false ≡ get_or (set p.kept h.index true) j false
  unfolding kept_in in_condition
  kept_here j = ap (λ (q : Place). get_or q.kept j false) put.here

  -- any other fragment is kept there just where it was kept before
  pub old_here : (j : ℕ) → (j ≡ h.index → ⊥) → get_or (place_at e.left.table i).kept j false ≡ get_or p.kept j false
  old_here j other = kept_here j ∙ get_or-set_other p.kept h.index j true false other

  module _ (range : InRange (kept_in p h)) (fit : Fits (kept_in p h) h) where
    long : length (payload_of e.datagram) ≡ h.plen
    long = payload_long e.own s good e.datagram e.lent bytes passes

    room : i * place + offset_of h + length (payload_of e.datagram) ≤ length s.bytes
    room = omega (arith, long, good.whole, offset_fits h fit.sound, low)

    fits_here : (k : Header) → Fits (kept_in p h) k → Fits (place_at e.left.table i) k
    fits_here k f = subst (λ (q : Place). Fits q k) (sym put.here) (closed_fits (kept_in p h) put.condition k f)

    -- the fragment itself,
    pub stood-new : (n j : ℕ) → key_in p ≡ key_of h → h.index ≡ j → holds (place_at e.left.table i) n ≡ true
        → Stood e (e ∷ es) (place_at e.left.table i) e.left.bytes i n j
    stood-new n j numbered is held =
        record {
          since = just_now held;
          passed = eq-eqb _ _ passes;
          number = sym numbered ∙ sym number_here ∙ holds_number _ _ held;
          index = is;
          fits = fits_here h fit;
          bytes =
              ap₂ (λ (x : ℕ) (b : List ℕ). take x (drop (i * place + offset_of h) b)) (sym long) put.bytes
              ∙ splice_here s.bytes (i * place + offset_of h) (payload_of e.datagram) room;
        }

    -- and those that stood there before
    module _ (k : Call) (n j : ℕ) (z : Stood k es p s.bytes i n j) (fits-now : Fits (kept_in p h) (fields_of k.datagram))
        (other : j ≡ h.index → ⊥) where
      abbrev o : Header
      o = fields_of k.datagram

      bytes_stay : take o.plen (drop (i * place + offset_of o) (splice s.bytes (i * place + offset_of h) (payload_of e.datagram)))
          ≡ take o.plen (drop (i * place + offset_of o) s.bytes)
      bytes_stay =
          apart (kept_in p h) range h o fit fits-now (λ q. other (sym z.index ∙ sym q))
          (λ l. spared_behind s.bytes (i * place + offset_of h) (payload_of e.datagram) room (i * place + offset_of o) o.plen
          (omega (arith, long)))
          (λ l. spared_before s.bytes (i * place + offset_of h) (payload_of e.datagram) room (i * place + offset_of o) o.plen (omega arith))

      -- a fragment of another index, which fits the place with this one, still stands there
      pub stood_old : holds (place_at e.left.table i) n ≡ true → Stood k (e ∷ es) (place_at e.left.table i) e.left.bytes i n j
      stood_old held =
          record {
            since = before e z.since held;
            passed = z.passed;
            number = z.number;
            index = z.index;
            fits = fits_here o fits-now;
            bytes = ap (λ (b : List ℕ). take o.plen (drop (i * place + offset_of o) b)) put.bytes ∙ bytes_stay ∙ z.bytes;
          }
