-- The place that gathers a packet's fragments: what it holds is what came. Assumes nothing.
use mathlib.Core.Path.{◌≡◌, refl, sym, ap, ap₂, ◌∙◌}
use mathlib.Core.Bool.{Bool, true, false, not, cond, ◌&&◌, ◌||◌}
use mathlib.Core.List.{List}
use Prim.Native.Nat.{ℕ, ◌+◌, ◌-◌, ◌*◌, ◌≤◌, ◌<◌}
use native.Mathlib.Nat.{mul-le-mul_right}
use native.Mathlib.Omega.{arith}
use borrow.Author.Tests.{leb-true, leb-false, eq-eqb, ne_eqb}
use lib.Dec.{leb, eqb}
use lib.ListN.{length, get_or, take, drop, set, length-set, length-replicate, get_or-replicate}
use lib.Seq.{get_or-set_same, get_or-set_other, drop-drop}
use Rattle.base_rules.specs.Bounds.{most_f, place}
use Rattle.base_rules.specs.Bytes.{splice}
use Rattle.base_rules.proofs.Logic.{either, clash, and_right}
use Rattle.base_rules.proofs.Splice.{splice_here}
use Rattle.cut_rules.specs.declared.Settings.{Settings}
use Rattle.header_rules.specs.declared.Header.{Header}
use Rattle.places_rules.specs.declared.Place.{Place}
use Rattle.places_rules.specs.Places.{four, open_now, key_in, is_last, offset_of, opened_by, kept_in, all_places}
use Rattle.places_rules.proofs.Keys.{key_opened, key-kept}
use Rattle.receiver_rules.specs.Promise.{bytes_at}
use Rattle.sender_rules.specs.Calls.{packet_fault}
use Rattle.sender_rules.specs.Fragments.{payload_for, header_for}
use Rattle.sender_rules.proofs.Checks.{in_bounds}
use Rattle.sender_rules.proofs.FragmentLengths.{sure, s_placed, size-fec, full-plain, size_most}
use Rattle.link.specs.Demand.{count, key_for}
use Rattle.link.proofs.Basic.{same_or_not, less_or-not, spared_before, spared_behind}
use Rattle.link.proofs.Enough.{size_of, rsk_of, rsz_of}
use Rattle.link.proofs.Heard.{key_sent}

-- fragment i is the last, of a packet without FEC
abbrev pub is_last_of : Settings → List ℕ → ℕ → Bool
is_last_of g packet i = not g.fec && leb (count g packet) (i + 1)

-- where fragment i stands in its place
unfoldable pub offset : Settings → List ℕ → ℕ → ℕ
offset g packet i = cond (is_last_of g packet i) (place - length (payload_for g packet i)) (i * size_of g packet)

-- a place with the figures of the packet; its size is known or it is 0
pub record Mine (g : Settings) (n : ℕ) (packet : List ℕ) (p : Place) : Type 0 where
  pub number : key_in p ≡ key_for g n
  pub count : p.count ≡ count g packet
  pub fec : p.fec ≡ g.fec
  pub rsk : p.rsk ≡ rsk_of g packet
  pub rsz : p.rsz ≡ rsz_of g packet
  pub size : (v : Bool) × (p.size ≡ cond v (size_of g packet) 0)
  pub last : p.last ≤ size_of g packet

-- and open, with just the fragments that came, in the bytes of place i of the lent bytes b
pub record Full (g : Settings) (n : ℕ) (packet : List ℕ) (came : ℕ → Bool) (i : ℕ) (p : Place) (b : List ℕ) : Type 0 where
  pub mine : Mine g n packet p
  pub is_open : p.condition ≡ open_now
  pub marks : length p.kept ≡ most_f
  pub kept : (j : ℕ) → j < count g packet → get_or p.kept j false ≡ came j
  pub size_known : (j : ℕ) → j < count g packet → is_last_of g packet j ≡ false → came j ≡ true → p.size ≡ size_of g packet
  pub last_known : (j : ℕ) → j < count g packet → is_last_of g packet j ≡ true → came j ≡ true → p.last ≡ length (payload_for g packet j)
  pub bytes : (j : ℕ) → j < count g packet → came j ≡ true
      → take (length (payload_for g packet j)) (drop (i * place + offset g packet j) b) ≡ payload_for g packet j

-- with FEC the size is known once a fragment is kept
unfoldable pub SizeKnown : Settings → List ℕ → Place → Type 0
SizeKnown g packet p = g.fec ≡ true → p.size ≡ size_of g packet

-- in the bytes of its place a fragment stands from its offset on
pub stands : (g : Settings) (n : ℕ) (packet : List ℕ) (came : ℕ → Bool) (i : ℕ) (p : Place) (b : List ℕ) → Full g n packet came i p b
    → (j : ℕ) → j < count g packet → came j ≡ true
    → take (length (payload_for g packet j)) (drop (offset g packet j) (bytes_at b i)) ≡ payload_for g packet j
unfolding bytes_at
stands g n packet came i p b full j below here =
    ap (take (length (payload_for g packet j))) (drop-drop (offset g packet j) (i * place) b) ∙ full.bytes j below here

module _ (g : Settings) (packet : List ℕ) (passed : packet_fault g packet ≡ 0) where
  -- ---- where the fragments stand

  -- without FEC the last fragment stands at the end of the place
  pub offset_last : (i : ℕ) → is_last_of g packet i ≡ true → offset g packet i ≡ place - length (payload_for g packet i)
  unfolding offset
  offset_last i e = rw e

  -- any other fragment i stands from i s on
  pub offset_not : (i : ℕ) → is_last_of g packet i ≡ false → offset g packet i ≡ i * size_of g packet
  unfolding offset
  offset_not i e = rw e

  last_one : (i : ℕ) → i < count g packet → is_last_of g packet i ≡ true → i + 1 ≡ count g packet
  last_one i h e = let z : count g packet ≤ i + 1 = leb-true _ _ (and_right (not g.fec) (leb (count g packet) (i + 1)) e) in omega arith

  -- one that is not the last has the size of all
  pub full_size : (i : ℕ) → is_last_of g packet i ≡ false → length (payload_for g packet i) ≡ size_of g packet
  full_size i e =
      either g.fec (λ fec. size-fec g packet fec i) (λ fec.
      let less : i + 1 < count g packet = leb-false _ _ (sym (ap (λ (v : Bool). not v && leb (count g packet) (i + 1)) fec) ∙ e) in
      full-plain g packet passed fec i (omega arith))

  rows : (j k : ℕ) → j < k → j * size_of g packet + size_of g packet ≤ k * size_of g packet
  rows j k h = let a : (j + 1) * size_of g packet ≤ k * size_of g packet = mul-le-mul_right (size_of g packet) (omega arith) in omega (arith, a)

  -- each stands in the place
  pub inside : (j : ℕ) → j < count g packet → offset g packet j + length (payload_for g packet j) ≤ place
  inside j h =
      either (is_last_of g packet j) (λ e. omega (arith, offset_last j e, size_most g packet passed j, s_placed g packet passed))
      (λ e. omega (arith, offset_not j e, full_size j e, rows j (count g packet) h, (sure g packet passed).placed))

  before_last : (j k : ℕ) → j < count g packet → k < count g packet → (j ≡ k → ⊥) → is_last_of g packet j ≡ false → is_last_of g packet k ≡ true
      → offset g packet j + length (payload_for g packet j) ≤ offset g packet k
  before_last j k a b n e f =
      let one : k + 1 ≡ count g packet = last_one k b f in
      let all : (k + 1) * size_of g packet ≡ count g packet * size_of g packet = ap (λ (y : ℕ). y * size_of g packet) one in
      let fits = (sure g packet passed).placed in
      omega (arith, offset_not j e, offset_last k f, full_size j e, size_most g packet passed k, rows j k (below n one), fits, all)
    where
      below : (j ≡ k → ⊥) → k + 1 ≡ count g packet → j < k
      below n one = omega arith

  -- no two overlap
  pub apart : {P : Type 0} (j k : ℕ) → j < count g packet → k < count g packet → (j ≡ k → ⊥)
      → (offset g packet j + length (payload_for g packet j) ≤ offset g packet k → P)
      → (offset g packet k + length (payload_for g packet k) ≤ offset g packet j → P) → P
  apart j k a b n p q =
      either (is_last_of g packet j) (λ e.
      either (is_last_of g packet k)
      (λ f. absurd (n (omega (arith, last_one j a e, last_one k b f))))
      (λ f. q (before_last k j b a (λ z. n (sym z)) f e)))
      (λ e.
      either (is_last_of g packet k)
      (λ f. p (before_last j k a b n e f))
      (λ f.
      less_or-not j k
      (λ l. p (omega (arith, offset_not j e, offset_not k f, full_size j e, rows j k l)))
      (λ l. q (omega (arith, offset_not j e, offset_not k f, full_size k f, rows k j (above n l))))))
    where
      above : (j ≡ k → ⊥) → k ≤ j → k < j
      above n l = omega arith

  -- ---- one of its fragments

  module _ (n i : ℕ) (below : i < count g packet) where
    abbrev pub h : Header
    h = header_for g n packet i

    offset_same : offset_of h ≡ offset g packet i
    unfolding offset_of is_last header_for
    offset_same =
        either (is_last_of g packet i)
        (λ e. ap (λ (v : Bool). cond v (place - length (payload_for g packet i)) (i * length (payload_for g packet i))) e ∙ sym (offset_last i e))
        (λ e.
        ap (λ (v : Bool). cond v (place - length (payload_for g packet i)) (i * length (payload_for g packet i))) e
        ∙ ap (λ (x : ℕ). i * x) (full_size i e) ∙ sym (offset_not i e))

    -- ---- it opens a place

    opened_mine : Mine g n packet (opened_by h)
    unfolding opened_by header_for
    opened_mine =
        let its = key_opened h ∙ key_sent g n packet i in
        record { number = its; count = refl; fec = refl; rsk = refl; rsz = refl; size = (false, refl); last = omega arith }

    -- a place that its fragment opens has the figures of the packet, and no fragment yet
    pub opened_full : (at : ℕ) (b : List ℕ) → Full g n packet (λ j. false) at (opened_by h) b
    unfolding opened_by
    opened_full at b =
        record {
          mine = opened_mine;
          is_open = refl;
          marks = length-replicate most_f false;
          kept = λ j k. get_or-replicate most_f j false false (omega (arith, (in_bounds g packet passed).few));
          size_known = λ j k e f. clash f refl;
          last_known = λ j k e f. clash f refl;
          bytes = λ j k f. clash f refl;
        }

    -- ---- it is kept in a place of its own

    module _ (p : Place) where
      kept-size : is_last_of g packet i ≡ false → (kept_in p h).size ≡ size_of g packet
      unfolding kept_in is_last header_for
      kept-size e = ap (λ (v : Bool). cond v p.size (length (payload_for g packet i))) e ∙ full_size i e

      kept-size-last : is_last_of g packet i ≡ true → (kept_in p h).size ≡ p.size
      unfolding kept_in is_last header_for
      kept-size-last e = ap (λ (v : Bool). cond v p.size (length (payload_for g packet i))) e

      kept-last : is_last_of g packet i ≡ true → (kept_in p h).last ≡ length (payload_for g packet i)
      unfolding kept_in is_last header_for
      kept-last e = ap (λ (v : Bool). cond v (length (payload_for g packet i)) p.last) e

      kept-last-not : is_last_of g packet i ≡ false → (kept_in p h).last ≡ p.last
      unfolding kept_in is_last header_for
      kept-last-not e = ap (λ (v : Bool). cond v (length (payload_for g packet i)) p.last) e

      -- with FEC the size is known in a place that kept its fragment
      pub kept_sized : SizeKnown g packet (kept_in p h)
      unfolding SizeKnown
      kept_sized e = kept-size (ap (λ (v : Bool). not v && leb (count g packet) (i + 1)) e)

      kept_mine : Mine g n packet p → Mine g n packet (kept_in p h)
      unfolding kept_in
      kept_mine m =
          record {
            number = key-kept p h ∙ m.number;
            count = m.count;
            fec = m.fec;
            rsk = m.rsk;
            rsz = m.rsz;
            size = either (is_last_of g packet i) (λ e. (m.size.0, kept-size-last e ∙ m.size.1)) (λ e. (true, kept-size e));
            last =
                either (is_last_of g packet i)
                (λ e. omega (arith, kept-last e, size_most g packet passed i))
                (λ e. omega (arith, kept-last-not e, m.last));
          }

      module _ (came : ℕ → Bool) (at : ℕ) (b : List ℕ) (low : at < four) (whole : length b ≡ all_places) (full : Full g n packet came at p b) where
        -- what came, with it
        abbrev with_it : ℕ → Bool
        with_it j = eqb i j || came j

        old_one : (j : ℕ) → (i ≡ j → ⊥) → with_it j ≡ true → came j ≡ true
        old_one j other e = sym (ap (λ (v : Bool). v || came j) (ne_eqb i j other)) ∙ e

        marks_now : length (kept_in p h).kept ≡ most_f
        unfolding kept_in
        marks_now = length-set p.kept _ true ∙ full.marks

        kept_now : (j : ℕ) → j < count g packet → get_or (kept_in p h).kept j false ≡ with_it j
        unfolding kept_in header_for
        kept_now j k =
            same_or_not j i
            (λ e.
            ap (λ (x : ℕ). get_or (set p.kept i true) x false) e
            ∙ get_or-set_same p.kept i true false (omega (arith, full.marks, below, (in_bounds g packet passed).few))
            ∙ ap (λ (v : Bool). v || came j) (sym (eq-eqb i j (sym e))))
            (λ other.
            get_or-set_other p.kept i j true false other ∙ full.kept j k
            ∙ ap (λ (v : Bool). v || came j) (sym (ne_eqb i j (λ z. other (sym z)))))

        size_now : (j : ℕ) → j < count g packet → is_last_of g packet j ≡ false → with_it j ≡ true → (kept_in p h).size ≡ size_of g packet
        size_now j k e f =
            either (is_last_of g packet i)
            (λ z.
            same_or_not i j
            (λ q. clash z (ap (is_last_of g packet) q ∙ e))
            (λ q. kept-size-last z ∙ full.size_known j k e (old_one j q f)))
            (λ z. kept-size z)

        last_now : (j : ℕ) → j < count g packet → is_last_of g packet j ≡ true → with_it j ≡ true → (kept_in p h).last ≡ length (payload_for g packet j)
        last_now j k e f =
            either (is_last_of g packet i)
            (λ z.
            let q : i ≡ j = omega (arith, last_one j k e, last_one i below z) in
            kept-last z ∙ ap (λ (x : ℕ). length (payload_for g packet x)) q)
            (λ z.
            same_or_not i j
            (λ q. clash e (ap (is_last_of g packet) (sym q) ∙ z))
            (λ q. kept-last-not z ∙ full.last_known j k e (old_one j q f)))

        room : at * place + offset_of h + length (payload_for g packet i) ≤ length b
        room = omega (arith, whole, inside i below, offset_same)

        bytes_now : (j : ℕ) → j < count g packet → with_it j ≡ true
            → take (length (payload_for g packet j))
            (drop (at * place + offset g packet j) (splice b (at * place + offset_of h) (payload_for g packet i)))
            ≡ payload_for g packet j
        bytes_now j k f =
            same_or_not i j
            (λ q.
            let here : at * place + offset g packet j ≡ at * place + offset_of h = omega (arith, offset_same, ap (offset g packet) q) in
            let len : length (payload_for g packet j) ≡ length (payload_for g packet i) = ap (λ (x : ℕ). length (payload_for g packet x)) (sym q) in
            ap₂ (λ (x y : ℕ). take x (drop y (splice b (at * place + offset_of h) (payload_for g packet i)))) len here
            ∙ splice_here b (at * place + offset_of h) (payload_for g packet i) room ∙ ap (payload_for g packet) q)
            (λ q.
            apart i j below k q
            (λ l. spared_behind b (at * place + offset_of h) (payload_for g packet i) room (at * place + offset g packet j)
            (length (payload_for g packet j)) (omega (arith, offset_same)))
            (λ l. spared_before b (at * place + offset_of h) (payload_for g packet i) room (at * place + offset g packet j)
            (length (payload_for g packet j)) (omega (arith, offset_same)))
            ∙ full.bytes j k (old_one j q f))

        same_condition : (kept_in p h).condition ≡ p.condition
        unfolding kept_in
        same_condition = refl

        -- with fragment i kept, the place holds it beside those that it held, each with its own bytes
        pub kept_full : Full g n packet (λ j. eqb i j || came j) at (kept_in p h) (splice b (at * place + offset_of h) (payload_for g packet i))
        kept_full =
            record {
              mine = kept_mine full.mine;
              is_open = same_condition ∙ full.is_open;
              marks = marks_now;
              kept = kept_now;
              size_known = size_now;
              last_known = last_now;
              bytes = bytes_now;
            }
