-- The cells of a block and its chunks: which are missing, and what the call that fills them in answers. Assumes nothing.
use mathlib.Core.Path.{◌≡◌, refl, sym, ap, ap₂, ◌∙◌, subst}
use mathlib.Core.Bool.{Bool, true, false, not}
use mathlib.Core.List.{List, [], ◌∷◌, ◌++◌}
use Prim.Native.Nat.{ℕ, zero, suc, ◌+◌, ◌*◌, ◌/◌, ◌%◌, ◌≤◌, ◌<◌}
use native.Mathlib.Nat.{add-mod, add-mod_right, mod-eq_of_lt, zero-add, suc_inj, suc-ne-zero}
use native.Mathlib.Decide.{dec_lt}
use native.Mathlib.Omega.{arith}
use borrow.Author.Tests.{lt-ltb, le-ltb}
use lib.Dec.{eqb, ltb, lit<}
use lib.ListN.{length, take, drop, get_or, length-append, length-drop, take-append-drop}
use lib.Seq.{ext_get_or, length-take-le, take-append-le, drop-append-le, drop_at}
use Rattle.base_rules.specs.Bounds.{parity}
use Rattle.base_rules.specs.Table.{table}
use Rattle.base_rules.specs.Bytes.{splice, part_of}
use Rattle.base_rules.specs.Tests.{first, bit}
use Rattle.std.specs.Prelude.{Ok, Err}
use Rattle.base_rules.specs.Refusal as refusals
use Rattle.base_rules.specs.declared.Refusal.{Refusal}
use Rattle.base_rules.specs.declared.Refusal.TheVariants as refusal
use Rattle.base_rules.specs.Answer.{granted}
use Rattle.base_rules.proofs.Answers.{grants, refuses}
use Rattle.base_rules.proofs.Firsts.{due, skip, none_due, clear, clear_rest}
use Rattle.base_rules.proofs.Logic.{clash, bit_one}
use Rattle.base_rules.proofs.Splice.{splice_next}
use Rattle.base_rules.proofs.Tables.{length-table, at_table, table-add}
use Rattle.base_rules.proofs.Parts.{part_room, length_part, part_at}
use Rattle.cut_rules.specs.Missing.{gone, missing, suffice}
use Rattle.cut_rules.specs.Sizes.{received_c}
use Rattle.cut_rules.proofs.Sufficing.{suffice_no}
use Rattle.weave_rules.specs.Calls as weave
use Rattle.weave_rules.specs.Calls.{bad_count, too_much, bad_chunk, not_kept, enough_fault, enough_of}
use Rattle.codeword.specs.Erasure.{marks, erase, count}
use Rattle.code_rules.specs.Fill.{Agrees}
use Rattle.code_rules.specs.inner.Block.{Ready, BlockTried}
use Rattle.code_rules.specs.Calls.{number_of, lost_cells, fill_fault, BlockFilled}
use Rattle.code_rules.specs.inner.Standing.{Standing, Holds}
use Rattle.code_rules.specs.declared.Filled.TheVariants.{Done, Nothing, NotEnough}
use Rattle.code_rules.proofs.CallCases.{granted_by, refused_by}
use Rattle.code_rules.proofs.MaskLaws.{length-marks}

-- ---- a row: one cell of each fragment

module _ (q f : ℕ) (here : q % f ≡ 0) where
  -- the fragment of the cell i of a row
  pub in_row : (i : ℕ) → i < f → (q + i) % f ≡ i
  in_row i below =
      add-mod q i f ∙ ap₂ (λ (x y : ℕ). (x + y) % f) here (mod-eq_of_lt below) ∙ ap (λ (x : ℕ). x % f) (zero-add i) ∙ mod-eq_of_lt below

  -- the next row starts with fragment 0
  pub next_row : (q + f) % f ≡ 0
  next_row = add-mod_right q f ∙ here

-- ---- the cells that are lost

one_lost : (b : Bool) (ms : List Bool) (n : ℕ) → count ms ≡ n → count (not (eqb (bit b) 0) ∷ ms) ≡ bit b + n
unfolding count
one_lost true ms n e = ap suc e ∙ omega arith
one_lost false ms n e = e ∙ omega arith

module _ (kept : List Bool) (f : ℕ) where
  -- as many masks as cells
  pub length-lost : (a n : ℕ) → length (lost_cells kept f a n) ≡ n
  unfolding lost_cells
  length-lost a n = length-table _ a n

  -- cells behind the first q of a buffer
  pub lost_on : (d : List ℕ) (q m : ℕ) {x y : List ℕ} → x ≡ splice d 0 (lost_cells kept f 0 q) → y ≡ splice x q (lost_cells kept f q m)
      → y ≡ splice d 0 (lost_cells kept f 0 (q + m))
  unfolding lost_cells
  lost_on d q m ex ey =
      let rule : ℕ → ℕ = λ q. bit (gone (not_kept kept) f q) in
      ey ∙ ap (λ (l : List ℕ). splice l q (table rule q m)) ex ∙ splice_next d (table rule 0 q) (table rule q m) q (length-table rule 0 q)
      ∙ ap (splice d 0) (ap (λ (z : ℕ). table rule 0 q ++ table rule z m) (sym (zero-add q)) ∙ sym (table-add rule 0 q m))

  count-lost : (a n : ℕ) → count (marks (lost_cells kept f a n)) ≡ Rattle.cut_rules.specs.Missing.count (gone (not_kept kept) f) a n
  unfolding lost_cells table marks count Rattle.cut_rules.specs.Missing.count
  count-lost a zero = refl
  count-lost a (suc n) = one_lost (gone (not_kept kept) f a) (marks (lost_cells kept f (suc a) n)) _ (count-lost (suc a) n)

  -- the masks of one chunk
  pub part_lost : (n c j : ℕ) → j < c → part_of (lost_cells kept f 0 (c * n)) n j ≡ lost_cells kept f (j * n) n
  unfolding lost_cells
  part_lost n c j h =
      let rule : ℕ → ℕ = λ q. bit (gone (not_kept kept) f q) in
      let size : length (part_of (table rule 0 (c * n)) n j) ≡ n = length_part n c j (table rule 0 (c * n)) (omega (arith, length-table rule 0 (c * n))) h in
      ext_get_or 0 (part_of (table rule 0 (c * n)) n j) (table rule (j * n) n) (size ∙ sym (length-table rule (j * n) n))
      (λ i l. let b : i < n = omega (arith, size) in
      part_at n j i (table rule 0 (c * n)) b
      ∙ at_table rule 0 (c * n) (j * n + i) (omega (arith, part_room n c j h)) ∙ ap rule (zero-add (j * n + i)) ∙ sym (at_table rule (j * n) n i b))

  as_missing : (n j : ℕ) → count (marks (lost_cells kept f (j * n) n)) ≡ missing (not_kept kept) f n j
  unfolding missing
  as_missing n j = count-lost (j * n) n

  -- no chunk misses more than 48, where the fragments kept suffice
  pub few-lost : (n c : ℕ) → suffice (not_kept kept) f n c ≡ true → (j : ℕ) → j < c → count (marks (part_of (lost_cells kept f 0 (c * n)) n j)) ≤ 48
  few-lost n c e j l =
      subst (λ (x : ℕ). x ≤ 48) (sym (ap (λ m. count (marks m)) (part_lost n c j l) ∙ taken)) (go (dec_lt parity (missing (not_kept kept) f n j)))
    where
      taken : count (marks (lost_cells kept f (j * n) n)) ≡ missing (not_kept kept) f n j
      taken = as_missing n j

      go : Dec (parity < missing (not_kept kept) f n j) → missing (not_kept kept) f n j ≤ 48
      go (yes h) = clash e (suffice_no (not_kept kept) f n c j l h)
      go (no h) = omega arith

-- ---- the masks of the lost cells

module _ (kept : List Bool) (f k c : ℕ) (mask : List ℕ) (em : mask ≡ lost_cells kept f 0 (c * (k + 48))) where
  -- no chunk misses more than 48 bytes
  pub ready_by : (block : List ℕ) → Holds kept f k c block → Ready k mask c block
  ready_by block h =
      subst (λ (m : List ℕ). Ready k m c block) (sym em)
      record {
        short = h.short;
        some = omega (arith, h.within);
        masks = length-lost kept f 0 (c * (k + 48));
        chunks = h.chunks;
        few = few-lost kept f (k + 48) c h.enough;
      }

  -- what is filled in by the masks is filled in by the cells
  pub tried_by : (old new : List ℕ) (r : Bool) → BlockTried k mask c old new r → BlockTried k (lost_cells kept f 0 (c * (k + 48))) c old new r
  tried_by old new r m = subst (λ (l : List ℕ). BlockTried k l c old new r) em m

-- ---- the call

part_front : (n c j : ℕ) (a b : List ℕ) → length a ≡ c * n → j < c → part_of a n j ≡ part_of (a ++ b) n j
unfolding part_of
part_front n c j a b e h =
    sym (ap (take n) (drop-append-le (j * n) a b (omega (arith, part_room n c j h)))
    ∙ take-append-le n (drop (j * n) a) b (omega (arith, length-drop (j * n) a, part_room n c j h)))

erase_front : (ms : List Bool) (a b : List ℕ) → length ms ≡ length a → erase ms (a ++ b) ≡ erase ms a ++ b
unfolding erase
erase_front [] [] b e = refl
erase_front [] (x ∷ a) b e = absurd (suc-ne-zero (length a) (sym e))
erase_front (m ∷ ms) [] b e = absurd (suc-ne-zero (length ms) e)
erase_front (true ∷ ms) (x ∷ a) b e = ap (λ (l : List ℕ). 0 ∷ l) (erase_front ms a b (suc_inj e))
erase_front (false ∷ ms) (x ∷ a) b e = ap (λ (l : List ℕ). x ∷ l) (erase_front ms a b (suc_inj e))

module _ (kept : List Bool) (f s k : ℕ) (block : List ℕ) (enough : Bool) (st : Standing kept f s k enough) where
  c : ℕ
  c = f * s / (k + 48)

  -- too little room
  pub fill_room : length block < f * s / (k + 48) * (k + 48) → BlockFilled kept f s k block block (Err refusal.Room)
  unfolding number_of refusals.told refusals.number fill_fault received_c
  fill_room h =
      record {
        number =
            refuses 1 _ _ (lit< tt)
            (skip 7 _ st.counted (skip 8 _ st.placed (skip 8 _ st.sound
            (due 1 _ (lt-ltb (length block) (f * s / (k + parity) * (k + parity)) h)))));
        left = refl;
      }

  module _ (whole : f * s / (k + 48) * (k + 48) ≤ length block) where
    no_fault : 0 ≡ fill_fault f s k (length block)
    unfolding fill_fault received_c
    no_fault =
        skip 7 _ st.counted (skip 8 _ st.placed (skip 8 _ st.sound
        (skip 1 _ (le-ltb (length block) (f * s / (k + parity) * (k + parity)) whole) none_due)))

    -- too few fragments are kept
    pub fill-not-enough : enough ≡ false → BlockFilled kept f s k block block (Ok NotEnough)
    unfolding number_of refusals.told received_c
    fill-not-enough e = record { number = grants _ _ no_fault; left = (st.told ∙ e, refl) }

    all : ℕ
    all = f * s / (k + 48) * (k + 48)

    front : List ℕ
    front = take all block

    length_front : length front ≡ all
    unfolding all front
    length_front = length-take-le (f * s / (k + 48) * (k + 48)) block whole

    front_is : (j : ℕ) → j < c → part_of front (k + 48) j ≡ part_of block (k + 48) j
    unfolding all front c
    front_is j h =
        part_front (k + 48) c j front (drop all block) length_front h ∙ ap (λ (l : List ℕ). part_of l (k + 48) j) (take-append-drop all block)

    module _ (new after : List ℕ) (size : length new ≡ f * s / (k + 48) * (k + 48))
        (is : after ≡ new ++ drop (f * s / (k + 48) * (k + 48)) block) (yes-enough : enough ≡ true) where
      -- all chunks are filled in
      pub fill_done : BlockTried k (lost_cells kept f 0 (f * s / (k + 48) * (k + 48))) (f * s / (k + 48))
          (take (f * s / (k + 48) * (k + 48)) block) new true
          → BlockFilled kept f s k block after (Ok Done)
      unfolding number_of refusals.told received_c all front c
      fill_done m = record {
        number = grants _ _ no_fault;
        left = (
          st.told ∙ yes-enough,
          record {
            size = ap length is ∙ length-append new (drop all block) ∙ omega (arith, length-drop all block);
            each = λ j h.
                subst (λ (x : List ℕ). Agrees k x (part_of block (k + 48) j) (part_of after (k + 48) j)) (part_lost kept f (k + 48) c j h)
                (subst (λ (x : List ℕ). Agrees k (part_of (lost_cells kept f 0 all) (k + 48) j) x (part_of after (k + 48) j))
                (front_is j h)
                (subst (λ (x : List ℕ). Agrees k (part_of (lost_cells kept f 0 all) (k + 48) j) (part_of front (k + 48) j) x)
                (part_front (k + 48) c j new (drop all block) size h ∙ ap (λ (l : List ℕ). part_of l (k + 48) j) (sym is))
                (m j h)));
            behind = ap (drop all) is ∙ drop_at new (drop all block) all size;
          },
        );
      }

      -- one chunk has no filling
      pub fill_nothing : BlockTried k (lost_cells kept f 0 (f * s / (k + 48) * (k + 48))) (f * s / (k + 48))
          (take (f * s / (k + 48) * (k + 48)) block) new false
          → BlockFilled kept f s k block after (Ok Nothing)
      unfolding number_of refusals.told received_c all front c
      fill_nothing m = record {
        number = grants _ _ no_fault;
        left = (
          st.told ∙ yes-enough,
          record {
            at = m.at;
            below = m.below;
            none = λ w g.
                m.none w
                (subst (λ (x : List ℕ). Agrees k x (part_of front (k + 48) m.at) w) (sym (part_lost kept f (k + 48) c m.at m.below))
                (subst (λ (x : List ℕ). Agrees k (lost_cells kept f (m.at * (k + 48)) (k + 48)) x w)
                (sym (front_is m.at m.below))
                g));
            zeros =
                is ∙ ap (λ (l : List ℕ). l ++ drop all block) m.zeros
                ∙ sym (erase_front (marks (lost_cells kept f 0 all)) front (drop all block)
                (length-marks (lost_cells kept f 0 all) ∙ length-lost kept f 0 all ∙ sym length_front))
                ∙ ap (erase (marks (lost_cells kept f 0 all))) (take-append-drop all block);
          },
        );
      }

-- ---- what the test of sufficing tells

-- a test behind those of which one is true does not count
firsts_same : (n : ℕ) (a b d x : Bool) → 0 < n → n ≡ first ((a, 7) ∷ (b, 8) ∷ (d, 8) ∷ [])
    → first ((a, 7) ∷ (b, 8) ∷ (d, 8) ∷ []) ≡ first ((a, 7) ∷ (b, 8) ∷ (d, 8) ∷ (x, 1) ∷ [])
unfolding first
firsts_same n true b d x h e = refl
firsts_same n false true d x h e = refl
firsts_same n false false true x h e = refl
firsts_same n false false false x h e = absurd (omega arith)

module _ (kept : List Bool) (f s k : ℕ) where
  sound_by : enough_fault f s k ≡ 0 → (bad_count f ≡ false) × (too_much f s ≡ false) × (bad_chunk f s k ≡ false)
  unfolding enough_fault
  sound_by e =
      let r = clear_rest (bad_count f) 7 ((too_much f s, 8) ∷ (bad_chunk f s k, 8) ∷ []) (λ z. omega arith) e in
      let q = clear_rest (too_much f s) 8 ((bad_chunk f s k, 8) ∷ []) (λ z. omega arith) r in (
        clear (bad_count f) 7 ((too_much f s, 8) ∷ (bad_chunk f s k, 8) ∷ []) (λ z. omega arith) e,
        clear (too_much f s) 8 ((bad_chunk f s k, 8) ∷ []) (λ z. omega arith) r,
        clear (bad_chunk f s k) 8 [] (λ z. omega arith) q,
      )

  -- the figures are sound
  pub standing : (b : Bool) → granted (bit b ∷ []) ≡ enough_of kept f s k → Standing kept f s k b
  unfolding enough_of received_c
  standing b e =
      let so : Bool = suffice (not_kept kept) f (k + parity) (f * s / (k + parity)) in
      let g = granted_by (enough_fault f s k) (bit b ∷ []) (bit so ∷ []) e in
      let t = sound_by (sym g.0) in
      record { counted = t.0; placed = t.1; sound = t.2; told = bit_one so b (sym (ap (λ (l : List ℕ). get_or l 0 0) g.1)) }

  same_fault : (n len : ℕ) → n ≡ enough_fault f s k → 0 < n → enough_fault f s k ≡ fill_fault f s k len
  unfolding enough_fault fill_fault
  same_fault n len e h = go (bad_count f) (too_much f s) (bad_chunk f s k) (ltb len (received_c f s k * (k + parity))) e
    where
      go : (a b d x : Bool) → n ≡ first ((a, 7) ∷ (b, 8) ∷ (d, 8) ∷ [])
          → first ((a, 7) ∷ (b, 8) ∷ (d, 8) ∷ []) ≡ first ((a, 7) ∷ (b, 8) ∷ (d, 8) ∷ (x, 1) ∷ [])
      go a b d x q = firsts_same n a b d x h q

  -- the figures cannot be
  pub fill-refused : (e : Refusal) (block : List ℕ) → weave.number_of (Err e) ≡ enough_of kept f s k → BlockFilled kept f s k block block (Err e)
  unfolding enough_of number_of weave.number_of refusals.told
  fill-refused e block h =
      let n : ℕ = refusals.number e in
      let g = refused_by n (enough_fault f s k) (bit (suffice (not_kept kept) f (k + parity) (received_c f s k)) ∷ []) h in
      record { number = refuses n _ _ g.1 (g.0 ∙ same_fault n (length block) g.0 g.1); left = refl }
