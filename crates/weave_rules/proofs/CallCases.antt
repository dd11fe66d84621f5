-- The calls on fragments: what their tests tell, and which answer is which case. Assumes nothing.
use mathlib.Core.Path.{◌≡◌, refl, sym, ap, ◌∙◌}
use mathlib.Core.Bool.{Bool, true, false, ◌||◌}
use mathlib.Core.List.{List, [], ◌∷◌, ◌++◌}
use Prim.Native.Nat.{ℕ, ◌+◌, ◌-◌, ◌*◌, ◌/◌, ◌≤◌, ◌<◌}
use native.Mathlib.Nat.{pos_of_ne-zero, zero-add, mul-div-le, lt-mul-div-succ, mul-le-mul_left, mul-le-mul_right}
use native.Mathlib.Omega.{arith}
use borrow.Author.Tests.{ltb-false, eqb-false, le-leb, lt-leb, lt-ltb, le-ltb}
use lib.Dec.{ltb, eqb, lit<}
use lib.ListN.{length, get_or, replicate, get_or-eq_default}
use Rattle.std.specs.Prelude.{Result, Ok, Err}
use Rattle.base_rules.specs.Answer.{granted, outcome}
use Rattle.base_rules.specs.Refusal.{told, number}
use Rattle.base_rules.specs.Written as written
use Rattle.base_rules.specs.declared.Refusal.{Refusal}
use Rattle.base_rules.specs.declared.Refusal.TheVariants as refusal
use Rattle.base_rules.specs.Bounds.{most_f, most_k, bad_k, place, parity}
use Rattle.base_rules.specs.Bytes.{splice}
use Rattle.base_rules.specs.Table.{table}
use Rattle.base_rules.specs.Tests.{bit}
use Rattle.base_rules.proofs.ChunkSize.{k_some, k_most}
use Rattle.base_rules.proofs.Answers.{grants, refuses, writes, leaves, one_told}
use Rattle.base_rules.proofs.Firsts.{due, skip, none_due}
use Rattle.base_rules.proofs.Logic.{or_left, or_right}
use Rattle.base_rules.proofs.Splice.{splice_next}
use Rattle.base_rules.proofs.Tables.{length-table, table-add, table_same}
use Rattle.weave_rules.specs.Calls.{bad_count, too_much, over_cells, bad_chunk, interleave_fault, interleave_of, deinterleave_fault, deinterleave_of, not_kept}
use Rattle.weave_rules.specs.Calls.{enough_fault, enough_of, number_of, values_of}
use Rattle.cut_rules.specs.Cells.{fragment_of, cell_of, cells_of}
use Rattle.cut_rules.specs.Missing.{suffice}
use Rattle.cut_rules.specs.Sizes.{received_c}
use Rattle.weave_rules.specs.declared.Held.{Held}
use Rattle.weave_rules.specs.declared.Held.TheVariants.{Enough, NotEnough}
use Rattle.cut_rules.proofs.Interleaving.{length-fragment}

-- ---- what the tests tell

module _ (f : ℕ) (fine : bad_count f ≡ false) where
  -- an Fcount that passes 7 COUNT is 1 or more
  pub f_some : 0 < f
  unfolding bad_count
  f_some = pos_of_ne-zero (eqb-false _ _ (or_left (eqb f 0) _ fine))

  -- an Fcount that passes 7 COUNT is 256 or less
  pub f_most : f ≤ most_f
  unfolding bad_count
  f_most = ltb-false _ _ (or_right (eqb f 0) _ fine)

-- f fragments of s bytes that are not too much fit a place
pub fits_place : (f s : ℕ) → too_much f s ≡ false → f * s ≤ place
unfolding too_much
fits_place f s fine = ltb-false place (f * s) fine

-- f fragments of more than a place's bytes are too much
pub over_place_lem : (f s : ℕ) → bad_count f ≡ false → place < s → true ≡ too_much f s
unfolding too_much
over_place_lem f s fine long =
    let once : 1 * s ≤ f * s = mul-le-mul_right s (f_some f fine) in
    sym (lt-ltb place (f * s) (omega (arith, once)))

-- a block that does not pass the cells has at most f s bytes
pub within-cells : (len f s : ℕ) → over_cells len f s ≡ false → len ≤ f * s
unfolding over_cells
within-cells len f s fine = ltb-false (f * s) len fine

-- and one of at most f s bytes does not pass them
pub fits_cells : (len f s : ℕ) → len ≤ f * s → over_cells len f s ≡ false
unfolding over_cells
fits_cells len f s h = le-ltb (f * s) len h

-- a block of more bytes passes the cells
pub passes_cells : (len f s : ℕ) → f * s < len → over_cells len f s ≡ true
unfolding over_cells
passes_cells len f s h = lt-ltb (f * s) len h

-- a k that passes 8 SIZE is 1 to 207
pub chunk_some : (f s k : ℕ) → bad_chunk f s k ≡ false → (0 < k) × (k ≤ most_k)
unfolding bad_chunk
chunk_some f s k fine =
    let sized = or_left (bad_k k) _ fine in
    (k_some k sized, k_most k sized)

-- ---- how many bytes of a fragment lie in the block

module _ (len f i : ℕ) (some : 0 < f) (inside : i < len) where
  abbrev pub rest : ℕ
  rest = len - i - 1

  -- the first rest / f + 1 bytes of fragment i lie in the block
  pub row_inside : (t : ℕ) → t < rest / f + 1 → i + f * t < len
  row_inside t h =
      let low : t ≤ rest / f = omega arith in
      omega (arith, mul-le-mul_left f low, mul-div-le rest f)

  -- the bytes of fragment i behind those lie past the block's end
  pub row_outside : (t : ℕ) → rest / f + 1 ≤ t → len ≤ i + f * t
  row_outside t h = omega (arith, mul-le-mul_left f h, lt-mul-div-succ rest some)

-- so a fragment is the bytes that do, and zeros
module _ (block : List ℕ) (f s i r : ℕ) (few : r ≤ s) (out_of_lem : (t : ℕ) → r ≤ t → t < s → length block ≤ i + f * t) where
  split : fragment_of block f r i ++ replicate (s - r) 0 ≡ fragment_of block f s i
  unfolding fragment_of
  split =
      let rule : ℕ → ℕ = λ t. get_or block (i + f * t) 0 in
      ap (λ (l : List ℕ). table rule 0 r ++ l)
      (sym (table_same rule (0 + r) (s - r) 0 (λ t (h : t < s - r). get_or-eq_default block 0 (out_of_lem (0 + r + t) (omega arith) (omega arith)))))
      ∙ sym (table-add rule 0 r (s - r))
      ∙ ap (table rule 0) (omega arith)

  -- the bytes of a fragment up to the block's end, and zeros written behind them, are the whole fragment
  pub both_written : (out x y : List ℕ) → x ≡ splice out 0 (fragment_of block f r i) → y ≡ splice x r (replicate (s - r) 0)
      → y ≡ splice out 0 (fragment_of block f s i)
  both_written out x y e q =
      q ∙ ap (λ (l : List ℕ). splice l r (replicate (s - r) 0)) e
      ∙ splice_next out (fragment_of block f r i) (replicate (s - r) 0) r (length-fragment block f r i)
      ∙ ap (splice out 0) split

-- ---- interleaving

module _ (block out : List ℕ) (f s i : ℕ) where
  -- an interleaving with an Fcount of 0 or over 256 is refused with 7, and nothing is written
  pub weave_7 : bad_count f ≡ true → outcome (written.number_of (Err refusal.Count)) out ≡ interleave_of block f s i out
  unfolding interleave_of interleave_fault written.number_of told number
  weave_7 e = leaves 7 _ _ _ _ (lit< tt) (due 7 _ e)

  module _ (counted : bad_count f ≡ false) where
    -- an interleaving into fragments that are more than a place holds is refused with 8, and nothing is written
    pub weave_8 : too_much f s ≡ true → outcome (written.number_of (Err refusal.Size)) out ≡ interleave_of block f s i out
    unfolding interleave_of interleave_fault written.number_of told number
    weave_8 e = leaves 8 _ _ _ _ (lit< tt) (skip 7 _ counted (due 8 _ e))

    module _ (held : too_much f s ≡ false) where
      -- an interleaving of a block longer than the f s cells is refused with 8, and nothing is written
      pub weave_long : over_cells (length block) f s ≡ true → outcome (written.number_of (Err refusal.Size)) out ≡ interleave_of block f s i out
      unfolding interleave_of interleave_fault written.number_of told number
      weave_long e = leaves 8 _ _ _ _ (lit< tt) (skip 7 _ counted (skip 8 _ held (due 8 _ e)))

      module _ (whole : over_cells (length block) f s ≡ false) where
        -- an interleaving asked for a fragment not below f is refused with 42, and nothing is written
        pub weave_42 : f ≤ i → outcome (written.number_of (Err refusal.Index)) out ≡ interleave_of block f s i out
        unfolding interleave_of interleave_fault written.number_of told number
        weave_42 h = leaves 42 _ _ _ _ (lit< tt) (skip 7 _ counted (skip 8 _ held (skip 8 _ whole (due 42 _ (le-leb f i h)))))

        module _ (below : i < f) where
          -- an interleaving with room for fewer than s bytes is refused with 1, and nothing is written
          pub weave_1 : length out < s → outcome (written.number_of (Err refusal.Room)) out ≡ interleave_of block f s i out
          unfolding interleave_of interleave_fault written.number_of told number
          weave_1 h =
              leaves 1 _ _ _ _ (lit< tt)
              (skip 7 _ counted (skip 8 _ held (skip 8 _ whole (skip 42 _ (lt-leb f i below) (due 1 _ (lt-ltb (length out) s h))))))

          -- with fragment i below f and room for s bytes, fragment i of the block at the front of out is the answer
          pub weave_done : (y : List ℕ) → s ≤ length out → y ≡ splice out 0 (fragment_of block f s i)
              → outcome (written.number_of (Ok tt)) y ≡ interleave_of block f s i out
          unfolding interleave_of interleave_fault written.number_of told number
          weave_done y h e =
              let roomy = skip 1 _ (le-ltb (length out) s h) none_due in
              writes _ _ _ _ _ (skip 7 _ counted (skip 8 _ held (skip 8 _ whole (skip 42 _ (lt-leb f i below) roomy)))) e

-- ---- deinterleaving

-- the rows before o, and row o behind them
pub rows_more : (held out x y : List ℕ) (f s o : ℕ) → x ≡ splice out 0 (table (cell_of held f s) 0 (o * f))
    → y ≡ splice x (o * f) (table (cell_of held f s) (o * f) f) → y ≡ splice out 0 (table (cell_of held f s) 0 ((o + 1) * f))
rows_more held out x y f s o e q =
    let rule : ℕ → ℕ = cell_of held f s in
    let at : 0 + o * f ≡ o * f = zero-add (o * f) in
    q ∙ ap (λ (l : List ℕ). splice l (o * f) (table rule (o * f) f)) e
    ∙ splice_next out (table rule 0 (o * f)) (table rule (o * f) f) (o * f) (length-table rule 0 (o * f))
    ∙ ap (λ (k : ℕ). splice out 0 (table rule 0 (o * f) ++ table rule k f)) (sym at)
    ∙ ap (splice out 0) (sym (table-add rule 0 (o * f) f))
    ∙ ap (λ (k : ℕ). splice out 0 (table rule 0 k)) (omega arith)

module _ (held out : List ℕ) (f s : ℕ) where
  -- a deinterleaving with an Fcount of 0 or over 256 is refused with 7, and nothing is written
  pub cells_7 : bad_count f ≡ true → outcome (written.number_of (Err refusal.Count)) out ≡ deinterleave_of held f s out
  unfolding deinterleave_of deinterleave_fault written.number_of told number
  cells_7 e = leaves 7 _ _ _ _ (lit< tt) (due 7 _ e)

  module _ (counted : bad_count f ≡ false) where
    -- a deinterleaving of fragments that are more than a place holds is refused with 8, and nothing is written
    pub cells_8 : too_much f s ≡ true → outcome (written.number_of (Err refusal.Size)) out ≡ deinterleave_of held f s out
    unfolding deinterleave_of deinterleave_fault written.number_of told number
    cells_8 e = leaves 8 _ _ _ _ (lit< tt) (skip 7 _ counted (due 8 _ e))

    module _ (placed : too_much f s ≡ false) where
      no_room : ltb (length held) (f * s) || ltb (length out) (f * s) ≡ true → outcome (written.number_of (Err refusal.Room)) out ≡ deinterleave_of held f s out
      unfolding deinterleave_of deinterleave_fault written.number_of told number
      no_room e = leaves 1 _ _ _ _ (lit< tt) (skip 7 _ counted (skip 8 _ placed (due 1 _ e)))

      -- a deinterleaving with fewer than f s bytes held is refused with 1, and nothing is written
      pub cells_held : length held < f * s → outcome (written.number_of (Err refusal.Room)) out ≡ deinterleave_of held f s out
      cells_held h = no_room (rw (lt-ltb (length held) (f * s) h))

      module _ (whole : f * s ≤ length held) where
        -- all fragments held, but room for fewer than f s bytes: 1, and nothing is written
        pub cells_room : length out < f * s → outcome (written.number_of (Err refusal.Room)) out ≡ deinterleave_of held f s out
        cells_room h = no_room (rw (le-ltb (length held) (f * s) whole, lt-ltb (length out) (f * s) h))

        -- with all fragments held and room for f s bytes, the cells at the front of out are the answer
        pub cells_done : (y : List ℕ) → f * s ≤ length out → y ≡ splice out 0 (cells_of held f s)
            → outcome (written.number_of (Ok tt)) y ≡ deinterleave_of held f s out
        unfolding deinterleave_of deinterleave_fault written.number_of told number
        cells_done y h e =
            let none : ltb (length held) (f * s) || ltb (length out) (f * s) ≡ false = rw
            (le-ltb (length held) (f * s) whole, le-ltb (length out) (f * s) h) in
            writes _ _ _ _ _ (skip 7 _ counted (skip 8 _ placed (skip 1 _ none none_due))) e

-- ---- whether the fragments suffice

module _ (kept : List Bool) (f s k : ℕ) where
  -- the test of sufficing is refused with 7 for an Fcount of 0 or over 256
  pub held_7 : bad_count f ≡ true → number_of (Err refusal.Count) ≡ enough_of kept f s k
  unfolding number_of told number enough_of enough_fault
  held_7 e = refuses 7 _ _ (lit< tt) (due 7 _ e)

  module _ (counted : bad_count f ≡ false) where
    -- the test of sufficing is refused with 8 for fragments that are more than a place holds
    pub held_8 : too_much f s ≡ true → number_of (Err refusal.Size) ≡ enough_of kept f s k
    unfolding number_of told number enough_of enough_fault
    held_8 e = refuses 8 _ _ (lit< tt) (skip 7 _ counted (due 8 _ e))

    module _ (placed : too_much f s ≡ false) where
      -- the test of sufficing is refused with 8 for a k of 0 or over 207, or fewer bytes than a chunk has
      pub held_chunk : bad_chunk f s k ≡ true → number_of (Err refusal.Size) ≡ enough_of kept f s k
      unfolding number_of told number enough_of enough_fault
      held_chunk e = refuses 8 _ _ (lit< tt) (skip 7 _ counted (skip 8 _ placed (due 8 _ e)))

      module _ (sound : bad_chunk f s k ≡ false) where
        told_so : (b : Bool) → b ≡ suffice (not_kept kept) f (k + parity) (f * s / (k + parity)) → granted (bit b ∷ []) ≡ enough_of kept f s k
        unfolding enough_of enough_fault received_c
        told_so b e =
            ap (λ (x : Bool). granted (bit x ∷ [])) e ∙ grants _ _ (skip 7 _ counted (skip 8 _ placed (skip 8 _ sound none_due)))

        -- where no chunk misses more than 48 bytes, the answer is Enough
        pub held_enough : (b : Bool) → b ≡ suffice (not_kept kept) f (k + parity) (f * s / (k + parity)) → b ≡ true
            → number_of (Ok Enough) ≡ enough_of kept f s k
        unfolding number_of told values_of
        held_enough b e t = told_so true (sym t ∙ e)

        -- where a chunk misses more than 48 bytes, the answer is NotEnough
        pub held_not : (b : Bool) → b ≡ suffice (not_kept kept) f (k + parity) (f * s / (k + parity)) → b ≡ false
            → number_of (Ok NotEnough) ≡ enough_of kept f s k
        unfolding number_of told values_of
        held_not b e t = told_so false (sym t ∙ e)

-- no second answer fits
one_value : (a b : Held) → values_of a ≡ values_of b → a ≡ b
unfolding values_of
one_value Enough Enough e = refl
one_value Enough NotEnough e = let z : ◌≡◌ {A = ℕ} 1 0 = cc in absurd (omega arith)
one_value NotEnough Enough e = let z : ◌≡◌ {A = ℕ} 0 1 = cc in absurd (omega arith)
one_value NotEnough NotEnough e = refl

pub one_held : (a b : Result Held Refusal) → number_of a ≡ number_of b → a ≡ b
unfolding number_of
one_held a b e = one_told values_of one_value a b e
