-- No second pair of answer and bytes fits the promise of `fill_chunk`, and none that of `fill` (R4 with R3). Assumes nothing.
use mathlib.Core.Path.{◌≡◌, refl, sym, ap, ◌∙◌, subst}
use mathlib.Core.Bool.{Bool, true, false}
use mathlib.Core.List.{List, [], ◌∷◌}
use Prim.Native.Nat.{ℕ, ◌+◌, ◌*◌, ◌≤◌, ◌<◌}
use native.Mathlib.Omega.{arith}
use Rattle.base_rules.specs.Bytes.{part_of}
use Rattle.base_rules.proofs.Logic.{clash}
use lib.Dec.{ltb}
use lib.ListN.{length}
use Rattle.std.specs.Prelude.{Result, Ok, Err}
use Rattle.base_rules.specs.Refusal as refusals
use Rattle.base_rules.specs.declared.Refusal.{Refusal}
use Rattle.base_rules.specs.Answer.{granted, refused, answered}
use Rattle.base_rules.specs.Bounds.{parity}
use Rattle.base_rules.proofs.ChunkSize.{k_most}
use Rattle.base_rules.proofs.Answers.{one_told}
use Rattle.base_rules.proofs.Firsts.{clear, clear_rest}
use Rattle.base_rules.proofs.Parts.{by_parts}
use Rattle.cut_rules.specs.Missing.{suffice}
use Rattle.cut_rules.specs.Sizes.{received_c}
use Rattle.weave_rules.specs.Calls.{bad_count, too_much, bad_chunk, not_kept}
use Rattle.weave_rules.proofs.CallCases.{chunk_some}
use Rattle.codeword.specs.Erasure.{marks, count}
use Rattle.code_rules.specs.Fill.{Agrees}
use Rattle.code_rules.specs.Calls.{number_of, values_of, bad_pair, chunk_fault, ChunkFilled, lost_cells, fill_fault, BlockFilled}
use Rattle.code_rules.specs.declared.Filled.{Filled}
use Rattle.code_rules.specs.declared.Filled.TheVariants.{Done, Nothing, NotEnough}
use Rattle.code_rules.proofs.CallCases.{granted_by, refused_by, pair_size, pair_mask}
use Rattle.code_rules.proofs.FillLaws.{one_filling}
use Rattle.code_rules.proofs.CellLaws.{length-lost, part_lost, few-lost}

-- ---- numbers

-- no two fillings have one value
one_value : (a b : Filled) → values_of (Ok a) ≡ values_of (Ok b) → a ≡ b
unfolding values_of
one_value Done Done e = refl
one_value Done Nothing e = cc
one_value Done NotEnough e = cc
one_value Nothing Done e = cc
one_value Nothing Nothing e = refl
one_value Nothing NotEnough e = let z : ◌≡◌ {A = ℕ} 256 257 = cc in absurd (omega arith)
one_value NotEnough Done e = cc
one_value NotEnough Nothing e = let z : ◌≡◌ {A = ℕ} 257 256 = cc in absurd (omega arith)
one_value NotEnough NotEnough e = refl

-- no two answers have one number
pub one_filled : (a b : Result Filled Refusal) → number_of a ≡ number_of b → a ≡ b
unfolding number_of
one_filled a b e = one_told (λ f. values_of (Ok f)) one_value a b e

-- nothing is both granted and refused
not_both : (n fault : ℕ) (u v w : List ℕ) → granted u ≡ answered fault v → refused n ≡ answered fault w → ⊥
not_both n fault u v w a b =
    let g = granted_by fault u v a in
    let r = refused_by n fault w b in
    omega (arith, g.0, r.0, r.1)

-- nor refused for two numbers
one_number_lem : (n m fault : ℕ) (v w : List ℕ) → refused n ≡ answered fault v → refused m ≡ answered fault w → refused n ≡ refused m
one_number_lem n m fault v w a b = ap refused ((refused_by n fault v a).0 ∙ sym (refused_by m fault w b).0)

-- ---- a chunk

module _ (k : ℕ) (mask c v w : List ℕ) where
  no_fault : 0 ≡ chunk_fault k (length mask) (length c) → bad_pair k (length mask) (length c) ≡ false
  unfolding chunk_fault
  no_fault e = clear _ 8 [] (λ z. omega arith) (sym e)

  -- a chunk: no second answer, and no second chunk after it, fits the promise
  pub one_chunk_filled : (r s : Result Filled Refusal) → ChunkFilled k mask c v r → ChunkFilled k mask c w s → (r ≡ s) × (v ≡ w)
  unfolding number_of refusals.told
  one_chunk_filled (Ok Done) (Ok Done) a b =
      let fine : bad_pair k (length mask) (length c) ≡ false = no_fault (granted_by _ _ _ a.number).0 in
      (refl, one_filling k mask c v w (k_most k (pair_size k mask c fine)) (pair_mask k mask c fine) a.left.0 a.left.1 b.left.1)
  one_chunk_filled (Ok Done) (Ok Nothing) a b = absurd (b.left.1 v a.left.1)
  one_chunk_filled (Ok Done) (Ok NotEnough) a b = absurd (omega (arith, a.left.0, b.left.0))
  one_chunk_filled (Ok Done) (Err n) a b = absurd (not_both _ _ _ _ _ a.number b.number)
  one_chunk_filled (Ok Nothing) (Ok Done) a b = absurd (a.left.1 w b.left.1)
  one_chunk_filled (Ok Nothing) (Ok Nothing) a b = (refl, a.left.2 ∙ sym b.left.2)
  one_chunk_filled (Ok Nothing) (Ok NotEnough) a b = absurd (omega (arith, a.left.0, b.left.0))
  one_chunk_filled (Ok Nothing) (Err n) a b = absurd (not_both _ _ _ _ _ a.number b.number)
  one_chunk_filled (Ok NotEnough) (Ok Done) a b = absurd (omega (arith, a.left.0, b.left.0))
  one_chunk_filled (Ok NotEnough) (Ok Nothing) a b = absurd (omega (arith, a.left.0, b.left.0))
  one_chunk_filled (Ok NotEnough) (Ok NotEnough) a b = (refl, a.left.1 ∙ sym b.left.1)
  one_chunk_filled (Ok NotEnough) (Err n) a b = absurd (not_both _ _ _ _ _ a.number b.number)
  one_chunk_filled (Err n) (Ok Done) a b = absurd (not_both _ _ _ _ _ b.number a.number)
  one_chunk_filled (Err n) (Ok Nothing) a b = absurd (not_both _ _ _ _ _ b.number a.number)
  one_chunk_filled (Err n) (Ok NotEnough) a b = absurd (not_both _ _ _ _ _ b.number a.number)
  one_chunk_filled (Err n) (Err m) a b =
      (one_filled (Err n) (Err m) (one_number_lem _ _ _ _ _ a.number b.number), a.left ∙ sym b.left)

-- ---- a block

module _ (kept : List Bool) (f s k : ℕ) (block v w : List ℕ) where
  short : 0 ≡ fill_fault f s k (length block) → k ≤ 207
  unfolding fill_fault
  short e =
      let rest : List (Bool × ℕ) = (ltb (length block) (received_c f s k * (k + parity)), 1) ∷ [] in
      let a = clear_rest (bad_count f) 7 ((too_much f s, 8) ∷ (bad_chunk f s k, 8) ∷ rest) (λ z. omega arith) (sym e) in
      let b = clear_rest (too_much f s) 8 ((bad_chunk f s k, 8) ∷ rest) (λ z. omega arith) a in
      (chunk_some f s k (clear (bad_chunk f s k) 8 rest (λ z. omega arith) b)).1

  -- at most one chunk of the code has the cells kept
  same-chunk : 0 ≡ fill_fault f s k (length block) → suffice (not_kept kept) f (k + parity) (received_c f s k) ≡ true → (j : ℕ) → j < received_c f s k
      → Agrees k (lost_cells kept f (j * (k + parity)) (k + parity)) (part_of block (k + parity) j) (part_of v (k + parity) j)
      → Agrees k (lost_cells kept f (j * (k + parity)) (k + parity)) (part_of block (k + parity) j) (part_of w (k + parity) j)
      → part_of v (k + parity) j ≡ part_of w (k + parity) j
  same-chunk fine enough j l a b =
      one_filling k (lost_cells kept f (j * (k + parity)) (k + parity)) (part_of block (k + parity) j)
      (part_of v (k + parity) j) (part_of w (k + parity) j)
      (short fine) (length-lost kept f (j * (k + parity)) (k + parity))
      (subst (λ (m : List ℕ). count (marks m) ≤ 48) (part_lost kept f (k + parity) (received_c f s k) j l)
      (few-lost kept f (k + parity) (received_c f s k) enough j l)) a b

  -- a block: no second answer, and no second block after it, fits the promise
  pub one_block_filled : (r q : Result Filled Refusal) → BlockFilled kept f s k block v r → BlockFilled kept f s k block w q → (r ≡ q) × (v ≡ w)
  unfolding number_of refusals.told
  one_block_filled (Ok Done) (Ok Done) a b =
      let fine : 0 ≡ fill_fault f s k (length block) = (granted_by _ _ _ a.number).0 in (
        refl,
        by_parts (k + parity) (received_c f s k) v w
            (λ j l. same-chunk fine a.left.0 j l (a.left.1.each j l) (b.left.1.each j l)) (a.left.1.behind ∙ sym b.left.1.behind),
      )
  one_block_filled (Ok Done) (Ok Nothing) a b =
      absurd (b.left.1.none (part_of v (k + parity) b.left.1.at) (a.left.1.each b.left.1.at b.left.1.below))
  one_block_filled (Ok Done) (Ok NotEnough) a b = clash a.left.0 b.left.0
  one_block_filled (Ok Done) (Err n) a b = absurd (not_both _ _ _ _ _ a.number b.number)
  one_block_filled (Ok Nothing) (Ok Done) a b =
      absurd (a.left.1.none (part_of w (k + parity) a.left.1.at) (b.left.1.each a.left.1.at a.left.1.below))
  one_block_filled (Ok Nothing) (Ok Nothing) a b = (refl, a.left.1.zeros ∙ sym b.left.1.zeros)
  one_block_filled (Ok Nothing) (Ok NotEnough) a b = clash a.left.0 b.left.0
  one_block_filled (Ok Nothing) (Err n) a b = absurd (not_both _ _ _ _ _ a.number b.number)
  one_block_filled (Ok NotEnough) (Ok Done) a b = clash b.left.0 a.left.0
  one_block_filled (Ok NotEnough) (Ok Nothing) a b = clash b.left.0 a.left.0
  one_block_filled (Ok NotEnough) (Ok NotEnough) a b = (refl, a.left.1 ∙ sym b.left.1)
  one_block_filled (Ok NotEnough) (Err n) a b = absurd (not_both _ _ _ _ _ a.number b.number)
  one_block_filled (Err n) (Ok Done) a b = absurd (not_both _ _ _ _ _ b.number a.number)
  one_block_filled (Err n) (Ok Nothing) a b = absurd (not_both _ _ _ _ _ b.number a.number)
  one_block_filled (Err n) (Ok NotEnough) a b = absurd (not_both _ _ _ _ _ b.number a.number)
  one_block_filled (Err n) (Err m) a b =
      (one_filled (Err n) (Err m) (one_number_lem _ _ _ _ _ a.number b.number), a.left ∙ sym b.left)
