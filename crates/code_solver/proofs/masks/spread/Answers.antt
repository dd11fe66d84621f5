-- `spread` meets its contract: the data in front, the parity behind, zeros between. Assumes nothing.
use mathlib.Core.Path.{◌≡◌, sym, ap, ap₂, ◌∙◌}
use mathlib.Core.List.{List, ◌++◌, append-nil, append_assoc}
use Prim.Native.Nat.{ℕ, ◌+◌, ◌-◌, ◌≤◌}
use native.Mathlib.Omega.{arith}
use lib.ListN.{length, take, drop, replicate, length-append, length-drop, length-replicate}
use lib.Seq.{take_all, take_at, drop_at, length-take-le}
use Rattle.std.proofs.lemmas.List.{drop-replicate, replicate-append-replicate}
use Rattle.codeword.specs.Code.{full}
use Rattle.code_solver.proofs.masks.spread.Goals as goal

module _ (k : ℕ) (c a b : List ℕ) (few : k ≤ 207) (sized : length c ≡ k + 48) (front : a ≡ take k c) (behind : b ≡ drop k c) where
  laid : take 207 (a ++ drop k (replicate 255 0)) ++ (b ++ drop 48 (drop 207 (a ++ drop k (replicate 255 0)))) ≡ full 0 k c
  unfolding full
  laid =
      let whole : a ++ drop k (replicate 255 0) ≡ (a ++ replicate (207 - k) 0) ++ replicate 48 0 =
      ap (λ (l : List ℕ). a ++ l) (drop-replicate k 255 0 ∙ ap (λ (n : ℕ). replicate n 0) (omega arith) ∙ sym (replicate-append-replicate (207 - k) 48 0))
      ∙ sym (append_assoc a (replicate (207 - k) 0) (replicate 48 0)) in
      let size : length a ≡ k = ap length front ∙ length-take-le k c (omega arith) in
      let long : length (a ++ replicate (207 - k) 0) ≡ 207 = simp (length-append, length-drop, length-replicate) (omega arith) in
      ap (λ (l : List ℕ). take 207 l ++ (b ++ drop 48 (drop 207 l))) whole
      ∙ ap₂ (λ (l m : List ℕ). l ++ (b ++ drop 48 m)) (take_at (a ++ replicate (207 - k) 0) (replicate 48 0) 207 long) (drop_at (a ++ replicate (207 - k) 0) (replicate 48 0) 207 long)
      ∙ ap (λ (l : List ℕ). (a ++ replicate (207 - k) 0) ++ l) (append-nil b)
      ∙ append_assoc a (replicate (207 - k) 0) b
      ∙ ap₂ (λ (l m : List ℕ). l ++ (replicate (207 - k) 0 ++ m)) front behind

pub returns : goal.returns
returns c =
    let A = c.args in
    let front = c.copy_from_slice.ensures.after in
    let behind = c.copy_from_slice-2.ensures.after ∙ take_all _ (drop A.k A.c.now) (omega (arith, length-drop A.k A.c.now)) in
    laid A.k A.c.now c.copy_from_slice.new.self c.copy_from_slice-2.new.self (omega arith) (omega arith) front behind
