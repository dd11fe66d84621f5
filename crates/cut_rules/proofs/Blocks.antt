-- The n cells of a block from j n on are chunk j and its parity. Assumes nothing.
use mathlib.Core.Path.{◌≡◌, sym, ap, ap₂, ◌∙◌}
use mathlib.Core.List.{List, ◌++◌}
use Prim.Native.Nat.{ℕ, zero, suc, ◌+◌, ◌*◌, ◌≤◌, ◌<◌}
use native.Mathlib.Nat.{zero-mul, not-suc-le-zero, le_of_suc-le-suc}
use native.Mathlib.Omega.{arith}
use lib.ListN.{length, take, drop, replicate, length-append, length-drop, length-replicate}
use lib.Seq.{take_at, drop_at, length-take-le, take-append_seam}
use Rattle.base_rules.specs.Bounds.{parity}
use Rattle.base_rules.specs.Bytes.{part_of}
use Rattle.base_rules.proofs.Parts.{part_first, part_next}
use Rattle.cut_rules.specs.Block.{padded, with_parity, block_of}

module _ (parity_of : List ℕ → List ℕ) (k : ℕ) (full : (xs : List ℕ) → length xs ≡ k → length (parity_of xs) ≡ parity) where
  length-word : (xs : List ℕ) → k ≤ length xs → length (with_parity parity_of (take k xs)) ≡ k + parity
  unfolding with_parity
  length-word xs h =
      let e : length (take k xs) ≡ k = length-take-le k xs h in
      length-append (take k xs) (parity_of (take k xs)) ∙ ap₂ (λ (x y : ℕ). x + y) e (full (take k xs) e)

  -- a block has k + 48 bytes for each of its c chunks, where there are bytes enough to fill them
  pub length-block : (xs : List ℕ) (c : ℕ) → c * k ≤ length xs → length (block_of parity_of xs k c) ≡ c * (k + parity)
  unfolding block_of
  length-block xs zero h = sym (zero-mul (k + parity))
  length-block xs (suc c) h =
      length-append (with_parity parity_of (take k xs)) (block_of parity_of (drop k xs) k c)
      ∙ omega (arith, length-word xs (omega arith), length-block (drop k xs) c (omega (arith, length-drop k xs)))

  -- the k + 48 bytes of a block from j (k + 48) on are chunk j and its parity
  pub window : (xs : List ℕ) (c j : ℕ) → c * k ≤ length xs → j < c
      → part_of (block_of parity_of xs k c) (k + parity) j ≡ with_parity parity_of (part_of xs k j)
  unfolding block_of
  window xs zero j h l = absurd (not-suc-le-zero l)
  window xs (suc c) zero h l =
      part_first (k + parity) (with_parity parity_of (take k xs) ++ block_of parity_of (drop k xs) k c)
      ∙ take_at (with_parity parity_of (take k xs)) (block_of parity_of (drop k xs) k c) (k + parity) (length-word xs (omega arith))
      ∙ ap (with_parity parity_of) (sym (part_first k xs))
  window xs (suc c) (suc j) h l =
      let n : ℕ = k + parity in
      let block = with_parity parity_of (take k xs) ++ block_of parity_of (drop k xs) k c in
      sym (part_next n j block)
      ∙ ap (λ (ys : List ℕ). part_of ys n j)
      (drop_at (with_parity parity_of (take k xs)) (block_of parity_of (drop k xs) k c) n (length-word xs (omega arith)))
      ∙ window (drop k xs) c j (omega (arith, length-drop k xs)) (le_of_suc-le-suc l)
      ∙ ap (with_parity parity_of) (part_next k j xs)

-- the packet again, off its zeros
pub unpadded : (packet : List ℕ) (z : ℕ) → take (length packet) (padded packet z) ≡ packet
unfolding padded
unpadded packet z = take-append_seam packet (replicate z 0)

-- a packet with z zeros behind it has z bytes more
pub length-padded : (packet : List ℕ) (z : ℕ) → length (padded packet z) ≡ length packet + z
unfolding padded
length-padded packet z = length-append packet (replicate z 0) ∙ ap (λ (x : ℕ). length packet + x) (length-replicate z 0)
