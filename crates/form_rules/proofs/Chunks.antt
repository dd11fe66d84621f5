-- The data of chunks one behind the other. Assumes nothing.
use mathlib.Core.Path.{◌≡◌, sym, ap, ap₂, ◌∙◌, subst}
use mathlib.Core.List.{List, ◌++◌}
use Prim.Native.Nat.{ℕ, zero, suc, ◌+◌, ◌*◌, ◌≤◌, ◌<◌}
use native.Mathlib.Nat.{zero-mul, suc-mul, add_comm, not-suc-le-zero, le_of_suc-le-suc}
use native.Mathlib.Omega.{arith}
use lib.ListN.{length, take, drop, length-append, length-drop}
use lib.Seq.{take-add, take_at, drop_at, take-take, length-take-le}
use Rattle.base_rules.specs.Bounds.{most_k, parity}
use Rattle.base_rules.specs.Bytes.{Bytes, part_of}
use Rattle.base_rules.proofs.ByteLaws.{bytes-append, bytes_take}
use Rattle.base_rules.proofs.Parts.{part_first, part_next}
use Rattle.cut_rules.specs.Block.{with_parity, block_of}
use Rattle.codeword.specs.Code.{Coded, parity_of, encode}
use Rattle.codeword.proofs.Proved.{systematic}
use Rattle.form_rules.specs.inner.Proposals.{data_of}

-- the data of c chunks without their parity are c k bytes
pub length_data : (l : List ℕ) (k c : ℕ) → c * (k + parity) ≤ length l → length (data_of l k c) ≡ c * k
unfolding data_of
length_data l k zero h = sym (zero-mul k)
length_data l k (suc c) h =
    length-append (take k l) (data_of (drop (k + parity) l) k c)
    ∙ omega (arith, length-take-le k l (omega arith), length_data (drop (k + parity) l) k c (omega (arith, length-drop (k + parity) l)))

module _ (k : ℕ) where
  -- chunk j of the data is the data of chunk j
  pub chunk_data : (l : List ℕ) (c j : ℕ) → c * (k + parity) ≤ length l → j < c → part_of (data_of l k c) k j ≡ take k (part_of l (k + parity) j)
  unfolding data_of
  chunk_data l zero j h b = absurd (not-suc-le-zero b)
  chunk_data l (suc c) zero h b =
      part_first k (take k l ++ data_of (drop (k + parity) l) k c)
      ∙ take_at (take k l) (data_of (drop (k + parity) l) k c) k (length-take-le k l (omega arith))
      ∙ sym (ap (take k) (part_first (k + parity) l) ∙ take-take k (k + parity) l (omega arith))
  chunk_data l (suc c) (suc j) h b =
      sym (part_next k j (take k l ++ data_of (drop (k + parity) l) k c))
      ∙ ap (λ (d : List ℕ). part_of d k j) (drop_at (take k l) (data_of (drop (k + parity) l) k c) k (length-take-le k l (omega arith)))
      ∙ chunk_data (drop (k + parity) l) c j (omega (arith, length-drop (k + parity) l)) (le_of_suc-le-suc b)
      ∙ ap (take k) (part_next (k + parity) j l)

  -- where each chunk is one of the code, the data are bytes,
  pub bytes_data : (l : List ℕ) (c : ℕ) → ((j : ℕ) → j < c → Coded k (part_of l (k + parity) j)) → Bytes (data_of l k c)
  unfolding data_of
  bytes_data l zero each = tt
  bytes_data l (suc c) each =
      bytes-append (take k l) (data_of (drop (k + parity) l) k c)
      (subst Bytes (take-take k (k + parity) l (omega arith))
      (bytes_take k (take (k + parity) l) (subst Bytes (part_first (k + parity) l) (each 0 (omega arith)).bytes)))
      (bytes_data (drop (k + parity) l) c (λ j (b : j < c). subst (Coded k) (sym (part_next (k + parity) j l)) (each (suc j) (omega arith))))

  -- and their block is the chunks again
  pub block_data : (l : List ℕ) (c : ℕ) → k ≤ most_k → c * (k + parity) ≤ length l → ((j : ℕ) → j < c → Coded k (part_of l (k + parity) j))
      → block_of parity_of (data_of l k c) k c ≡ take (c * (k + parity)) l
  unfolding data_of block_of with_parity encode
  block_data l zero short h each = sym (ap (λ (x : ℕ). take x l) (zero-mul (k + parity)))
  block_data l (suc c) short h each =
      let n : ℕ = k + parity in
      let rest : List ℕ = data_of (drop n l) k c in
      let size : length (take k l) ≡ k = length-take-le k l (omega arith) in
      let first : Coded k (take n l) = subst (Coded k) (part_first n l) (each 0 (omega arith)) in
      let word : encode (take k l) ≡ take n l = ap encode (sym (take-take k n l (omega arith))) ∙ sym (systematic k (take n l) short first) in
      let behind : block_of parity_of rest k c ≡ take (c * n) (drop n l) =
      block_data (drop n l) c short (omega (arith, length-drop n l))
      (λ j (b : j < c). subst (Coded k) (sym (part_next n j l)) (each (suc j) (omega arith))) in
      ap₂ (λ (a b : List ℕ). encode a ++ block_of parity_of b k c) (take_at (take k l) rest k size) (drop_at (take k l) rest k size)
      ∙ ap₂ (λ (a b : List ℕ). a ++ b) word behind
      ∙ sym (take-add n (c * n) l)
      ∙ ap (λ (x : ℕ). take x l) (add_comm n (c * n) ∙ sym (suc-mul c n))
