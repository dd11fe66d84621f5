-- Every word of the shortened code is its data with their parity: with the 48 parity places missing, no other word has the data. Assumes nothing.
use mathlib.Core.Path.{◌≡◌, sym, ap, ap₂, ◌∙◌}
use mathlib.Core.Bool.{Bool, true, false}
use mathlib.Core.List.{List, ◌++◌}
use Prim.Native.Nat.{ℕ, ◌+◌, ◌≤◌}
use native.Mathlib.Omega.{arith}
use lib.ListN.{length, take, drop, replicate, length-append, length-replicate, length-drop, take-append-drop}
use lib.Seq.{length-take-le}
use Rattle.base_rules.specs.Bounds.{most_k, parity}
use Rattle.base_rules.proofs.ByteLaws.{bytes_take}
use Rattle.codeword.specs.Code.{Coded, parity_of, encode}
use Rattle.codeword.specs.Erasure.{erase, count}
use Rattle.codeword.proofs.Encoder.{encode_codeword, length-encode, length-parity, bytes-encode}
use Rattle.codeword.proofs.Chunk.{erase-append, erase_none, erase-all, count-append, count_none, count-all, one_chunk}

-- the mask of a word whose parity is missing
no_parity : ℕ → List Bool
no_parity k = replicate k false ++ replicate parity true

length_no_parity : (k : ℕ) → length (no_parity k) ≡ k + parity
unfolding no_parity
length_no_parity k = length-append (replicate k false) (replicate parity true) ∙ ap₂ ◌+◌ (length-replicate k false) (length-replicate parity true)

few-missing : (k : ℕ) → count (no_parity k) ≤ parity
unfolding no_parity
few-missing k = omega (arith, count-append (replicate k false) (replicate parity true), count_none k, count-all parity)

-- the data, and zeros for the parity
data_left : (k : ℕ) (d p : List ℕ) → length d ≡ k → length p ≡ parity → erase (no_parity k) (d ++ p) ≡ d ++ replicate parity 0
unfolding no_parity
data_left k d p e q =
    erase-append (replicate k false) (replicate parity true) d p (length-replicate k false ∙ sym e)
    ∙ ap₂ ◌++◌ (erase_none k d) (erase-all parity p q)

-- a word of the code, of k data bytes, is these and the parity that the encoder gives them
pub is_encoded : (k : ℕ) (w : List ℕ) → k ≤ most_k → Coded k w → w ≡ encode (take k w)
unfolding encode
is_encoded k w h c =
    one_chunk k (no_parity k) w (encode d) h c.size (length-encode d ∙ ap (λ n. n + parity) size) (length_no_parity k) (few-missing k)
    c.bytes (bytes-encode d (bytes_take k w c.bytes)) c.word (encode_codeword d k size)
    (ap (erase (no_parity k)) (sym (take-append-drop k w)) ∙ data_left k d (drop k w) size rest
    ∙ sym (data_left k d (parity_of d) size (length-parity d)))
  where
    d : List ℕ
    d = take k w

    size : length d ≡ k
    size = length-take-le k w (omega (arith, c.size))

    rest : length (drop k w) ≡ parity
    rest = omega (arith, length-drop k w, c.size)
