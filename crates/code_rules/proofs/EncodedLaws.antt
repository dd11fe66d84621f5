-- The chunks of a packet, made one by one. Assumes nothing.
use mathlib.Core.Path.{◌≡◌, sym, ap, ◌∙◌, subst}
use mathlib.Core.List.{List}
use Prim.Native.Nat.{ℕ, ◌+◌, ◌-◌, ◌*◌, ◌<◌}
use native.Mathlib.Nat.{not-suc-le-zero}
use native.Mathlib.Decide.{ℕ_discrete}
use native.Mathlib.Omega.{arith}
use borrow.Rule.Slice.PartMut.{put_mid}
use lib.ListN.{length, take, drop}
use Rattle.base_rules.specs.Bytes.{part_of}
use Rattle.base_rules.proofs.Parts.{length_part, length_put_mid, part_same, part_other, mid_part}
use Rattle.codeword.specs.Code.{encode}
use Rattle.codeword.proofs.Encoder.{length-encode}
use Rattle.code_rules.specs.inner.Block.{Encoded, EncSized, OneEncoded}

-- the chunk j made in its place
pub one_encoded : (k c j : ℕ) (src out new : List ℕ) → EncSized k c src out → j < c
    → new ≡ encode (take (j * k + k - j * k) (drop (j * k) src))
    → OneEncoded k c j src out (put_mid (j * (k + 48)) (j * (k + 48) + (k + 48) - j * (k + 48)) out new)
one_encoded k c j src out new z h e =
    record {
      size = length_put_mid (k + 48) c j out new z.chunks h ln;
      made = part_same (k + 48) c j out new z.chunks h ln ∙ en;
      others = λ i b d. part_other (k + 48) c j out new z.chunks h ln i b d;
    }
  where
    en : new ≡ encode (part_of src k j)
    en = e ∙ ap encode (mid_part k j src)

    ln : length new ≡ k + 48
    ln = ap length en ∙ length-encode (part_of src k j) ∙ ap (λ n. n + 48) (length_part k c j src (omega (arith, z.datas)) h)

-- one chunk more is made
pub encoded_more : (k c j : ℕ) (src out out' : List ℕ) → j < c → Encoded k j src out → OneEncoded k c j src out out' → Encoded k (j + 1) src out'
encoded_more k c j src out out' h p o = record { each = λ i b. go i b (ℕ_discrete i j) }
  where
    go : (i : ℕ) → i < j + 1 → Dec (i ≡ j) → part_of out' (k + 48) i ≡ encode (part_of src k i)
    go i b (yes w) = subst (λ i. part_of out' (k + 48) i ≡ encode (part_of src k i)) (sym w) o.made
    go i b (no w) = o.others i (omega arith) w ∙ p.each i (omega arith)

-- none is made at the start
pub encoded_start : (k : ℕ) (src out : List ℕ) → Encoded k 0 src out
encoded_start k src out = record { each = λ i b. absurd (not-suc-le-zero b) }
