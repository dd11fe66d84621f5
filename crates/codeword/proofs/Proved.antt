-- The claims of specs/Claims.antt, each by citation. Assumes nothing.
use mathlib.Core.Path.{refl, sym, ap, ◌∙◌}
use Prim.Native.Nat.{◌+◌}
use native.Mathlib.Nat.{zero-add}
use lib.ListN.{length}
use Rattle.base_rules.specs.Bounds.{parity}
use Rattle.field_rules.specs.Field.{◌⊕◌}
use Rattle.codeword.specs.Claims.{Evaluated, Places, Roots, R1, R2, R3, Systematic}
use Rattle.codeword.specs.Code.{value}
use Rattle.codeword.specs.Erasure.{mask_of}
use Rattle.codeword.proofs.Chunk.{length-full, one_chunk}
use Rattle.codeword.proofs.Encoder.{product_root, encode_codeword, length-encode, length-parity, bytes-encode, bytes-parity}
use Rattle.codeword.proofs.Places.{full_data, full_gap, full-parity}
use Rattle.codeword.proofs.Poly.{value-nil, value-cons, raise_pow}
use Rattle.codeword.proofs.Positions.{length-mask_of, erase_same}
use Rattle.codeword.proofs.Systematic.{is_encoded}
use Rattle.codeword.proofs.Vandermonde.{vanish}

-- the value of a word is the sum of its bytes, each times a power of x
pub evaluated : Evaluated
evaluated =
    record {
      none = value-nil;
      first = λ x c w h. value-cons x c w ∙ ap (λ y. y ⊕ value x w) (raise_pow x (length w) c h);
    }

pub places : Places
places k w short size =
    record {
      places = length-full 0 k w short size;
      data_at = full_data k w short size;
      zero_at = full_gap k w short size;
      parity_at = full-parity k w short size;
    }

pub roots : Roots
roots j h = product_root parity j h

-- R1: data with its parity is a word of the code, and the parity is 48 bytes
pub r1 : R1
r1 =
    record {
      coded = λ d short bytes. record { size = length-encode d; bytes = bytes-encode d bytes; word = encode_codeword d _ refl };
      size = length-parity;
      bytes = bytes-parity;
    }

pub r2 : R2
r2 = vanish

-- R3: where at most 48 bytes are missing, at most one word of the code has the others
pub r3 : R3
r3 =
    record {
      masked = λ k mask v w short size few cv cw same.
          one_chunk k mask v w short cv.size cw.size size few cv.bytes cw.bytes cv.word cw.word same;
      placed = λ k there v w short few cv cw same.
          one_chunk k (mask_of there 0 (k + parity)) v w short cv.size cw.size (length-mask_of there 0 (k + parity)) few cv.bytes
          cw.bytes cv.word cw.word
          (erase_same there 0 (k + parity) v w cv.size cw.size (λ i h t. same i h (ap there (sym (zero-add i)) ∙ t)));
    }

-- every word of the code is its data followed by their parity
pub systematic : Systematic
systematic = is_encoded
