-- The code polynomial's coefficients, from x^47 down to x^0: 1,128 products that antt computes. The list was computed by another program from
-- the roots α^1 to α^48 alone, so that it holds the definitions to the standard's roots. Assumes nothing.
use mathlib.Core.Path.{◌≡◌, refl}
use mathlib.Core.List.{List, [], ◌∷◌}
use Prim.Native.Nat.{ℕ}
use Rattle.field_rules.specs.Field.{◌⊕◌, times2, mul_bits, ◌⊗◌, alpha}
use Rattle.codeword.specs.Code.{plus, times_root, product, generator}

-- 48 of them, without the leading 1
abbrev pub coefficients : List ℕ
coefficients =
    122 ∷ 12 ∷ 14 ∷ 218 ∷ 195 ∷ 73 ∷ 194 ∷ 157 ∷ 32 ∷ 17 ∷ 5 ∷ 62 ∷ 71 ∷ 15 ∷ 25 ∷ 240 ∷ 161 ∷ 21 ∷ 218 ∷ 148 ∷ 176 ∷ 109 ∷ 183 ∷ 149 ∷ 166
    ∷ 245 ∷ 218 ∷ 251 ∷ 151 ∷ 150 ∷ 170 ∷ 195 ∷ 151 ∷ 160 ∷ 12 ∷ 130 ∷ 219 ∷ 117 ∷ 244 ∷ 10 ∷ 169 ∷ 19 ∷ 204 ∷ 113 ∷ 81 ∷ 214 ∷ 231 ∷ 228 ∷ []

-- the product of x - α^1 to x - α^48 has these coefficients behind its leading 1
pub generator_is : generator ≡ coefficients
unfolding generator product times_root plus alpha ◌⊗◌ mul_bits times2 ◌⊕◌
generator_is = refl
