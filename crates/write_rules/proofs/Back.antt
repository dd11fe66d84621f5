-- A written item, read back. Assumes nothing.
use mathlib.Core.Path.{◌≡◌, sym, ap, ◌∙◌}
use mathlib.Core.List.{List, [], ◌∷◌, ◌++◌, append_assoc}
use Prim.Native.Nat.{ℕ, ◌+◌, ◌^◌, ◌<◌}
use native.Mathlib.Omega.{arith}
use lib.ListN.{length, take, drop, length-append}
use lib.Seq.{take_at, drop_at, drop-append_seam}
use Rattle.base_rules.specs.Bytes.{bytes_of, number_at}
use Rattle.base_rules.proofs.Numbers.{length-bytes, number_back, number_drop}
use Rattle.item_rules.specs.Item.{head, bytes_for, unused_of, item_at, values_of}
use Rattle.item_rules.proofs.Steps.{stands_item}
use Rattle.write_rules.specs.Write.{trimmed, item_bytes}
use Rattle.write_rules.specs.Claims.{written_values, ReadsBack}
use Rattle.write_rules.proofs.Trimming.{length-trimmed}

-- an item has 8 bytes of head and ceil(bits / 8) bytes of value
pub length-item : (name bits : ℕ) (v : List ℕ) → length v ≡ bytes_for bits → length (item_bytes name bits v) ≡ head + bytes_for bits
unfolding item_bytes
length-item name bits v e =
    simp (length-append, length-bytes, length-trimmed) (omega (arith, e))

-- a number that was written behind `pre`
number_behind : (pre rest : List ℕ) (x : ℕ) → x < 2 ^ 32 → number_at 4 (pre ++ (bytes_of 4 x ++ rest)) (length pre) ≡ x
number_behind pre rest x h =
    sym (number_drop 4 (pre ++ (bytes_of 4 x ++ rest)) (length pre))
    ∙ ap (λ (l : List ℕ). number_at 4 l 0) (drop-append_seam pre (bytes_of 4 x ++ rest))
    ∙ number_back 4 x rest h

-- what an item tells, by its name and its bits
tells_by : (s : List ℕ) (at name bits : ℕ) → number_at 4 s at ≡ name → number_at 4 s (at + 4) ≡ bits → values_of (item_at s at) ≡ written_values at name bits
unfolding item_at written_values
tells_by s at name bits n b =
    ap (λ (x : ℕ). x ∷ number_at 4 s (at + 4) ∷ (at + head) ∷ bytes_for (number_at 4 s (at + 4)) ∷ at ∷ unused_of (number_at 4 s (at + 4)) ∷ []) n
    ∙ ap (λ (x : ℕ). name ∷ x ∷ (at + head) ∷ bytes_for x ∷ at ∷ unused_of x ∷ []) b

-- an item written anywhere is read back: its name, its bits, and its value with zeros in the unused bits
pub reads_back : ReadsBack
unfolding item_bytes
reads_back pre rest end name bits v hn hb whole fits =
    let s : List ℕ = pre ++ (item_bytes name bits v ++ rest) in
    let value : List ℕ = trimmed bits v ++ rest in
    let named : List ℕ = pre ++ bytes_of 4 name in
    let headed : List ℕ = named ++ bytes_of 4 bits in
    let by_name : s ≡ pre ++ (bytes_of 4 name ++ (bytes_of 4 bits ++ value)) = simp append_assoc in
    let by_bits : s ≡ named ++ (bytes_of 4 bits ++ value) = simp append_assoc in
    let by_value : s ≡ headed ++ value = simp append_assoc in
    let at_bits : length named ≡ length pre + 4 = length-append pre (bytes_of 4 name) ∙ ap (λ (k : ℕ). length pre + k) (length-bytes 4 name) in
    let at_value : length headed ≡ length pre + head = length-append named (bytes_of 4 bits) ∙ omega (arith, at_bits, length-bytes 4 bits) in
    let is_name : number_at 4 s (length pre) ≡ name = ap (λ (l : List ℕ). number_at 4 l (length pre)) by_name
    ∙ number_behind pre (bytes_of 4 bits ++ value) name hn in
    let is-bits : number_at 4 s (length pre + 4) ≡ bits =
    ap (λ (k : ℕ). number_at 4 s k) (sym at_bits) ∙ ap (λ (l : List ℕ). number_at 4 l (length named)) by_bits ∙ number_behind named value bits hb in
    record {
      item = stands_item s (length pre) end (omega arith) (omega (arith, ap bytes_for is-bits));
      tells = tells_by s (length pre) name bits is_name is-bits;
      bytes =
          ap (λ (l : List ℕ). take (bytes_for bits) (drop (length pre + head) l)) by_value
          ∙ ap (take (bytes_for bits)) (drop_at headed value (length pre + head) at_value)
          ∙ take_at (trimmed bits v) rest (bytes_for bits) (length-trimmed bits v ∙ whole);
    }
