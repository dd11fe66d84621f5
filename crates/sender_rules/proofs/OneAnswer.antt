-- No second answer of a sender has the same number and values. Assumes nothing.
use mathlib.Core.Path.{◌≡◌, refl, sym, ap, ◌∙◌}
use mathlib.Core.List.{List, [], ◌∷◌}
use Prim.Native.Nat.{ℕ}
use lib.ListN.{get_or}
use Rattle.std.specs.Prelude.{Result}
use Rattle.base_rules.specs.declared.Refusal.{Refusal}
use Rattle.base_rules.proofs.Answers.{one_told}
use Rattle.sender_rules.specs.Calls.{sent_number, split_values, all_number}
use Rattle.sender_rules.specs.declared.Split.{Split}

-- no two answers about one fragment have the same number and values
pub sent_one : (a b : Result ℕ Refusal) → sent_number a ≡ sent_number b → a ≡ b
unfolding sent_number
sent_one a b e = one_told (λ n. n ∷ []) (λ (m n : ℕ) same. ap (λ (l : List ℕ). get_or l 0 0) same) a b e

-- the split is read back off the values
split_from : List ℕ → Split
split_from v = record { f = get_or v 0 0; h = get_or v 1 0; s = get_or v 2 0; last = get_or v 3 0 }

read_back : (p : Split) → split_from (split_values p) ≡ p
unfolding split_from split_values
read_back p = refl

-- no two answers about all fragments have the same number and values
pub all_one : (a b : Result Split Refusal) → all_number a ≡ all_number b → a ≡ b
unfolding all_number
all_one a b e = one_told split_values (λ (p q : Split) same. sym (read_back p) ∙ ap split_from same ∙ read_back q) a b e
