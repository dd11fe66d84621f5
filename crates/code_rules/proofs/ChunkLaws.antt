-- A chunk tried with the tables that its class shares: what the kernels compute by them is the guess of the missing bytes, and its test.
-- Assumes nothing.
use mathlib.Core.Path.{◌≡◌, ◌∙◌}
use mathlib.Core.Bool.{Bool}
use mathlib.Core.List.{List}
use Prim.Native.Nat.{ℕ, ◌+◌}
use lib.ListN.{length, take}
use Rattle.base_rules.specs.Bytes.{Bytes}
use Rattle.codeword.specs.Erasure.{marks, fill}
use Rattle.code_rules.specs.inner.Register.{remainder_by}
use Rattle.code_rules.specs.inner.Sharing.{Shared, Left, ZeroTest}
use Rattle.code_rules.specs.inner.Solving.{syndromes_by, solved_by}
use Rattle.code_rules.specs.inner.Block.{ChunkTried}
use Rattle.code_rules.proofs.TableLaws.{remainder_by_lem}
use Rattle.code_rules.proofs.SolvingLaws.{syndromes_by_lem, solved_by_lem}
use Rattle.code_rules.proofs.FillLaws.{guessed, tried}

-- what the register leaves of a chunk by the made table
left_by : {t rk q sc mask : List ℕ} {e k : ℕ} (c r : List ℕ) → Shared t rk q sc mask e k → length c ≡ k + 48 → Bytes c
    → r ≡ remainder_by t k c → Left k c r
left_by {t} {k = k} c r S size bytes is = record { rest = is ∙ remainder_by_lem t S.table k c S.short size bytes; bytes = bytes }

-- the missing bytes put in by the shared tables, and the test whether the chunk is then one of the code
pub tried_with : {t rk q sc mask : List ℕ} {e k : ℕ} (c r s y after rest : List ℕ) (b : Bool) → Shared t rk q sc mask e k → length c ≡ k + 48
    → Bytes c → Bytes after → length after ≡ length c
    → r ≡ remainder_by t k c → s ≡ syndromes_by rk r → y ≡ solved_by q sc e s → after ≡ fill (marks mask) c (take e y)
    → rest ≡ remainder_by t k after → ZeroTest rest b → ChunkTried k mask c after b
tried_with {rk = rk} {q = q} {sc = sc} {e = e} c r s y after rest b S size bytes bytes' size' is-r is_s is_y is-after is-rest z =
    let solved = is_y ∙ solved_by_lem q sc s e S.few S.found.twos S.found.bytes in
    let G = guessed s y after S (left_by c r S size bytes is-r) (is_s ∙ syndromes_by_lem rk r S.roots) solved is-after in
    tried b S.short size G (left_by after rest S (size' ∙ size) bytes' is-rest) z
