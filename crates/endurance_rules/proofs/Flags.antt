-- The set of the first v fragments as flags: read one by one, and set one after another. Assumes nothing.
use mathlib.Core.Path.{◌≡◌, refl, sym, ap, ◌∙◌}
use mathlib.Core.Bool.{Bool, true, false}
use mathlib.Core.List.{List, ◌++◌, append_assoc}
use Prim.Native.Nat.{ℕ, zero, suc, ◌+◌, ◌-◌, ◌*◌, ◌%◌, ◌≤◌, ◌<◌}
use native.Mathlib.Omega.{arith}
use borrow.Author.Tests.{ltb-true, ltb-false}
use lib.Dec.{ltb}
use lib.ListN.{length, get_or, set, replicate, length-append, length-replicate, get_or-replicate, replicate-append-replicate, get_or-append}
use lib.Seq.{get_or-append-add, set_at}
use Rattle.base_rules.specs.Bounds.{most_f}
use Rattle.base_rules.proofs.Logic.{either}
use Rattle.cut_rules.specs.Missing.{losses, gone, missing, firsts}
use Rattle.cut_rules.proofs.LossCounts.{count_same}
use Rattle.endurance_rules.specs.Endure.{flagged}

-- of flags that are all false none is set, nor is one past their end
none_set : (n i : ℕ) → get_or (replicate n false) i false ≡ false
none_set zero i = refl
none_set (suc n) zero = refl
none_set (suc n) (suc i) = none_set n i

-- flag i is set where i is one of the first v
pub flag_at : (v i : ℕ) → get_or (flagged v) i false ≡ firsts v i
unfolding flagged
flag_at v i =
    let set-flags : List Bool = replicate v true in
    let rest : List Bool = replicate (most_f - v) false in
    let long : length set-flags ≡ v = length-replicate v true in
    either (ltb i v)
    (λ e.
    let less = ltb-true i v e in
    get_or-append set-flags rest false i (omega (arith, long)) ∙ get_or-replicate v i true false less ∙ sym e)
    (λ e.
    let past = ltb-false i v e in
    let at : length set-flags + (i - v) ≡ i = omega (arith, long) in
    sym (ap (λ (x : ℕ). get_or (set-flags ++ rest) x false) at) ∙ get_or-append-add set-flags rest (i - v) false ∙ none_set (most_f - v) (i - v) ∙ sym e)

-- so as many fragments are lost by the flags as by the set,
pub flags-lost : (v f : ℕ) → losses (λ i. get_or (flagged v) i false) f ≡ losses (firsts v) f
unfolding losses
flags-lost v f = count_same (λ i. get_or (flagged v) i false) (firsts v) 0 f (λ i h. flag_at v (0 + i))

-- and as many bytes of a chunk
pub flags-missing : (v f n j : ℕ) → missing (λ i. get_or (flagged v) i false) f n j ≡ missing (firsts v) f n j
unfolding missing
flags-missing v f n j =
    count_same (gone (λ i. get_or (flagged v) i false) f) (gone (firsts v) f) (j * n) n (λ i h. flag_at v ((j * n + i) % f))

-- ---- the flags as they are set

-- there are 256,
pub length-flagged : (v : ℕ) → v ≤ most_f → length (flagged v) ≡ most_f
unfolding flagged
length-flagged v room =
    omega (arith, length-append (replicate v true) (replicate (most_f - v) false), length-replicate v true, length-replicate (most_f - v) false)

-- of which none is set at first
pub none_flagged : replicate most_f false ≡ flagged 0
unfolding flagged
none_flagged = refl

-- with flag v set behind the first v, one more is
pub one_flagged : (v : ℕ) → v < most_f → set (flagged v) v true ≡ flagged (v + 1)
unfolding flagged
one_flagged v room =
    let on : List Bool = replicate v true in
    let off : List Bool = replicate (most_f - (v + 1)) false in
    let next : most_f - v ≡ suc (most_f - (v + 1)) = omega arith in
    ap (λ (x : ℕ). set (on ++ replicate x false) v true) next
    ∙ set_at on false off true v (length-replicate v true)
    ∙ sym (append_assoc on (replicate 1 true) off)
    ∙ ap (λ (xs : List Bool). xs ++ off) (replicate-append-replicate v 1 true)
