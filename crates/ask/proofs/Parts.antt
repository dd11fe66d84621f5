-- Laws on the first bytes of a list, which the collecting of a line and the newline behind an answer ask for. Assumes nothing.
use Rattle.std.proofs.Common.{ℕ, ◌+◌, ◌≤◌, ◌<◌, ◌≡◌, sym, arith, List, ◌++◌, length, take, drop, slice_set, length-set, length-append, length-drop, length-take-le}
use Rattle.text_rules.specs.Wrote.{Wrote}

-- the first n bytes are n
pub front : (n : ℕ) (l : List ℕ) → n ≤ length l → n ≡ length (take n l)
front n l h = sym (length-take-le n l h)

-- a byte stored within the list ends within it
pub stored : (l : List ℕ) (n b : ℕ) → n < length l → n + 1 ≤ length (slice_set l n b)
stored l n b h = omega (arith, length-set l n b)

-- a newline fits behind an answer, where only the first m bytes of a longer buffer were lent for it
pub closed : {l : List ℕ} {n : ℕ} (m b : ℕ) (room : List ℕ) → m < length room → Wrote (take m room) 0 n l
    → (n < m + 1) × (n + 1 ≤ length (slice_set (l ++ drop m room) n b))
closed {l} {n} m b room more w =
    let lent = length-take-le m room (omega (arith, more)) in
    let as_before = w.same in
    let within = w.within in (
      omega (arith, lent, within),
      stored (l ++ drop m room) n b (omega (arith, length-append l (drop m room), length-drop m room, as_before, within, lent, more)),
    )
