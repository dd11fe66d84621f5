-- The data bytes of chunks, laid one behind the other. Assumes nothing.
use mathlib.Core.Path.{◌≡◌, sym, ap, ap₂, ◌∙◌}
use mathlib.Core.List.{List, ◌++◌, append_assoc, append-nil}
use Prim.Native.Nat.{ℕ, zero, suc, ◌+◌, ◌-◌, ◌*◌, ◌≤◌, ◌<◌}
use native.Mathlib.Nat.{zero-mul, suc-mul, add_comm, add-sub_cancel_left, mul-le-mul_right}
use native.Mathlib.Numerals.{add-one}
use native.Mathlib.Omega.{arith}
use lib.ListN.{length, take, drop, length-drop}
use lib.Seq.{length-take-le, drop-drop}
use Rattle.base_rules.specs.Answer.{Answer, outcome}
use Rattle.base_rules.specs.Bounds.{parity}
use Rattle.base_rules.specs.Bytes.{splice}
use Rattle.base_rules.specs.Written.{put_of}
use Rattle.base_rules.proofs.Answers.{put_is}
use Rattle.base_rules.proofs.Splice.{splice_none, splice_next, splice-length}
use Rattle.form_rules.specs.inner.Proposals.{data_of}
use Rattle.form_rules.proofs.Chunks.{length_data}

-- the data of one chunk more have the k bytes behind them
data_more : (cells : List ℕ) (k c : ℕ) → data_of cells k c ++ take k (drop (c * (k + parity)) cells) ≡ data_of cells k (suc c)
unfolding data_of
data_more cells k zero = ap (λ (x : ℕ). take k (drop x cells)) (zero-mul (k + parity)) ∙ sym (append-nil (take k cells))
data_more cells k (suc c) =
    let n : ℕ = k + parity in
    append_assoc (take k cells) (data_of (drop n cells) k c) (take k (drop (suc c * n) cells))
    ∙ ap (λ (x : ℕ). take k cells ++ (data_of (drop n cells) k c ++ take k (drop x cells))) (suc-mul c n ∙ add_comm (c * n) n)
    ∙ ap (λ (l : List ℕ). take k cells ++ (data_of (drop n cells) k c ++ take k l)) (sym (drop-drop (c * n) n cells))
    ∙ ap (λ (l : List ℕ). take k cells ++ l) (data_more (drop n cells) k c)

-- ---- the loop that lays them down

-- before the first chunk the buffer is as it was
pub gathered_none : (cells buffer : List ℕ) (k : ℕ) → buffer ≡ splice buffer 0 (data_of cells k 0)
unfolding data_of
gathered_none cells buffer k = splice_none buffer 0

-- once as many chunks are gathered as there are, the buffer begins with the data bytes of all
pub gathered_all : (cells buffer x : List ℕ) (k i c : ℕ) → i ≤ c → c ≤ i → x ≡ splice buffer 0 (data_of cells k i)
    → x ≡ splice buffer 0 (data_of cells k c)
gathered_all cells buffer x k i c h g e = e ∙ ap (λ (n : ℕ). splice buffer 0 (data_of cells k n)) (omega arith)

module _ (cells buffer : List ℕ) (k c : ℕ) (chunks : c * (k + parity) ≤ length cells) (room : c * k ≤ length buffer) where
  -- the start of chunk i, and where its data go
  pub starts : (i : ℕ) → i < c → (i * (k + parity) + (k + parity) ≤ length cells) × (i * k + k ≤ length buffer)
  starts i h = (
    omega (arith, mul-le-mul_right (k + parity) h, suc-mul i (k + parity)),
    omega (arith, mul-le-mul_right k h, suc-mul i k),
  )

  -- what was gathered has the buffer's length
  pub gathered_length : (i : ℕ) (x : List ℕ) → i ≤ c → x ≡ splice buffer 0 (data_of cells k i) → length x ≡ length buffer
  gathered_length i x h e =
      let long : length (data_of cells k i) ≡ i * k = length_data cells k i (omega (arith, mul-le-mul_right (k + parity) h)) in
      ap length e ∙ splice-length buffer 0 (data_of cells k i) (omega (arith, long, mul-le-mul_right k h))

  -- one chunk more
  pub gathered_more : (i from at : ℕ) (x y : List ℕ) (a : Answer) → i < c → from ≡ i * (k + parity) → at ≡ i * k
      → x ≡ splice buffer 0 (data_of cells k i) → outcome a y ≡ put_of x at (take (from + k - from) (drop from cells))
      → y ≡ splice buffer 0 (data_of cells k (i + 1))
  gathered_more i from at x y a h is-from is_at e put =
      let n : ℕ = k + parity in
      let part : List ℕ = take (from + k - from) (drop from cells) in
      let is-part : part ≡ take k (drop (i * n) cells) =
      ap₂ (λ (u v : ℕ). take u (drop v cells)) (add-sub_cancel_left from k) is-from in
      let long : length part ≡ k = ap length is-part ∙ length-take-le k (drop (i * n) cells) (omega (arith, starts i h, length-drop (i * n) cells)) in
      let before : length (data_of cells k i) ≡ at = length_data cells k i (omega (arith, starts i h)) ∙ sym is_at in
      put_is x part y at a (omega (arith, long, is_at, starts i h, gathered_length i x (omega arith) e)) put
      ∙ ap₂ (λ (u v : List ℕ). splice u at v) e is-part
      ∙ splice_next buffer (data_of cells k i) (take k (drop (i * n) cells)) at before
      ∙ ap (splice buffer 0) (data_more cells k i ∙ ap (data_of cells k) (sym (add-one i)))
