-- How long the fragments of a packet are, one by one and all together. Assumes nothing.
use mathlib.Core.Path.{◌≡◌, refl, sym, ap, ap₂, ◌∙◌}
use mathlib.Core.Bool.{true, false}
use mathlib.Core.List.{List, [], ◌++◌, append_assoc, append-nil}
use Prim.Native.Nat.{ℕ, zero, suc, ◌+◌, ◌-◌, ◌*◌, ◌≤◌, ◌<◌, min}
use native.Mathlib.Nat.{add-zero, zero-add, suc-add, le-mul_of_pos_right, mul-le-mul_right}
use native.Mathlib.Omega.{arith}
use lib.ListN.{length, length-append}
use Rattle.base_rules.specs.Bounds.{place}
use Rattle.base_rules.specs.Bytes.{part_of}
use Rattle.base_rules.proofs.Logic.{either}
use Rattle.base_rules.proofs.Parts.{length_left}
use Rattle.cut_rules.specs.Cells.{fragment_of}
use Rattle.cut_rules.specs.Claims.{Sized}
use Rattle.cut_rules.specs.Sizes.{h, L, f, s}
use Rattle.cut_rules.specs.declared.Settings.{Settings}
use Rattle.cut_rules.proofs.Bearing as bearing
use Rattle.cut_rules.proofs.Interleaving.{length-fragment}
use Rattle.cut_rules.proofs.PlanCases.{L-plain}
use Rattle.header_rules.specs.Header.{header_bytes}
use Rattle.header_rules.proofs.Proved.{header_lengths}
use Rattle.sender_rules.specs.Calls.{packet_fault}
use Rattle.sender_rules.specs.Fragments.{block_for, payload_for, header_for, fragment_for, fragments_from, fragments_for}
use Rattle.sender_rules.proofs.Checks.{in_bounds}

module _ (g : Settings) (packet : List ℕ) where
  -- ---- one fragment

  -- the header of each fragment has h bytes
  pub header_size : (number i : ℕ) → length (header_bytes (header_for g number packet i)) ≡ h g
  unfolding header_for h
  header_size number i = header_lengths (header_for g number packet i)

  -- a fragment has h bytes and those of its payload
  pub fragment-size : (number i : ℕ) → length (fragment_for g number packet i) ≡ h g + length (payload_for g packet i)
  unfolding fragment_for
  fragment-size number i =
      length-append (header_bytes (header_for g number packet i)) (payload_for g packet i)
      ∙ ap (λ (x : ℕ). x + length (payload_for g packet i)) (header_size number i)

  -- with FEC the payload of fragment i is its share of the block
  pub payload_fec : g.fec ≡ true → (i : ℕ) → payload_for g packet i ≡ fragment_of (block_for packet) (f g (length packet)) (s g (length packet)) i
  unfolding payload_for
  payload_fec e i = rw e

  -- without FEC the payload of fragment i is its part of the packet
  pub payload_plain : g.fec ≡ false → (i : ℕ) → payload_for g packet i ≡ part_of packet (s g (length packet)) i
  unfolding payload_for
  payload_plain e i = rw e

  -- with FEC each payload has s bytes
  pub size-fec : g.fec ≡ true → (i : ℕ) → length (payload_for g packet i) ≡ s g (length packet)
  size-fec e i = ap length (payload_fec e i) ∙ length-fragment (block_for packet) (f g (length packet)) (s g (length packet)) i

  -- without FEC a payload has s bytes, or what is left of the packet where that is less
  pub size-plain : g.fec ≡ false → (i : ℕ) → length (payload_for g packet i) ≡ min (s g (length packet)) (length packet - i * s g (length packet))
  size-plain e i = ap length (payload_plain e i) ∙ length_left packet (s g (length packet)) i

  -- ---- one behind the other

  -- a run of no fragments is empty
  pub from_none : (number : ℕ) → fragments_from g number packet 0 0 ≡ []
  unfolding fragments_from
  from_none number = refl

  pub from_add : (number i t u : ℕ)
      → fragments_from g number packet i (t + u) ≡ fragments_from g number packet i t ++ fragments_from g number packet (i + t) u
  unfolding fragments_from
  from_add number i zero u = ap₂ (λ (x y : ℕ). fragments_from g number packet x y) (sym (add-zero i)) (zero-add u)
  from_add number i (suc t) u =
      ap (fragments_from g number packet i) (suc-add t u)
      ∙ ap (λ (l : List ℕ). fragment_for g number packet i ++ l)
      (from_add number (suc i) t u ∙ ap (λ (x : ℕ). fragments_from g number packet (suc i) t ++ fragments_from g number packet x u) (omega arith))
      ∙ sym (append_assoc (fragment_for g number packet i) (fragments_from g number packet (suc i) t) (fragments_from g number packet (i + suc t) u))

  from_one : (number i : ℕ) → fragments_from g number packet i 1 ≡ fragment_for g number packet i
  unfolding fragments_from
  from_one number i = append-nil (fragment_for g number packet i)

  -- one more behind those from the start
  pub from_more : (number t : ℕ) → fragments_from g number packet 0 (t + 1) ≡ fragments_from g number packet 0 t ++ fragment_for g number packet t
  from_more number t =
      from_add number 0 t 1
      ∙ ap (λ (l : List ℕ). fragments_from g number packet 0 t ++ l) (from_one number (0 + t) ∙ ap (fragment_for g number packet) (zero-add t))

  -- all of them are those up to fragment i, and those behind it
  pub whole_split : (number i : ℕ) → i < f g (length packet)
      → fragments_for g number packet
      ≡ fragments_from g number packet 0 (i + 1) ++ fragments_from g number packet (0 + (i + 1)) (f g (length packet) - (i + 1))
  unfolding fragments_for
  whole_split number i less =
      let e : f g (length packet) ≡ i + 1 + (f g (length packet) - (i + 1)) = omega arith in
      ap (fragments_from g number packet 0) e ∙ from_add number 0 (i + 1) (f g (length packet) - (i + 1))

  -- ---- of a packet that is not refused

  module _ (passed : packet_fault g packet ≡ 0) where
    -- the figures of a packet that is not refused fit: f s bytes hold all that is cut, within a place
    pub sure : Sized g (length packet)
    sure = bearing.sized g (length packet) (in_bounds g packet passed)

    -- a packet that is not refused has at least one fragment
    pub f_some : 0 < f g (length packet)
    f_some = bearing.f_some g (length packet) (in_bounds g packet passed)

    pub s_some : 0 < s g (length packet)
    s_some = bearing.s_some g (length packet) (in_bounds g packet passed)

    -- the s bytes of a fragment fit a place
    pub s_placed : s g (length packet) ≤ place
    s_placed = omega (arith, le-mul_of_pos_right (s g (length packet)) f_some, sure.placed)

    -- a fragment that is asked for starts within what is cut
    pub starts : (i : ℕ) → i < f g (length packet) → i * s g (length packet) < L g (length packet)
    starts i less =
        let far : i * s g (length packet) ≤ (f g (length packet) - 1) * s g (length packet) = mul-le-mul_right (s g (length packet)) (omega arith) in
        omega (arith, far, sure.last_held)

    -- without FEC each payload before the last has s bytes
    pub full-plain : g.fec ≡ false → (i : ℕ) → suc i < f g (length packet) → length (payload_for g packet i) ≡ s g (length packet)
    full-plain plain i less =
        let next : suc i * s g (length packet) < L g (length packet) = starts (suc i) less in
        omega (arith, next, size-plain plain i, L-plain g (length packet) plain)

    pub full : (i : ℕ) → suc i < f g (length packet) → length (payload_for g packet i) ≡ s g (length packet)
    full i less = either g.fec (λ e. size-fec e i) (λ e. full-plain e i less)

    -- no payload has more than s bytes
    pub size_most : (i : ℕ) → length (payload_for g packet i) ≤ s g (length packet)
    size_most i = either g.fec (λ e. omega (arith, size-fec e i)) (λ e. omega (arith, size-plain e i))

    -- the payload of a fragment below f is not empty
    pub size_some : (i : ℕ) → i < f g (length packet) → 0 < length (payload_for g packet i)
    size_some i less =
        either g.fec (λ e. omega (arith, size-fec e i, s_some))
        (λ e. omega (arith, size-plain e i, s_some, starts i less, L-plain g (length packet) e))

    -- those before the last are alike
    pub from_size : (number i t : ℕ) → i + t < f g (length packet) → length (fragments_from g number packet i t) ≡ t * (h g + s g (length packet))
    unfolding fragments_from
    from_size number i zero less = omega arith
    from_size number i (suc t) less =
        length-append (fragment_for g number packet i) (fragments_from g number packet (suc i) t)
        ∙ omega (arith, fragment-size number i, full i (omega arith), from_size number (suc i) t (omega arith))

    -- with one more behind them
    pub more_size : (number i : ℕ) → i < f g (length packet)
        → length (fragments_from g number packet 0 (i + 1)) ≡ i * (h g + s g (length packet)) + length (fragment_for g number packet i)
    more_size number i less =
        ap length (from_more number i)
        ∙ length-append (fragments_from g number packet 0 i) (fragment_for g number packet i)
        ∙ ap (λ (x : ℕ). x + length (fragment_for g number packet i)) (from_size number 0 i (omega arith))

    -- all of them: the last stands behind those before it
    pub whole_size : (number : ℕ) → length (fragments_for g number packet)
        ≡ (f g (length packet) - 1) * (h g + s g (length packet)) + (h g + length (payload_for g packet (f g (length packet) - 1)))
    unfolding fragments_for
    whole_size number =
        let last : ℕ = f g (length packet) - 1 in
        let e : f g (length packet) ≡ last + 1 = omega (arith, f_some) in
        ap (λ (t : ℕ). length (fragments_from g number packet 0 t)) e
        ∙ more_size number last (omega (arith, f_some))
        ∙ ap (λ (x : ℕ). last * (h g + s g (length packet)) + x) (fragment-size number last)

    -- and each is within them
    pub within_whole : (number i : ℕ) → i < f g (length packet)
        → i * (h g + s g (length packet)) + length (fragment_for g number packet i) ≤ length (fragments_for g number packet)
    within_whole number i less =
        omega (arith, simp length-append at (ap length (whole_split number i less)), more_size number i less)
