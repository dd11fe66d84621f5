-- The payloads put together again are what was cut. Assumes nothing.
use mathlib.Core.Path.{◌≡◌, ap, ap₂, ◌∙◌, sym}
use mathlib.Core.Bool.{true, false}
use mathlib.Core.List.{List, ◌++◌}
use Prim.Native.Nat.{ℕ, zero, suc, ◌+◌, ◌-◌, ◌*◌, ◌/◌, ◌%◌, ◌≤◌, ◌<◌}
use native.Mathlib.Nat.{zero-mul, suc-mul, add_comm}
use native.Mathlib.Omega.{arith}
use lib.ListN.{length, get_or, take, drop}
use lib.Seq.{take_all, take-add, drop-drop}
use Rattle.base_rules.specs.Bytes.{part_of}
use Rattle.cut_rules.specs.Sizes.{c, n, f, s}
use Rattle.cut_rules.specs.declared.Settings.{Settings}
use Rattle.cut_rules.proofs.PlanCases.{L-fec, L-plain}
use Rattle.cut_rules.proofs.Proved.{c4}
use Rattle.sender_rules.specs.Calls.{packet_fault}
use Rattle.sender_rules.specs.Claims.{payloads_from}
use Rattle.sender_rules.specs.Fragments.{block_for, payload_for}
use Rattle.sender_rules.proofs.FragmentLengths.{payload_fec, payload_plain, size-plain, sure, f_some}

module _ (g : Settings) (packet : List ℕ) where
  -- ---- with FEC

  -- with FEC byte q of the block stands in payload q mod f, at q div f
  pub joined : packet_fault g packet ≡ 0 → g.fec ≡ true → (q : ℕ) → q < c (length packet) * n (length packet)
      → get_or (payload_for g packet (q % f g (length packet))) (q / f g (length packet)) 0 ≡ get_or (block_for packet) q 0
  joined passed fec q less =
      let l : ℕ = length packet in
      let inside : q < f g l * s g l = omega (arith, L-fec g l fec, (sure g packet passed).all_held) in
      ap (λ (x : List ℕ). get_or x (q / f g l) 0) (payload_fec g packet fec (q % f g l))
      ∙ (c4.joined (block_for packet) (f g l) (s g l) q (f_some g packet passed) inside).byte

  -- ---- without FEC

  module _ (plain : g.fec ≡ false) where
    -- t payloads are t s bytes from where the first starts
    run_of : (i t : ℕ) → payloads_from g packet i t ≡ take (t * s g (length packet)) (drop (i * s g (length packet)) packet)
    unfolding payloads_from part_of
    run_of i zero = ap (λ (x : ℕ). take x (drop (i * s g (length packet)) packet)) (sym (zero-mul (s g (length packet))))
    run_of i (suc t) =
        let w : ℕ = s g (length packet) in
        let start : List ℕ = drop (i * w) packet in
        let next : drop (suc i * w) packet ≡ drop w start = ap (λ (x : ℕ). drop x packet) (suc-mul i w) ∙ sym (drop-drop w (i * w) packet) in
        let more : suc t * w ≡ w + t * w = suc-mul t w ∙ add_comm (t * w) w in
        ap₂ (λ (x y : List ℕ). x ++ y) (payload_plain g packet plain i) (run_of (suc i) t ∙ ap (take (t * w)) next)
        ∙ sym (take-add w (t * w) start)
        ∙ ap (λ (x : ℕ). take x start) (sym more)

    -- without FEC the payloads one behind the other are the packet
    pub joined_plain : packet_fault g packet ≡ 0 → payloads_from g packet 0 (f g (length packet)) ≡ packet
    joined_plain passed =
        let l : ℕ = length packet in
        let enough : l ≤ f g l * s g l = omega (arith, L-plain g l plain, (sure g packet passed).all_held) in
        run_of 0 (f g l)
        ∙ ap (λ (x : ℕ). take (f g l * s g l) (drop x packet)) (zero-mul (s g l))
        ∙ take_all (f g l * s g l) packet enough

    -- the last payload is what is left
    pub last-plain : packet_fault g packet ≡ 0 → length
        (payload_for g packet (f g (length packet) - 1)) ≡ length packet - (f g (length packet) - 1) * s g (length packet)
    last-plain passed =
        let l : ℕ = length packet in
        let last : ℕ = f g l - 1 in
        let whole : f g l * s g l ≡ (last + 1) * s g l = ap (λ (x : ℕ). x * s g l) (back (f g l) (f_some g packet passed)) in
        omega (arith, whole, size-plain g packet plain last, L-plain g l plain, (sure g packet passed).all_held)
      where
        back : (x : ℕ) → 0 < x → x ≡ x - 1 + 1
        back x some = omega arith
