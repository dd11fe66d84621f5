-- Packets of one byte of payload, sent without FEC and address: in one fragment, or in two. Assumes nothing.
use mathlib.Core.Path.{◌≡◌, refl, sym, ap, ◌∙◌}
use mathlib.Core.Bool.{true, false}
use mathlib.Core.List.{List, [], ◌∷◌}
use Prim.Native.Nat.{ℕ, ◌<◌}
use native.Mathlib.Omega.{arith}
use lib.Dec.{ltb, lit<}
use lib.ListN.{length, get_or, take, replicate, length-replicate}
use Rattle.std.specs.Prelude.{None}
use Rattle.base_rules.specs.Bounds.{most_l, most_f}
use Rattle.base_rules.specs.Bytes.{splice, bytes_of, part_of}
use Rattle.base_rules.specs.Round.{ceil}
use Rattle.base_rules.proofs.Firsts.{skip, none_due}
use Rattle.base_rules.proofs.Splice.{splice_start}
use Rattle.base_rules.proofs.Logic.{same}
use Rattle.cut_rules.specs.declared.Rule.TheVariants.{Older}
use Rattle.cut_rules.specs.declared.Settings.{Settings}
use Rattle.cut_rules.specs.Plan.{fit}
use Rattle.cut_rules.specs.Sizes as cut
use Rattle.af_rules.specs.Packet.{header_of, closed, packet_of, payload_of}
use Rattle.af_rules.specs.Claims.{Back}
use Rattle.af_rules.proofs.Proved.{a1}
use Rattle.code_rules.proofs.RowLaws.{zeros_at}
use Rattle.header_rules.specs.Claims.{Fitting}
use Rattle.sender_rules.specs.Calls.{packet_fault}
use Rattle.sender_rules.specs.Fragments.{payload_for}
use Rattle.link.specs.Demand.{Takes, count}

-- without FEC and address, at an MTU
abbrev pub plain_at : ℕ → Settings
plain_at mtu = record { fec = false; m = 0; mtu = mtu; address = None; rule = Older }

-- the packet of the payload b
abbrev pub packet_with : ℕ → List ℕ
packet_with b = packet_of 0 false (b ∷ [])

module _ (b : ℕ) (byte : b < 256) where
  back : Back 0 false (b ∷ [])
  back = a1 0 false (b ∷ []) (lit< tt) (byte, tt) (omega arith)

  pub size_is : length (packet_with b) ≡ 13
  size_is = back.size

  module _ (mtu : ℕ) (fits : fit (plain_at mtu) ≡ true) (few : ltb most_f (cut.f (plain_at mtu) 13) ≡ false) (n : ℕ) (small : n < 65536) where
    passed_is : packet_fault (plain_at mtu) (packet_with b) ≡ 0
    unfolding packet_fault
    passed_is =
        sym (skip 40 _ (rw fits) (skip _ _ (same back.passes)
        (skip 41 _ (ap (λ (l : ℕ). ltb most_f (cut.f (plain_at mtu) l)) size_is ∙ few) none_due)))

    pub takes : Takes (plain_at mtu) n (packet_with b)
    unfolding Fitting
    takes = record { passed = passed_is; bytes = back.bytes; number = small; address = tt }

-- ---- a packet buffer with room for all

-- 8,192 zeros
pub room : List ℕ
room = replicate most_l 0

pub room_long : length room ≡ most_l
unfolding room
room_long = length-replicate {A = ℕ} most_l 0

pub room_zero : (i : ℕ) → get_or room i 0 ≡ 0
unfolding room
room_zero i = zeros_at most_l i

-- ---- in one fragment, or in two

-- at an MTU of 1,400 it has one fragment
pub in_one : (b : ℕ) → b < 256 → count (plain_at 1400) (packet_with b) ≡ 1
unfolding cut.f cut.L cut.S cut.h cut.address_bytes ceil
in_one b byte = ap (cut.f (plain_at 1400)) (size_is b byte)

-- at an MTU of 21 it has two
pub in_two : (b : ℕ) → b < 256 → count (plain_at 21) (packet_with b) ≡ 2
unfolding cut.f cut.L cut.S cut.h cut.address_bytes ceil
in_two b byte = ap (cut.f (plain_at 21)) (size_is b byte)

-- the sender takes it at an MTU of 1,400, under any number
pub whole : (b : ℕ) → b < 256 → (n : ℕ) → n < 65536 → Takes (plain_at 1400) n (packet_with b)
unfolding fit cut.f cut.L cut.S cut.h cut.address_bytes ceil
whole b byte = takes b byte 1400 refl refl

-- and at an MTU of 21, under any number
pub halved : (b : ℕ) → b < 256 → (n : ℕ) → n < 65536 → Takes (plain_at 21) n (packet_with b)
unfolding fit cut.f cut.L cut.S cut.h cut.address_bytes ceil
halved b byte = takes b byte 21 refl refl

-- ---- its bytes

-- two of them are two,
pub packets_apart : packet_with 1 ≡ packet_with 2 → ⊥
packets_apart e =
    let payloads : ◌≡◌ {A = List ℕ} (1 ∷ []) (2 ∷ []) = sym (back 1 (lit< tt)).same ∙ ap payload_of e ∙ (back 2 (lit< tt)).same in
    let z : ◌≡◌ {A = ℕ} 1 2 = ap (λ (l : List ℕ). get_or l 0 0) payloads in
    omega arith

-- and so they are in a buffer
pub written_apart : (out : List ℕ) → splice out 0 (packet_with 1) ≡ splice out 0 (packet_with 2) → ⊥
written_apart out e =
    packets_apart
    (sym (splice_start out (packet_with 1) 13 (size_is 1 (lit< tt))) ∙ ap (take 13) e ∙ splice_start out (packet_with 2) 13 (size_is 2 (lit< tt)))

-- of two fragments, the first has 7 bytes and begins with an A
pub begins_a : (b : ℕ) → (length (payload_for (plain_at 21) (packet_with b) 0) ≡ 7) × (get_or (payload_for (plain_at 21) (packet_with b) 0) 0 0 ≡ 65)
unfolding payload_for part_of cut.s cut.f cut.L cut.S cut.h cut.address_bytes ceil packet_of closed header_of bytes_of
begins_a b = (refl, refl)
