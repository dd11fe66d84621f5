-- The useless senders fall: each is refuted by packets of one byte of payload, in one fragment or in two. Assumes nothing.
use mathlib.Core.Path.{◌≡◌, refl, sym, ap, ◌∙◌}
use mathlib.Core.List.{List, [], ◌∷◌, ◌++◌, append_assoc, append-nil}
use Prim.Native.Nat.{ℕ, ◌+◌, ◌-◌, ◌≤◌, ◌<◌}
use native.Mathlib.Omega.{arith}
use lib.Dec.{lit<}
use lib.ListN.{length, get_or, take, drop, length-append}
use lib.Seq.{drop_at, get_or-append-add, get_or-drop}
use Rattle.base_rules.specs.Answer.{Outcome, outcome, granted, refused, bytes_in}
use Rattle.base_rules.specs.Bounds.{most_l}
use Rattle.base_rules.specs.Bytes.{splice, bytes_of}
use Rattle.base_rules.specs.Round.{ceil}
use Rattle.base_rules.proofs.Splice.{splice_start}
use Rattle.cut_rules.specs.declared.Settings.{Settings}
use Rattle.cut_rules.specs.Sizes as cut
use Rattle.header_rules.specs.Header.{front_of, body_of, header_bytes}
use Rattle.sender_rules.specs.Claims.{payloads_from}
use Rattle.sender_rules.specs.Fragments.{payload_for, header_for, fragment_for, fragments_from, fragments_for}
use Rattle.sender_rules.proofs.Cases.{one_done, all_done}
use Rattle.sender_rules.proofs.FragmentLengths.{header_size, fragment-size, size_most}
use Rattle.sender_rules.proofs.Proved.{joins_plain}
use Rattle.link.specs.Demand.{Takes, count}
use Rattle.link.specs.Useless.{Sender, WholeSender, Sends, SendsAll, any_index, RefusesEveryPacket, SendsFixed, OneFragment, WritesOneOnly}
use Rattle.link.proofs.Witness.{plain_at, packet_with, size_is, room, room_long, room_zero, in_one, in_two, whole, halved, packets_apart, begins_a}

-- ---- what a sender that keeps its promise leaves in a buffer with room

module _ {g : Settings} {n : ℕ} {packet : List ℕ} (takes : Takes g n packet) where
  sent : (S : Sender) → Sends S → (i : ℕ) → i < count g packet → length (fragment_for g n packet i) ≤ most_l
      → (values : List ℕ) × (S g n packet i room ≡ outcome (granted values) (splice room 0 (fragment_for g n packet i)))
  sent S sends i below fits = (
    length (fragment_for g n packet i) ∷ [],
    sends.meets g n packet i room takes.number takes.bytes
        ∙ sym (one_done g n packet room i takes.passed below _ _ refl (omega (arith, room_long)) refl),
  )

  sent_all : (S : WholeSender) → SendsAll S → length (fragments_for g n packet) ≤ most_l
      → (values : List ℕ) × (S g n packet room ≡ outcome (granted values) (splice room 0 (fragments_for g n packet)))
  sent_all S sends fits = (
    _,
    sends.meets g n packet room takes.number takes.bytes
        ∙ sym (all_done g n packet room takes.passed _ _ refl (omega (arith, room_long)) refl),
  )

-- ---- the packets in one fragment

module _ (b : ℕ) (byte : b < 256) where
  abbrev only : List ℕ
  only = fragment_for (plain_at 1400) 0 (packet_with b) 0

  takes_one : Takes (plain_at 1400) 0 (packet_with b)
  takes_one = whole b byte 0 (lit< tt)

  -- its payload is the packet
  payload_whole : payload_for (plain_at 1400) (packet_with b) 0 ≡ packet_with b
  unfolding payloads_from
  payload_whole =
      sym (append-nil _) ∙ sym (ap (payloads_from (plain_at 1400) (packet_with b) 0) (in_one b byte))
      ∙ joins_plain (plain_at 1400) (packet_with b) takes_one.passed refl

  only_long : length only ≡ 27
  unfolding cut.h cut.address_bytes
  only_long = fragment-size (plain_at 1400) (packet_with b) 0 0 ∙ ap (λ (l : List ℕ). 14 + length l) payload_whole ∙ ap (λ (x : ℕ). 14 + x) (size_is b byte)

  -- all fragments are this one
  all_are : fragments_for (plain_at 1400) 0 (packet_with b) ≡ only
  unfolding fragments_for fragments_from
  all_are = ap (fragments_from (plain_at 1400) 0 (packet_with b) 0) (in_one b byte) ∙ append-nil only

  -- and the packet is read off the buffer
  read_off : drop 14 (take 27 (splice room 0 only)) ≡ packet_with b
  unfolding fragment_for cut.h cut.address_bytes
  read_off =
      ap (drop 14) (splice_start room only 27 only_long)
      ∙ drop_at (header_bytes (header_for (plain_at 1400) 0 (packet_with b) 0)) (payload_for (plain_at 1400) (packet_with b) 0) 14
      (header_size (plain_at 1400) (packet_with b) 0 0)
      ∙ payload_whole

  -- a sender that keeps its promise leaves it there,
  leaves_one : (S : Sender) → Sends S → (values : List ℕ) × (S (plain_at 1400) 0 (packet_with b) 0 room ≡ outcome (granted values) (splice room 0 only))
  leaves_one S sends = sent takes_one S sends 0 (omega (arith, in_one b byte)) (omega (arith, only_long))

  -- and so does one of all fragments
  leaves_all : (S : WholeSender) → SendsAll S → (values : List ℕ) × (S (plain_at 1400) 0 (packet_with b) room ≡ outcome (granted values) (splice room 0 only))
  leaves_all S sends =
      let all = sent_all takes_one S sends (omega (arith, ap length all_are, only_long)) in
      (all.0, all.1 ∙ ap (λ (l : List ℕ). outcome (granted all.0) (splice room 0 l)) all_are)

sent_apart : splice room 0 (only 1 (lit< tt)) ≡ splice room 0 (only 2 (lit< tt)) → ⊥
sent_apart e = packets_apart (sym (read_off 1 (lit< tt)) ∙ ap (λ (l : List ℕ). drop 14 (take 27 l)) e ∙ read_off 2 (lit< tt))

-- ---- refusing, and one fixed packet

granted-or-refused : {y : Outcome} (values left : List ℕ) (x : ℕ) (left' : List ℕ) → y ≡ outcome (granted values) left
    → y ≡ outcome (refused x) left' → ⊥
granted-or-refused values left x left' p q = let z : ◌≡◌ {A = ℕ} 0 1 = cc in omega arith

pub refuses_every_packet : (S : Sender) → Sends S → RefusesEveryPacket S → ⊥
refuses_every_packet S sends bad =
    let refused = bad.refuses (plain_at 1400) 0 (packet_with 1) 0 room (takes_one 1 (lit< tt)) in
    let good = leaves_one 1 (lit< tt) S sends in
    granted-or-refused good.0 _ refused.0 refused.1 good.1 refused.2

pub refuses_every_packet_whole : (S : WholeSender) → SendsAll S → RefusesEveryPacket (any_index S) → ⊥
refuses_every_packet_whole S sends bad =
    let refused = bad.refuses (plain_at 1400) 0 (packet_with 1) 0 room (takes_one 1 (lit< tt)) in
    let good = leaves_all 1 (lit< tt) S sends in
    granted-or-refused good.0 _ refused.0 refused.1 good.1 refused.2

pub sends_fixed : (S : Sender) → Sends S → SendsFixed S → ⊥
unfolding bytes_in
sends_fixed S sends bad =
    sent_apart
    (sym (ap bytes_in (leaves_one 1 (lit< tt) S sends).1)
    ∙ bad.same (plain_at 1400) 0 (packet_with 1) (packet_with 2) 0 room (takes_one 1 (lit< tt)) (takes_one 2 (lit< tt))
    ∙ ap bytes_in (leaves_one 2 (lit< tt) S sends).1)

pub sends_fixed_whole : (S : WholeSender) → SendsAll S → SendsFixed (any_index S) → ⊥
unfolding bytes_in
sends_fixed_whole S sends bad =
    sent_apart
    (sym (ap bytes_in (leaves_all 1 (lit< tt) S sends).1)
    ∙ bad.same (plain_at 1400) 0 (packet_with 1) (packet_with 2) 0 room (takes_one 1 (lit< tt)) (takes_one 2 (lit< tt))
    ∙ ap bytes_in (leaves_all 2 (lit< tt) S sends).1)

-- ---- one fragment of two

abbrev part : ℕ → List ℕ
part i = fragment_for (plain_at 21) 0 (packet_with 1) i

takes_two : Takes (plain_at 21) 0 (packet_with 1)
takes_two = halved 1 (lit< tt) 0 (lit< tt)

two : count (plain_at 21) (packet_with 1) ≡ 2
two = in_two 1 (lit< tt)

-- the first has 21 bytes,
first_long : length (part 0) ≡ 21
unfolding cut.h cut.address_bytes
first_long = fragment-size (plain_at 21) (packet_with 1) 0 0 ∙ ap (λ (x : ℕ). 14 + x) (begins_a 1).0

payload_size : cut.s (plain_at 21) (length (packet_with 1)) ≡ 7
unfolding cut.s cut.f cut.L cut.S cut.h cut.address_bytes ceil
payload_size = ap (cut.s (plain_at 21)) (size_is 1 (lit< tt))

-- and none has more
part_long : (i : ℕ) → length (part i) ≤ 21
unfolding cut.h cut.address_bytes
part_long i =
    omega (arith, fragment-size (plain_at 21) (packet_with 1) 0 i, size_most (plain_at 21) (packet_with 1) takes_two.passed i, payload_size)

all_two : fragments_for (plain_at 21) 0 (packet_with 1) ≡ part 0 ++ part 1
unfolding fragments_for fragments_from
all_two = ap (fragments_from (plain_at 21) 0 (packet_with 1) 0) two ∙ ap (λ (l : List ℕ). part 0 ++ l) (append-nil (part 1))

-- byte 6 of what is sent is the index
index_at : (get_or (splice room 0 (part 0)) 6 0 ≡ 0) × (get_or (splice room 0 (part 1)) 6 0 ≡ 1)
unfolding splice fragment_for header_for header_bytes body_of front_of bytes_of
index_at = (refl, refl)

pub one_fragment : (S : Sender) → Sends S → OneFragment S → ⊥
unfolding bytes_in
one_fragment S sends bad =
    let left : (i : ℕ) → i < 2 → bytes_in (S (plain_at 21) 0 (packet_with 1) i room) ≡ splice room 0 (part i) =
    λ i below. ap bytes_in (sent takes_two S sends i (omega (arith, two)) (omega (arith, part_long i))).1 in
    let same = bad.same (plain_at 21) 0 (packet_with 1) 0 1 room takes_two (omega (arith, two)) (omega (arith, two)) in
    let z : ◌≡◌ {A = ℕ} 0 1 =
    sym index_at.0 ∙ ap (λ (l : List ℕ). get_or l 6 0) (sym (left 0 (omega arith)) ∙ same ∙ left 1 (omega arith)) ∙ index_at.1 in
    omega arith

-- byte 21 is the P with which the second begins,
second_begins : get_or (splice room 0 (part 0 ++ part 1)) 21 0 ≡ 80
unfolding splice fragment_for header_for header_bytes body_of front_of bytes_of
second_begins =
    let at : 21 ≡ length (part 0) + 0 = omega (arith, first_long) in
    ap (λ (l : List ℕ). get_or l 21 0) (append_assoc (part 0) (part 1) rest)
    ∙ ap (λ (x : ℕ). get_or (part 0 ++ (part 1 ++ rest)) x 0) at
    ∙ get_or-append-add (part 0) (part 1 ++ rest) 0 0
  where
    rest : List ℕ
    rest = drop (0 + length (part 0 ++ part 1)) room

-- and where only one of them is written, it is as it was
behind_one : (i : ℕ) → get_or (splice room 0 (part i)) 21 0 ≡ 0
unfolding splice
behind_one i =
    let far : ℕ = 21 - length (part i) in
    ap (λ (x : ℕ). get_or (splice room 0 (part i)) x 0) (omega (arith, part_long i))
    ∙ get_or-append-add (part i) (drop (0 + length (part i)) room) far 0
    ∙ get_or-drop (0 + length (part i)) room far 0
    ∙ room_zero (0 + length (part i) + far)

pub writes_one_only : (S : WholeSender) → SendsAll S → WritesOneOnly S → ⊥
unfolding bytes_in
writes_one_only S sends bad =
    let long : length (fragments_for (plain_at 21) 0 (packet_with 1)) ≤ 42 =
    omega (arith, ap length all_two, length-append (part 0) (part 1), part_long 0, part_long 1) in
    let one = bad.only (plain_at 21) 0 (packet_with 1) room takes_two (omega (arith, room_long)) in
    let all = ap bytes_in (sent_all takes_two S sends (omega arith)).1 ∙ ap (splice room 0) all_two in
    let z : ◌≡◌ {A = ℕ} 80 0 = sym second_begins ∙ ap (λ (l : List ℕ). get_or l 21 0) (sym all ∙ one.1) ∙ behind_one one.0 in
    omega arith
