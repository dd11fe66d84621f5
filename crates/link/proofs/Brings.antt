-- What comes in a call of the examples, and what such a call is. Assumes nothing.
use mathlib.Core.Path.{◌≡◌, refl, sym, ap, ap₂, ◌∙◌, subst}
use mathlib.Core.Bool.{Bool, true, false, not, cond, ◌&&◌}
use mathlib.Core.List.{List, [], ◌∷◌, ◌++◌, append-nil, append_assoc}
use Prim.Native.Nat.{ℕ, ◌<◌}
use native.Mathlib.Omega.{arith}
use borrow.Author.Tests.{eq-eqb, ltb-true, not-true}
use lib.Dec.{ltb, eqb, lit<}
use Rattle.std.specs.Prelude.{Option, Some, None}
use Rattle.base_rules.specs.Bytes.{Bytes}
use Rattle.base_rules.specs.Tests.{first}
use Rattle.base_rules.proofs.Logic.{either, clash, and_left, and_right}
use Rattle.base_rules.proofs.ByteLaws.{bytes-append}
use Rattle.cut_rules.specs.declared.Address.{Address}
use Rattle.header_rules.specs.declared.Header.{Header}
use Rattle.header_rules.specs.Read.{address_of, fields_of, bad_address, fault_of}
use Rattle.header_rules.specs.Header.{header_bytes}
use Rattle.header_rules.proofs.Proved.{reads_back}
use Rattle.sender_rules.specs.Fragments.{payload_for, header_for, fragment_for}
use Rattle.sender_rules.proofs.Proved.{received}
use Rattle.sender_rules.proofs.Headers.{header_written}
use Rattle.link.specs.Run.{Call, number_in, index_in}
use Rattle.link.specs.Demand.{Takes, count, Own}
use Rattle.link.specs.Examples.{here, settings_of, packet_under, Arrival, Fragment, Longer, Other, own_at, datagram_at}
use Rattle.link.proofs.Heard.{Brings, brings, brings_number}
use Rattle.link.proofs.Runs.{bytes-fragment}
use Rattle.link.proofs.Packets.{count_under, sent_takes, sent_count, its_key}
use Rattle.link.proofs.Longer.{longer_fault}

-- ---- what comes in a call

-- each number in a datagram is a byte
unfoldable pub small : List ℕ → Bool
small [] = true
small (x ∷ d) = ltb x 256 && small d

-- it is one of the fragments, or bytes that are refused
unfoldable pub possible : Arrival → Bool
possible (Fragment own n i) = ltb n 65536 && ltb i (count_under n)
possible (Longer n i) = ltb n 65536 && ltb i (count_under n)
possible (Other d) = small d && not (eqb (fault_of here d) 0)

-- the number with which it is refused by its header, 0 where it is heard
unfoldable pub fault_at : Arrival → ℕ
fault_at (Fragment own n i) = cond (bad_address own (settings_of n).address) 6 0
fault_at (Longer n i) = 5
fault_at (Other d) = fault_of here d

-- it is heard
abbrev pub hears : Arrival → Bool
hears a = eqb (fault_at a) 0

-- its number, where it is heard
unfoldable pub number_at : Arrival → ℕ
number_at (Fragment own n i) = n
number_at (Longer n i) = 0
number_at (Other d) = 0

-- and its index
unfoldable pub index_at : Arrival → ℕ
index_at (Fragment own n i) = i
index_at (Longer n i) = 0
index_at (Other d) = 0

accepts_itself : (a : Option Address) → bad_address a a ≡ false
unfolding bad_address
accepts_itself None = refl
accepts_itself (Some a) = rw (eq-eqb a.source a.source refl, eq-eqb a.dest a.dest refl)

bytes_small : (d : List ℕ) → small d ≡ true → Bytes d
unfolding small
bytes_small [] p = tt
bytes_small (x ∷ d) p = (ltb-true x 256 (and_left _ _ p), bytes_small d (and_right (ltb x 256) _ p))

module _ (n i : ℕ) (fine : (ltb n 65536 && ltb i (count_under n)) ≡ true) where
  takes : Takes (settings_of n) n (packet_under n)
  takes = sent_takes n (ltb-true n 65536 (and_left (ltb n 65536) _ fine))

  below : i < count (settings_of n) (packet_under n)
  below = omega (arith, ltb-true i (count_under n) (and_right (ltb n 65536) _ fine), sent_count n)

  -- at a card that is set for its own address it passes, and reads as it was meant with anything behind it
  passes : fault_of (settings_of n).address (fragment_for (settings_of n) n (packet_under n) i) ≡ 0
  passes =
      (received (settings_of n) n (packet_under n) i (settings_of n).address takes.passed takes.number takes.address below
      (accepts_itself (settings_of n).address)).0

  reads : (rest : List ℕ) → fields_of (fragment_for (settings_of n) n (packet_under n) i ++ rest) ≡ header_for (settings_of n) n (packet_under n) i
  unfolding fragment_for
  reads rest =
      let h : Header = header_for (settings_of n) n (packet_under n) i in
      ap fields_of (append_assoc (header_bytes h) (payload_for (settings_of n) (packet_under n) i) rest)
      ∙ reads_back h _ (header_written (settings_of n) n (packet_under n) i takes.passed below takes.number takes.address)

  sent_reads : fields_of (fragment_for (settings_of n) n (packet_under n) i) ≡ header_for (settings_of n) n (packet_under n) i
  sent_reads = ap fields_of (sym (append-nil _)) ∙ reads []

  bytes_sent : Bytes (fragment_for (settings_of n) n (packet_under n) i)
  bytes_sent = bytes-fragment (settings_of n) n (packet_under n) takes i below

-- what comes is bytes
pub bytes_arrival : (a : Arrival) → possible a ≡ true → Bytes (datagram_at a)
unfolding datagram_at possible
bytes_arrival (Fragment own n i) fine = bytes_sent n i fine
bytes_arrival (Longer n i) fine = bytes-append (fragment_for (settings_of n) n (packet_under n) i) _ (bytes_sent n i fine) (lit< tt, tt)
bytes_arrival (Other d) fine = bytes_small d (and_left (small d) _ fine)

-- ---- what a call with it is

-- where nothing else is wrong, an address that is not accepted is 6
address_due : (a b c d x y : Bool) (ts : List (Bool × ℕ)) → first ((a, 2) ∷ (b, 3) ∷ (c, 4) ∷ (d, 5) ∷ (x, 6) ∷ ts) ≡ 0
    → first ((a, 2) ∷ (b, 3) ∷ (c, 4) ∷ (d, 5) ∷ (y, 6) ∷ ts) ≡ cond y 6 0
unfolding first
address_due true b c d x y ts e = absurd (omega arith)
address_due false true c d x y ts e = absurd (omega arith)
address_due false false true d x y ts e = absurd (omega arith)
address_due false false false true x y ts e = absurd (omega arith)
address_due false false false false true y ts e = absurd (omega arith)
address_due false false false false false true ts e = refl
address_due false false false false false false ts e = e

same_but_address : (own own' : Option Address) (d : List ℕ) → fault_of own d ≡ 0 → fault_of own' d ≡ cond (bad_address own' (address_of d)) 6 0
unfolding fault_of
same_but_address own own' d e = address_due _ _ _ _ (bad_address own (address_of d)) _ _ e

-- a call by what comes in it, which is possible
pub record Kind (a : Arrival) (e : Call) : Type 0 where
  pub fine : possible a ≡ true
  pub own : e.own ≡ own_at a
  pub datagram : e.datagram ≡ datagram_at a

fault_sent : (own : Option Address) (n i : ℕ) → (ltb n 65536 && ltb i (count_under n)) ≡ true
    → fault_of own (fragment_for (settings_of n) n (packet_under n) i) ≡ cond (bad_address own (settings_of n).address) 6 0
unfolding fields_of header_for
fault_sent own n i fine =
    same_but_address (settings_of n).address own (fragment_for (settings_of n) n (packet_under n) i) (passes n i fine)
    ∙ ap (λ (h : Header). cond (bad_address own h.address) 6 0) (sent_reads n i fine)

fault_told : (a : Arrival) → possible a ≡ true → fault_of (own_at a) (datagram_at a) ≡ fault_at a
unfolding own_at datagram_at fault_at possible
fault_told (Fragment own n i) fine = fault_sent own n i fine
fault_told (Longer n i) fine =
    longer_fault (fragment_for (settings_of n) n (packet_under n) i) (0 ∷ []) (settings_of n).address (passes n i fine)
    (reads n i fine (0 ∷ []) ∙ sym (sent_reads n i fine)) (lit< tt) here
fault_told (Other d) fine = refl

-- its header is refused with the number that is told of what comes
pub fault_is : {a : Arrival} {e : Call} → Kind a e → fault_of e.own e.datagram ≡ fault_at a
fault_is {a} k = ap₂ fault_of k.own k.datagram ∙ fault_told a k.fine

accepted : (own : Option Address) (n i : ℕ) → hears (Fragment own n i) ≡ true → bad_address own (settings_of n).address ≡ false
unfolding fault_at
accepted own n i h = either (bad_address own (settings_of n).address) (λ e. clash h (ap (λ (b : Bool). eqb (cond b 6 0) 0) e)) (λ e. e)

module _ {own : Option Address} {n i : ℕ} {e : Call} (k : Kind (Fragment own n i) e) where
  -- the index of a fragment is below the count,
  pub index_below : i < count (settings_of n) (packet_under n)
  unfolding possible
  index_below = below n i k.fine

  -- and the number has two bytes
  pub number_below : n < 65536
  unfolding possible
  number_below = (takes n i k.fine).number

  module _ (h : hears (Fragment own n i) ≡ true) where
    -- the address of one that is heard matches,
    pub matches : bad_address e.own (settings_of n).address ≡ false
    unfolding own_at
    matches = ap (λ (a : Option Address). bad_address a (settings_of n).address) k.own ∙ accepted own n i h

    -- and the call brings it
    pub brings_sent : Brings (settings_of n) n (packet_under n) e i
    unfolding datagram_at possible
    brings_sent = brings (settings_of n) n (packet_under n) (takes n i k.fine) e i index_below k.datagram matches

-- a datagram that is no fragment is not heard
pub heard_fragment : {a : Arrival} {e : Call} (P : Arrival → Type 0) → Kind a e → hears a ≡ true
    → ((own : Option Address) (n i : ℕ) → Kind (Fragment own n i) e → hears (Fragment own n i) ≡ true → P (Fragment own n i)) → P a
unfolding possible fault_at
heard_fragment {a = Fragment own n i} P k h f = f own n i k h
heard_fragment {a = Longer n i} P k h f = clash refl (sym h)
heard_fragment {a = Other d} P k h f = clash h (not-true _ (and_right (small d) _ k.fine))

-- the number of a call that is heard
pub number_is : {a : Arrival} {e : Call} → Kind a e → hears a ≡ true → number_in e ≡ number_at a
unfolding number_at
number_is {e = e} k h =
    heard_fragment (λ a. number_in e ≡ number_at a) k h
    (λ own n i j l. brings_number (settings_of n) n (packet_under n) e i (brings_sent j l) ∙ its_key n)

-- and its index
pub index_is : {a : Arrival} {e : Call} → Kind a e → hears a ≡ true → index_in e ≡ index_at a
unfolding index_at header_for
index_is {e = e} k h = heard_fragment (λ a. index_in e ≡ index_at a) k h (λ own n i j l. ap (λ (x : Header). x.index) (brings_sent j l).fields)

-- what is heard of a number is one of the fragments of what is sent under it
pub own_is : {a : Arrival} {e : Call} (n : ℕ) → Kind a e → Own (settings_of n) n (packet_under n) e
unfolding Own datagram_at
own_is {a} {e} n k = λ h is.
    let hears-it : hears a ≡ true = sym (ap (λ (x : ℕ). eqb x 0) (fault_is k)) ∙ h in
    heard_fragment
    (λ a. (i : ℕ) × (i < count (settings_of n) (packet_under n)) × (e.datagram ≡ fragment_for (settings_of n) n (packet_under n) i)) k hears-it
    (λ own m i j l.
    let same : m ≡ n = sym (brings_number (settings_of m) m (packet_under m) e i (brings_sent j l) ∙ its_key m) ∙ is ∙ its_key n in
    subst (λ (x : ℕ). (i : ℕ) × (i < count (settings_of x) (packet_under x)) × (e.datagram ≡ fragment_for (settings_of x) x (packet_under x) i)) same
    (i, index_below j, j.datagram))
