-- The useless stacks fall: receivers that do a thing always, by packets of one byte of payload from a fresh table on; receivers that do it
-- once, by demand 3; and the senders, in Senders.antt. There is one that keeps the promise, and there are useless ones. Assumes nothing.
use mathlib.Core.Path.{◌≡◌, refl, sym, ap, ◌∙◌, subst}
use mathlib.Core.List.{List, []}
use Prim.Native.Nat.{ℕ, suc, ◌+◌, ◌<◌}
use native.Mathlib.Omega.{arith}
use lib.Dec.{lit<}
use lib.ListN.{length, get_or, drop}
use lib.Seq.{get_or-take, get_or-drop}
use Rattle.std.specs.Prelude.{None, Ok, Err}
use Rattle.base_rules.specs.Refusal.{number}
use Rattle.base_rules.specs.declared.Refusal.TheVariants as refusal
use Rattle.base_rules.specs.Answer as answer
use Rattle.base_rules.specs.Bytes.{splice}
use Rattle.base_rules.proofs.Logic.{clash}
use Rattle.base_rules.proofs.Splice.{splice_none}
use Rattle.form_rules.specs.Agree.{missing_in}
use Rattle.places_rules.specs.declared.Table.{Table}
use Rattle.places_rules.specs.Places.{four, place_at, held_at}
use Rattle.receiver_rules.specs.declared.Received.TheVariants.{Delivered}
use Rattle.receiver_rules.specs.Promise.{number_of, Reception, reception, State}
use Rattle.receiver_rules.specs.Claims.{kept_by}
use Rattle.receiver_rules.proofs.Proved.{some_reception, count_told}
use Rattle.sender_rules.specs.Fragments.{payload_for, fragment_for, fragments_for}
use Rattle.link.specs.Run.{Call}
use Rattle.link.specs.Demand.{key_for}
use Rattle.link.specs.Useless.{Receiver, Keeps, Serves, Delivers, RefusesAll, HandsNothing, Fixed, StoresNoBytes, StoresNoRecord, Pretends}
use Rattle.link.specs.Useless.{Withholds, Invents, FalseCount, Sender, WholeSender, any_index, SomeKeep, Falls, SomeUseless}
use Rattle.link.proofs.Senders as senders
use Rattle.link.proofs.Served.{Ready, call, serves, does, number_brought, episode, not-before, enough, not-enough}
use Rattle.link.proofs.Served.{lent, lent-zero, fresh, fresh_free, at_first, first, said_by_lem, held, another, delivers, written, stands}
use Rattle.link.proofs.Until.{number-or-handed}
use Rattle.link.proofs.Witness.{plain_at, packet_with, room, in_one, in_two, halved, written_apart, begins_a}

module _ (R : Receiver) (keeps : Keeps R) where
  -- ---- a receiver that does it once

  withholds : Withholds R → ⊥
  withholds bad = bad.withheld ((said_by_lem keeps bad.episode).handed bad.before bad.enough_now)

  invents : Invents R → ⊥
  invents bad =
      let d = bad.delivers in
      let z = (said_by_lem keeps bad.episode).once d.0 d.1 d.2 d.3 bad.number in
      bad.other z.0 z.1

  false_count : FalseCount R → ⊥
  false_count bad =
      bad.false_count
      (count_told bad.own bad.state bad.datagram bad.out _
      (keeps.meets bad.own bad.state bad.datagram bad.out bad.bytes) bad.l bad.m bad.displaced bad.told).1

  -- ---- a receiver that does it always

  refuses_all : RefusesAll R → ⊥
  refuses_all bad =
      let one = first 1 (lit< tt) 0 (lit< tt) in
      let good = delivers keeps one (in_one 1 (lit< tt)) in
      let refused = does one _ bad.refuses in
      number-or-handed refused.0 good.0 good.1 good.2 (sym refused.1 ∙ good.3)

  hands_nothing : HandsNothing R → ⊥
  hands_nothing bad = let one = first 1 (lit< tt) 0 (lit< tt) in does one _ bad.never (delivers keeps one (in_one 1 (lit< tt)))

  fixed : Fixed R → ⊥
  unfolding call
  fixed bad =
      let one = first 1 (lit< tt) 0 (lit< tt) in
      let two = first 2 (lit< tt) 0 (lit< tt) in
      written_apart room
      (sym (written keeps one (in_one 1 (lit< tt)))
      ∙ does one _ bad.only (delivers keeps one (in_one 1 (lit< tt)))
      ∙ sym (does two _ bad.only (delivers keeps two (in_one 2 (lit< tt))))
      ∙ written keeps two (in_one 2 (lit< tt)))

  stores_no_record : StoresNoRecord R → ⊥
  unfolding key_for
  stores_no_record bad =
      let one = first 1 (lit< tt) 0 (lit< tt) in
      fresh_free 0 (subst (λ (t : Table). held_at t 0 < four) (does one _ bad.same) (held keeps one))

  stores_no_bytes : StoresNoBytes R → ⊥
  stores_no_bytes bad =
      let half = at_first (halved 1 (lit< tt) 0 (lit< tt)) in
      let there = stands keeps half (in_two 1 (lit< tt)) in
      let a = begins_a 1 in
      let bytes : List ℕ = drop there.0 (call half).left.bytes in
      let letter : get_or bytes 0 0 ≡ 65 =
      sym (get_or-take (length (payload_for (plain_at 21) (packet_with 1) 0)) bytes 0 0 (omega arith)) ∙ ap (λ (l : List ℕ). get_or l 0 0) there.1
      ∙ a.1 in
      let zero-there : get_or bytes 0 0 ≡ 0 =
      ap (λ (l : List ℕ). get_or (drop there.0 l) 0 0) (does half _ bad.same) ∙ get_or-drop there.0 lent 0 0 ∙ lent-zero (there.0 + 0) in
      omega arith

  -- after packet 1 of number 0, packets 1 and 2 of number 1
  pretends : Pretends R → ⊥
  unfolding call key_for
  pretends bad =
      let before = first 1 (lit< tt) 0 (lit< tt) in
      let one = another keeps before (first 1 (lit< tt) 1 (lit< tt)) (λ z. omega arith) in
      let two = another keeps before (first 2 (lit< tt) 1 (lit< tt)) (λ z. omega arith) in
      written_apart room
      (sym (written keeps one (in_one 1 (lit< tt)))
      ∙ does before _ bad.blind (delivers keeps before (in_one 1 (lit< tt))) _ _ (serves one) (serves two) refl
      (delivers keeps one (in_one 1 (lit< tt))) (delivers keeps two (in_one 2 (lit< tt)))
      ∙ written keeps two (in_one 2 (lit< tt)))

-- no useless receiver keeps the promise of receive, and no useless sender that of fragment or fragments
pub falls : Falls
falls = record {
  refuses_all = refuses_all;
  hands_nothing = hands_nothing;
  fixed = fixed;
  stores_no_bytes = stores_no_bytes;
  stores_no_record = stores_no_record;
  pretends = pretends;
  withholds = withholds;
  invents = invents;
  false_count = false_count;
  refuses_every_packet = senders.refuses_every_packet;
  refuses_every_packet_whole = senders.refuses_every_packet_whole;
  sends_fixed = senders.sends_fixed;
  sends_fixed_whole = senders.sends_fixed_whole;
  one_fragment = senders.one_fragment;
  writes_one_only = senders.writes_one_only;
}

-- ---- one that keeps the promise

-- there is a receiver that keeps the promise of receive
pub some_keep : SomeKeep
some_keep = (
  λ own s datagram out. (some_reception own s datagram out).0,
  record { meets = λ own s datagram out bytes. (some_reception own s datagram out).1 },
)

-- ---- useless receivers

-- one that refuses everything, and leaves all as it was
refuser : Receiver
refuser own s datagram out = reception (Err refusal.Short) s.table s.bytes out

module _ {s : State} {e : Call} (c : Serves refuser s e) where
  refuses : e.left.answer ≡ (2, [])
  unfolding refuser reception number_of number
  refuses = ap (λ (y : Reception). y.answer) c.leaves

  same-table : e.left.table ≡ s.table
  unfolding refuser reception
  same-table = ap (λ (y : Reception). y.table) c.leaves

  same_bytes : e.left.bytes ≡ s.bytes
  unfolding refuser reception
  same_bytes = ap (λ (y : Reception). y.bytes) c.leaves

  delivers_nothing : Delivers e → ⊥
  delivers_nothing d = number-or-handed 2 d.0 d.1 d.2 (sym refuses ∙ d.3)

one : Ready refuser (plain_at 1400) 0 (packet_with 1) fresh
one = first 1 (lit< tt) 0 (lit< tt)

withholder : Withholds refuser
withholder =
    record {
      g = plain_at 1400;
      n = 0;
      packet = packet_with 1;
      earlier = [];
      call = call one;
      episode = episode one;
      before = not-before one;
      enough_now = enough one (in_one 1 (lit< tt));
      withheld = λ h. delivers_nothing (serves one) (_, _, h.displaced, h.told);
    }

-- one that answers every datagram with an empty packet, and with one fragment more missing than its record misses
liar : Receiver
liar own s datagram out =
    reception (Ok (Delivered 0 (suc (missing_in (place_at s.table (kept_by s datagram).at))) None)) s.table s.bytes out

lends_back : {s : State} {e : Call} → Serves liar s e → e.left.out ≡ e.lent
unfolding liar reception
lends_back c = ap (λ (y : Reception). y.out) c.leaves

half : Ready liar (plain_at 21) 0 (packet_with 1) fresh
half = at_first (halved 1 (lit< tt) 0 (lit< tt))

inventor : Invents liar
unfolding liar reception
inventor =
    record {
      g = plain_at 21;
      n = 0;
      packet = packet_with 1;
      earlier = [];
      call = call half;
      episode = episode half;
      delivers = (0, _, None, ap (λ (y : Reception). y.answer) (serves half).leaves);
      number = number_brought half;
      other = λ before now. clash now (not-enough half (in_two 1 (lit< tt)));
    }

miscounter : FalseCount liar
unfolding liar reception
miscounter =
    record {
      own = None;
      state = fresh;
      datagram = [];
      out = [];
      bytes = tt;
      l = 0;
      m = _;
      displaced = None;
      told = refl;
      false_count = λ e. omega arith;
    }

-- ---- and useless senders

refusing : WholeSender
refusing g n packet out = answer.outcome (answer.refused 40) out

-- the fragments of the empty packet, whatever the packet
empty : Sender
empty g n packet i out = answer.outcome (answer.granted []) (splice out 0 (fragment_for g n [] i))

empties : WholeSender
empties g n packet out = answer.outcome (answer.granted []) (splice out 0 (fragments_for g n []))

-- fragment 0, whatever is asked
first-only : WholeSender
first-only g n packet out = answer.outcome (answer.granted []) (splice out 0 (fragment_for g n packet 0))

-- there are useless stacks of each kind
pub some_useless : SomeUseless
unfolding refusing empty empties first-only answer.bytes_in
some_useless =
    record {
      refuses_all = (refuser, record { refuses = λ s r e c. (2, refuses c) });
      hands_nothing = (refuser, record { never = λ s r e c. delivers_nothing c });
      fixed = (liar, record { packet = []; only = λ s r e c d. lends_back c ∙ splice_none e.lent 0 });
      stores_no_bytes = (refuser, record { same = λ s r e c. same_bytes c });
      stores_no_record = (refuser, record { same = λ s r e c. same-table c });
      pretends = (liar, record { blind = λ s r c k h d e x y lent p q. lends_back x ∙ lent ∙ sym (lends_back y) });
      withholds = (refuser, withholder);
      invents = (liar, inventor);
      false_count = (liar, miscounter);
      refuses_every_packet = (any_index refusing, record { refuses = λ g n packet i out takes. (40, out, refl) });
      refuses_every_packet_whole = (refusing, record { refuses = λ g n packet i out takes. (40, out, refl) });
      sends_fixed = (empty, record { same = λ g n packet packet' i out takes takes'. refl });
      sends_fixed_whole = (empties, record { same = λ g n packet packet' i out takes takes'. refl });
      one_fragment = (any_index first-only, record { same = λ g n packet i j out takes below below'. refl });
      writes_one_only = (first-only, record { only = λ g n packet out takes fits. (0, refl) });
    }
