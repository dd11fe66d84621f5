-- What bailhammer_fragments wrote and told, taken as the fragments of its packet. Assumes nothing.
use mathlib.Core.Logic.{inl, inr}
use mathlib.Core.Path.{◌≡◌, refl, ◌∙◌}
use mathlib.Core.Bool.{false}
use mathlib.Core.List.{List, [], ◌∷◌}
use Prim.Native.Nat.{ℕ, zero, suc, ◌+◌, ◌-◌, ◌<◌}
use native.Mathlib.Omega.{arith}
use borrow.Author.Tests.{eq-eqb, ne_eqb, le-ltb}
use lib.Dec.{eqb}
use lib.ListN.{length, take, drop}
use lib.Seq.{take_at}
use Rattle.std.specs.Prelude.{Option}
use Rattle.base_rules.specs.Answer.{granted, settled, answer_in, bytes_in}
use Rattle.base_rules.specs.Bytes.{splice, number_at, bytes_of}
use Rattle.base_rules.proofs.Logic.{either}
use Rattle.base_rules.proofs.Numbers.{number_back}
use Rattle.cut_rules.specs.declared.Address.{Address}
use Rattle.cut_rules.specs.declared.Settings.{Settings}
use Rattle.cut_rules.specs.Sizes.{h, f, s}
use Rattle.header_rules.specs.Claims.{Fitting}
use Rattle.header_rules.specs.Read.{bad_address}
use Rattle.sender_rules.specs.Calls.{fragment_fault, fragment_call, fragments_fault, fragments_call}
use Rattle.sender_rules.specs.Fragments.{payload_for, fragment_for, fragments_for}
use Rattle.sender_rules.proofs.Proved.{splits}
use Rattle.sender_rules.proofs.Splitting.{all_passed}
use Rattle.card_rules.specs.Calls.{address_of}
use Rattle.card_rules.specs.Claims.{InTwo, none, more}
use Rattle.card_rules.specs.Sending.{settings_of, twos}
use Rattle.card_rules.specs.Told.{refusal_in, in_widths, told_length, room_for, SentAs}
use Rattle.card_rules.proofs.Proved.{length_whole, split_whole}
use Rattle.card_rules.proofs.TellLaws.{had_room, told_room}
use Rattle.link.specs.Demand as link
use Rattle.link.proofs.Proved as proved
use Rattle.shipped.specs.Runs.{Call, call_of}
use Rattle.shipped.specs.Main.{Sending, settings, Cut, count, fragment_at, SentAll, SentOne, Matches, MatchHeard}

-- ---- numbers told in two bytes each

-- what stands where they are told
stands : ℕ → List ℕ → List ℕ → List ℕ
stands n told values = splice told 0 (in_widths (twos n) values)

one_back : (told : List ℕ) (a : ℕ) → InTwo (a ∷ []) → number_at 2 (stands 1 told (a ∷ [])) 0 ≡ a
unfolding stands splice in_widths bytes_of number_at
one_back told a (more p none) = number_back 2 a [] p

four_back : (told : List ℕ) (a b c d : ℕ) → InTwo (a ∷ b ∷ c ∷ d ∷ [])
    → (number_at 2 (stands 4 told (a ∷ b ∷ c ∷ d ∷ [])) 0 ≡ a) × (number_at 2 (stands 4 told (a ∷ b ∷ c ∷ d ∷ [])) 2 ≡ b)
    × (number_at 2 (stands 4 told (a ∷ b ∷ c ∷ d ∷ [])) 4 ≡ c) × (number_at 2 (stands 4 told (a ∷ b ∷ c ∷ d ∷ [])) 6 ≡ d)
unfolding stands splice in_widths bytes_of number_at
four_back told a b c d (more p (more q (more r (more t none)))) =
    (number_back 2 a [] p, number_back 2 b [] q, number_back 2 c [] r, number_back 2 d [] t)

-- ---- a call that gave 0

-- it had no fault; it granted its values and told them, and left what it had to write
record Done (n fault : ℕ) (values written before told told_afterwards after : List ℕ) : Type 0 where
  pub faultless : fault ≡ 0
  pub values_due : answer_in (settled fault values written before) ≡ granted values
  pub values_told : told_afterwards ≡ stands n told values
  pub out : after ≡ written

done : (n fault : ℕ) (values written before told told_afterwards after : List ℕ)
    → SentAs (twos n) (settled fault values written before) told told_afterwards before after 0 → Done n fault values written before told told_afterwards after
unfolding refusal_in answer_in bytes_in settled room_for stands
done n zero values written before told told_afterwards after said =
    let room = had_room (twos n) told values said.tells.number in
    record {
      faultless = refl;
      values_due = refl;
      values_told = said.tells.told ∙ told_room (twos n) values told room;
      out = rw (le-ltb (length told) (told_length (twos n)) room) at said.out;
    }
done n (suc fault) values written before told told_afterwards after said = absurd (omega (arith, said.tells.number))

-- ---- addresses

fitting : (addressed source dest : ℕ) → source < 65536 → dest < 65536 → Fitting (address_of addressed source dest)
unfolding Fitting address_of
fitting addressed source dest p q = either (eqb addressed 0) (λ e. rw e tt) (λ e. rw e (p, q))

-- no address is accepted whatever the call is handed,
none_accepted : (own : Option Address) (addressed source dest : ℕ) → addressed ≡ 0 → bad_address own (address_of addressed source dest) ≡ false
unfolding bad_address address_of
none_accepted own addressed source dest e = rw e

-- and one that it is handed
same-accepted : (addressed addressed' source dest : ℕ) → (addressed ≡ 0 → ⊥)
    → bad_address (address_of addressed source dest) (address_of addressed' source dest) ≡ false
unfolding bad_address address_of
same-accepted addressed addressed' source dest some =
    rw (ne_eqb addressed 0 some)
    (either (eqb addressed' 0) (λ e. rw e) (λ e. rw (e, eq-eqb source source refl, eq-eqb dest dest refl)))

matching : (c : Sending) (e : Call) → Matches c e → bad_address (call_of e).own (settings c).address ≡ false
unfolding settings_of
matching c e (inl without) = none_accepted (call_of e).own c.addressed c.source c.dest without
matching c e (inr same) = rw (same.1, same.2) (same-accepted e.addressed c.addressed c.source c.dest same.0)

-- ---- what the call left

module _ (c : Sending) (cut : Cut c) where
  abbrev g : Settings
  g = settings c

  abbrev l : ℕ
  l = length c.packet

  abbrev last : ℕ
  last = length (payload_for g c.packet (f g l - 1))

  -- what it tells: f, h, s and the last Plen
  abbrev figures : List ℕ
  figures = f g l ∷ h g ∷ s g l ∷ last ∷ []

  -- what it writes: all fragments, one behind the other
  abbrev written : List ℕ
  written = splice c.out 0 (fragments_for g c.number c.packet)

  due : Done 4 (fragments_fault g c.number c.packet (length c.out)) figures written c.out c.told c.told_afterwards c.out_afterwards
  unfolding fragments_call
  due = done 4 _ figures written c.out c.told c.told_afterwards c.out_afterwards cut.meets

  in_two : InTwo figures
  unfolding fragments_call
  in_two = split_whole g c.number c.packet c.out figures due.values_due

  figures_read : (number_at 2 c.told_afterwards 0 ≡ f g l) × (number_at 2 c.told_afterwards 2 ≡ h g)
      × (number_at 2 c.told_afterwards 4 ≡ s g l) × (number_at 2 c.told_afterwards 6 ≡ last)
  figures_read = rw due.values_told (four_back c.told (f g l) (h g) (s g l) last in_two)

  -- its packet is one that the sender takes
  pub takes : link.Takes g c.number c.packet
  unfolding settings_of
  takes = record {
    passed = all_passed g c.number c.packet _ due.faultless;
    bytes = cut.bytes;
    number = cut.number;
    address = fitting c.addressed c.source c.dest cut.source cut.dest;
  }

  -- as many fragments as it tells,
  pub count_is : count c ≡ link.count g c.packet
  count_is = figures_read.0

  -- and each is the one that is taken by what it tells
  pub fragment_is : (i : ℕ) → i < count c → fragment_at c i ≡ fragment_for g c.number c.packet i
  fragment_is i less =
      rw (figures_read.0, figures_read.1, figures_read.2, figures_read.3, due.out)
      (splits g c.number c.packet c.out due.faultless i (omega (arith, count_is)))

  -- bailhammer_fragment writes the same
  module _ (i : ℕ) (less : i < count c) (told told_afterwards out out_afterwards : List ℕ)
      (said : SentAs (twos 1) (fragment_call g c.number c.packet i out) told told_afterwards out out_afterwards 0) where
    abbrev fragment : List ℕ
    fragment = fragment_for g c.number c.packet i

    one_due : Done 1 (fragment_fault g c.number c.packet i (length out)) (length fragment ∷ []) (splice out 0 fragment) out told told_afterwards out_afterwards
    unfolding fragment_call
    one_due = done 1 _ (length fragment ∷ []) (splice out 0 fragment) out told told_afterwards out_afterwards said

    length_read : number_at 2 told_afterwards 0 ≡ length fragment
    unfolding fragment_call
    length_read =
        rw one_due.values_told
        (one_back told (length fragment) (length_whole g c.number c.packet i out (length fragment ∷ []) one_due.values_due))

    one_written : take (number_at 2 told_afterwards 0) out_afterwards ≡ fragment_at c i
    unfolding splice
    one_written =
        rw (length_read, one_due.out, fragment_is i less)
        (take_at fragment (drop (0 + length fragment) out) (length fragment) refl)

-- ---- the claims

-- all fragments of a packet are sent
pub sent_all : SentAll
sent_all c cut = (count_is c cut, fragment_is c cut)

-- one by one they are the same
pub sent_one : SentOne
sent_one c cut i less told told_afterwards out out_afterwards said = one_written c cut i less told told_afterwards out out_afterwards said

-- where addresses match they are heard
pub match_heard : MatchHeard
match_heard c cut i less e is m =
    proved.match_heard (settings c) c.number c.packet (takes c cut) (call_of e) i (omega (arith, count_is c cut)) (is ∙ fragment_is c cut i less)
    (matching c e m)
