-- The examples of specs/Examples.antt: what demand 3 supposes holds of these runs, by tests that are computed over their lines. Assumes nothing.
use mathlib.Core.Path.{◌≡◌, refl, ◌∙◌, subst}
use mathlib.Core.Bool.{true, false}
use mathlib.Core.List.{List, [], ◌∷◌, ◌++◌, map, reverse, tail}
use Prim.Native.Nat.{ℕ, zero, suc, ◌≤◌, ◌<◌}
use lib.Dec.{lit<, lit≤}
use lib.ListN.{length, take, drop}
use Rattle.places_rules.specs.Places.{all_places}
use Rattle.base_rules.specs.Bytes.{number_at}
use Rattle.base_rules.specs.Tests.{among, first}
use Rattle.base_rules.specs.Refusal.{refusal_of}
use Rattle.base_rules.proofs.Logic.{clash}
use Rattle.cut_rules.specs.declared.Settings.{Settings}
use Rattle.cut_rules.specs.Missing as missing
use Rattle.cut_rules.specs.Sizes as cut
use Rattle.header_rules.specs.Read as read
use Rattle.receiver_rules.specs.Promise.{State}
use Rattle.link.specs.Run.{Call, after, Run, start, next, fresh_with, Holds, ShownOpen, All, Each}
use Rattle.link.specs.Demand.{Takes, key_for, Scene, enough_after, HeldAfter, Said, Demanded}
use Rattle.link.specs.Examples.{settings_of, packet_under, number, packet, two_losses, Line, Answers, Beside, none, one_more, Played, Done, Gone}
use Rattle.link.specs.Examples.{opening, three_others, HandedOutOnce, ThreeOthers, four_others, DisplacedLast, FourOthers}
use Rattle.link.proofs.Whole.{demand_3, lifted, not-before}
use Rattle.link.proofs.Turns.{lately, turn, stands_held}
use Rattle.link.proofs.Packets as packets
use Rattle.link.proofs.Brings as brings
use Rattle.link.proofs.Arrivals.{beside_take, beside_drop, Kinds, all_possible, kinds, playable, came, missed, enough_in, enough_told}
use Rattle.link.proofs.Arrivals.{begins_with, begins, limited, limit}
use Rattle.link.proofs.Threads.{turns, since, free_before, some_since, stand, free_now, scene_since, held_since}
use Rattle.link.proofs.Answered.{displaced_in, displaced_by, settles, answer_of, answer_to, answers_to, turns_out, all_turn_out, answers_run}

-- ---- what demand 3 says of a run

each-drop : (P : List Call → Call → Type 0) (k : ℕ) (es : List Call) → Each P es → Each P (drop k es)
unfolding Each
each-drop P zero es p = p
each-drop P (suc k) [] p = tt
each-drop P (suc k) (e ∷ es) p = each-drop P k es p.1

module _ (g : Settings) (n : ℕ) (packet : List ℕ) (takes : Takes g n packet) where
  -- as long as it is held and not enough, it shows as open
  all_shown : (es : List Call) → Each (λ earlier e. HeldAfter g n earlier → Said g n packet earlier e) es → HeldAfter g n es
      → enough_after g n packet es ≡ false → All (λ e. ShownOpen (after e) (key_for g n)) es
  unfolding Each All
  all_shown [] s held f = tt
  all_shown (e ∷ es) s held f = (
    (s.0 held.1).shown held.0 f,
    all_shown es s.1 held.1 (not-before g n packet takes e es f),
  )

-- what is tested of the lines from the first fragment of n on, the last one first
record Suits (n : ℕ) (others : List ℕ) (later : ℕ) (ls : List Line) : Type 0 where
  pub starts : begins_with n ls ≡ true
  pub limits : limited n others ls ≡ true
  pub before : enough_in n (tail (drop later ls)) ≡ false
  pub enough_now : enough_in n (drop later ls) ≡ true

module _ (n : ℕ) (small : n < 65536) (others : List ℕ) (few : length others ≤ 3) (later : ℕ) {ls : List Line} (suits : Suits n others later ls)
    {es : List Call} {first now : State} (ks : Kinds ls es) (scene : Scene (settings_of n) n (packet_under n) first es now) where
  abbrev g : Settings
  g = settings_of n

  abbrev p : List ℕ
  p = packet_under n

  demanded : Each (Demanded g n p) es
  demanded =
      demand_3 g n p first es now scene (begins n ks suits.starts) others few (limit n small others ks suits.limits)

  done_with : {ys : List Line} {ds : List Call} → Kinds ys ds → drop later es ≡ ds → enough_in n (tail ys) ≡ false → enough_in n ys ≡ true
      → Each (Demanded g n p) ds → Each (λ earlier e. HeldAfter g n earlier → Said g n p earlier e) ds → Done g n p others later first es now
  unfolding Each All
  done_with none is f t d s = clash t f
  done_with (one_more {e = e} {es = ds} k b) is f t d s =
      let before : enough_after g n p ds ≡ false = enough_told n b small ∙ f in
      let enough_now : enough_after g n p (e ∷ ds) ≡ true = enough_told n (one_more k b) small ∙ t in
      let said = d.0.until_done before in
      record {
        scene = scene;
        begins = begins n ks suits.starts;
        limit = limit n small others ks suits.limits;
        demanded = demanded;
        call = e;
        earlier = ds;
        split = is;
        before = before;
        enough_now = enough_now;
        shown = all_shown g n p scene.takes ds s.1 said.0.1 before;
        handed = said.1.handed before enough_now;
      }

  -- so demand 3 is what the record says
  done : Done g n p others later first es now
  done =
      done_with (beside_drop later ks) refl suits.before suits.enough_now (each-drop _ later es demanded)
      (each-drop _ later es (lifted g n p first es now scene))

module _ (n : ℕ) (small : n < 65536) {lent : List ℕ} (all : length lent ≡ all_places) where
  -- a packet that is held, and not enough, until the last call displaces it
  gone : {ls : List Line} {es : List Call} {now : State} → Run (fresh_with lent) es now → Kinds ls es → lately n (turns (tail ls)) ≡ true
      → enough_in n (take (since n (tail ls)) (tail ls)) ≡ false → lately n (turns ls) ≡ false
      → (first : State) × Gone (settings_of n) n (packet_under n) first (take (suc (since n (tail ls))) es) now
  unfolding Each All
  gone start none held f t = clash held t
  gone (next {es = es} e run made) (one_more {l = l} {ls = ls} k b) held f t =
      let j : ℕ = since n ls in
      let x = scene_since all n small (suc j) (next e run made) (one_more {l = l} k b) (free_before n ls) in
      let scene = x.2 in
      let before : enough_after (settings_of n) n (packet_under n) (take j es) ≡ false = enough_told n (beside_take j b) small ∙ f in
      let lost_now : Holds (after e) (key_for (settings_of n) n) → ⊥ = free_now all n (next e run made) (one_more {l = l} k b) t in
      let said = lifted (settings_of n) n (packet_under n) x.0 (e ∷ take j es) (after e) scene in
      let until : HeldAfter (settings_of n) n (take j es) = held_since all n run b in (
        x.0,
        record {
          scene = scene;
          last = e;
          earlier = take j es;
          split = refl;
          held = until;
          before = before;
          gone = lost_now;
          shown = all_shown (settings_of n) n (packet_under n) scene.takes (take j es) said.1 until before;
          said = said.0 until;
          named = (said.0 until).named (some_since n b held) lost_now before;
        },
      )

  -- it is held after each call since its first fragment, but for the last j
  held_until : (j : ℕ) {ls : List Line} {es : List Call} {now : State} → Run (fresh_with lent) es now → Kinds ls es
      → HeldAfter (settings_of n) n (take (since n (drop j ls)) (drop j es))
  unfolding All since
  held_until zero run k = held_since all n run k
  held_until (suc j) start none = tt
  held_until (suc j) (next e run made) (one_more k b) = held_until j run b

-- ---- the tests that are computed over the lines

-- of all lines, the last one first: each is possible, displaces none or the oldest, and has the answer that the lines tell
record Plays (ls : List Line) : Type 0 where
  pub can_come : all_possible ls ≡ true
  pub in_turn : all_turn_out ls ≡ true
  pub answered : answers_to ls ≡ map (λ (l : Line). l.1) ls

module _ {lines : List Line} (plays : Plays (reverse lines)) (r : Played lines) where
  kinds_of : Kinds (reverse lines) r.es
  kinds_of = kinds plays.can_come r.comes

  answers_of : Beside Answers (reverse lines) r.es
  answers_of = answers_run r.all r.run kinds_of plays.in_turn plays.answered

-- the lines of both runs
abbrev three_lines : List Line
three_lines = reverse (opening ++ three_others)

abbrev four_lines : List Line
four_lines = reverse (opening ++ four_others)

-- what is tested of both
record Tests : Type 0 where
  pub three : Plays three_lines
  pub new_5 : lately 5 (turns (drop 23 three_lines)) ≡ false
  pub old_101 : lately 101 (turns (drop 23 three_lines)) ≡ true
  pub old_102 : lately 102 (turns (drop 23 three_lines)) ≡ true
  pub old_103 : lately 103 (turns (drop 23 three_lines)) ≡ true
  pub old_104 : lately 104 (turns (drop 23 three_lines)) ≡ true
  pub its : Suits 5 (1 ∷ 2 ∷ 3 ∷ []) 2 (take 23 three_lines)
  pub held_5 : since 5 (drop 1 three_lines) ≡ 22
  pub gone_5 : lately 5 (turns three_lines) ≡ false
  pub new_1 : lately 1 (turns (drop 21 three_lines)) ≡ false
  pub one : Suits 1 (5 ∷ 2 ∷ 3 ∷ []) 9 (take 21 three_lines)
  pub four : Plays four_lines
  pub since_5 : since 5 (tail four_lines) ≡ 4
  pub held_four : lately 5 (turns (tail four_lines)) ≡ true
  pub before_four : enough_in 5 (take (since 5 (tail four_lines)) (tail four_lines)) ≡ false
  pub gone_four : lately 5 (turns four_lines) ≡ false

tests : Tests
unfolding three_others four_others opening displaced_in displaced_by settles answer_of answer_to answers_to turns_out all_turn_out turns since turn came
    missed enough_in begins_with limited all_possible missing.losses missing.count among packets.size_under packets.count_under packets.bearable
    brings.possible brings.small brings.fault_at brings.number_at brings.index_at settings_of refusal_of first number_at read.fault_of read.is_short read.not_sync
    read.bad_address read.body_length read.length_of read.address_at read.address_of read.has_fec read.has_address read.flags_at cut.address_bytes
tests =
    record {
      three = record { can_come = refl; in_turn = refl; answered = refl };
      new_5 = refl;
      old_101 = refl;
      old_102 = refl;
      old_103 = refl;
      old_104 = refl;
      its = record { starts = refl; limits = refl; before = refl; enough_now = refl };
      held_5 = refl;
      gone_5 = refl;
      new_1 = refl;
      one = record { starts = refl; limits = refl; before = refl; enough_now = refl };
      four = record { can_come = refl; in_turn = refl; answered = refl };
      since_5 = refl;
      held_four = refl;
      before_four = refl;
      gone_four = refl;
    }

-- ---- three other numbers

hands_out_lem : (r : Played (opening ++ three_others)) → HandedOutOnce r.es r.now
unfolding settings_of packet_under
hands_out_lem r =
    let ks : Kinds three_lines r.es = kinds_of tests.three r in
    let its = scene_since r.all 5 (lit< tt) 23 r.run ks tests.new_5 in
    let one = scene_since r.all 1 (lit< tt) 21 r.run ks tests.new_1 in
    let old = stand r.all its.1 (beside_drop 23 ks) in
    record {
      answers = answers_of tests.three r;
      first = its.0;
      olds = (
        stands_held old 101 tests.old_101,
        stands_held old 102 tests.old_102,
        stands_held old 103 tests.old_103,
        stands_held old 104 tests.old_104,
      );
      its = done 5 (lit< tt) (1 ∷ 2 ∷ 3 ∷ []) (lit≤ tt) 2 tests.its (beside_take 23 ks) its.2;
      held = subst (λ (j : ℕ). HeldAfter two_losses number (take j (drop 1 r.es))) tests.held_5 (held_until 5 (lit< tt) r.all 1 r.run ks);
      gone = free_now r.all 5 r.run ks tests.gone_5;
      then = one.0;
      one = done 1 (lit< tt) (5 ∷ 2 ∷ 3 ∷ []) (lit≤ tt) 9 tests.one (beside_take 21 ks) one.2;
    }

-- there are such runs, and in each of them the packet is handed out once
pub handed_out_once : ThreeOthers
handed_out_once = record { some = playable (opening ++ three_others) tests.three.can_come; every = hands_out_lem }

-- ---- a fourth displaces it

displaces : (r : Played (opening ++ four_others)) → DisplacedLast r.es r.now
unfolding settings_of packet_under
displaces r =
    let ks : Kinds four_lines r.es = kinds_of tests.four r in
    let x = subst (λ (j : ℕ). (first : State) × Gone two_losses number packet first (take (suc j) r.es) r.now) tests.since_5
    (gone 5 (lit< tt) r.all r.run ks tests.held_four tests.before_four tests.gone_four) in
    record { answers = answers_of tests.four r; first = x.0; its = x.1 }

-- there are such runs, and in each of them the last call displaces it and names it
pub displaced-last : FourOthers
displaced-last = record { some = playable (opening ++ four_others) tests.four.can_come; every = displaces }
