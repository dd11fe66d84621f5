-- A receiver's own calls, the first fragment of a packet among them; and, where it keeps the promise, that they are those of a run, so that
-- demand 3 speaks of them. Assumes nothing.
use mathlib.Core.Logic.{◌⊎◌, inl, inr}
use mathlib.Core.Path.{◌≡◌, refl, sym, ap, ap₂, ◌∙◌}
use mathlib.Core.Bool.{Bool, true, false, not}
use mathlib.Core.List.{List, [], ◌∷◌}
use Prim.Native.Nat.{ℕ, ◌+◌, ◌*◌, ◌<◌}
use native.Mathlib.Omega.{arith}
use borrow.Author.Tests.{eq-eqb}
use lib.Dec.{eqb}
use lib.ListN.{length, get_or, take, drop, replicate, length-replicate}
use Rattle.std.specs.Prelude.{None}
use Rattle.base_rules.specs.Bounds.{place}
use Rattle.base_rules.specs.Bytes.{splice}
use Rattle.base_rules.specs.Tests.{bit}
use Rattle.base_rules.proofs.Logic.{clash}
use Rattle.code_rules.proofs.RowLaws.{zeros_at}
use Rattle.cut_rules.specs.declared.Settings.{Settings}
use Rattle.cut_rules.specs.Missing as missing
use Rattle.header_rules.specs.Read.{bad_address}
use Rattle.places_rules.specs.Places.{fresh_table, all_places}
use Rattle.receiver_rules.specs.Promise.{State}
use Rattle.sender_rules.specs.Fragments.{payload_for, fragment_for}
use Rattle.sender_rules.proofs.FragmentLengths.{f_some}
use Rattle.link.specs.Run.{Call, after, Made, Run, start, next, fresh_with, Reached, Holds, number_in, come, lost, All, Each}
use Rattle.link.specs.Demand.{Takes, count, key_for, Own, Scene, Among, Begins, enough_after, Handed, Said}
use Rattle.link.specs.Useless.{Receiver, Keeps, Serves, Served, none, more, Reaches, Always, Delivers, Episode}
use Rattle.link.proofs.Basic.{held_none}
use Rattle.link.proofs.Frame.{good_reached}
use Rattle.link.proofs.Heard.{Brings, Foreign, brings, brings_number, come_none, come_foreign, come_own, come_it}
use Rattle.link.proofs.Link.{absent, at_most_three}
use Rattle.link.proofs.Own.{offset}
use Rattle.link.proofs.Ring.{none_held}
use Rattle.link.proofs.Runs.{bytes-fragment}
use Rattle.link.proofs.Stage.{Stage, not_yet, open_at_lem, done_at, Gone, enough_none, foreign_step}
use Rattle.link.proofs.Until.{some_came, standing, until_displaced}
use Rattle.link.proofs.Whole.{lifted}
use Rattle.link.proofs.Witness.{plain_at, packet_with, room, room_long, whole}

-- ---- a call that brings the first fragment of a packet

-- a packet that may come next: the receiver has reached the state s, in which its number is not held
pub record Ready (R : Receiver) (g : Settings) (n : ℕ) (packet : List ℕ) (s : State) : Type 0 where
  pub takes : Takes g n packet
  pub reaches : Reaches R s
  pub free : Holds s (key_for g n) → ⊥

module _ {R : Receiver} {mtu n : ℕ} {packet : List ℕ} {s : State} (ready : Ready R (plain_at mtu) n packet s) where
  abbrev g : Settings
  g = plain_at mtu

  abbrev takes : Takes g n packet
  takes = ready.takes

  some : 0 < count g packet
  some = f_some g packet takes.passed

  -- the call, with full room
  unfoldable pub call : Call
  call = record { own = None; datagram = fragment_for g n packet 0; lent = room; left = R None s (fragment_for g n packet 0) room }

  pub serves : Serves R s call
  unfolding call
  serves = record { room = omega (arith, room_long); bytes = bytes-fragment g n packet takes 0 some; leaves = refl }

  -- what the receiver does in each of its own calls it does in this one
  pub does : (P : State → Call → Type 0) → Always R P → P s call
  does P always = always s ready.reaches call serves

  brought : Brings g n packet call 0
  unfolding call bad_address
  brought = brings g n packet takes call 0 some refl refl

  pub number_brought : number_in call ≡ key_for g n
  number_brought = brings_number g n packet call 0 brought

  came : come (key_for g n) (call ∷ []) 0 ≡ true
  came = come_it g n packet call [] 0 brought

  pub episode : Episode R g n packet [] call
  unfolding All Own call
  episode =
      record {
        takes = takes;
        first = s;
        reached = ready.reaches;
        free = ready.free;
        state = s;
        served = none;
        held = tt;
        serves = serves;
        own = ((λ heard is. (0, some, refl)), tt);
      }

  -- before it, it is not enough;
  pub not-before : enough_after g n packet [] ≡ false
  not-before = enough_none g n packet takes [] (come_none (key_for g n))

  -- with it, it is where the fragment is the only one,
  pub enough : count g packet ≡ 1 → enough_after g n packet (call ∷ []) ≡ true
  unfolding enough_after missing.losses missing.count
  enough one =
      ap (λ (f : ℕ). eqb (missing.losses (lost (key_for g n) (call ∷ [])) f) 0) one ∙ ap (λ (v : Bool). eqb (bit (not v) + 0) 0) came

  -- and it is not where the fragment is one of two
  pub not-enough : count g packet ≡ 2 → enough_after g n packet (call ∷ []) ≡ false
  unfolding enough_after missing.losses missing.count come
  not-enough two =
      ap (λ (f : ℕ). eqb (missing.losses (lost (key_for g n) (call ∷ [])) f) 0) two
      ∙ ap₂ (λ (u v : Bool). eqb (bit (not u) + (bit (not v) + 0)) 0) came
      (ap (λ (c : ℕ → Bool). c 1) (come_own g n packet call [] 0 brought))

-- ---- a fresh state

pub lent : List ℕ
lent = replicate all_places 0

abbrev pub fresh : State
fresh = fresh_with lent

lent_long : length lent ≡ all_places
unfolding lent
lent_long = length-replicate {A = ℕ} all_places 0

pub lent-zero : (i : ℕ) → get_or lent i 0 ≡ 0
unfolding lent
lent-zero i = zeros_at all_places i

pub fresh_free : (n : ℕ) → Holds fresh n → ⊥
fresh_free n h = omega (arith, h, held_none fresh_table n (λ i l. none_held i n l))

-- a packet may come to a fresh table;
pub at_first : {R : Receiver} {g : Settings} {n : ℕ} {packet : List ℕ} → Takes g n packet → Ready R g n packet fresh
at_first {g} {n} takes =
    record { takes = takes; reaches = record { lent = lent; all = lent_long; calls = []; run = none }; free = fresh_free (key_for g n) }

-- packet b under the number n, in one fragment
pub first : {R : Receiver} (b : ℕ) → b < 256 → (n : ℕ) → n < 65536 → Ready R (plain_at 1400) n (packet_with b) fresh
first b byte n small = at_first (whole b byte n small)

-- ---- a receiver that keeps the promise: its own calls are those of a run

module _ {R : Receiver} (keeps : Keeps R) where
  made_by : {s : State} {e : Call} → Serves R s e → Made s e
  made_by {s} {e} c =
      record { room = c.room; bytes = c.bytes; meets = rw c.leaves (keeps.meets e.own s e.datagram e.lent c.bytes) }

  run_by : {s u : State} {es : List Call} → Served R s es u → Run s es u
  run_by none = start
  run_by (more e run c) = next e (run_by run) (made_by c)

  reached_by : {s : State} → Reaches R s → Reached s
  reached_by c = record { lent = c.lent; all = c.all; calls = c.calls; run = run_by c.run }

  module _ {g : Settings} {n : ℕ} {packet : List ℕ} {earlier : List Call} {e : Call} (c : Episode R g n packet earlier e) where
    scene_by : Scene g n packet c.first (e ∷ earlier) (after e)
    scene_by =
        record {
          takes = c.takes;
          reached = reached_by c.reached;
          free = c.free;
          run = next e (run_by c.served) (made_by c.serves);
          own = c.own;
        }

    -- what demand 3 says of the last call of an episode
    pub said_by_lem : Said g n packet earlier e
    unfolding Each
    said_by_lem = (lifted g n packet c.first (e ∷ earlier) (after e) scene_by).0 c.held

  -- ---- and what it does with the first fragment

  module _ {mtu n : ℕ} {packet : List ℕ} {s : State} (ready : Ready R (plain_at mtu) n packet s) where
    abbrev h : Settings
    h = plain_at mtu

    abbrev e : Call
    e = call ready

    -- the number is held then, as T1 says;
    pub held : Holds (after e) (key_for h n)
    unfolding All Begins Among episode
    held =
        (at_most_three until_displaced h n packet s (e ∷ []) (after e) (scene_by (episode ready))
        (eq-eqb _ _ (brought ready).passes, number_brought ready)
        [] (omega arith) ((λ heard other. absurd (other (number_brought ready))), tt)).0.0

    -- another packet, whose number was not held, may come next;
    pub another : {k : ℕ} {packet' : List ℕ} → Ready R h k packet' s → (key_for h k ≡ key_for h n → ⊥) → Ready R h k packet' (after e)
    another {k} {packet'} ready' other =
        record {
          takes = ready'.takes;
          reaches =
              record {
                lent = ready.reaches.lent;
                all = ready.reaches.all;
                calls = e ∷ ready.reaches.calls;
                run = more e ready.reaches.run (serves ready);
              };
          free = λ z. go z (foreign_step h k packet' ready'.takes [] s e foreign (good_reached (reached_by ready.reaches)) (made_by (serves ready))
              (not_yet (absent s (key_for h k) ready'.free) (come_none (key_for h k))));
        }
      where
        foreign : Foreign (key_for h k) e
        foreign passes is = other (sym is ∙ number_brought ready)

        go : Holds (after e) (key_for h k) → Stage h k packet' (e ∷ []) (after e) ⊎ Gone h k packet' [] e → ⊥
        go z (inl st) = some_came h k packet' ready'.takes (e ∷ []) (after e) st z (come_foreign (key_for h k) e [] foreign ∙ come_none (key_for h k))
        go z (inr x) = x.gone z

    -- where it is the only one, demand 3 has the packet handed out;
    handed : count h packet ≡ 1 → Handed h n packet [] e
    handed one = (said_by_lem (episode ready)).handed (not-before ready) (enough ready one)

    pub delivers : count h packet ≡ 1 → Delivers e
    delivers one = (length packet, _, (handed one).displaced, (handed one).told)

    pub written : count h packet ≡ 1 → e.left.out ≡ splice room 0 packet
    unfolding call
    written one = (handed one).written

    -- where it is one of two, it stands in the lent bytes
    pub stands : count h packet ≡ 2 → (a : ℕ) × (take (length (payload_for h packet 0)) (drop a e.left.bytes) ≡ payload_for h packet 0)
    unfolding All episode
    stands two =
        let scene = scene_by (episode ready) in
        go (standing h n packet ready.takes s scene.reached scene.free scene.run scene.own (held, tt))
      where
        go : Stage h n packet (e ∷ []) (after e) → (a : ℕ) × (take (length (payload_for h packet 0)) (drop a e.left.bytes) ≡ payload_for h packet 0)
        go (not_yet away c) = absurd (omega (arith, away, held))
        go (open_at_lem i o z) = (i * place + offset h packet 0, o.full.bytes 0 (brought ready).below (came ready))
        go (done_at i o z) = clash z (not-enough ready two)
