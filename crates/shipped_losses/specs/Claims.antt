-- ITEM 12 OF THE LIBRARY THAT IS SHIPPED: what bailhammer_endure tells of a packet that bailhammer_fragments wrote, held against when it is
-- enough for bailhammer_receive to hand the packet out (`enough_after`, shipped/specs/Main.antt). Each is proved in proofs/Proved.antt.
use Rattle.std.specs.Prelude.{◌≡◌, Bool, true, false, List, map, ℕ, ◌+◌, ◌≤◌, ◌<◌, eqb, length, get_or}
use Rattle.base_rules.specs.Bounds.{most_f}
use Rattle.base_rules.specs.Bytes.{number_at}
use Rattle.cut_rules.specs.Missing.{losses, firsts}
use Rattle.cut_rules.specs.Sizes.{assured}
use Rattle.card_rules.specs.Endurance.{endure_for, endure_widths}
use Rattle.card_rules.specs.Sending.{settings_of}
use Rattle.card_rules.specs.Told.{CardTold}
use Rattle.link.specs.Run.{lost}
use Rattle.shipped.specs.Main.{Sending, settings, Cut, count, key, enough_after, missing_after}
use Rattle.shipped.specs.Runs.{Call, call_of}

-- card.h, bailhammer_endure: "Tells 260 bytes", 4 and one for each of 256 fragments
abbrev pub endure_bytes : ℕ
endure_bytes = 4 + most_f

-- a call of bailhammer_endure with the numbers of the call that wrote the packet, and room for what it tells: what it left, and the number it gave
pub record Asked (c : Sending) (told : List ℕ) (given : ℕ) : Type 0 where
  pub before : List ℕ
  pub room : endure_bytes ≤ length before
  pub meets : CardTold endure_widths (endure_for (settings_of c.fec c.m c.newer c.mtu c.addressed 0 0) (length c.packet)) before told given

-- card.h, "w (2)": the losses that it tells
abbrev pub stood : List ℕ → ℕ
stood told = number_at 2 told 0

-- "and 256 bytes, one for each index of a fragment from 0 on, 1 where it is in the set told"
abbrev pub in_set : List ℕ → ℕ → Bool
in_set told i = eqb (get_or told (4 + i) 0) 1

-- the call gives 0 and tells as f what bailhammer_fragments told; w is below it, and no less than the plan assures; the set has w + 1 fragments:
-- card.h, "the first ones, 0 to w, which is below f"
pub record Tells (c : Sending) (told : List ℕ) (given : ℕ) : Type 0 where
  pub done : given ≡ 0
  pub fragments : number_at 2 told 2 ≡ count c
  pub below : stood told < count c
  pub assures : assured (settings c) (length c.packet) ≤ stood told
  pub one_more : losses (in_set told) (count c) ≡ stood told + 1
  pub first_ones : (i : ℕ) → i < most_f → in_set told i ≡ firsts (stood told + 1) i

-- so it is of every packet that was written
abbrev pub EndureTells : Type 0
EndureTells = (c : Sending) → Cut c → (told : List ℕ) (given : ℕ) → Asked c told given → Tells c told given

-- "any w lost fragments": where as many have not come, whichever they are, it is enough, with FEC and without
abbrev pub Survives : Type 0
Survives =
    (c : Sending) → Cut c → (told : List ℕ) (given : ℕ) → Asked c told given
    → (es : List Call) → missing_after c es ≤ stood told → enough_after c es ≡ true

-- "and one set of w + 1 fragments whose loss does not": until one of that set comes, it is not enough, whatever else has come
abbrev pub SurvivesNot : Type 0
SurvivesNot =
    (c : Sending) → Cut c → (told : List ℕ) (given : ℕ) → Asked c told given
    → (es : List Call) → ((i : ℕ) → i < count c → in_set told i ≡ true → lost (key c) (map call_of es) i ≡ true) → enough_after c es ≡ false
