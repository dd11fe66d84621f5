-- The steps behind demand 3: what the next call is answered (T2, and T1 with the limit of three), and what follows of it for a sender set for
-- m losses and for the next packet under the number. The proofs are cited in proofs/Proved.antt.
use Rattle.std.specs.Prelude.{◌≡◌, true, false, List, ◌∷◌, ◌++◌, ℕ, ◌≤◌, ◌<◌, length, Option, Some, None, Ok, Err}
use Rattle.base_rules.specs.declared.Refusal.TheVariants as refusal
use Rattle.cut_rules.specs.declared.Settings.{Settings}
use Rattle.cut_rules.specs.Missing.{losses}
use Rattle.cut_rules.specs.Sizes as cut
use Rattle.header_rules.specs.Read.{bad_address}
use Rattle.sender_rules.specs.Fragments.{fragment_for}
use Rattle.receiver_rules.specs.declared.Received.TheVariants.{Kept}
use Rattle.receiver_rules.specs.Promise.{number_of, State}
use Rattle.link.specs.Run.{Call, after, Made, Run, Holds, ShownOpen, number_in, come, lost, All}
use Rattle.link.specs.Demand.{Takes, count, key_for, Own, Scene, Among, Begins, enough_after, HandsOut, Handed, Names, HeldAfter}

-- ---- the next call

-- no false alarm: only the first fragment of its number to come displaces another packet; once one came, the later ones name nobody
abbrev pub FirstOnly : ℕ → List Call → Option ℕ → Type 0
FirstOnly key es d = (j : ℕ) → come key es j ≡ true → d ≡ None

-- the answer to its fragment i in the call e, after the calls es: these four are all cases
pub record Answered (g : Settings) (n : ℕ) (packet : List ℕ) (es : List Call) (e : Call) (i : ℕ) : Type 0 where
  -- a new fragment, not enough yet: kept, and out is untouched
  pub kept : come (key_for g n) es i ≡ false → enough_after g n packet (e ∷ es) ≡ false
      → ((d : Option ℕ) × (e.left.answer ≡ number_of (Ok (Kept d))) × FirstOnly (key_for g n) es d) × (e.left.out ≡ e.lent)
  -- a repeat before it is enough: 12
  pub again : come (key_for g n) es i ≡ true → enough_after g n packet es ≡ false
      → (e.left.answer ≡ number_of (Err refusal.Repeat)) × (e.left.out ≡ e.lent)
  -- the first after which it is enough: handed out byte for byte
  pub delivered : enough_after g n packet es ≡ false → enough_after g n packet (e ∷ es) ≡ true
      → (h : Handed g n packet es e) × FirstOnly (key_for g n) es h.displaced
  -- "not again while its number is held": 11
  pub late : enough_after g n packet es ≡ true → (e.left.answer ≡ number_of (Err refusal.Late)) × (e.left.out ≡ e.lent)

-- the call e, after which the number is no longer held: "the answer that displaces it while open names it", and names none where it was done
pub record DisplacedBy (g : Settings) (n : ℕ) (packet : List ℕ) (es : List Call) (e : Call) : Type 0 where
  pub named : enough_after g n packet es ≡ false → Names (Some (key_for g n)) e.left.answer
  pub silent : enough_after g n packet es ≡ true → Names None e.left.answer

-- what is promised after the calls es, each of which left the number held
pub record Promised (g : Settings) (n : ℕ) (packet : List ℕ) (es : List Call) (now : State) : Type 0 where
  -- "From its first fragment until then .. the number shows as open", after every call, whatever its datagram
  pub shown : 0 < length es → enough_after g n packet es ≡ false → ShownOpen now (key_for g n)
  -- the next call, where it brings any of its fragments and "addresses match"
  pub answered : (e : Call) → Made now e → (i : ℕ) → i < count g packet → e.datagram ≡ fragment_for g n packet i
      → bad_address e.own g.address ≡ false → Answered g n packet es e i
  -- whatever the next call brings, it hands out something of this number only where it is enough with it and was not before
  pub once : (e : Call) → Made now e → Own g n packet e → (length missing : ℕ) (d : Option ℕ)
      → HandsOut e length missing d → number_in e ≡ key_for g n
      → (enough_after g n packet es ≡ false) × (enough_after g n packet (e ∷ es) ≡ true)
  -- the next call, after which it is no longer held
  pub displaced : (e : Call) → Made now e → Own g n packet e → 0 < length es → (Holds (after e) (key_for g n) → ⊥) → DisplacedBy g n packet es e

-- "it is handed out byte for byte at the first fragment after which" it is enough: that call is among these
pub record HandedOut (g : Settings) (n : ℕ) (packet : List ℕ) (es : List Call) : Type 0 where
  pub later : List Call
  pub call : Call
  pub earlier : List Call
  pub split : es ≡ later ++ (call ∷ earlier)
  pub before : enough_after g n packet earlier ≡ false
  pub enough_now : enough_after g n packet (call ∷ earlier) ≡ true
  pub handed : Handed g n packet earlier call

-- ---- over the calls es, which are any run

-- T1: with at most three other numbers it stays held, all this is promised, and it is handed out as soon as it is enough
abbrev pub T1 : Type 0
T1 =
    (g : Settings) (n : ℕ) (packet : List ℕ) (first : State) (es : List Call) (now : State)
    → Scene g n packet first es now
    → Begins (key_for g n) es → (others : List ℕ) → length others ≤ 3 → All (Among (key_for g n) others) es
    → HeldAfter g n es
    × Promised g n packet es now
    × (enough_after g n packet es ≡ true → HandedOut g n packet es)

-- T2: "Lift the limit of three, and all this holds until it is displaced"
abbrev pub T2 : Type 0
T2 =
    (g : Settings) (n : ℕ) (packet : List ℕ) (first : State) (es : List Call) (now : State)
    → Scene g n packet first es now → HeldAfter g n es
    → Promised g n packet es now × (enough_after g n packet es ≡ true → HandedOut g n packet es)

-- T3 with T1: such a packet is handed out where no more of its fragments are lost than its plan assures
abbrev pub T3b : Type 0
T3b =
    (g : Settings) (n : ℕ) (packet : List ℕ) (first : State) (es : List Call) (now : State)
    → Scene g n packet first es now
    → Begins (key_for g n) es → (others : List ℕ) → length others ≤ 3
    → All (Among (key_for g n) others) es → losses (lost (key_for g n) es) (count g packet) ≤ cut.assured g (length packet)
    → HandedOut g n packet es

-- "no earlier packet of its number is still held": once a packet was displaced, all this holds of the next one under its number too
abbrev pub Again : Type 0
Again =
    (g g' : Settings) (n : ℕ) (packet packet' : List ℕ) (first now now' : State) (es es' : List Call)
    → Scene g n packet first es now → (Holds now (key_for g' n) → ⊥)
    → Takes g' n packet' → Run now es' now' → All (Own g' n packet') es'
    → Scene g' n packet' now es' now'
