-- What document 01 says of the two walks together and of the items that they come to, and that an answer tells what was handed out, as claims:
-- the proofs are in proofs/Proved.antt.
use Rattle.std.specs.Prelude.{true, false, cond, List, [], ◌∷◌, ◌≡◌, ℕ, zero, suc, ◌+◌, ◌≤◌, ◌<◌, eqb, length, take, drop, replicate}
use Rattle.base_rules.specs.Tests.{among}
use Rattle.std.specs.Prelude.{Result, Ok, Err}
use Rattle.item_rules.specs.declared.Item.{Item}
use Rattle.item_rules.specs.declared.Repeats.{Repeats}
use Rattle.item_rules.specs.declared.Repeats.TheVariants.{Forbidden, Allowed}
use Rattle.item_rules.specs.Item.{head}
use Rattle.item_rules.specs.Run.{Run, item, padding, refused, next_of, run_of, faults_of}
use Rattle.item_rules.specs.Claims.{StartsIn}
use Rattle.walk_rules.specs.declared.Visit.{Visit}
use Rattle.walk_rules.specs.declared.Handed.{Handed}
use Rattle.walk_rules.specs.declared.Handed.TheVariants as handed
use Rattle.walk_rules.specs.declared.Walker.{Walker}
use Rattle.walk_rules.specs.Names.{deepest, names_of}
use Rattle.walk_rules.specs.Walk.{Tour, visit, ends, stops, unless, and_then, walk_fault, tour_at, refusal, walk_of}
use Rattle.walk_rules.specs.Step.{handed_number, opens, walk_step}

-- what n steps from w hand out
unfoldable pub hands_out : ℕ → List ℕ → List ℕ → Walker → List (Result Handed ℕ)
hands_out zero s l w = []
hands_out (suc n) s l w = (walk_step s l w).handed ∷ hands_out n s l (walk_step s l w).next

-- a walk's items in order, each with its depth, and then n times how it ends
unfoldable pub told : ℕ → Tour → List (Result Handed ℕ)
told n (visit d i t) = Ok (handed.Item (record { depth = d; item = i })) ∷ told n t
told n (ends p) = replicate n (Ok (handed.End (record { 0 = p })))
told n (stops r) = []

-- what n steps have to hand out: the refusal again and again; or the items, then END with the outer padding, and it stays there
unfoldable pub due : ℕ → Tour → List (Result Handed ℕ)
due n t = cond (eqb (refusal t) 0) (take n (told n t)) (replicate n (Err (refusal t)))

-- document 01: from the call that opens it, the step walk hands out exactly the items of the recursive walk in order
abbrev pub InOrder : Type 0
InOrder = (word : Repeats) (s l : List ℕ) (n : ℕ) → hands_out n s l (opens word s l) ≡ due n (walk_of word s l)

-- no second answer fits: document 01's number and values tell what was handed out
abbrev pub OneHanded : Type 0
OneHanded = (a b : Result Handed ℕ) → handed_number a ≡ handed_number b → a ≡ b

-- ---- what is handed out lies in the packet

-- an item at depth d; document 02, Item 11, "Nested walks give the start within the outermost packet": it is the one that the bytes of s, the
-- packet walked through, spell from its start on, and its head and value are bytes of s
pub record Within (s : List ℕ) (d : ℕ) (i : Item) : Type 0 where
  pub starts : StartsIn s i
  pub shallow : d ≤ deepest

-- each item of a walk is so
pub data Visits (P : ℕ → Item → Type 0) : Tour → Type 0 where
  more : {d : ℕ} {i : Item} {t : Tour} → P d i → Visits P t → Visits P (visit d i t)
  end : {p : ℕ} → Visits P (ends p)
  stop : {n : ℕ} → Visits P (stops n)

-- document 01, "a value is shown as a part of the caller's bytes": each item that a walk comes to, refused later or not, lies in the packet,
abbrev pub WalkInside : Type 0
WalkInside = (word : Repeats) (s l : List ℕ) → Visits (Within s) (walk_of word s l)

-- and each that a step hands out, whatever the walker is
abbrev pub StepInside : Type 0
StepInside = (s l : List ℕ) (w : Walker) (v : Visit) → (walk_step s l w).handed ≡ Ok (handed.Item v) → Within s v.depth v.item

-- ---- no names

-- the items of a run at depth 0, one after another, and how it ends
unfoldable pub outer_of : Run → Tour
outer_of (item i r) = visit 0 i (outer_of r)
outer_of (padding p) = ends p
outer_of (refused n) = stops n

-- document 01, "A packet is a run of items": with no container names a walk is refused as a reader's check is, and is else the packet's run
pub record Plain (word : Repeats) (s : List ℕ) : Type 0 where
  pub number : refusal (walk_of word s []) ≡ faults_of word [] (run_of s 0 (length s))
  pub items : faults_of word [] (run_of s 0 (length s)) ≡ 0 → walk_of word s [] ≡ outer_of (run_of s 0 (length s))

-- so it is of every packet
abbrev pub NoNames : Type 0
NoNames = (word : Repeats) (s : List ℕ) → Plain word s

-- ---- "a container's value is again a packet"

-- an item that stands k bytes further on
abbrev pub moved_item : ℕ → Item → Item
moved_item k i = record { name = i.name; bits = i.bits; from = k + i.from; len = i.len; start = k + i.start; unused = i.unused }

-- a run with each item's place so
unfoldable pub moved_run : ℕ → Run → Run
moved_run k (item i r) = item (moved_item k i) (moved_run k r)
moved_run k (padding p) = padding p
moved_run k (refused n) = refused n

-- and a walk so
unfoldable pub moved_tour : ℕ → Tour → Tour
moved_tour k (visit d i t) = visit d (moved_item k i) (moved_tour k t)
moved_tour k (ends p) = ends p
moved_tour k (stops n) = stops n

-- document 01: the items inside a container are those of its value read as a packet of its own, each with its place moved by the value's,
abbrev pub ValueAsPacket : Type 0
ValueAsPacket = (s : List ℕ) (i : Item) → next_of i ≤ length s
    → (let v = take i.len.0 (drop i.from s) in run_of s i.from (next_of i) ≡ moved_run i.from (run_of v 0 (length v)))

-- and so it is of all that the containers among them hold: the walk inside is the value's own
abbrev pub ValueWalked : Type 0
ValueWalked = (word : Repeats) (s cs : List ℕ) (levels d : ℕ) (i : Item) → next_of i ≤ length s
    → (let v = take i.len.0 (drop i.from s) in
    tour_at word levels s cs d [] (run_of s i.from (next_of i)) ≡ moved_tour i.from (tour_at word levels v cs d [] (run_of v 0 (length v))))

-- ---- document 02, Item 1: whether names may repeat, on every level

-- "Where they may not, all stays as it was": on each level a walk goes on as document 01 has it, 31 for a name seen, and in a container likewise
abbrev pub AsItWas : Type 0
AsItWas = (s cs : List ℕ) (levels d : ℕ) (seen : List ℕ) (i : Item) (r : Run)
    → tour_at Forbidden (suc levels) s cs d seen (item i r)
    ≡ unless (walk_fault cs d (among i.name seen) i)
    (visit d i (and_then (cond (among i.name cs) (tour_at Forbidden levels s cs (d + 1) [] (run_of s i.from (next_of i))) (ends 0))
    (tour_at Forbidden (suc levels) s cs d (i.name ∷ seen) r)))

-- "31 only when repeats are forbidden": where names may repeat, no walk is refused with 31
abbrev pub NoTwice : Type 0
NoTwice = (s l : List ℕ) → refusal (walk_of Allowed s l) ≡ 31 → ⊥

-- only 31 goes: a walk that is not refused with it is the same with either word, its items and how it ends
abbrev pub AcceptedStill : Type 0
AcceptedStill = (s l : List ℕ) → (refusal (walk_of Forbidden s l) ≡ 31 → ⊥) → walk_of Allowed s l ≡ walk_of Forbidden s l

-- ---- document 02, Item 11: where an item began, beside what `Within` says of it

-- the walk of a packet at depth d, which goes from byte `at` to byte `end` of s, without a gap: the first item starts at `at`, each next where the one
-- before ends, and what is left behind the last is padding; the first item inside a container starts behind the container's head, 8 bytes from its start
pub data Laid (cs : List ℕ) : ℕ → ℕ → ℕ → Tour → Type 0 where
  plain : {d at end : ℕ} {i : Item} {t : Tour} → i.start ≡ at → among i.name cs ≡ false → Laid cs d (next_of i) end t → Laid cs d at end (visit d i t)
  container : {d at end : ℕ} {i : Item} {inner t : Tour} → i.start ≡ at → among i.name cs ≡ true
      → Laid cs (d + 1) (i.start + head) (next_of i) inner → Laid cs d (next_of i) end t → Laid cs d at end (visit d i (and_then inner t))
  rest : {d at end p : ℕ} → at + p ≡ end → p < head → Laid cs d at end (ends p)

-- such is every walk that is not refused, from the first byte of its packet to the last
abbrev pub InARow : Type 0
InARow = (word : Repeats) (s l : List ℕ) → refusal (walk_of word s l) ≡ 0 → Laid (names_of l) 0 0 (length s) (walk_of word s l)
