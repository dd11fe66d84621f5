-- The theorems of the cut, C2 to C6, as they can be held against document 01, and document 02's Items 5 and 6. Each is proved in
-- proofs/Proved.antt.
use Rattle.std.specs.Prelude.{◌≡◌, Bool, true, false, List, ℕ, ◌+◌, ◌-◌, ◌*◌, ◌/◌, ◌%◌, ◌≤◌, ◌<◌, length, get_or}
use Rattle.base_rules.specs.Bounds.{least_l, most_l, most_k, place, parity}
use Rattle.base_rules.specs.Bytes.{part_of}
use Rattle.cut_rules.specs.Block.{with_parity, block_of}
use Rattle.cut_rules.specs.Cells.{fragment_of, cell_of}
use Rattle.cut_rules.specs.Edge.{fec, newer}
use Rattle.cut_rules.specs.Missing.{losses, missing, suffice, worst, firsts}
use Rattle.cut_rules.specs.Plan.{house_of, two_losses_of, plan_fault, plan_of}
use Rattle.cut_rules.specs.Sizes.{c, k, z, n, S, L, f, s, assured, received_c}
use Rattle.cut_rules.specs.declared.Rule.{Rule}
use Rattle.cut_rules.specs.declared.Rule.TheVariants.{Older, Newer}
use Rattle.cut_rules.specs.declared.Settings.{Settings}

-- a cut of l bytes at g that is not refused
abbrev pub Taken : Settings → ℕ → Type 0
Taken g l = plan_fault g l ≡ 0

-- C2: the sizes fit together, and all fragments fit a place
pub record Sized (g : Settings) (l : ℕ) : Type 0 where
  pub k_least : 1 ≤ k l
  pub k_most : k l ≤ most_k
  pub z_less : z l < k l
  pub chunks : c l * k l ≡ l + z l
  pub s_most : s g l ≤ S g l
  pub all_held : L g l ≤ f g l * s g l
  pub last_held : (f g l - 1) * s g l < L g l
  pub placed : f g l * s g l ≤ place

-- they do for all settings and lengths that a plan takes
abbrev pub C2 : Type 0
C2 = (g : Settings) (l : ℕ) → Taken g l → Sized g l

-- C3: "The receiver takes c = floor(fs / n). Within these bounds that equals the sender's c"
abbrev pub C3 : Type 0
C3 = (g : Settings) (l : ℕ) → Taken g l → g.fec ≡ true → received_c (f g l) (s g l) (k l) ≡ c l

-- C4: cells and fragments are one to one,
pub record Woven (f s : ℕ) : Type 0 where
  pub fragment : (q : ℕ) → q < f * s → q % f < f
  pub offset : (q : ℕ) → q < f * s → q / f < s
  pub cell : (q : ℕ) → q < f * s → q % f + f * (q / f) ≡ q
  pub back : (i t : ℕ) → i < f → t < s → (i + f * t < f * s) × ((i + f * t) % f ≡ i) × ((i + f * t) / f ≡ t)

-- byte q of the block stands in fragment q mod f at floor(q / f); so a place that holds that fragment has the byte in cell q,
pub record Joined (block : List ℕ) (f s q : ℕ) : Type 0 where
  pub byte : get_or (fragment_of block f s (q % f)) (q / f) 0 ≡ get_or block q 0
  pub held : (place : List ℕ) → part_of place s (q % f) ≡ fragment_of block f s (q % f) → cell_of place f s q ≡ get_or block q 0

-- and the n cells of chunk j are the chunk and its parity
abbrev pub Windows : Type 0
Windows = (parity_of : List ℕ → List ℕ) (k : ℕ) → ((xs : List ℕ) → length xs ≡ k → length (parity_of xs) ≡ parity)
    → (xs : List ℕ) (c j : ℕ) → c * k ≤ length xs → j < c
    → part_of (block_of parity_of xs k c) (k + parity) j ≡ with_parity parity_of (part_of xs k j)

-- without FEC byte q stands in fragment floor(q / s) at q mod s; each has s bytes, and the last 1 to s
pub record Parted (packet : List ℕ) (f s : ℕ) : Type 0 where
  pub byte : (q : ℕ) → get_or (part_of packet s (q / s)) (q % s) 0 ≡ get_or packet q 0
  pub full : (i : ℕ) → i + 1 < f → length (part_of packet s i) ≡ s
  pub last : (i : ℕ) → i + 1 ≡ f → (1 ≤ length (part_of packet s i)) × (length (part_of packet s i) ≤ s)

-- C4: cells, fragments, chunks and parts go together, for every block and packet
pub record C4 : Type 0 where
  pub woven : (f s : ℕ) → 0 < f → Woven f s
  pub joined : (block : List ℕ) (f s q : ℕ) → 0 < f → q < f * s → Joined block f s q
  pub windows : Windows
  pub parted : (g : Settings) (packet : List ℕ) → Taken g (length packet) → g.fec ≡ false
      → Parted packet (f g (length packet)) (s g (length packet))

-- C5: any w lost fragments take at most w (n div f) + min(w, n mod f) bytes of any chunk; the first w take that of chunk 0
abbrev pub C5 : Type 0
C5 = (n f : ℕ) → 0 < f
    → ((lost : ℕ → Bool) (j : ℕ) → missing lost f n j ≤ worst n f (losses lost f))
    × ((w : ℕ) → w ≤ f → (losses (firsts w) f ≡ w) × (missing (firsts w) f n 0 ≡ worst n f w))

-- document 01: any w lost fragments leave every chunk at most 48 bytes short, and so enough
abbrev pub Bears : Settings → ℕ → ℕ → Type 0
Bears g l w = (lost : ℕ → Bool) → losses lost (f g l) ≤ w
    → ((j : ℕ) → missing lost (f g l) (n l) j ≤ parity) × (suffice lost (f g l) (n l) (c l) ≡ true)

-- C6: "A sender set for m losses, 1 to 5, always leaves enough after any m"; document 02, Item 6, has this sentence speak of the figure that
-- the plan is answered with
abbrev pub C6 : Type 0
C6 = (g : Settings) (l : ℕ) → Taken g l → g.fec ≡ true → Bears g l (assured g l)

-- document 02, Item 6: where that figure is m: by document 000's rule always, by document 001's "for m from 1 to 4. For m = 5 it does when c is 1"
abbrev pub SureOfM : Settings → ℕ → Type 0
SureOfM g l = g.rule ≡ Newer → g.m ≡ 5 → c l ≤ 1

-- "m, but 4 when m is 5 and c above 1 under the new rule"
pub record Assures (g : Settings) (l : ℕ) : Type 0 where
  pub m_sure : SureOfM g l → assured g l ≡ g.m
  pub four_sure : g.rule ≡ Newer → g.m ≡ 5 → 1 < c l → assured g l ≡ 4

-- that is the figure, for all settings and lengths
abbrev pub AssuredIs : Type 0
AssuredIs = (g : Settings) (l : ℕ) → Assures g l

-- C6 of the m that the sender is set for: "The setting m survives any m losses", where it does
abbrev pub C6m : Type 0
C6m = (g : Settings) (l : ℕ) → Taken g l → g.fec ≡ true → SureOfM g l → Bears g l g.m

-- "otherwise four are sure and five not always": at l 414, m 5 and MTU 1,400 by document 001's rule there is a cut, and five lost fragments of
-- it take 50 bytes of a chunk and leave too little
pub record FiveNotAlways : Type 0 where
  pub taken : Taken (newer 5) 414
  pub fragments : f (newer 5) 414 ≡ 27
  pub bytes : s (newer 5) 414 ≡ 19
  pub five : losses (firsts 5) (f (newer 5) 414) ≡ 5
  pub takes : missing (firsts 5) (f (newer 5) 414) (n 414) 0 ≡ 50
  pub short : suffice (firsts 5) (f (newer 5) 414) (n 414) (c 414) ≡ false

-- the settings g, but with this rule and this m
abbrev pub with_rule : Rule → ℕ → Settings → Settings
with_rule rule m g = record { fec = g.fec; m = m; mtu = g.mtu; address = g.address; rule = rule }

-- two settings cut l bytes alike, or are refused alike
pub record SameCut (a b : Settings) (l : ℕ) : Type 0 where
  pub refusal : plan_fault a l ≡ plan_fault b l
  pub room : S a l ≡ S b l
  pub fragments : f a l ≡ f b l
  pub bytes : s a l ≡ s b l

-- document 001, note to the sizes: to copy exactly what the old version does, m may be chosen one higher. For m from 1 to 4 it is so
abbrev pub OneUp : Type 0
OneUp = (g : Settings) (m l : ℕ) → 1 ≤ m → m ≤ 4 → SameCut (with_rule Newer (m + 1) g) (with_rule Older m g) l

-- document 02, Item 6, "No new refusals": neither rule refuses a plan that the other takes, nor with another number
abbrev pub SameRefusals : Type 0
SameRefusals = (g : Settings) (l : ℕ) → plan_fault (with_rule Newer g.m g) l ≡ plan_fault (with_rule Older g.m g) l

-- document 02, Item 6, "with m above 0": at m 0, and without FEC, the rule changes nothing of the answer
abbrev pub SameAtNone : Type 0
SameAtNone = (g : Settings) (l : ℕ) → (g.fec ≡ true → g.m ≡ 0) → plan_of (with_rule Newer g.m g) l ≡ plan_of (with_rule Older g.m g) l

-- demand 3, "A sender set for m losses": at g, set for w, no length of 12 to 8,192 is refused, the plan tells w, any w lost leave enough
pub record SetFor (g : Settings) (w : ℕ) : Type 0 where
  pub takes : (l : ℕ) → least_l ≤ l → l ≤ most_l → Taken g l
  pub tells : (l : ℕ) → assured g l ≡ w
  pub bears : (l : ℕ) → Taken g l → Bears g l w

-- document 02, Item 5: "Default protection goes down to one loss"
abbrev pub HouseBears : Type 0
HouseBears = SetFor house_of 1

-- one is promised, and two are borne too: by document 000's rule a fragment has at most 24 bytes of a chunk, which may miss 48
abbrev pub HouseBearsMore : Type 0
HouseBearsMore = (l : ℕ) → Taken house_of l → Bears house_of l 2

-- document 02, Item 5: what the products take that "rely on surviving two losses" is a setting for two
abbrev pub TwoBorne : Type 0
TwoBorne = SetFor two_losses_of 2

-- l 415, m 2: "Any three lost still rebuild, no four do"
abbrev pub AnyThree : Type 0
AnyThree = (lost : ℕ → Bool) → losses lost (f (fec 2) 415) ≤ 3 → suffice lost (f (fec 2) 415) (n 415) (c 415) ≡ true

-- "no four do"
abbrev pub NoFour : Type 0
NoFour = (lost : ℕ → Bool) → 4 ≤ losses lost (f (fec 2) 415) → suffice lost (f (fec 2) 415) (n 415) (c 415) ≡ false
