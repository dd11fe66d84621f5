-- What is claimed of the losses that a cut stands, as it can be held against document 02, Item 12. Each is proved in proofs/Proved.antt.
use Rattle.std.specs.Prelude.{◌≡◌, Bool, true, false, List, [], ◌∷◌, map, ℕ, ◌+◌, ◌≤◌, ◌<◌, eqb, get_or}
use Rattle.base_rules.specs.Answer.{refused}
use Rattle.base_rules.specs.Bounds.{parity}
use Rattle.cut_rules.specs.Claims.{Taken}
use Rattle.cut_rules.specs.Edge.{Row, row, fec, newer, plain}
use Rattle.cut_rules.specs.Missing.{losses, suffice, worst, firsts}
use Rattle.cut_rules.specs.Plan.{plan_of}
use Rattle.cut_rules.specs.Sizes.{k, n, f, s, assured, received_c}
use Rattle.cut_rules.specs.declared.Settings.{Settings}
use Rattle.endurance_rules.specs.Endure.{stands, stands_of, endure_call, endurance_of}
use Rattle.endurance_rules.specs.declared.Endurance.{Endurance}

-- ---- the words of the request

-- with FEC, whether what is lost leaves "every chunk, counted by the receiver's c, at most 48 bytes short"
abbrev pub leaves_enough : Settings → ℕ → (ℕ → Bool) → Bool
leaves_enough g l lost = suffice lost (f g l) (n l) (received_c (f g l) (s g l) (k l))

-- "one set": the one that the call hands out; fragment i is in it where flag i is set
abbrev pub is_handed_out : Settings → ℕ → ℕ → Bool
is_handed_out g l i = get_or (endure_call g l).1 i false

-- ---- the figure, of both rules of Item 6 alike

-- "any w lost fragments still leave every chunk .. at most 48 bytes short", and so do fewer
abbrev pub Endures : Type 0
Endures =
    (g : Settings) (l : ℕ) → Taken g l → g.fec ≡ true → (lost : ℕ → Bool) → losses lost (f g l) ≤ stands_of g l → leaves_enough g l lost ≡ true

-- the set that is handed out has w + 1 fragments, all of them of the cut, and its loss leaves too little
pub record Losing (g : Settings) (l : ℕ) : Type 0 where
  pub one_more : losses (is_handed_out g l) (f g l) ≡ stands_of g l + 1
  pub of_the_cut : (i : ℕ) → f g l ≤ i → is_handed_out g l i ≡ false
  pub short : leaves_enough g l (is_handed_out g l) ≡ false

-- "and one set of w + 1 fragments whose loss does not"
abbrev pub EnduresNot : Type 0
EnduresNot = (g : Settings) (l : ℕ) → Taken g l → g.fec ≡ true → Losing g l

-- "the greatest number w such that": where all sets of v fragments may be lost, v is no greater. There is a set of v where v is at most f
abbrev pub Greatest : Type 0
Greatest =
    (g : Settings) (l : ℕ) → Taken g l → g.fec ≡ true → (v : ℕ) → v ≤ f g l
    → ((lost : ℕ → Bool) → losses lost (f g l) ≡ v → leaves_enough g l lost ≡ true) → v ≤ stands_of g l

-- "Since a chunk has at least 49 bytes, w is below f"; without FEC it is too
abbrev pub Below : Type 0
Below = (g : Settings) (l : ℕ) → Taken g l → stands_of g l < f g l

-- "beyond the m it was made for": the losses that the plan assures are never more than w
abbrev pub AssuredWithin : Type 0
AssuredWithin = (g : Settings) (l : ℕ) → Taken g l → assured g l ≤ stands_of g l

-- over n and f alone, whatever the settings are: C5's most that w losses take of a chunk is at most 48 at this w, and above it at one more
abbrev pub StandsIs : Type 0
StandsIs = (n f : ℕ) → 0 < f → parity < n → (worst n f (stands n f) ≤ parity) × (parity < worst n f (stands n f + 1))

-- ---- the set, with FEC and without

-- "one set of w + 1 fragments": the first ones, 0 to w
abbrev pub FirstOnes : Type 0
FirstOnes = (g : Settings) (l : ℕ) → Taken g l → (i : ℕ) → is_handed_out g l i ≡ firsts (stands_of g l + 1) i

-- where the plan is refused there is no set
abbrev pub NoneRefused : Type 0
NoneRefused = (g : Settings) (l : ℕ) → (Taken g l → ⊥) → (i : ℕ) → is_handed_out g l i ≡ false

-- ---- without FEC

-- "Without FEC w is 0": the set is fragment 0, and with it lost not all f are there, which without parity it takes
pub record PlainLosing (g : Settings) (l : ℕ) : Type 0 where
  pub none : stands_of g l ≡ 0
  pub first_alone : (i : ℕ) → is_handed_out g l i ≡ eqb i 0
  pub one : losses (is_handed_out g l) (f g l) ≡ 1
  pub short : eqb (losses (is_handed_out g l) (f g l)) 0 ≡ false

-- so it is of every cut without FEC
abbrev pub NoFec : Type 0
NoFec = (g : Settings) (l : ℕ) → Taken g l → g.fec ≡ false → PlainLosing g l

-- ---- the answer

-- "No new refusals beyond the sender's": what the call refuses the plan refuses with that number, and the other way round
abbrev pub NoNewRefusals : Type 0
NoNewRefusals =
    (g : Settings) (l number : ℕ)
    → ((endure_call g l).0 ≡ refused number → plan_of g l ≡ refused number) × (plan_of g l ≡ refused number → (endure_call g l).0 ≡ refused number)

-- document 01, "What a promise has to say here": no two answers have the same number, values and set
abbrev pub OneEndured : Type 0
OneEndured = (a b : Endurance) → endurance_of a ≡ endurance_of b → a ≡ b

-- worked examples at MTU 1,400, w and f, held against other papers where these have them
unfoldable pub examples : List Row
examples =
    -- document 01, "l 415, m 2: .. f 12": "Any three lost still rebuild, no four do"
    row (stands_of (fec 2) 415 ∷ f (fec 2) 415 ∷ []) (3 ∷ 12 ∷ [])
    -- document 02, Item 6, l 414: "f 27", "four are sure and five not always"
    ∷ row (stands_of (newer 5) 414 ∷ f (newer 5) 414 ∷ []) (4 ∷ 27 ∷ [])
    -- by document 000's rule m 5 stands one more than it is set for: of 32 fragments any six take at most 48 bytes of a chunk of 255
    ∷ row (stands_of (fec 5) 414 ∷ f (fec 5) 414 ∷ []) (6 ∷ 32 ∷ [])
    -- FEC with m 0 is an FEC plan: of 8 fragments of 1,265 bytes one takes at most 32 of a chunk of 253, and two can take 64
    ∷ row (stands_of (fec 0) 8192 ∷ f (fec 0) 8192 ∷ []) (1 ∷ 8 ∷ [])
    -- all in one fragment, with FEC and without
    ∷ row (stands_of (fec 0) 12 ∷ f (fec 0) 12 ∷ []) (0 ∷ 1 ∷ [])
    ∷ row (stands_of plain 1386 ∷ f plain 1386 ∷ []) (0 ∷ 1 ∷ [])
    ∷ []

-- the definitions give them
abbrev pub Worked : Type 0
Worked = map (λ (r : Row). r.gives) examples ≡ map (λ (r : Row). r.says) examples
