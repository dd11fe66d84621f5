-- Document 01, "On each side of the edge": the starred rows of sizes, as one table; document 02 adds rows with its Items 5 and 6.
use Rattle.std.specs.Prelude.{true, false, List, [], ◌∷◌, ℕ, ◌-◌, ◌*◌, length, replicate, None}
use Rattle.base_rules.specs.Bytes.{part_of}
use Rattle.cut_rules.specs.Missing.{worst}
use Rattle.cut_rules.specs.Plan.{house_of, two_losses_of}
use Rattle.cut_rules.specs.Sizes as size
use Rattle.cut_rules.specs.declared.Rule.{Rule}
use Rattle.cut_rules.specs.declared.Rule.TheVariants.{Older, Newer}
use Rattle.cut_rules.specs.declared.Settings.{Settings}

-- what the definitions give, and what is due: the document's figures, or those worked out by its formulas
pub record Row : Type 0 where
  pub gives : List ℕ
  pub says : List ℕ

-- a row of the table
abbrev pub row : List ℕ → List ℕ → Row
row a b = record { gives = a; says = b }

-- MTU 1,400 without address: FEC at m, by either rule
abbrev pub fec_by : Rule → ℕ → Settings
fec_by rule m = record { fec = true; m = m; mtu = 1400; address = None; rule = rule }

-- by document 000's rule, which is document 01's
abbrev pub fec : ℕ → Settings
fec m = fec_by Older m

-- by document 001's rule, which document 02, Item 6, adds
abbrev pub newer : ℕ → Settings
newer m = fec_by Newer m

-- the same without FEC
abbrev pub plain : Settings
plain = record { fec = false; m = 0; mtu = 1400; address = None; rule = Older }

-- document 01, "last": how many bytes the last fragment has, of a packet of l bytes that is cut without FEC
abbrev pub last_of : Settings → ℕ → ℕ
last_of g l = length (part_of (replicate l 0) (size.s g l) (size.f g l - 1))

-- document 01, "On each side of the edge": the starred rows of sizes, and between them those of document 02: at l 414 its figures, else worked out
unfoldable pub rows : List Row
rows =
    -- l 207: c 1, k 207, z 0
    row (size.c 207 ∷ size.k 207 ∷ size.z 207 ∷ []) (1 ∷ 207 ∷ 0 ∷ [])
    -- l 208: c 2, k 104, z 0
    ∷ row (size.c 208 ∷ size.k 208 ∷ size.z 208 ∷ []) (2 ∷ 104 ∷ 0 ∷ [])
    -- l 12: c 1, k 12
    ∷ row (size.c 12 ∷ size.k 12 ∷ []) (1 ∷ 12 ∷ [])
    -- l 414, FEC, m 5, MTU 1,400: f 32, s 16
    ∷ row (size.f (fec 5) 414 ∷ size.s (fec 5) 414 ∷ []) (32 ∷ 16 ∷ [])
    -- document 02, Item 6: "at l = 414 and MTU 1,400 it gives f 27, s 19, and five lost fragments can take 50 bytes of a chunk"; "four are sure"
    ∷ row (size.f (newer 5) 414 ∷ size.s (newer 5) 414 ∷ size.assured (newer 5) 414 ∷ []) (27 ∷ 19 ∷ 4 ∷ [])
    ∷ row (worst (size.n 414) (size.f (newer 5) 414) 5 ∷ []) (50 ∷ [])
    -- l 415, m 2: c 3, k 139, z 2, f 12, s 47; 3 zero cells
    ∷ row (size.c 415 ∷ size.k 415 ∷ size.z 415 ∷ size.f (fec 2) 415 ∷ size.s (fec 2) 415 ∷ []) (3 ∷ 139 ∷ 2 ∷ 12 ∷ 47 ∷ [])
    ∷ row ((size.f (fec 2) 415 * size.s (fec 2) 415 - size.L (fec 2) 415) ∷ []) (3 ∷ [])
    -- l 8,192, default: c 40, k 205, z 8, f 16, s 633 (document 01's default, the setting for two losses now)
    ∷ row (size.c 8192 ∷ size.k 8192 ∷ size.z 8192 ∷ size.f two_losses_of 8192 ∷ size.s two_losses_of 8192 ∷ []) (40 ∷ 205 ∷ 8 ∷ 16 ∷ 633 ∷ [])
    -- document 02, Item 5: "the default case at 8,192 bytes is worked again beside the old one"; by document 01's formulas f 11, s 920
    ∷ row (size.c 8192 ∷ size.k 8192 ∷ size.z 8192 ∷ size.f house_of 8192 ∷ size.s house_of 8192 ∷ []) (40 ∷ 205 ∷ 8 ∷ 11 ∷ 920 ∷ [])
    -- and by document 001's rule, at m 1, S is MTU - h, which is below 48 x 40: f 8, s 1,265; one is assured
    ∷ row (size.f (newer 1) 8192 ∷ size.s (newer 1) 8192 ∷ size.assured (newer 1) 8192 ∷ []) (8 ∷ 1265 ∷ 1 ∷ [])
    -- l 12, m 1 by that rule: S is all 48 bytes that the chunk may miss; f 2, s 30
    ∷ row (size.S (newer 1) 12 ∷ size.f (newer 1) 12 ∷ size.s (newer 1) 12 ∷ []) (48 ∷ 2 ∷ 30 ∷ [])
    -- no FEC, MTU 1,400: l 1,386 gives f 1; 1,387 gives f 2, s 694, last 693
    ∷ row (size.f plain 1386 ∷ []) (1 ∷ [])
    ∷ row (size.f plain 1387 ∷ size.s plain 1387 ∷ last_of plain 1387 ∷ []) (2 ∷ 694 ∷ 693 ∷ [])
    ∷ []
