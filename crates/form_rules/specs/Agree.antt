-- When a packet is formed from what a place holds, and which (document 01, "The four places"). No decoder is named here.
use Rattle.std.specs.Prelude.{◌≡◌, Bool, true, false, cond, List, ◌++◌, ℕ, ◌+◌, ◌-◌, ◌*◌, ◌<◌, eqb, length, get_or, take, drop}
use Rattle.base_rules.specs.Bounds.{place, parity}
use Rattle.base_rules.specs.Bytes.{Bytes}
use Rattle.cut_rules.specs.Block.{padded, block_of}
use Rattle.cut_rules.specs.Cells.{cell_of}
use Rattle.cut_rules.specs.Missing.{gone, losses, suffice}
use Rattle.cut_rules.specs.Sizes.{received_c}
use Rattle.weave_rules.specs.Calls.{not_kept}
use Rattle.codeword.specs.Code.{parity_of}
use Rattle.af_rules.specs.Calls.{af_fault}
use Rattle.places_rules.specs.declared.Place.{Place}

-- document 01: "fragments held suffice": no chunk misses more than 48 bytes, of f fragments of s bytes; without FEC, no fragment is lost
unfoldable pub enough : Bool → ℕ → ℕ → ℕ → (ℕ → Bool) → Bool
enough fec f s k lost = cond fec (suffice lost f (k + parity) (received_c f s k)) (eqb (losses lost f) 0)

-- the fragments that a place does not hold
abbrev pub lost_in : Place → ℕ → Bool
lost_in p = not_kept p.kept

-- document 01: those that a place holds suffice
unfoldable pub enough_in : Place → Bool
enough_in p = enough p.fec p.count p.size p.rsk (lost_in p)

-- document 01: "the count of fragments not held"
unfoldable pub missing_in : Place → ℕ
missing_in p = losses (lost_in p) p.count

-- document 01: without FEC the packet is the fragments before the last and then the last, which ends at the place's end
unfoldable pub joined : Place → List ℕ → List ℕ
joined p held = take ((p.count - 1) * p.size) held ++ take p.last (drop (place - p.last) held)

-- document 01, with FEC: P has the ck - z bytes of c chunks of k, and its block, with z zeros and the parity of each chunk, has every
-- kept byte of the chunks in its cell; cells past cn are not looked at
pub record Fills (f s k z : ℕ) (lost : ℕ → Bool) (held P : List ℕ) : Type 0 where
  pub size : length P ≡ received_c f s k * k - z
  pub bytes : Bytes P
  pub cells : (q : ℕ) → q < received_c f s k * (k + parity) → gone lost f q ≡ false
      → cell_of held f s q ≡ get_or (block_of parity_of (padded P z) k (received_c f s k)) q 0

-- document 01: P "must agree with every kept byte", and it must pass the AF checks; `held` are the bytes of the place
pub record Agrees (p : Place) (held P : List ℕ) : Type 0 where
  pub coded : p.fec ≡ true → Fills p.count p.size p.rsk p.rsz (lost_in p) held P
  pub plain : p.fec ≡ false → P ≡ joined p held
  pub accepted : af_fault P ≡ 0
