-- Interleaving: cells and fragments are one to one, and a place that holds the fragments has the block's bytes. Assumes nothing.
use mathlib.Core.Path.{◌≡◌, sym, ap, ◌∙◌}
use mathlib.Core.List.{List}
use Prim.Native.Nat.{ℕ, ◌+◌, ◌*◌, ◌/◌, ◌%◌, ◌<◌}
use native.Mathlib.Nat.{zero-add, mod-add-div, div-add-mod', div-lt_iff_lt-mul, mod-lt}
use native.Mathlib.Omega.{arith}
use lib.Arith.{digits_lt, digits_div, digits_mod}
use lib.ListN.{length, get_or}
use Rattle.base_rules.specs.Bytes.{part_of}
use Rattle.base_rules.proofs.Tables.{length-table, at_table}
use Rattle.base_rules.proofs.Parts.{part_at}
use Rattle.cut_rules.specs.Cells.{fragment_of, cell_of}
use Rattle.cut_rules.specs.Claims.{Woven, Joined}

-- each fragment of a block has s bytes, however long the block is
pub length-fragment : (block : List ℕ) (f s i : ℕ) → length (fragment_of block f s i) ≡ s
unfolding fragment_of
length-fragment block f s i = length-table (λ t. get_or block (i + f * t) 0) 0 s

-- byte t of fragment i
pub byte : (block : List ℕ) (f s i t : ℕ) → t < s → get_or (fragment_of block f s i) t 0 ≡ get_or block (i + f * t) 0
unfolding fragment_of
byte block f s i t h =
    at_table (λ t. get_or block (i + f * t) 0) 0 s t h ∙ ap (λ (x : ℕ). get_or block (i + f * x) 0) (zero-add t)

-- ---- cell q, where there are f fragments

module _ (f s : ℕ) (some : 0 < f) where
  offset : (q : ℕ) → q < f * s → q / f < s
  offset q h = (div-lt_iff_lt-mul some).1 (omega arith)

  back : (i t : ℕ) → i < f → t < s → (i + f * t < f * s) × ((i + f * t) % f ≡ i) × ((i + f * t) / f ≡ t)
  back i t low less =
      let e : i + f * t ≡ t * f + i = omega arith in (
        omega (arith, e, digits_lt {q = t} {m = s} {r = i} {c = f} less low),
        ap (λ (x : ℕ). x % f) e ∙ digits_mod t low,
        ap (λ (x : ℕ). x / f) e ∙ digits_div t low,
      )

  -- where there is a fragment, the f s cells and the offsets in the fragments are one to one
  pub woven : Woven f s
  woven =
      record {
        fragment = λ q (h : q < f * s). mod-lt q some;
        offset = offset;
        cell = λ q (h : q < f * s). mod-add-div q f;
        back = back;
      }

  module _ (block : List ℕ) (q : ℕ) (h : q < f * s) where
    join : get_or (fragment_of block f s (q % f)) (q / f) 0 ≡ get_or block q 0
    join = byte block f s (q % f) (q / f) (offset q h) ∙ ap (λ (x : ℕ). get_or block x 0) (mod-add-div q f)

    held : (place : List ℕ) → part_of place s (q % f) ≡ fragment_of block f s (q % f) → cell_of place f s q ≡ get_or block q 0
    unfolding cell_of
    held place e =
        let read : get_or (part_of place s (q % f)) (q / f) 0 ≡ get_or place (q % f * s + q / f) 0 = part_at s (q % f) (q / f) place (offset q h) in
        sym read ∙ ap (λ (xs : List ℕ). get_or xs (q / f) 0) e ∙ join

    -- byte q of the block stands in fragment q mod f, and in cell q of a place that holds that fragment
    pub joined : Joined block f s q
    joined = record { byte = join; held = held }

-- a cell by its row o and its fragment r: q is o f + r
pub cell_at : (place : List ℕ) (f s o r : ℕ) → r < f → cell_of place f s (o * f + r) ≡ get_or place (r * s + o) 0
unfolding cell_of
cell_at place f s o r low = rw (digits_mod o low, digits_div o low)

-- ---- without FEC

-- the byte at q is in part q / s at q % s
pub part_byte : (packet : List ℕ) (s q : ℕ) → 0 < s → get_or (part_of packet s (q / s)) (q % s) 0 ≡ get_or packet q 0
part_byte packet s q some = part_at s (q / s) (q % s) packet (mod-lt q some) ∙ ap (λ (x : ℕ). get_or packet x 0) (div-add-mod' q s)
