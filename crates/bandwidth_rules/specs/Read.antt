-- Reading the bandwidth out of a TAG packet (document 02, Item 10).
use Rattle.std.specs.Prelude.{cond, not, ◌||◌, List, [], ◌∷◌, ℕ, eqb, get_or}
use Rattle.std.specs.Float.Ieee.{to_bits}
use Rattle.std.specs.Float.{binary32}
use Rattle.std.specs.Prelude.{Float, Result, Ok, Err, Option, Some, None}
use Rattle.base_rules.specs.Answer.{Answer, answered}
use Rattle.base_rules.specs.Refusal.{told}
use Rattle.base_rules.specs.declared.Refusal.{Refusal}
use Rattle.base_rules.specs.declared.Refusal.TheVariants as refusal
use Rattle.base_rules.specs.Bytes.{number_at}
use Rattle.base_rules.specs.Tests.{first}
use Rattle.item_rules.specs.Run.{or_else}
use Rattle.item_rules.specs.declared.Repeats.{Repeats}
use Rattle.tag_rules.specs.Find.{locate_of, value_of, shown_by}
use Rattle.tag_rules.specs.Calls.{locate_fault, locate_values}
use Rattle.tag_rules.specs.declared.Located.{Located}
use Rattle.tag_rules.specs.declared.Located.TheVariants as located
use Rattle.bandwidth_rules.specs.Figure.{figure_of}

-- the name "rbw_"
abbrev pub rbw : ℕ
rbw = 0x7262775F

-- "16 bits"
abbrev pub rbw_bits : ℕ
rbw_bits = 16

-- what an item of so many bits with that value says: a figure in 16 bits, none available in 0, and 60 WIDTH "for another bit length"
unfoldable pub held_in : ℕ → List ℕ → Result (Option Float) Refusal
held_in bits value =
    cond (eqb bits rbw_bits) (Ok (Some (figure_of (number_at 2 value 0)))) (cond (eqb bits 0) (Ok None) (Err refusal.Width))

-- by where the name was found: the item there, with its value in the packet that holds it; else the TAG layer's refusal
unfoldable pub said_by : List ℕ → List ℕ → Result Located Refusal → Result (Option Float) Refusal
said_by s t (Ok (located.Packet i)) = held_in i.bits.0 (value_of s i)
said_by s t (Ok (located.Standing i)) = held_in i.bits.0 (value_of t i)
said_by s t (Err n) = Err n

-- document 02: "either the bandwidth .. or "not available", or a refusal"; document 02, Item 1: by the caller's word
unfoldable pub bandwidth_of : Repeats → List ℕ → List ℕ → Result (Option Float) Refusal
bandwidth_of w s t = said_by s t (locate_of w s t rbw)

-- the value of a figure is its bit pattern, and none has no value,
unfoldable pub pattern_of : Option Float → List ℕ
pattern_of (Some x) = to_bits binary32 x ∷ []
pattern_of None = []

-- document 02's number, and the value, for each case
unfoldable pub bandwidth_number : Result (Option Float) Refusal → Answer
bandwidth_number r = told pattern_of r

-- the bits of the item that a search tells of, behind which packet it is in and its name
unfoldable pub bits_told : List ℕ → List ℕ → ℕ
bits_told s t = get_or (locate_values s t rbw) 2 0

-- "Refusals, after the TAG codes: 60 WIDTH for another bit length"
unfoldable pub bandwidth_fault : Repeats → List ℕ → List ℕ → ℕ
bandwidth_fault w s t = or_else (locate_fault w s t rbw) (first ((not (eqb (bits_told s t) rbw_bits || eqb (bits_told s t) 0), 60) ∷ []))

-- the pattern of the figure in the bytes that a search shows, or no value where none is available
unfoldable pub bandwidth_values : Repeats → List ℕ → List ℕ → List ℕ
bandwidth_values w s t =
    cond (eqb (bits_told s t) rbw_bits) (to_bits binary32 (figure_of (number_at 2 (shown_by s t (locate_of w s t rbw)) 0)) ∷ []) []

-- a reading as number and value
unfoldable pub bandwidth_call : Repeats → List ℕ → List ℕ → Answer
bandwidth_call w s t = answered (bandwidth_fault w s t) (bandwidth_values w s t)
