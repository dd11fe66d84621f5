-- Writing the bandwidth as an item (document 02, Item 10: "It writes the item back").
use Rattle.std.specs.Prelude.{cond, List, [], ℕ, Float}
use Rattle.base_rules.specs.Answer.{Outcome, outcome, refused}
use Rattle.base_rules.specs.Bytes.{bytes_of}
use Rattle.base_rules.specs.Written.{put_of}
use Rattle.write_rules.specs.Write.{item_bytes}
use Rattle.write_rules.specs.Packet.{Entry}
use Rattle.bandwidth_rules.specs.Figure.{in256ths, is_figure}
use Rattle.bandwidth_rules.specs.Read.{rbw, rbw_bits}

-- what the item of a figure is written from: 16 bits, the figure's 256ths in two bytes
abbrev pub width_entry : Float → Entry
width_entry x = record { name = rbw; bits = rbw_bits; value = bytes_of 2 (in256ths x) }

-- and the item of "0 bits when no figure is available"
abbrev pub none_entry : Entry
none_entry = record { name = rbw; bits = 0; value = [] }

-- the bytes of such an item
abbrev pub entry_bytes : Entry → List ℕ
entry_bytes e = item_bytes e.name e.bits e.value

-- a float that is no figure is refused with 61 FIGURE; else the item takes the first bytes of out and no others, or 1 ROOM where they are too few
unfoldable pub width_call : Float → List ℕ → Outcome
width_call x out = cond (is_figure x) (put_of out 0 (entry_bytes (width_entry x))) (outcome (refused 61) out)

-- so with the item of no figure, which only room can be missing for
unfoldable pub none_call : List ℕ → Outcome
none_call out = put_of out 0 (entry_bytes none_entry)
