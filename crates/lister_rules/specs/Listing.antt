-- The listing of an AF packet (document 01, "On each side of the edge"). Letters are ASCII.
use Rattle.std.specs.Prelude.{cond, List, [], ◌∷◌, ◌++◌, ℕ, ◌+◌, ◌*◌, ◌/◌, eqb}
use Rattle.base_rules.specs.Bounds.{most_l}
use Rattle.base_rules.specs.Bytes.{bytes_of}
use Rattle.text_rules.specs.Text.{decimal_of, hex_of}
use Rattle.af_rules.specs.Packet.{most_payload, seq_of, minor_of, len_of, payload_of}
use Rattle.af_rules.specs.Calls.{af_fault}
use Rattle.item_rules.specs.Item.{head}
use Rattle.item_rules.specs.declared.Item.{Item}
use Rattle.item_rules.specs.declared.Repeats.TheVariants.{Forbidden}
use Rattle.walk_rules.specs.Walk.{Tour, visit, ends, stops, refusal, walk_of}

-- document 01: "fio_" is the only container
abbrev pub containers : List ℕ
containers = 102 ∷ 105 ∷ 111 ∷ 95 ∷ []

-- "af "
abbrev pub af : List ℕ
af = 97 ∷ 102 ∷ 32 ∷ []

-- " 1."
abbrev pub one : List ℕ
one = 32 ∷ 49 ∷ 46 ∷ []

-- "pad "
abbrev pub pad : List ℕ
pad = 112 ∷ 97 ∷ 100 ∷ 32 ∷ []

-- "refused "
abbrev pub refused : List ℕ
refused = 114 ∷ 101 ∷ 102 ∷ 117 ∷ 115 ∷ 101 ∷ 100 ∷ 32 ∷ []

-- a blank
abbrev pub blank : List ℕ
blank = 32 ∷ []

-- the newline behind every line
abbrev pub newline : List ℕ
newline = 10 ∷ []

-- document 01: "Fields: SEQ, revision, LEN"; the major revision is 1
unfoldable pub head_line : ℕ → ℕ → ℕ → List ℕ
head_line seq minor len = af ++ (decimal_of seq ++ (one ++ (decimal_of minor ++ (blank ++ (decimal_of len ++ newline)))))

-- document 01: "then depth, name in hex, bits"
unfoldable pub item_line : ℕ → Item → List ℕ
item_line depth i = decimal_of depth ++ (blank ++ (hex_of (bytes_of 4 i.name) ++ (blank ++ (decimal_of i.bits.0 ++ newline))))

-- document 01: "last, outer padding bytes, printed even when 0"
unfoldable pub lines_of : Tour → List ℕ
lines_of (visit depth i t) = item_line depth i ++ lines_of t
lines_of (ends p) = pad ++ (decimal_of p ++ newline)
lines_of (stops n) = []

-- document 01: "A refusal prints "refused", a space and its number, alone"
unfoldable pub refused_line : ℕ → List ℕ
refused_line n = refused ++ (decimal_of n ++ newline)

-- the listing of a payload that the AF checks accept, behind the line on its packet
unfoldable pub payload_lines : List ℕ → Tour → List ℕ
payload_lines front t = cond (eqb (refusal t) 0) (front ++ lines_of t) (refused_line (refusal t))

-- document 01: the listing of an AF packet; names may not repeat in it
unfoldable pub listing_of : List ℕ → List ℕ
listing_of s = cond (eqb (af_fault s) 0) (payload_lines (head_line (seq_of s) (minor_of s) (len_of s)) (walk_of Forbidden (payload_of s) containers))
    (refused_line (af_fault s))

-- the letters of the longest line on an item: "4 2a646d79 65376" has a depth of 1 digit, bits of at most 5, and the newline
abbrev pub most_line : ℕ
most_line = 17

-- the letters of the other two lines at their longest, "af 65535 1.15 8180" and "pad 7", with their newlines
abbrev pub most_others : ℕ
most_others = 25

-- so many letters hold every listing: the head of each item takes 8 bytes of the payload
abbrev pub most_listing : ℕ
most_listing = most_payload / head * most_line + most_others

-- document 01, "AF packet 12 to 8,192 bytes": so many bytes of an input tell its listing, one more than any packet has
abbrev pub most_input : ℕ
most_input = most_l + 1
