-- The sizes of a cut of an AF packet of l bytes at the settings g (clause 7.2; document 01, "PFT layer"). The letters are the standard's, but
-- n, S and L are document 01's: S is the standard's s max, and L with FEC its l + cp + z, where the standard's own L is fs.
use Rattle.std.specs.Prelude.{Bool, cond, ◌&&◌, ℕ, ◌+◌, ◌-◌, ◌*◌, ◌/◌, min, eqb, ltb, Option, Some, None}
use Rattle.base_rules.specs.Bounds.{most_k, parity}
use Rattle.base_rules.specs.Round.{ceil}
use Rattle.cut_rules.specs.declared.Address.{Address}
use Rattle.cut_rules.specs.declared.Rule.{Rule}
use Rattle.cut_rules.specs.declared.Rule.TheVariants.{Older, Newer}
use Rattle.cut_rules.specs.declared.Settings.{Settings}

-- ---- of the packet alone

-- clause 7.2.2: the chunks, of at most 207 data bytes each
unfoldable pub c : ℕ → ℕ
c l = ceil l most_k

-- clause 7.2.2: the data bytes of a chunk, in all chunks alike
unfoldable pub k : ℕ → ℕ
k l = ceil l (c l)

-- clause 7.2.2: the zeros behind the packet, which fill the last chunk up
unfoldable pub z : ℕ → ℕ
z l = c l * k l - l

-- document 01: "write n = k + 48"
unfoldable pub n : ℕ → ℕ
n l = k l + parity

-- ---- of the settings too

-- clause 7.1: the bytes of an address in a header, Source 2 and Dest 2
unfoldable pub address_bytes : Option Address → ℕ
address_bytes None = 0
address_bytes (Some a) = 4

-- document 01: the bytes of the least header, HCRC's two among them
abbrev pub least_h : ℕ
least_h = 14

-- document 01, "h is 14, 16, 18 or 20": the bytes of the longest, with FEC and an address
abbrev pub most_h : ℕ
most_h = 20

-- document 01: the bytes of a header: the least, two more with FEC, four more with an address
abbrev pub header_length : Bool → Option Address → ℕ
header_length fec address = least_h + cond fec 2 0 + address_bytes address

-- document 01: those of the settings
unfoldable pub h : Settings → ℕ
h g = header_length g.fec g.address

-- clause 7.2.2: by what 48 c is divided: m + 1 in document 000, m in document 001
abbrev pub divided_by : Rule → ℕ → ℕ
divided_by Older m = m + 1
divided_by Newer m = m

-- by what it is divided at the settings
unfoldable pub divisor : Settings → ℕ
divisor g = divided_by g.rule g.m

-- clause 7.2.2: the most bytes of a fragment
unfoldable pub S : Settings → ℕ → ℕ
S g l = cond (eqb g.m 0) (g.mtu - h g) (min (parity * c l / divisor g) (g.mtu - h g))

-- document 01: the bytes that are cut, with FEC the chunks and their parity, without it the packet
unfoldable pub L : Settings → ℕ → ℕ
L g l = cond g.fec (c l * n l) l

-- clause 7.2.2: the fragments
unfoldable pub f : Settings → ℕ → ℕ
f g l = ceil (L g l) (S g l)

-- clause 7.2.2: the bytes of a fragment
unfoldable pub s : Settings → ℕ → ℕ
s g l = ceil (L g l) (f g l)

-- document 02, Item 6, "the losses it assures": "m, but 4 when m is 5 and c above 1 under the new rule"
abbrev pub assured_by : Rule → ℕ → ℕ → ℕ
assured_by Older m c = m
assured_by Newer m c = cond (eqb m 5 && ltb 1 c) 4 m

-- demand 3: the lost fragments that a cut with FEC is made to bear, whichever they are
unfoldable pub assured : Settings → ℕ → ℕ
assured g l = assured_by g.rule g.m (c l)

-- ---- of a received header

-- clause 7.4.4: the chunks that the receiver takes, floor(fs / n) with n = RSk + 48
unfoldable pub received_c : ℕ → ℕ → ℕ → ℕ
received_c f s k = f * s / (k + parity)
