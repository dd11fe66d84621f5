-- What the sender puts on the line (clause 7.3; document 01, "PFT layer"): the packet's fragments at the settings g, under the number Pseq.
use Rattle.std.specs.Prelude.{cond, List, [], ◌++◌, ℕ, zero, suc, length}
use Rattle.base_rules.specs.Bytes.{part_of}
use Rattle.cut_rules.specs.declared.Settings.{Settings}
use Rattle.cut_rules.specs.Sizes.{c, k, z, f, s}
use Rattle.cut_rules.specs.Plan.{with_fec}
use Rattle.cut_rules.specs.Block.{padded, block_of}
use Rattle.cut_rules.specs.Cells.{fragment_of}
use Rattle.codeword.specs.Code.{parity_of}
use Rattle.header_rules.specs.declared.Header.{Header}
use Rattle.header_rules.specs.Header.{header_bytes}

-- clause 7.3.1: the packet and z zeros as c chunks of k bytes, each followed by its parity
unfoldable pub block_for : List ℕ → List ℕ
block_for packet = block_of parity_of (padded packet (z (length packet))) (k (length packet)) (c (length packet))

-- clause 7.3: the payload of fragment i: with FEC its share of the block, without it its part of the packet
unfoldable pub payload_for : Settings → List ℕ → ℕ → List ℕ
payload_for g packet i =
    cond g.fec
    (fragment_of (block_for packet) (f g (length packet)) (s g (length packet)) i)
    (part_of packet (s g (length packet)) i)

-- clause 7.1: the header of fragment i; Plen counts the payload
unfoldable pub header_for : Settings → ℕ → List ℕ → ℕ → Header
header_for g number packet i = record {
  number = number;
  index = i;
  count = f g (length packet);
  fec = g.fec;
  rsk = with_fec g (k (length packet));
  rsz = with_fec g (z (length packet));
  address = g.address;
  plen = length (payload_for g packet i);
}

-- clause 7.3: fragment i
unfoldable pub fragment_for : Settings → ℕ → List ℕ → ℕ → List ℕ
fragment_for g number packet i = header_bytes (header_for g number packet i) ++ payload_for g packet i

-- fragments i, i + 1, .., t of them, one behind the other
unfoldable pub fragments_from : Settings → ℕ → List ℕ → ℕ → ℕ → List ℕ
fragments_from g number packet i zero = []
fragments_from g number packet i (suc t) = fragment_for g number packet i ++ fragments_from g number packet (suc i) t

-- all fragments of the packet
unfoldable pub fragments_for : Settings → ℕ → List ℕ → List ℕ
fragments_for g number packet = fragments_from g number packet 0 (f g (length packet))
