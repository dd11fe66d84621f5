-- From the chunks that filling leaves to the packet: the one that can agree is their data without the zeros. Assumes nothing.
use mathlib.Core.Path.{◌≡◌, refl, sym, ap, ◌∙◌, subst}
use mathlib.Core.Bool.{Bool, true, false, not, cond}
use mathlib.Core.List.{List, ◌++◌}
use Prim.Native.Nat.{ℕ, ◌+◌, ◌-◌, ◌*◌, ◌/◌, ◌%◌, ◌≤◌, ◌<◌}
use native.Mathlib.Nat.{zero-mul, mul-le-mul_right, mod-lt, div-add-mod', div-lt_iff_lt-mul, div-mul-le_self}
use native.Mathlib.Omega.{arith}
use lib.Dec.{eqb}
use lib.ListN.{length, get_or, take, drop, replicate, take-append-drop}
use lib.Seq.{ext_get_or, get_or-take, take-take, take_all, drop_at, length-take-le}
use Rattle.base_rules.specs.Bounds.{most_k, parity}
use Rattle.base_rules.proofs.ByteLaws.{bytes-append, bytes_take, bytes_drop, bytes_zeros}
use Rattle.base_rules.specs.Bytes.{Bytes, part_of}
use Rattle.base_rules.specs.Tests.{bit}
use Rattle.base_rules.proofs.Tables.{at_table}
use Rattle.base_rules.proofs.Parts.{part_room, length_part, part_at, parts_same}
use Rattle.cut_rules.specs.Block.{padded, with_parity, block_of}
use Rattle.cut_rules.specs.Cells.{cell_of}
use Rattle.cut_rules.specs.Missing.{gone, suffice}
use Rattle.cut_rules.specs.Sizes.{received_c}
use Rattle.cut_rules.proofs.Blocks.{window, unpadded, length-padded}
use Rattle.weave_rules.specs.Calls.{not_kept}
use Rattle.codeword.specs.Code.{Coded, parity_of, encode}
use Rattle.codeword.specs.Erasure.{marks, erase, count}
use Rattle.codeword.proofs.Encoder.{encode-keeps}
use Rattle.codeword.proofs.Erasure.{length-erase}
use Rattle.codeword.proofs.Proved.{r1}
use Rattle.code_rules.specs.Fill as chunk
use Rattle.code_rules.specs.Calls.{lost_cells, BlockDone, BlockNothing}
use Rattle.code_rules.proofs.CellLaws.{length-lost, part_lost, few-lost}
use Rattle.code_rules.proofs.FillLaws.{one_filling}
use Rattle.code_rules.proofs.MaskLaws.{erase_at}
use Rattle.af_rules.proofs.Checks.{passing}
use Rattle.places_rules.specs.declared.Place.{Place}
use Rattle.form_rules.specs.Agree.{Fills, Agrees}
use Rattle.form_rules.specs.inner.Proposals.{data_of}
use Rattle.form_rules.proofs.Chunks.{length_data, chunk_data, bytes_data, block_data}

-- the first f s cells are those of a place
abbrev pub Laid : ℕ → ℕ → List ℕ → List ℕ → Type 0
Laid f s held cells = (q : ℕ) → q < f * s → get_or cells q 0 ≡ cell_of held f s q

-- ---- bytes that are kept

pick : (b : Bool) (x y : ℕ) → (b ≡ true → x ≡ y) → cond b x 0 ≡ cond b y 0
pick true x y e = e refl
pick false x y e = refl

unmarked : (b : Bool) → eqb (bit b) 0 ≡ not b
unmarked true = refl
unmarked false = refl

not-true : (b : Bool) → not b ≡ true → b ≡ false
not-true true e = sym e
not-true false e = refl

-- n cells from a on, and two lists of n bytes
module _ (kept : List Bool) (f a n : ℕ) (v w : List ℕ) (lv : length v ≡ n) (lw : length w ≡ n) where
  mark_at : (i : ℕ) → i < n → eqb (get_or (lost_cells kept f a n) i 0) 0 ≡ not (gone (not_kept kept) f (a + i))
  unfolding lost_cells
  mark_at i h = ap (λ (x : ℕ). eqb x 0) (at_table (λ q. bit (gone (not_kept kept) f q)) a n i h) ∙ unmarked (gone (not_kept kept) f (a + i))

  erased_at : (l : List ℕ) → length l ≡ n → (i : ℕ) → i < n
      → get_or (erase (marks (lost_cells kept f a n)) l) i 0 ≡ cond (not (gone (not_kept kept) f (a + i))) (get_or l i 0) 0
  erased_at l e i h =
      erase_at (lost_cells kept f a n) l i (omega arith) (length-lost kept f a n ∙ sym e)
      ∙ ap (λ (b : Bool). cond b (get_or l i 0) 0) (mark_at i h)

  -- they are the same with 0 for each lost cell where they have the same kept ones,
  erased_same : ((i : ℕ) → i < n → gone (not_kept kept) f (a + i) ≡ false → get_or v i 0 ≡ get_or w i 0)
      → erase (marks (lost_cells kept f a n)) v ≡ erase (marks (lost_cells kept f a n)) w
  erased_same e =
      let mask : List Bool = marks (lost_cells kept f a n) in
      let size : length (erase mask v) ≡ n = length-erase mask v ∙ lv in
      ext_get_or 0 (erase mask v) (erase mask w) (size ∙ sym (length-erase mask w ∙ lw))
      (λ i (l : i < length (erase mask v)).
      let h : i < n = omega arith in
      erased_at v lv i h
      ∙ pick (not (gone (not_kept kept) f (a + i))) (get_or v i 0) (get_or w i 0) (λ t. e i h (not-true (gone (not_kept kept) f (a + i)) t))
      ∙ sym (erased_at w lw i h))

  -- and back
  kept_same : erase (marks (lost_cells kept f a n)) v ≡ erase (marks (lost_cells kept f a n)) w
      → (i : ℕ) → i < n → gone (not_kept kept) f (a + i) ≡ false → get_or v i 0 ≡ get_or w i 0
  kept_same e i h g =
      ap (λ (b : Bool). cond (not b) (get_or v i 0) 0) (sym g)
      ∙ sym (erased_at v lv i h) ∙ ap (λ (l : List ℕ). get_or l i 0) e ∙ erased_at w lw i h
      ∙ ap (λ (b : Bool). cond (not b) (get_or w i 0) 0) g

-- ---- the figures of a block

module _ (f s k : ℕ) where
  -- the chunks stand in the cells
  pub within : received_c f s k * (k + parity) ≤ f * s
  unfolding received_c
  within = div-mul-le_self (f * s) (k + parity)

-- ---- a packet that has the kept cells

module _ (f s k z : ℕ) (lost : ℕ → Bool) (held P : List ℕ) (fills : Fills f s k z lost held P) where
  long : received_c f s k * k ≤ length (padded P z)
  long = omega (arith, length-padded P z, fills.size)

  -- the packet, by its chunks
  pub from_chunks : take (received_c f s k * k - z) (take (received_c f s k * k) (padded P z)) ≡ P
  from_chunks =
      take-take (received_c f s k * k - z) (received_c f s k * k) (padded P z) (omega arith)
      ∙ ap (λ (x : ℕ). take x (padded P z)) (sym fills.size) ∙ unpadded P z

  module _ (j : ℕ) (below : j < received_c f s k) where
    -- each chunk of the packet with its z zeros has k data bytes
    pub length_data_chunk : length (part_of (padded P z) k j) ≡ k
    length_data_chunk = length_part k (received_c f s k) j (padded P z) long below

    bytes-chunk : Bytes (part_of (padded P z) k j)
    unfolding part_of padded
    bytes-chunk = bytes_take k (drop (j * k) (padded P z))
        (bytes_drop (j * k) (padded P z) (bytes-append P (replicate z 0) fills.bytes (bytes_zeros z)))

    -- chunk j with its parity is a word of the code
    coded : k ≤ most_k → Coded k (encode (part_of (padded P z) k j))
    coded small =
        subst (λ (x : ℕ). Coded x (encode (part_of (padded P z) k j))) length_data_chunk
        (r1.coded (part_of (padded P z) k j) (omega (arith, length_data_chunk)) bytes-chunk)

    -- and stands in the block
    word_at : (i : ℕ) → i < k + parity
        → get_or (encode (part_of (padded P z) k j)) i 0 ≡ get_or (block_of parity_of (padded P z) k (received_c f s k)) (j * (k + parity) + i) 0
    unfolding with_parity encode
    word_at i h =
        sym (ap (λ (w : List ℕ). get_or w i 0) (window parity_of k (λ d e. r1.size d) (padded P z) (received_c f s k) j long below))
        ∙ part_at (k + parity) j i (block_of parity_of (padded P z) k (received_c f s k)) h

-- its words have the kept bytes of the cells
module _ (f s k z : ℕ) (kept : List Bool) (held cells : List ℕ) (laid : Laid f s held cells) (room : f * s ≤ length cells) (small : k ≤ most_k)
    (P : List ℕ) (fills : Fills f s k z (not_kept kept) held P) (j : ℕ) (below : j < received_c f s k) where
  -- chunk j with its parity is a word of the code, and has every kept byte of chunk j of the cells
  pub word-agrees : chunk.Agrees k (lost_cells kept f (j * (k + parity)) (k + parity)) (part_of cells (k + parity) j)
      (encode (part_of (padded P z) k j))
  word-agrees =
      let n : ℕ = k + parity in
      let w : List ℕ = encode (part_of (padded P z) k j) in
      let is-coded : Coded k w = coded f s k z (not_kept kept) held P fills j below small in
      record {
        coded = is-coded;
        keeps =
            erased_same kept f (j * n) n w (part_of cells n j) is-coded.size
            (length_part n (received_c f s k) j cells (omega (arith, within f s k)) below)
            (λ i (h : i < n) g.
            let inside : j * n + i < received_c f s k * n = omega (arith, part_room n (received_c f s k) j below) in
            word_at f s k z (not_kept kept) held P fills j below i h
            ∙ sym (fills.cells (j * n + i) inside g)
            ∙ sym (laid (j * n + i) (omega (arith, within f s k)))
            ∙ sym (part_at n j i cells h));
      }

  -- and no other word of the code has them, where no chunk misses more than 48 bytes
  pub word-only : suffice (not_kept kept) f (k + parity) (received_c f s k) ≡ true → (w : List ℕ)
      → chunk.Agrees k (lost_cells kept f (j * (k + parity)) (k + parity)) (part_of cells (k + parity) j) w
      → encode (part_of (padded P z) k j) ≡ w
  word-only enough w a =
      one_filling k (lost_cells kept f (j * (k + parity)) (k + parity)) (part_of cells (k + parity) j) (encode (part_of (padded P z) k j)) w small
      (length-lost kept f (j * (k + parity)) (k + parity))
      (subst (λ (m : List ℕ). count (marks m) ≤ parity) (part_lost kept f (k + parity) (received_c f s k) j below)
      (few-lost kept f (k + parity) (received_c f s k) enough j below))
      word-agrees a

-- ---- what filling leaves

module _ (f s k z : ℕ) (kept : List Bool) (held cells after : List ℕ) (laid : Laid f s held cells) (room : f * s ≤ length cells) (some : 0 < f)
    (small : k ≤ most_k) (zeros : z < k) where
  -- where one chunk has no filling, no packet agrees
  pub none : BlockNothing kept f k (received_c f s k) cells after → (P : List ℕ) → Fills f s k z (not_kept kept) held P → ⊥
  none left P fills = left.none (encode (part_of (padded P z) k left.at))
      (word-agrees f s k z kept held cells laid room small P fills left.at left.below)

  -- the chunks stand in what is left
  after_room : BlockDone kept f k (received_c f s k) cells after → received_c f s k * (k + parity) ≤ length after
  after_room done = omega (arith, within f s k, done.size)

  same_data : suffice (not_kept kept) f (k + parity) (received_c f s k) ≡ true → BlockDone kept f k (received_c f s k) cells after → (P : List ℕ)
      → Fills f s k z (not_kept kept) held P
      → take (received_c f s k * k) (padded P z) ≡ data_of after k (received_c f s k)
  same_data enough done P fills =
      let c : ℕ = received_c f s k in
      parts_same k c (padded P z) (data_of after k c)
      (λ j (below : j < c).
      sym (encode-keeps (part_of (padded P z) k j) k (length_data_chunk f s k z (not_kept kept) held P fills j below))
      ∙ ap (take k) (word-only f s k z kept held cells laid room small P fills j below enough (part_of after (k + parity) j) (done.each j below))
      ∙ sym (chunk_data k after c j (after_room done) below))
      ∙ take_all (c * k) (data_of after k c) (omega (arith, length_data after k c (after_room done)))

  -- the packet that agrees, if there is one, is the data without the zeros
  pub only : suffice (not_kept kept) f (k + parity) (received_c f s k) ≡ true → BlockDone kept f k (received_c f s k) cells after
      → (P : List ℕ) → Fills f s k z (not_kept kept) held P → P ≡ take (received_c f s k * k - z) (data_of after k (received_c f s k))
  only enough done P fills =
      sym (from_chunks f s k z (not_kept kept) held P fills) ∙ ap (take (received_c f s k * k - z)) (same_data enough done P fills)

  -- a kept cell is as it was
  kept-cell : BlockDone kept f k (received_c f s k) cells after → (q : ℕ) → q < received_c f s k * (k + parity) → gone (not_kept kept) f q ≡ false
      → get_or after q 0 ≡ get_or cells q 0
  kept-cell done q h g =
      let n : ℕ = k + parity in
      let c : ℕ = received_c f s k in
      let j : ℕ = q / (k + parity) in
      let i : ℕ = q % (k + parity) in
      let is : j * n + i ≡ q = div-add-mod' q n in
      let below : j < c = (div-lt_iff_lt-mul {k = k + parity} (omega arith)).1 h in
      let low : i < n = mod-lt q (omega arith) in
      ap (λ (x : ℕ). get_or after x 0) (sym is) ∙ sym (part_at n j i after low)
      ∙ kept_same kept f (j * n) n (part_of after n j) (part_of cells n j)
      (length_part n c j after (after_room done) below) (length_part n c j cells (omega (arith, within f s k)) below)
      (done.each j below).keeps i low (ap (gone (not_kept kept) f) is ∙ g)
      ∙ part_at n j i cells low ∙ ap (λ (x : ℕ). get_or cells x 0) is

  -- the data without the zeros agree where zeros stand behind them
  pub fits : BlockDone kept f k (received_c f s k) cells after → drop (received_c f s k * k - z) (data_of after k (received_c f s k)) ≡ replicate z 0
      → Fills f s k z (not_kept kept) held (take (received_c f s k * k - z) (data_of after k (received_c f s k)))
  unfolding padded
  fits done behind =
      let c : ℕ = received_c f s k in
      let n : ℕ = k + parity in
      let found : List ℕ = data_of after k c in
      let whole : padded (take (c * k - z) found) z ≡ found = ap (λ (t : List ℕ). take (c * k - z) found ++ t) (sym behind)
      ∙ take-append-drop (c * k - z) found in
      let block : block_of parity_of found k c ≡ take (c * n) after = block_data k after c small (after_room done)
      (λ j (b : j < c). (done.each j b).coded) in
      record {
        size = length-take-le (c * k - z) found (omega (arith, length_data after k c (after_room done)));
        bytes = bytes_take (c * k - z) found (bytes_data k after c (λ j (b : j < c). (done.each j b).coded));
        cells = λ q h g.
            sym (laid q (omega (arith, within f s k)))
            ∙ sym (kept-cell done q h g)
            ∙ sym (get_or-take (c * n) after q 0 h)
            ∙ sym (ap (λ (l : List ℕ). get_or l q 0) (ap (λ (d : List ℕ). block_of parity_of d k c) whole ∙ block));
      }

  -- and where a packet agrees they do stand there, if there is a chunk at all
  pub padded_behind : BlockDone kept f k (received_c f s k) cells after → suffice (not_kept kept) f (k + parity) (received_c f s k) ≡ true
      → (P : List ℕ) → Fills f s k z (not_kept kept) held P
      → 0 < received_c f s k → drop (received_c f s k * k - z) (data_of after k (received_c f s k)) ≡ replicate z 0
  unfolding padded
  padded_behind done enough P fills one =
      let c : ℕ = received_c f s k in
      let least : 1 * k ≤ c * k = mul-le-mul_right k one in
      ap (drop (c * k - z)) (sym (same_data enough done P fills) ∙ take_all (c * k) (padded P z) (omega (arith, length-padded P z, fills.size)))
      ∙ drop_at P (replicate z 0) (c * k - z) fills.size

-- with no chunk the packet would be empty, and the AF checks do not let that pass
pub no_chunk : (p : Place) (held P : List ℕ) → p.fec ≡ true → received_c p.count p.size p.rsk ≡ 0 → Agrees p held P → ⊥
no_chunk p held P fec none agrees =
    let size : length P ≡ received_c p.count p.size p.rsk * p.rsk - p.rsz = (agrees.coded fec).size in
    let empty : received_c p.count p.size p.rsk * p.rsk ≡ 0 = ap (λ (x : ℕ). x * p.rsk) none ∙ zero-mul p.rsk in
    omega (arith, size, empty, (passing P agrees.accepted).long)
