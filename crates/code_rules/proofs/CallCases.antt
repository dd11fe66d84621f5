-- The calls: what their tests tell, and which answer is which case. Assumes nothing.
use mathlib.Core.Path.{◌≡◌, refl, sym, ap, ap₂, ◌∙◌, subst}
use mathlib.Core.Bool.{Bool, true, false, not, ◌||◌}
use mathlib.Core.List.{List, [], ◌∷◌, ◌++◌, append-nil}
use Prim.Native.Nat.{ℕ, zero, suc, ◌+◌, ◌-◌, ◌*◌, ◌≤◌, ◌<◌}
use native.Mathlib.Omega.{arith}
use borrow.Author.Tests.{ltb-false, lt-ltb, le-ltb}
use lib.Dec.{ltb, eqb, lit<, eqb→eq}
use lib.ListN.{length, take, drop, replicate, length-replicate, length-drop, length-append}
use lib.ListN.{take-append-drop, replicate-append-replicate, drop_of_length-le}
use lib.Seq.{take_at, drop_at, take-append-add}
use Rattle.std.specs.Prelude.{Result, Ok, Err}
use Rattle.base_rules.specs.Refusal as refusals
use Rattle.base_rules.specs.declared.Refusal.{Refusal}
use Rattle.base_rules.specs.declared.Refusal.TheVariants as refusal
use Rattle.base_rules.specs.Answer.{granted, refused, answered, Outcome, outcome, settled}
use Rattle.base_rules.specs.Bounds.{bad_k, place, parity}
use Rattle.base_rules.specs.Bytes.{splice, part_of}
use Rattle.base_rules.specs.Tests.{first}
use Rattle.base_rules.specs.Written.{number_of, put_fault, put_of}
use Rattle.base_rules.proofs.ChunkSize.{k_most}
use Rattle.base_rules.proofs.Answers.{grants, refuses, writes, leaves, put_is}
use Rattle.base_rules.proofs.Firsts.{due, skip, none_due}
use Rattle.base_rules.proofs.Logic.{or_left, or_right}
use Rattle.base_rules.proofs.Splice.{splice_next}
use Rattle.base_rules.proofs.Parts.{part_first, part_next, part_whole}
use Rattle.cut_rules.specs.Block.{padded, with_parity, block_of}
use Rattle.cut_rules.proofs.Blocks.{length-block, length-padded}
use Rattle.codeword.proofs.Encoder.{length-parity}
use Rattle.codeword.specs.Erasure.{marks, count}
use Rattle.code_rules.specs.inner.Block.{Encoded, Ready, BlockTried}
use Rattle.code_rules.specs.Fill.{Agrees}
use Rattle.codeword.specs.Code.{parity_of, encode}
use Rattle.code_rules.specs.Calls.{parity_fault, parity_call, over_place, misfits, encode_fault, encode_call, bad_pair, chunk_fault, ChunkFilled}
use Rattle.code_rules.specs.Calls as calls
use Rattle.code_rules.specs.declared.Filled.TheVariants.{Done, Nothing, NotEnough}

-- ---- what the tests tell

-- c chunks fit a place
pub within-place : (k c : ℕ) → over_place k c ≡ false → c * (k + 48) ≤ place
unfolding over_place
within-place k c fine = ltb-false place (c * (k + parity)) fine

-- c chunks are more than a place holds where c is
pub many_chunks : (k c : ℕ) → place < c → true ≡ over_place k c
unfolding over_place
many_chunks k c h = sym (lt-ltb place (c * (k + parity)) (omega arith))

-- ---- the parity of a chunk

module _ (chunk out : List ℕ) where
  -- no size of a chunk
  pub parity-size : bad_k (length chunk) ≡ true → outcome (number_of (Err refusal.Size)) out ≡ parity_call chunk out
  unfolding parity_call parity_fault number_of refusals.told refusals.number
  parity-size e = leaves 8 _ _ _ _ (lit< tt) (due 8 _ e)

  -- the parity put at the front
  pub parity_put : {y : Outcome} (p : List ℕ) → bad_k (length chunk) ≡ false → length p ≡ 48 → p ≡ parity_of chunk → y ≡ put_of out 0 p
      → y ≡ parity_call chunk out
  unfolding parity_call parity_fault put_of put_fault
  parity_put p fine long e q =
      q
      ∙ ap (λ (n : ℕ). settled n [] (splice out 0 p) out) (ap (λ (n : ℕ). first ((ltb (length out) n, 1) ∷ [])) (omega arith) ∙ skip 8 _ fine refl)
      ∙ ap (λ (l : List ℕ). settled (first ((bad_k (length chunk), 8) ∷ (ltb (length out) parity, 1) ∷ [])) [] (splice out 0 l) out) e

-- ---- the block of a packet

zeros_rest : (n m : ℕ) → n ≤ m → drop n (replicate {A = ℕ} m 0) ≡ replicate (m - n) 0
zeros_rest n m q =
    let e : m ≡ n + (m - n) = omega arith in
    ap (λ (x : ℕ). drop n (replicate x 0)) e
    ∙ ap (drop n) (sym (replicate-append-replicate n (m - n) 0))
    ∙ drop_at (replicate n 0) (replicate (m - n) 0) n (length-replicate {A = ℕ} n 0)

zeros_behind : (packet : List ℕ) (m : ℕ) → length packet ≤ m → splice (replicate m 0) 0 packet ≡ packet ++ replicate (m - length packet) 0
unfolding splice
zeros_behind packet m h =
    let e : 0 + length packet ≡ length packet = omega arith in
    ap (λ (l : List ℕ). packet ++ l) (ap (λ (n : ℕ). drop n (replicate m 0)) e ∙ zeros_rest (length packet) m h)

-- a chunk and its parity put into as many bytes
pub encode_put : (out d p x y : List ℕ) → length out ≡ length d + 48 → length p ≡ 48 → p ≡ parity_of d
    → x ≡ splice out 0 d → y ≡ splice x (length d) p → y ≡ encode d
unfolding encode splice
encode_put out d p x y lo lp ep ex ey =
    let whole : length out ≤ 0 + length (d ++ p) = omega (arith, length-append d p) in
    ey ∙ ap (λ (l : List ℕ). splice l (length d) p) ex ∙ splice_next out d p (length d) refl
    ∙ ap (λ (l : List ℕ). (d ++ p) ++ l) (drop_of_length-le out whole) ∙ append-nil (d ++ p) ∙ ap (λ (l : List ℕ). d ++ l) ep

-- a packet laid down in zeros
pub pad_put : (packet w : List ℕ) (r : Result (Unit {0}) Refusal) → length packet ≤ place → outcome (number_of r) w ≡ put_of (replicate 12288 0) 0 packet
    → w ≡ padded packet (place - length packet)
unfolding padded
pad_put packet w r h e =
    let zeros : List ℕ = replicate 12288 0 in
    let fits : 0 + length packet ≤ length zeros = omega (arith, length-replicate {A = ℕ} 12288 0) in
    let same : w ≡ splice zeros 0 packet = put_is zeros packet w 0 (number_of r) fits e in
    same ∙ zeros_behind packet 12288 h

-- fewer zeros behind a packet
pub pad-take : (packet : List ℕ) (n m : ℕ) → length packet ≤ n → n ≤ m
    → take n (padded packet (m - length packet)) ≡ padded packet (n - length packet)
unfolding padded
pad-take packet n m h q =
    let l : ℕ = length packet in
    let e : n ≡ l + (n - l) = omega arith in
    let w : m - l ≡ n - l + (m - n) = omega arith in
    ap₂ (λ (a b : ℕ). take a (packet ++ replicate b 0)) e w
    ∙ take-append-add packet (replicate (n - l + (m - n)) 0) (n - l)
    ∙ ap (λ (x : List ℕ). packet ++ x)
    (ap (take (n - l)) (sym (replicate-append-replicate (n - l) (m - n) 0))
    ∙ take_at (replicate (n - l) 0) (replicate (m - n) 0) (n - l) (length-replicate {A = ℕ} (n - l) 0))

module _ (k c : ℕ) (src out : List ℕ) where
  head : suc c * k ≤ length src → length out ≡ suc c * (k + 48) → Encoded k (suc c) src out → take (k + 48) out ≡ with_parity parity_of (take k src)
  unfolding with_parity encode
  head hs e d = sym (part_first (k + 48) out) ∙ d.each 0 (omega arith) ∙ ap encode (part_first k src)

  behind : Encoded k (suc c) src out → Encoded k c (drop k src) (drop (k + 48) out)
  behind d = record { each = λ j h. part_next (k + 48) j out ∙ d.each (suc j) (omega arith) ∙ ap encode (sym (part_next k j src)) }

-- chunks that are right one by one are the block
pub block_is : (k c : ℕ) (src out : List ℕ) → c * k ≤ length src → length out ≡ c * (k + 48) → Encoded k c src out → out ≡ block_of parity_of src k c
unfolding block_of
block_is k zero src [] hs e d = refl
block_is k zero src (x ∷ out) hs e d = absurd (omega arith)
block_is k (suc c) src out hs e d =
    sym (take-append-drop (k + 48) out)
    ∙ ap₂ (λ (a b : List ℕ). a ++ b) (head k c src out hs e d)
    (block_is k c (drop k src) (drop (k + 48) out) (omega (arith, length-drop k src)) (omega (arith, length-drop (k + 48) out))
    (behind k c src out d))

-- the length of a packet's block
pub length_whole : (packet : List ℕ) (k c : ℕ) → length packet ≤ c * k
    → length (block_of parity_of (padded packet (c * k - length packet)) k c) ≡ c * (k + 48)
length_whole packet k c h =
    length-block parity_of k (λ xs e. length-parity xs) (padded packet (c * k - length packet)) c
    (omega (arith, length-padded packet (c * k - length packet)))

-- the block written in a part that was lent from the start
pub block-lent : (out new block : List ℕ) (n : ℕ) → length block ≡ n → new ≡ block → new ++ drop n out ≡ splice out 0 block
unfolding splice
block-lent out new block n size e =
    let long : length new ≡ n = ap length e ∙ size in
    let z : n ≡ 0 + length new = omega arith in
    ap (λ (x : ℕ). new ++ drop x out) z ∙ ap (λ (l : List ℕ). l ++ drop (0 + length l) out) e

module _ (packet out : List ℕ) (k c : ℕ) where
  -- no size of a chunk
  pub encode-size : bad_k k ≡ true → outcome (number_of (Err refusal.Size)) out ≡ encode_call packet k c out
  unfolding encode_call encode_fault number_of refusals.told refusals.number
  encode-size e = leaves 8 _ _ _ _ (lit< tt) (due 8 _ e)

  module _ (sized : bad_k k ≡ false) where
    -- more than a place holds
    pub encode-place : over_place k c ≡ true → outcome (number_of (Err refusal.Size)) out ≡ encode_call packet k c out
    unfolding encode_call encode_fault number_of refusals.told refusals.number
    encode-place e = leaves 8 _ _ _ _ (lit< tt) (skip 8 _ sized (due 8 _ e))

    module _ (placed : over_place k c ≡ false) where
      -- the packet does not fit its chunks
      pub encode-fit : misfits (length packet) k c ≡ true → outcome (number_of (Err refusal.Size)) out ≡ encode_call packet k c out
      unfolding encode_call encode_fault number_of refusals.told refusals.number
      encode-fit e = leaves 8 _ _ _ _ (lit< tt) (skip 8 _ sized (skip 8 _ placed (due 8 _ e)))

      module _ (fits : misfits (length packet) k c ≡ false) where
        -- too little room
        pub encode_room : length out < c * (k + 48) → outcome (number_of (Err refusal.Room)) out ≡ encode_call packet k c out
        unfolding encode_call encode_fault number_of refusals.told refusals.number
        encode_room h =
            leaves 1 _ _ _ _ (lit< tt)
            (skip 8 _ sized (skip 8 _ placed (skip 8 _ fits (due 1 _ (lt-ltb (length out) (c * (k + parity)) h)))))

        -- the block stands at the front
        pub encode_done : (y : List ℕ) → c * (k + 48) ≤ length out → y ≡ splice out 0 (block_of parity_of (padded packet (c * k - length packet)) k c)
            → outcome (number_of (Ok tt)) y ≡ encode_call packet k c out
        unfolding encode_call encode_fault number_of refusals.told refusals.number
        encode_done y h e =
            writes _ _ _ _ _ (skip 8 _ sized (skip 8 _ placed (skip 8 _ fits (skip 1 _ (le-ltb (length out) (c * (k + parity)) h) none_due)))) e

-- ---- what the number of an answer tells

-- a granted answer has no fault, and the values
pub granted_by : (fault : ℕ) (v w : List ℕ) → granted v ≡ answered fault w → (0 ≡ fault) × (v ≡ w)
unfolding answered
granted_by zero v w e = (refl, cc)
granted_by (suc n) v w e = let z : ◌≡◌ {A = ℕ} 0 1 = cc in absurd (omega arith)

-- a refused one has its fault
pub refused_by : (n fault : ℕ) (w : List ℕ) → refused n ≡ answered fault w → (n ≡ fault) × (0 < n)
unfolding answered
refused_by n zero w e = let z : ◌≡◌ {A = ℕ} 0 1 = cc in absurd (omega arith)
refused_by n (suc m) w e = let q : n ≡ suc m = cc in (q, omega arith)

-- ---- the missing bytes of a chunk

module _ (k : ℕ) (mask c : List ℕ) where
  -- the sizes cannot be
  pub chunk-refused : bad_pair k (length mask) (length c) ≡ true → ChunkFilled k mask c c (Err refusal.Size)
  unfolding calls.number_of refusals.told refusals.number chunk_fault
  chunk-refused e = record { number = refuses 8 _ _ (lit< tt) (due 8 _ e); left = refl }

  module _ (fine : bad_pair k (length mask) (length c) ≡ false) where
    -- the sizes can be: that of the chunk,
    pub pair_size : bad_k k ≡ false
    unfolding bad_pair
    pair_size = or_left (bad_k k) _ fine

    lengths : (not (eqb (length mask) (k + parity)) || not (eqb (length c) (k + parity))) ≡ false
    unfolding bad_pair
    lengths = or_right (bad_k k) _ fine

    equal : (a b : ℕ) → not (eqb a b) ≡ false → a ≡ b
    equal a b e = eqb→eq a b (truth (eqb a b) e)
      where
        truth : (x : Bool) → not x ≡ false → lib.Dec.T x
        truth true e = tt
        truth false e = let z : ◌≡◌ {A = ℕ} 0 1 = cc in absurd (omega arith)

    -- and of the mask
    pub pair_mask : length mask ≡ k + 48
    pair_mask = equal (length mask) (k + parity) (or_left (not (eqb (length mask) (k + parity))) _ lengths)

    pair_chunk : length c ≡ k + 48
    pair_chunk = equal (length c) (k + parity) (or_right (not (eqb (length mask) (k + parity))) _ lengths)

    none : 0 ≡ chunk_fault k (length mask) (length c)
    unfolding chunk_fault
    none = skip 8 _ fine none_due

    -- more than 48 bytes are missing
    pub chunk_short : 48 < count (marks mask) → ChunkFilled k mask c c (Ok NotEnough)
    unfolding calls.number_of refusals.told
    chunk_short h = record { number = grants _ _ none; left = (h, refl) }

    module _ (few : count (marks mask) ≤ 48) where
      -- a block of this chunk alone
      pub chunk_ready : Ready k mask 1 c
      chunk_ready =
          record {
            short = k_most k pair_size;
            some = omega arith;
            masks = omega (arith, pair_mask);
            chunks = omega (arith, pair_chunk);
            few = λ j h.
                let z : j ≡ 0 = omega arith in
                subst (λ (m : List ℕ). count (marks m) ≤ 48) (sym (ap (λ (i : ℕ). part_of mask (k + 48) i) z ∙ part_whole (k + 48) mask pair_mask)) few;
          }

      -- the block is filled in, and so is the chunk
      pub chunk_done : (after : List ℕ) → length after ≡ length c → BlockTried k mask 1 c after true → ChunkFilled k mask c after (Ok Done)
      unfolding calls.number_of refusals.told
      chunk_done after e m =
          let whole : Agrees k (part_of mask (k + 48) 0) (part_of c (k + 48) 0) (part_of after (k + 48) 0) = m 0 (omega arith) in
          let full = part_whole (k + 48) after (e ∙ pair_chunk) in
          record {
            number = grants _ _ none;
            left = (few, rw (part_whole (k + 48) mask pair_mask, part_whole (k + 48) c pair_chunk, full) at whole);
          }

      -- the block has no filling, and so has not the chunk
      pub chunk_nothing : (after : List ℕ) → BlockTried k mask 1 c after false → ChunkFilled k mask c after (Ok Nothing)
      unfolding calls.number_of refusals.told
      chunk_nothing after m =
          let z : m.at ≡ 0 = omega (arith, m.below) in
          record {
            number = grants _ _ none;
            left = (few, λ w g. m.none w (rw (z, part_whole (k + 48) mask pair_mask, part_whole (k + 48) c pair_chunk) g), m.zeros);
          }
