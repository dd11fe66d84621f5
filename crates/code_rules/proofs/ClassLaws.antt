-- A class: masks compared, and what the chunks that miss the same places share. Assumes nothing.
use mathlib.Core.Path.{◌≡◌, sym, ap, ap₂, ◌∙◌, subst}
use mathlib.Core.List.{List}
use Prim.Native.Nat.{ℕ, ◌+◌, ◌-◌, ◌*◌, ◌≤◌, ◌<◌}
use native.Mathlib.Omega.{arith}
use lib.ListN.{length, take, drop, get_or, length-drop}
use lib.Seq.{length-take-le, ext_get_or, get_or-take, get_or-drop}
use Rattle.base_rules.specs.Bytes.{part_of}
use Rattle.base_rules.proofs.Parts.{part_room, length_part, mid_part}
use Rattle.codeword.specs.Erasure.{marks, count}
use Rattle.code_rules.specs.inner.Kernel.{Made, Multiples, roots_list}
use Rattle.code_rules.specs.inner.Patterns.{Pattern}
use Rattle.code_rules.specs.inner.Sharing.{locs, Shared}
use Rattle.code_rules.specs.inner.Solving.{PatternMade, locators_by}
use Rattle.code_rules.specs.inner.Block.{Ready}
use Rattle.code_rules.proofs.SolvingLaws.{pattern_by, locators_by_lem}

-- ---- two masks compared

module _ (l : List ℕ) (a b n : ℕ) where
  member : (s i : ℕ) → i < n → get_or (take n (drop s l)) i 0 ≡ get_or l (s + i) 0
  member s i h = get_or-take n (drop s l) i 0 h ∙ get_or-drop s l i 0

  -- parts with the same members are the same
  pub same_end : a + n ≤ length l → b + n ≤ length l → ((i : ℕ) → i < n → get_or l (a + i) 0 ≡ get_or l (b + i) 0)
      → take n (drop a l) ≡ take n (drop b l)
  same_end ha hb h =
      ext_get_or 0 (take n (drop a l)) (take n (drop b l)) (size a ha ∙ sym (size b hb))
      (λ i q. let r : i < n = omega (arith, size a ha) in member a i r ∙ h i r ∙ sym (member b i r))
    where
      size : (s : ℕ) → s + n ≤ length l → length (take n (drop s l)) ≡ n
      size s q = length-take-le n (drop s l) (omega (arith, length-drop s l))

  -- and parts that differ in one are not
  pub differ : (i : ℕ) → i < n → (get_or l (a + i) 0 ≡ get_or l (b + i) 0 → ⊥) → take n (drop a l) ≡ take n (drop b l) → ⊥
  differ i h d e = d (sym (member a i h) ∙ ap (λ (m : List ℕ). get_or m i 0) e ∙ member b i h)

-- ---- one chunk of the block

-- the chunk j ends before the masks do,
pub in_mask : {k c : ℕ} {mask blk : List ℕ} (j : ℕ) → Ready k mask c blk → j < c → j * (k + 48) + (k + 48) ≤ length mask
in_mask {k} {c} j r h = omega (arith, part_room (k + 48) c j h, r.masks)

-- and before the block does
pub in_block : {k c : ℕ} {mask blk : List ℕ} (j : ℕ) → Ready k mask c blk → j < c → j * (k + 48) + (k + 48) ≤ length blk
in_block {k} {c} j r h = omega (arith, part_room (k + 48) c j h, r.chunks)

-- its length
pub chunk_long : {k c : ℕ} {mask blk : List ℕ} (j : ℕ) → Ready k mask c blk → j < c
    → length (take (j * (k + 48) + (k + 48) - j * (k + 48)) (drop (j * (k + 48)) blk)) ≡ k + 48
chunk_long {k} {c} {mask} {blk} j r h = ap length (mid_part (k + 48) j blk) ∙ length_part (k + 48) c j blk (omega (arith, r.chunks)) h

-- what its class shares is right for it
pub shared_same : {t rk q sc : List ℕ} {e k : ℕ} (mask : List ℕ) (i j : ℕ) → Shared t rk q sc (part_of mask (k + 48) i) e k
    → take (k + 48) (drop (i * (k + 48)) mask) ≡ take (k + 48) (drop (j * (k + 48)) mask)
    → Shared t rk q sc (take (j * (k + 48) + (k + 48) - j * (k + 48)) (drop (j * (k + 48)) mask)) e k
unfolding part_of
shared_same {t} {rk} {q} {sc} {e} {k} mask i j s same = subst (λ (m : List ℕ). Shared t rk q sc m e k) (same ∙ sym (mid_part (k + 48) j mask)) s

-- no more than 48 bytes of it are missing
class_few : {k c e : ℕ} {mask blk : List ℕ} (i : ℕ) → Ready k mask c blk → i < c
    → e ≡ count (marks (take (i * (k + 48) + (k + 48) - i * (k + 48)) (drop (i * (k + 48)) mask))) → e ≤ 48
class_few {k} {mask = mask} i r h counted = omega (arith, counted ∙ ap (λ (l : List ℕ). count (marks l)) (mid_part (k + 48) i mask), r.few i h)

-- what the class of chunk i shares
shared_by : {k c : ℕ} {mask blk : List ℕ} (i e : ℕ) (t rk q sc xs : List ℕ) → Ready k mask c blk → i < c → Made t 12288 → Multiples roots_list rk
    → e ≡ count (marks (take (i * (k + 48) + (k + 48) - i * (k + 48)) (drop (i * (k + 48)) mask)))
    → xs ≡ locs k (take (i * (k + 48) + (k + 48) - i * (k + 48)) (drop (i * (k + 48)) mask)) → Pattern xs q sc
    → Shared t rk q sc (part_of mask (k + 48) i) e k
shared_by {k} {c} {mask} i e t rk q sc xs r h table roots counted located found =
    let m = mid_part (k + 48) i mask in
    record {
      short = r.short;
      masked = length_part (k + 48) c i mask (omega (arith, r.masks)) h;
      few = class_few i r h counted;
      counted = counted ∙ ap (λ (l : List ℕ). count (marks l)) m;
      table = table;
      roots = roots;
      found = subst (λ (l : List ℕ). Pattern l q sc) (located ∙ ap (locs k) m) found;
    }

-- the same from what the calls of the solver gave
pub shared_with : {k c : ℕ} {mask blk : List ℕ} (i e : ℕ) (t rk q₀ q sc x : List ℕ) → Ready k mask c blk → i < c → Made t 12288
    → Multiples roots_list rk → e ≡ count (marks (take (i * (k + 48) + (k + 48) - i * (k + 48)) (drop (i * (k + 48)) mask)))
    → x ≡ locators_by k (take (i * (k + 48) + (k + 48) - i * (k + 48)) (drop (i * (k + 48)) mask)) → length x ≡ 48 → length q₀ ≡ 2304
    → PatternMade x e q₀ q sc → Shared t rk q sc (part_of mask (k + 48) i) e k
shared_with {k} {c} {mask} i e t rk q₀ q sc x r h table roots counted is_x size-x size-q made =
    let m : List ℕ = take (i * (k + 48) + (k + 48) - i * (k + 48)) (drop (i * (k + 48)) mask) in
    let few : e ≤ 48 = class_few i r h counted in
    let size : length m ≡ k + 48 = ap length (mid_part (k + 48) i mask) ∙ length_part (k + 48) c i mask (omega (arith, r.masks)) h in
    let found = locators_by_lem k m r.short size (subst (λ (n : ℕ). n ≤ 48) counted few) in
    let located = ap₂ take counted is_x ∙ found in
    shared_by i e t rk q sc (take e x) r h table roots counted located (pattern_by x q₀ q sc e few size-x size-q made)
