-- Whether some packet agrees with what a place holds can be told, by trying all packets of the size that is due. Nothing runs this search: it shows
-- that the promise of forming asks nothing impossible. Assumes nothing.
use mathlib.Core.Logic.Dec
use mathlib.Core.Path.{◌≡◌, refl, sym, ap, ◌∙◌, subst}
use mathlib.Core.Bool.{Bool, true, false}
use mathlib.Core.List.{List, [], ◌∷◌}
use Prim.Native.Nat.{ℕ, zero, suc, ◌+◌, ◌-◌, ◌*◌, ◌<◌}
use native.Mathlib.Decide.{ℕ_discrete}
use native.Mathlib.Omega.{arith}
use lib.ListN.{length, get_or}
use Rattle.base_rules.specs.Bounds.{parity}
use Rattle.base_rules.specs.Bytes.{Bytes}
use Rattle.base_rules.proofs.Logic.{either, clash}
use Rattle.cut_rules.specs.Block.{padded, block_of}
use Rattle.cut_rules.specs.Cells.{cell_of}
use Rattle.cut_rules.specs.Missing.{gone}
use Rattle.cut_rules.specs.Sizes.{received_c}
use Rattle.codeword.specs.Code.{parity_of}
use Rattle.af_rules.specs.Calls.{af_fault}
use Rattle.places_rules.specs.declared.Place.{Place}
use Rattle.form_rules.specs.Agree.{lost_in, joined, Fills, Agrees}
use Rattle.form_rules.specs.Claims.{Decided}

-- ---- numbers below a bound

module _ (P : ℕ → Type 0) (decide : (k : ℕ) → Dec (P k)) where
  -- some number below n has it
  search_below : (n : ℕ) → Dec ((k : ℕ) × (k < n) × P k)
  search_below zero = no (λ (x : (k : ℕ) × (k < zero) × P k). let h : x.0 < zero = x.1 in omega arith)
  search_below (suc n) = go (decide n) (search_below n)
    where
      go : Dec (P n) → Dec ((k : ℕ) × (k < n) × P k) → Dec ((k : ℕ) × (k < suc n) × P k)
      go (yes p) rest = yes (n, omega arith, p)
      go (no p) (yes x) = yes (x.0, (let h : x.0 < n = x.1 in omega arith), x.2)
      go (no p) (no x) = no (λ y. missed y (ℕ_discrete y.0 n))
        where
          missed : (y : (k : ℕ) × (k < suc n) × P k) → Dec (y.0 ≡ n) → ⊥
          missed y (yes e) = p (subst P e y.2)
          missed y (no e) = x (y.0, (let h : y.0 < suc n = y.1 in omega (arith, e)), y.2)

  -- each number below n has it
  all_below : (n : ℕ) → Dec ((k : ℕ) → k < n → P k)
  all_below zero = yes (λ k (h : k < zero). absurd (omega arith))
  all_below (suc n) = go (decide n) (all_below n)
    where
      go : Dec (P n) → Dec ((k : ℕ) → k < n → P k) → Dec ((k : ℕ) → k < suc n → P k)
      go (no p) rest = no (λ all. p (all n (omega arith)))
      go (yes p) (no x) = no (λ all. x (λ k (h : k < n). all k (omega arith)))
      go (yes p) (yes x) = yes (λ k h. last k h (ℕ_discrete k n))
        where
          last : (k : ℕ) → k < suc n → Dec (k ≡ n) → P k
          last k h (yes e) = rw e p
          last k h (no e) = x k (omega (arith, e))

-- ---- lists of bytes

-- some list of L bytes has it
search_bytes : (L : ℕ) (P : List ℕ → Type 0) → ((l : List ℕ) → Dec (P l)) → Dec ((l : List ℕ) × (length l ≡ L) × Bytes l × P l)
search_bytes zero P decide = go (decide [])
  where
    empty : (l : List ℕ) → length l ≡ zero → P l → P []
    empty [] e p = p
    empty (x ∷ l) e p = absurd (omega arith)

    go : Dec (P []) → Dec ((l : List ℕ) × (length l ≡ zero) × Bytes l × P l)
    go (yes p) = yes ([], refl, tt, p)
    go (no p) = no (λ x. p (empty x.0 x.1 x.3))
search_bytes (suc L) P decide =
    go (search_below (λ b. (l : List ℕ) × (length l ≡ L) × Bytes l × P (b ∷ l)) (λ b. search_bytes L (λ l. P (b ∷ l)) (λ l. decide (b ∷ l))) 256)
  where
    found : (l : List ℕ) → length l ≡ suc L → Bytes l → P l → (b : ℕ) × (b < 256) × ((l : List ℕ) × (length l ≡ L) × Bytes l × P (b ∷ l))
    found [] e h p = absurd (omega arith)
    found (b ∷ l) e h p = (b, h.0, (l, omega arith, h.1, p))

    go : Dec ((b : ℕ) × (b < 256) × ((l : List ℕ) × (length l ≡ L) × Bytes l × P (b ∷ l))) → Dec ((l : List ℕ) × (length l ≡ suc L) × Bytes l × P l)
    go (yes (b, h, x)) = yes (b ∷ x.0, (let e : length x.0 ≡ L = x.1 in omega arith), (h, x.2), x.3)
    go (no n) = no (λ x. n (found x.0 x.1 x.2 x.3))

-- ---- packets

-- with FEC, all packets of the size that is due
module _ (f s k z : ℕ) (lost : ℕ → Bool) (held : List ℕ) where
  -- cell q of the packet's block, where its fragment is kept
  abbrev CellAgrees : List ℕ → ℕ → Type 0
  CellAgrees P q = gone lost f q ≡ false → cell_of held f s q ≡ get_or (block_of parity_of (padded P z) k (received_c f s k)) q 0

  cell-agrees : (P : List ℕ) (q : ℕ) → Dec (CellAgrees P q)
  cell-agrees P q =
      either (gone lost f q)
      (λ away. yes (λ kept. clash away kept))
      (λ kept. go kept (ℕ_discrete (cell_of held f s q) (get_or (block_of parity_of (padded P z) k (received_c f s k)) q 0)))
    where
      go : gone lost f q ≡ false → Dec (cell_of held f s q ≡ get_or (block_of parity_of (padded P z) k (received_c f s k)) q 0) → Dec (CellAgrees P q)
      go kept (yes e) = yes (λ z. e)
      go kept (no e) = no (λ all. e (all kept))

  decided_coded : Dec ((P : List ℕ) × Fills f s k z lost held P × (af_fault P ≡ 0))
  decided_coded =
      go (search_bytes (received_c f s k * k - z) (λ P. ((q : ℕ) → q < received_c f s k * (k + parity) → CellAgrees P q) × (af_fault P ≡ 0))
      (λ P. Dec.and (all_below (CellAgrees P) (cell-agrees P) (received_c f s k * (k + parity))) (ℕ_discrete (af_fault P) 0)))
    where
      go : Dec ((P : List ℕ) × (length P ≡ received_c f s k * k - z) × Bytes P
          × (((q : ℕ) → q < received_c f s k * (k + parity) → CellAgrees P q) × (af_fault P ≡ 0)))
          → Dec ((P : List ℕ) × Fills f s k z lost held P × (af_fault P ≡ 0))
      go (yes (P, size, bytes, x)) = yes (P, record { size = size; bytes = bytes; cells = x.0 }, x.1)
      go (no none) = no (λ x. none (x.0, x.1.size, x.1.bytes, (x.1.cells, x.2)))

module _ (p : Place) (held : List ℕ) where
  agrees-coded : p.fec ≡ true → Dec ((P : List ℕ) × Fills p.count p.size p.rsk p.rsz (lost_in p) held P × (af_fault P ≡ 0))
      → Dec ((P : List ℕ) × Agrees p held P)
  agrees-coded coded (yes (P, fills, accepted)) = yes (P, record { coded = λ e. fills; plain = λ e. clash coded e; accepted = accepted })
  agrees-coded coded (no none) = no (λ x. none (x.0, x.1.coded coded, x.1.accepted))

  -- without FEC there is one packet to try
  agrees-plain : p.fec ≡ false → Dec (af_fault (joined p held) ≡ 0) → Dec ((P : List ℕ) × Agrees p held P)
  agrees-plain plain (yes accepted) = yes (joined p held, record { coded = λ e. clash e plain; plain = λ e. refl; accepted = accepted })
  agrees-plain plain (no refused) = no (λ x. refused (sym (ap af_fault (x.1.plain plain)) ∙ x.1.accepted))

-- whether any packet agrees with what a place holds can always be told
pub decided : Decided
decided p held =
    either p.fec
    (λ coded. agrees-coded p held coded (decided_coded p.count p.size p.rsk p.rsz (lost_in p) held))
    (λ plain. agrees-plain p held plain (ℕ_discrete (af_fault (joined p held)) 0))
