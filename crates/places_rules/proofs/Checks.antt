-- The tests of a place and of a fragment for it: which answer is due after which tests. Assumes nothing.
use mathlib.Core.Path.{◌≡◌, refl, sym, ap, ◌∙◌}
use mathlib.Core.Bool.{Bool, true, false, not, beq, ◌&&◌, ◌||◌}
use Prim.Native.Nat.{ℕ, ◌*◌, ◌≤◌, ◌<◌}
use borrow.Author.Tests.{eq-eqb, ne_eqb, le-leb, lt-leb, lt-ltb, le-ltb}
use lib.Dec.{ltb, leb, eqb}
use lib.ListN.{get_or}
use Rattle.base_rules.specs.Bounds.{most_f, bad_k, place}
use Rattle.base_rules.proofs.Firsts.{due, skip, none_due}
use Rattle.base_rules.proofs.Logic.{same, other, hit, pass}
use Rattle.header_rules.specs.declared.Header.{Header}
use Rattle.places_rules.specs.declared.Place.{Place}
use Rattle.places_rules.specs.declared.Table.{Table}
use Rattle.places_rules.specs.Places.{four, spoiled, delivered, place_at, is_last}
use Rattle.places_rules.specs.Faults.{bad_figures, bad_code, bad_place, bad_table, bad_size_in, mismatch, place_fault}

-- ---- 14, of a place

-- k and z that are no chunk's
abbrev chunk_test : ℕ → ℕ → Bool
chunk_test k z = bad_k k || leb k z

module _ (p : Place) where
  -- a count over 256 puts a place's figures out of range
  pub count_over : most_f < p.count → true ≡ bad_figures p
  unfolding bad_figures
  count_over h = hit _ (lt-ltb most_f p.count h)

  module _ (few : p.count ≤ most_f) where
    -- so do f fragments of s bytes that are more than a place holds, f being at most 256
    pub size_over : place < p.count * p.size → true ≡ bad_figures p
    unfolding bad_figures
    size_over h = pass (le-ltb most_f p.count few) (hit _ (lt-ltb place (p.count * p.size) h))

    module _ (fits : p.count * p.size ≤ place) where
      -- so does a last fragment longer than a place, where f fragments of s bytes fit it
      pub last_over : place < p.last → true ≡ bad_figures p
      unfolding bad_figures
      last_over h =
          pass (le-ltb most_f p.count few) (pass (le-ltb place (p.count * p.size) fits) (hit _ (lt-ltb place p.last h)))

      module _ (last_Fits : p.last ≤ place) where
        rest : {r : Bool} → r ≡ (not (eqb p.size 0) && ltb p.size p.last) → r ≡ bad_figures p
        unfolding bad_figures
        rest e =
            pass (le-ltb most_f p.count few)
            (pass (le-ltb place (p.count * p.size) fits) (pass (le-ltb place p.last last_Fits) e))

        -- while s is unknown, a count and a last fragment that fit are figures in range
        pub size_unknown : p.size ≡ 0 → false ≡ bad_figures p
        size_unknown e = rest (ap (λ (b : Bool). not b && ltb p.size p.last) (sym (eq-eqb p.size 0 e)))

        -- once s is known, figures that fit are out of range just where the last fragment is longer than s
        pub last_longer : (p.size ≡ 0 → ⊥) → ltb p.size p.last ≡ bad_figures p
        last_longer e = rest (ap (λ (b : Bool). not b && ltb p.size p.last) (sym (ne_eqb p.size 0 e)))

  -- without FEC k and z are never out of range
  pub no_code : p.fec ≡ false → false ≡ bad_code p
  unfolding bad_code
  no_code e = ap (λ (b : Bool). b && chunk_test p.rsk p.rsz) (sym e)

  module _ (coded : p.fec ≡ true) where
    chunk_told : {r : Bool} → r ≡ chunk_test p.rsk p.rsz → r ≡ bad_code p
    unfolding bad_code
    chunk_told e = e ∙ ap (λ (b : Bool). b && chunk_test p.rsk p.rsz) (sym coded)

    -- with FEC k 0 or over 207 is out of range
    pub k-out : bad_k p.rsk ≡ true → true ≡ bad_code p
    k-out e = chunk_told (hit _ e)

    -- with FEC and k from 1 to 207, k and z are out of range just where z is not below k
    pub z_over : bad_k p.rsk ≡ false → leb p.rsk p.rsz ≡ bad_code p
    z_over e = chunk_told (pass e refl)

  -- a condition past spoiled puts a place out of range
  pub condition_over : spoiled < p.condition → true ≡ bad_place p
  unfolding bad_place
  condition_over h = hit _ (lt-ltb spoiled p.condition h)

  module _ (known : p.condition ≤ spoiled) where
    -- in a condition that there is, figures out of range put the place out of range
    pub figures_bad : bad_figures p ≡ true → true ≡ bad_place p
    unfolding bad_place
    figures_bad e = pass (le-ltb spoiled p.condition known) (hit _ e)

    -- with condition and figures in range, k and z decide
    pub code_told : bad_figures p ≡ false → {b : Bool} → b ≡ bad_code p → b ≡ bad_place p
    unfolding bad_place
    code_told e q = pass (le-ltb spoiled p.condition known) (pass e q)

-- ---- 14, of the four

module _ (t : Table) where
  -- the record is out of range where the place to be displaced next is none of the four
  pub oldest_over : four ≤ t.oldest → true ≡ bad_table t
  unfolding bad_table
  oldest_over h = hit _ (le-leb four t.oldest h)

  module _ (below : t.oldest < four) where
    turn : leb four t.oldest ≡ false
    turn = lt-leb four t.oldest below

    -- with that one in range, a first place out of range puts the record out of range
    pub bad_0 : bad_place (place_at t 0) ≡ true → true ≡ bad_table t
    unfolding bad_table
    bad_0 e = pass turn (hit _ e)

    module _ (e₀ : bad_place (place_at t 0) ≡ false) where
      -- so does the second place, where the first is in range
      pub bad_1 : bad_place (place_at t 1) ≡ true → true ≡ bad_table t
      unfolding bad_table
      bad_1 e = pass turn (pass e₀ (hit _ e))

      module _ (e₁ : bad_place (place_at t 1) ≡ false) where
        -- so does the third place, where the two before it are in range
        pub bad_2 : bad_place (place_at t 2) ≡ true → true ≡ bad_table t
        unfolding bad_table
        bad_2 e = pass turn (pass e₀ (pass e₁ (hit _ e)))

        -- with three places in range the fourth decides
        pub bad_3 : bad_place (place_at t 2) ≡ false → {b : Bool} → b ≡ bad_place (place_at t 3) → b ≡ bad_table t
        unfolding bad_table
        bad_3 e₂ q = pass turn (pass e₀ (pass e₁ (pass e₂ q)))

-- ---- 9, of a size

module _ (p : Place) (h : Header) where
  -- with FEC a size cannot belong just where it differs from s
  pub size-coded : h.fec ≡ true → not (eqb p.size h.plen) ≡ bad_size_in p h
  unfolding bad_size_in
  size-coded e = simp e

  module _ (plain : h.fec ≡ false) {b : Bool} (is_b : b ≡ is_last h) where
    module _ (ends : b ≡ true) where
      -- without FEC the last fragment may have any size while s is unknown
      pub last-any : p.size ≡ 0 → false ≡ bad_size_in p h
      unfolding bad_size_in
      last-any e = simp (plain, sym is_b ∙ ends, eq-eqb p.size 0 e)

      -- the last fragment's size cannot belong just where it is longer than a known s
      pub last_known : (p.size ≡ 0 → ⊥) → ltb p.size h.plen ≡ bad_size_in p h
      unfolding bad_size_in
      last_known e = simp (plain, sym is_b ∙ ends, ne_eqb p.size 0 e)

    module _ (inner : b ≡ false) where
      -- before the last, with s unknown, a size cannot belong just where it is shorter than the kept last
      pub inner_any : p.size ≡ 0 → ltb h.plen p.last ≡ bad_size_in p h
      unfolding bad_size_in
      inner_any e = simp (plain, sym is_b ∙ inner, eq-eqb p.size 0 e)

      module _ (known : p.size ≡ 0 → ⊥) where
        -- before the last, a size that is the known s is still compared with the kept last
        pub inner_same : p.size ≡ h.plen → ltb h.plen p.last ≡ bad_size_in p h
        unfolding bad_size_in
        inner_same e = simp (plain, sym is_b ∙ inner, ne_eqb p.size 0 known, eq-eqb p.size h.plen e)

        -- before the last, a size other than the known s cannot belong
        pub inner_other : (p.size ≡ h.plen → ⊥) → true ≡ bad_size_in p h
        unfolding bad_size_in
        inner_other e = simp (plain, sym is_b ∙ inner, ne_eqb p.size 0 known, ne_eqb p.size h.plen e)

-- ---- 9, of a cut

module _ (p : Place) (h : Header) where
  -- another Fcount than the place's is a mismatch
  pub count_other : (p.count ≡ h.count → ⊥) → true ≡ mismatch p h
  unfolding mismatch
  count_other e = hit _ (other e)

  module _ (e₁ : p.count ≡ h.count) where
    -- with the same Fcount, another FEC bit is a mismatch
    pub fec_other : not (beq p.fec h.fec) ≡ true → true ≡ mismatch p h
    unfolding mismatch
    fec_other e = pass (same e₁) (hit _ e)

    module _ (e₂ : not (beq p.fec h.fec) ≡ false) where
      -- with the same Fcount and FEC bit, another RSk is a mismatch
      pub rsk_other : (p.rsk ≡ h.rsk → ⊥) → true ≡ mismatch p h
      unfolding mismatch
      rsk_other e = pass (same e₁) (pass e₂ (hit _ (other e)))

      module _ (e₃ : p.rsk ≡ h.rsk) where
        -- with the same Fcount, FEC bit and RSk, another RSz is a mismatch
        pub rsz_other : (p.rsz ≡ h.rsz → ⊥) → true ≡ mismatch p h
        unfolding mismatch
        rsz_other e = pass (same e₁) (pass e₂ (pass (same e₃) (hit _ (other e))))

        -- with all four the same, only a size that cannot belong is a mismatch
        pub size_told : p.rsz ≡ h.rsz → {b : Bool} → b ≡ bad_size_in p h → b ≡ mismatch p h
        unfolding mismatch
        size_told e q = pass (same e₁) (pass e₂ (pass (same e₃) (pass (same e) q)))

  -- ---- 9 to 12, in their order

  -- a mismatch gives 9, whatever condition the place is in
  pub due_9 : mismatch p h ≡ true → 9 ≡ place_fault p h
  unfolding place_fault
  due_9 e = due 9 _ e

  module _ (e₉ : mismatch p h ≡ false) where
    -- without a mismatch a spoiled place gives 10
    pub due_10 : p.condition ≡ spoiled → 10 ≡ place_fault p h
    unfolding place_fault
    due_10 e = skip 9 _ e₉ (due 10 _ (eq-eqb p.condition spoiled e))

    module _ (e₁₀ : p.condition ≡ spoiled → ⊥) where
      -- without a mismatch a delivered place gives 11
      pub due_11 : p.condition ≡ delivered → 11 ≡ place_fault p h
      unfolding place_fault
      due_11 e = skip 9 _ e₉ (skip 10 _ (ne_eqb p.condition spoiled e₁₀) (due 11 _ (eq-eqb p.condition delivered e)))

      module _ (e₁₁ : p.condition ≡ delivered → ⊥) where
        -- without a mismatch, in a place neither spoiled nor delivered, an index already kept gives 12
        pub due_12 : get_or p.kept h.index false ≡ true → 12 ≡ place_fault p h
        unfolding place_fault
        due_12 e =
            skip 9 _ e₉ (skip 10 _ (ne_eqb p.condition spoiled e₁₀) (skip 11 _ (ne_eqb p.condition delivered e₁₁) (due 12 _ e)))

        -- there an index that is not kept yet gives no refusal: the fragment is to be kept
        pub due_none : get_or p.kept h.index false ≡ false → 0 ≡ place_fault p h
        unfolding place_fault
        due_none e =
            skip 9 _ e₉
            (skip 10 _ (ne_eqb p.condition spoiled e₁₀) (skip 11 _ (ne_eqb p.condition delivered e₁₁) (skip 12 _ e none_due)))
