-- Whether fragments suffice depends on which are lost and on nothing else, losing fewer suffices too, and the sender's figures say the same
-- as the receiver's. Assumes nothing.
use mathlib.Core.Path.{◌≡◌, refl, sym, ap, ap₂, ◌∙◌}
use mathlib.Core.Bool.{Bool, true, false, not, cond, ◌&&◌}
use mathlib.Core.List.{List}
use Prim.Native.Nat.{ℕ, zero, suc, ◌+◌, ◌*◌, ◌%◌, ◌≤◌, ◌<◌, zero-le}
use native.Mathlib.Nat.{mod-lt}
use native.Mathlib.Omega.{arith}
use borrow.Author.Tests.{eqb-true, eq-eqb, ne_eqb, leb-true, le-leb}
use lib.Dec.{leb, eqb}
use lib.ListN.{length}
use Rattle.base_rules.specs.Bounds.{parity}
use Rattle.base_rules.specs.Tests.{bit}
use Rattle.base_rules.proofs.Logic.{either, and_left, and_right}
use Rattle.cut_rules.specs.declared.Settings.{Settings}
use Rattle.cut_rules.specs.Missing.{count, losses, gone, missing, suffice}
use Rattle.cut_rules.specs.Plan.{with_fec}
use Rattle.cut_rules.specs.Sizes as cut
use Rattle.cut_rules.proofs.ChunkSizes.{c_some}
use Rattle.cut_rules.proofs.LossCounts.{count_same}
use Rattle.cut_rules.proofs.Proved.{c3}
use Rattle.cut_rules.proofs.Sufficing.{suffice_no}
use Rattle.form_rules.specs.Agree.{enough}
use Rattle.sender_rules.specs.Calls.{packet_fault}
use Rattle.sender_rules.proofs.Checks.{taken, in_bounds}
use Rattle.sender_rules.proofs.FragmentLengths.{sure, f_some}
use Rattle.sender_rules.proofs.PlannedFigures.{with_fec_lem}
use Rattle.link.specs.Run.{Call, come, lost}
use Rattle.link.specs.Demand as demand

-- ---- the same are lost

module _ (a b : ℕ → Bool) (f : ℕ) (some : 0 < f) (same : (i : ℕ) → i < f → a i ≡ b i) where
  missing-same : (n j : ℕ) → missing a f n j ≡ missing b f n j
  unfolding missing
  missing-same n j = count_same (gone a f) (gone b f) (j * n) n (λ i h. same ((j * n + i) % f) (mod-lt (j * n + i) some))

  suffice-same : (n c : ℕ) → suffice a f n c ≡ suffice b f n c
  unfolding suffice
  suffice-same n zero = refl
  suffice-same n (suc c) = ap₂ (λ (x : Bool) (y : ℕ). x && leb y parity) (suffice-same n c) (missing-same n c)

  -- where the same ones of f fragments are lost, as many are lost
  pub losses-same : losses a f ≡ losses b f
  unfolding losses
  losses-same = count_same a b 0 f (λ i h. same (0 + i) (omega arith))

  -- and the others suffice in both cases or in neither
  pub enough-same : (fec : Bool) (s k : ℕ) → enough fec f s k a ≡ enough fec f s k b
  unfolding enough
  enough-same true s k = suffice-same (k + parity) (cut.received_c f s k)
  enough-same false s k = ap (λ (x : ℕ). eqb x 0) losses-same

-- ---- fewer are lost

module _ (a b : ℕ → Bool) (less : (i : ℕ) → a i ≡ true → b i ≡ true) where
  bit_less : (i : ℕ) → bit (a i) ≤ bit (b i)
  bit_less i = either (a i) (λ e. rw (e, less i e) (omega arith)) (λ e. rw e (omega arith))

  count_less : (x t : ℕ) → count a x t ≤ count b x t
  unfolding count
  count_less x zero = zero-le
  count_less x (suc t) = omega (arith, bit_less x, count_less (suc x) t)

module _ (a b : ℕ → Bool) (f : ℕ) (less : (i : ℕ) → a i ≡ true → b i ≡ true) where
  missing_less : (n j : ℕ) → missing a f n j ≤ missing b f n j
  unfolding missing
  missing_less n j = count_less (gone a f) (gone b f) (λ i. less (i % f)) (j * n) n

  both : {u v : Bool} → u ≡ true → v ≡ true → (u && v) ≡ true
  both p q = simp (p, q)

  suffice_less : (n c : ℕ) → suffice b f n c ≡ true → suffice a f n c ≡ true
  unfolding suffice
  suffice_less n zero e = refl
  suffice_less n (suc c) e =
      both (suffice_less n c (and_left (suffice b f n c) _ e))
      (le-leb (missing a f n c) parity (omega (
        arith,
        missing_less n c,
        leb-true (missing b f n c) parity (and_right (suffice b f n c) (leb (missing b f n c) parity) e),
      )))

  losses_less : losses a f ≤ losses b f
  unfolding losses
  losses_less = count_less a b less 0 f

  -- what sufficed suffices with more
  pub enough_more : (fec : Bool) (s k : ℕ) → enough fec f s k b ≡ true → enough fec f s k a ≡ true
  unfolding enough
  enough_more true s k e = suffice_less (k + parity) (cut.received_c f s k) e
  enough_more false s k e = eq-eqb (losses a f) 0 (omega (arith, losses_less, eqb-true (losses b f) 0 e))

-- ---- of a packet that is sent

-- the figures of its cut, as its headers tell them
abbrev pub size_of : Settings → List ℕ → ℕ
size_of g packet = cut.s g (length packet)

-- the RSk of its headers: k with FEC, else 0
abbrev pub rsk_of : Settings → List ℕ → ℕ
rsk_of g packet = with_fec g (cut.k (length packet))

-- the RSz of its headers: z with FEC, else 0
abbrev pub rsz_of : Settings → List ℕ → ℕ
rsz_of g packet = with_fec g (cut.z (length packet))

-- where all are lost
count-all : (a t : ℕ) → count (λ i. true) a t ≡ t
unfolding count
count-all a zero = refl
count-all a (suc t) = omega (arith, count-all (suc a) t)

module _ (g : Settings) (packet : List ℕ) where
  -- these of its fragments suffice, as the receiver says it of a place with the figures of the cut
  unfoldable pub suffices : (ℕ → Bool) → Bool
  suffices came = enough g.fec (demand.count g packet) (size_of g packet) (rsk_of g packet) (λ i. not (came i))

  module _ (passed : packet_fault g packet ≡ 0) where
    module _ (fec : g.fec ≡ true) where
      pub is_n : rsk_of g packet + parity ≡ cut.n (length packet)
      unfolding cut.n
      is_n = ap (λ (x : ℕ). x + parity) (with_fec_lem g (cut.k (length packet)) fec)

      -- the chunks that are looked at are those that the receiver takes by the headers
      is_chunks : cut.received_c (demand.count g packet) (size_of g packet) (rsk_of g packet) ≡ demand.chunks g packet
      is_chunks = ap (cut.received_c (demand.count g packet) (size_of g packet)) (with_fec_lem g (cut.k (length packet)) fec)

      -- C3: and those of the cut
      pub is_c : cut.received_c (demand.count g packet) (size_of g packet) (rsk_of g packet) ≡ cut.c (length packet)
      is_c = is_chunks ∙ c3 g (length packet) (taken g packet passed) fec

    -- both ways of saying that it is enough
    pub enough_is : (n : ℕ) (es : List Call) → demand.enough_after g n packet es ≡ suffices (come (demand.key_for g n) es)
    unfolding demand.enough_after suffices enough
    enough_is n es =
        let f : ℕ = demand.count g packet in
        let gone : ℕ → Bool = lost (demand.key_for g n) es in
        let plain : Bool = eqb (losses gone f) 0 in
        let received : Bool = suffice gone f (rsk_of g packet + parity) (cut.received_c f (size_of g packet) (rsk_of g packet)) in
        let sent : Bool = suffice gone f (cut.n (length packet)) (demand.chunks g packet) in
        either g.fec
        (λ fec.
        ap (λ (v : Bool). cond v sent plain) fec
        ∙ ap₂ (suffice gone f) (sym (is_n fec)) (sym (is_chunks fec))
        ∙ sym (ap (λ (v : Bool). cond v received plain) fec))
        (λ fec. ap (λ (v : Bool). cond v sent plain) fec ∙ sym (ap (λ (v : Bool). cond v received plain) fec))

    coded_begins : g.fec ≡ true → suffices (λ i. false) ≡ false
    unfolding suffices enough missing
    coded_begins fec =
        let n : ℕ = rsk_of g packet + parity in
        ap (λ (v : Bool). enough v (demand.count g packet) (size_of g packet) (rsk_of g packet) (λ i. true)) fec
        ∙ suffice_no (λ i. true) (demand.count g packet) n (cut.received_c (demand.count g packet) (size_of g packet) (rsk_of g packet)) 0
        (omega (arith, is_c fec, c_some (length packet) (omega (arith, (in_bounds g packet passed).from))))
        (omega (arith, count-all (0 * n) n, with_fec_lem g (cut.k (length packet)) fec, (sure g packet passed).k_least))

    plain_begins : g.fec ≡ false → suffices (λ i. false) ≡ false
    unfolding suffices enough losses
    plain_begins fec =
        ap (λ (v : Bool). enough v (demand.count g packet) (size_of g packet) (rsk_of g packet) (λ i. true)) fec
        ∙ ne_eqb (count (λ i. true) 0 (demand.count g packet)) 0 (λ z. omega (arith, count-all 0 (demand.count g packet), f_some g packet passed))

    -- no fragment is not enough
    pub begins : suffices (λ i. false) ≡ false
    begins = either g.fec coded_begins plain_begins
