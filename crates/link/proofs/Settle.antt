-- How the packet's own place settles after one of its fragments was kept: it waits, or it hands out the packet. Assumes nothing.
use mathlib.Core.Path.{◌≡◌, refl, sym, ap, ap₂, ◌∙◌}
use mathlib.Core.Bool.{Bool, true, false, not}
use mathlib.Core.List.{List}
use Prim.Native.Nat.{ℕ, ◌≤◌, ◌<◌}
use native.Mathlib.Omega.{arith}
use lib.ListN.{length}
use Rattle.std.specs.Prelude.{Option, Ok}
use Rattle.base_rules.specs.Bounds.{most_k}
use Rattle.base_rules.specs.Bytes.{splice}
use Rattle.base_rules.proofs.Logic.{clash}
use Rattle.cut_rules.specs.declared.Settings.{Settings}
use Rattle.cut_rules.specs.Missing.{losses}
use Rattle.cut_rules.specs.Sizes as cut
use Rattle.form_rules.specs.Agree.{enough, enough_in, missing_in, lost_in, Agrees}
use Rattle.form_rules.proofs.Unique.{one_packet}
use Rattle.places_rules.specs.declared.Place.{Place}
use Rattle.places_rules.specs.declared.Table.{Table}
use Rattle.places_rules.specs.Places.{delivered, place_at}
use Rattle.receiver_rules.specs.declared.Received.TheVariants.{Kept, Delivered}
use Rattle.receiver_rules.specs.Promise.{number_of, Reception, reception, closed_at, bytes_at, Settled, waits, delivers, damaged}
use Rattle.sender_rules.proofs.Checks.{sound}
use Rattle.sender_rules.proofs.FragmentLengths.{sure, f_some}
use Rattle.sender_rules.proofs.PlannedFigures.{with_fec_lem}
use Rattle.link.specs.Demand.{Takes, count}
use Rattle.link.proofs.Enough.{size_of, rsk_of, suffices, enough-same, losses-same}
use Rattle.link.proofs.Own.{Full, SizeKnown}
use Rattle.link.proofs.Plain.{joined_packet}
use Rattle.link.proofs.Coded.{fills_place}

-- ---- what the place holds

module _ (g : Settings) (n : ℕ) (packet : List ℕ) (takes : Takes g n packet) (came : ℕ → Bool) (i : ℕ) (p : Place) (b : List ℕ)
    (full : Full g n packet came i p b) (sized : SizeKnown g packet p) where
  lost-same : (j : ℕ) → j < count g packet → lost_in p j ≡ not (came j)
  lost-same j below = ap not (full.kept j below)

  -- without FEC the size does not count
  sizes_same : (fec : Bool) → g.fec ≡ fec → enough fec (count g packet) p.size (rsk_of g packet) (lost_in p) ≡ enough fec (count g packet)
      (size_of g packet) (rsk_of g packet) (lost_in p)
  unfolding SizeKnown enough
  sizes_same true e = ap (λ (x : ℕ). enough true (count g packet) x (rsk_of g packet) (lost_in p)) (sized e)
  sizes_same false e = refl

  pub enough_in_lem : enough_in p ≡ suffices g packet came
  unfolding enough_in suffices
  enough_in_lem =
      ap (λ (v : Bool). enough v p.count p.size p.rsk (lost_in p)) full.mine.fec
      ∙ ap₂ (λ (f k : ℕ). enough g.fec f p.size k (lost_in p)) full.mine.count full.mine.rsk
      ∙ sizes_same g.fec refl
      ∙ enough-same (lost_in p) (λ j. not (came j)) (count g packet) (f_some g packet takes.passed) lost-same g.fec (size_of g packet)
      (rsk_of g packet)

  pub missing_in_lem : missing_in p ≡ losses (λ j. not (came j)) (count g packet)
  unfolding missing_in
  missing_in_lem =
      ap (losses (lost_in p)) full.mine.count
      ∙ losses-same (lost_in p) (λ j. not (came j)) (count g packet) (f_some g packet takes.passed) lost-same

  -- once it suffices the packet agrees with it,
  agrees : suffices g packet came ≡ true → Agrees p (bytes_at b i) packet
  agrees e =
      record {
        coded = λ fec. fills_place g n packet takes.passed takes.bytes (sym full.mine.fec ∙ fec) came i p b full sized;
        plain = λ fec. sym (joined_packet g n packet takes.passed (sym full.mine.fec ∙ fec) came i p b full e);
        accepted = sound g packet takes.passed;
      }

  small : p.fec ≡ true → p.rsk ≤ most_k
  small fec = omega (arith, full.mine.rsk, with_fec_lem g (cut.k (length packet)) (sym full.mine.fec ∙ fec), (sure g packet takes.passed).k_most)

  -- and no other does
  pub only : suffices g packet came ≡ true → (P : List ℕ) → Agrees p (bytes_at b i) P → P ≡ packet
  only e P a = one_packet p (bytes_at b i) P packet small (enough_in_lem ∙ e) a (agrees e)

-- ---- what settling leaves

-- the fragment is kept and that is all: out is as lent, table and bytes are as keeping left them
pub record Waited (t : Table) (d : Option ℕ) (b o : List ℕ) (y : Reception) : Type 0 where
  pub answer : y.answer ≡ number_of (Ok (Kept d))
  pub out : y.out ≡ o
  pub table : y.table ≡ t
  pub bytes : y.bytes ≡ b

-- out begins with the packet, its length and the fragments not come are told, its place is delivered
pub record Handed (g : Settings) (packet : List ℕ) (came : ℕ → Bool) (t : Table) (i : ℕ) (d : Option ℕ) (b o : List ℕ) (y : Reception) : Type 0 where
  pub answer : y.answer ≡ number_of (Ok (Delivered (length packet) (losses (λ j. not (came j)) (count g packet)) d))
  pub out : y.out ≡ splice o 0 packet
  pub table : y.table ≡ closed_at t i delivered
  pub bytes : y.bytes ≡ b

module _ (g : Settings) (n : ℕ) (packet : List ℕ) (takes : Takes g n packet) (came : ℕ → Bool) (t : Table) (i : ℕ) (d : Option ℕ) (b o : List ℕ)
    (full : Full g n packet came i (place_at t i) b) (sized : SizeKnown g packet (place_at t i)) where
  is_enough : enough_in (place_at t i) ≡ suffices g packet came
  is_enough = enough_in_lem g n packet takes came i (place_at t i) b full sized

  -- while what came does not suffice, the place waits
  pub waited : {y : Reception} → Settled t i d b o y → suffices g packet came ≡ false → Waited t d b o y
  unfolding reception
  waited (waits e) f = record { answer = refl; out = refl; table = refl; bytes = refl }
  waited (delivers P e a) f = clash e (is_enough ∙ f)
  waited (damaged e a) f = clash e (is_enough ∙ f)

  -- once it suffices, just this packet is handed out; the place is not spoiled
  pub handed : {y : Reception} → Settled t i d b o y → suffices g packet came ≡ true → Handed g packet came t i d b o y
  unfolding reception
  handed (waits e) f = clash (is_enough ∙ f) e
  handed (delivers P e a) f =
      let is : P ≡ packet = only g n packet takes came i (place_at t i) b full sized f P a in
      record {
        answer = ap₂ (λ (x m : ℕ). number_of (Ok (Delivered x m d))) (ap length is) (missing_in_lem g n packet takes came i (place_at t i) b full sized);
        out = ap (splice o 0) is;
        table = refl;
        bytes = refl;
      }
  handed (damaged e a) f = absurd (a packet (agrees g n packet takes came i (place_at t i) b full sized f))
