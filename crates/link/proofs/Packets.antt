-- The two packets of the examples, and what is sent of them under a number. Assumes nothing.
use mathlib.Core.Path.{◌≡◌, refl, sym, ap, ◌∙◌}
use mathlib.Core.Bool.{Bool, true, false, not, cond}
use mathlib.Core.List.{List, []}
use Prim.Native.Nat.{ℕ, zero, suc, ◌+◌, ◌≤◌, ◌<◌}
use native.Mathlib.Omega.{arith}
use borrow.Author.Tests.{eqb-true, eqb-false, eq-eqb, le-ltb, le-leb, lt-leb, leb-true, leb-false}
use lib.Dec.{leb, eqb, lit<, lit≤}
use lib.ListN.{length, replicate, length-replicate}
use Rattle.base_rules.specs.Bounds.{most_f}
use Rattle.base_rules.specs.Bytes.{Bytes}
use Rattle.base_rules.specs.Round.{ceil}
use Rattle.base_rules.proofs.Firsts.{skip, none_due}
use Rattle.base_rules.proofs.Logic.{either}
use Rattle.af_rules.specs.Packet.{most_payload, packet_of}
use Rattle.af_rules.specs.Calls.{af_fault}
use Rattle.af_rules.specs.Claims.{Back}
use Rattle.af_rules.proofs.Proved.{a1}
use Rattle.cut_rules.specs.declared.Settings.{Settings}
use Rattle.cut_rules.specs.Plan.{fit, with_fec}
use Rattle.cut_rules.specs.Edge.{plain}
use Rattle.cut_rules.specs.Missing as missing
use Rattle.cut_rules.specs.Sizes as cut
use Rattle.cut_rules.proofs.Proved.{any_three, no_four}
use Rattle.header_rules.specs.Claims.{Fitting}
use Rattle.form_rules.specs.Agree.{enough}
use Rattle.sender_rules.specs.Calls.{packet_fault}
use Rattle.link.specs.Demand.{Takes, count, key_for}
use Rattle.link.specs.Examples.{two_losses, packet, number, other, settings_of, packet_under}
use Rattle.link.proofs.Enough.{suffices}

-- ---- the two packets

bytes_same : (n x : ℕ) → x < 256 → Bytes (replicate n x)
bytes_same zero x h = tt
bytes_same (suc n) x h = (h, bytes_same n x h)

-- a packet that was wrapped round n bytes x
wrapped : (seq n x : ℕ) → seq < 65536 → x < 256 → n ≤ most_payload → Back seq true (replicate n x)
wrapped seq n x a b c = a1 seq true (replicate n x) a (bytes_same n x b) (omega (arith, length-replicate n x))

-- it is taken where the settings and its count of fragments are
taken : (g : Settings) (p : List ℕ) → fit g ≡ true → af_fault p ≡ 0 → count g p ≤ most_f → packet_fault g p ≡ 0
unfolding packet_fault
taken g p fits passes few =
    sym (skip 40 _ (ap not fits) (skip (af_fault p) _ (ap not (eq-eqb _ _ passes)) (skip 41 [] (le-ltb most_f (count g p) few) none_due)))

wrapped_size : (seq n x : ℕ) → Back seq true (replicate n x) → length (packet_of seq true (replicate n x)) ≡ n + 12
wrapped_size seq n x b = b.size ∙ ap (λ (k : ℕ). k + 12) (length-replicate n x)

packet_wrapped : Back 7 true (replicate 403 85)
packet_wrapped = wrapped 7 403 85 (lit< tt) (lit< tt) (lit≤ tt)

other_wrapped : Back 8 true (replicate 1375 170)
other_wrapped = wrapped 8 1375 170 (lit< tt) (lit< tt) (lit≤ tt)

packet-size : length packet ≡ 415
unfolding packet
packet-size = wrapped_size 7 403 85 packet_wrapped

other_size : length other ≡ 1387
unfolding other
other_size = wrapped_size 8 1375 170 other_wrapped

packet-count : count two_losses packet ≡ 12
unfolding ceil cut.c cut.k cut.n cut.address_bytes cut.h cut.divisor cut.S cut.L cut.f
packet-count = ap (cut.f two_losses) packet-size

other_count : count plain other ≡ 2
unfolding ceil cut.c cut.k cut.n cut.address_bytes cut.h cut.divisor cut.S cut.L cut.f
other_count = ap (cut.f plain) other_size

two-losses-fit : fit two_losses ≡ true
unfolding fit cut.h cut.address_bytes
two-losses-fit = refl

plain_fits : fit plain ≡ true
unfolding fit cut.h cut.address_bytes
plain_fits = refl

packet-takes : (n : ℕ) → n < 65536 → Takes two_losses n packet
unfolding packet Fitting
packet-takes n h =
    record {
      passed = taken two_losses _ two-losses-fit packet_wrapped.passes (omega (arith, packet-count));
      bytes = packet_wrapped.bytes;
      number = h;
      address = (lit< tt, lit< tt);
    }

other_takes : (n : ℕ) → n < 65536 → Takes plain n other
unfolding other Fitting
other_takes n h =
    record {
      passed = taken plain _ plain_fits other_wrapped.passes (omega (arith, other_count));
      bytes = other_wrapped.bytes;
      number = h;
      address = tt;
    }

-- it is enough where at most `most` of the f fragments are lost
abbrev Bears : Settings → List ℕ → ℕ → ℕ → Type 0
Bears g p f most = (came : ℕ → Bool) → suffices g p came ≡ leb (missing.losses (λ i. not (came i)) f) most

packet_bears : Bears two_losses packet 12 3
unfolding suffices enough ceil with_fec cut.c cut.k cut.n cut.address_bytes cut.h cut.divisor cut.S cut.L cut.f cut.s cut.received_c
packet_bears came =
    let lost : ℕ → Bool = λ i. not (came i) in
    ap (λ (l : ℕ). missing.suffice lost (cut.f two_losses l) (cut.n l) (cut.received_c (cut.f two_losses l) (cut.s two_losses l) (cut.k l))) packet-size
    ∙ either (leb (missing.losses lost 12) 3)
    (λ e. any_three lost (leb-true _ _ e) ∙ sym e)
    (λ e. no_four lost (leb-false _ _ e) ∙ sym e)

no_less : (x : ℕ) → eqb x 0 ≡ leb x 0
no_less x = either (eqb x 0) (λ e. e ∙ sym (le-leb x 0 (omega (arith, eqb-true x 0 e)))) (λ e. e ∙ sym (lt-leb x 0 (pos (eqb-false x 0 e))))
  where
    pos : (x ≡ 0 → ⊥) → 0 < x
    pos n = omega (arith, n)

other_bears : Bears plain other 2 0
unfolding suffices enough
other_bears came = let lost : ℕ → Bool = λ i. not (came i) in ap (λ (f : ℕ). eqb (missing.losses lost f) 0) other_count ∙ no_less (missing.losses lost 2)

-- ---- what is sent under a number

-- how many fragments it has
unfoldable pub count_under : ℕ → ℕ
count_under n = cond (eqb n number) 12 2

-- how many of them may be lost
unfoldable pub bearable : ℕ → ℕ
bearable n = cond (eqb n number) 3 0

-- its bytes
unfoldable pub size_under : ℕ → ℕ
size_under n = cond (eqb n number) 415 1387

-- what holds of both packets holds of what is sent under any number
either_packet : (P : Settings → List ℕ → ℕ → ℕ → ℕ → Type 0) → P two_losses packet 415 12 3 → P plain other 1387 2 0
    → (n : ℕ) → P (settings_of n) (packet_under n) (size_under n) (count_under n) (bearable n)
unfolding settings_of packet_under size_under count_under bearable
either_packet P p q n = go (eqb n number)
  where
    go : (b : Bool) → P (cond b two_losses plain) (cond b packet other) (cond b 415 1387) (cond b 12 2) (cond b 3 0)
    go true = p
    go false = q

module _ (n : ℕ) where
  -- the sender takes it,
  pub sent_takes : n < 65536 → Takes (settings_of n) n (packet_under n)
  sent_takes = either_packet (λ g p l f most. n < 65536 → Takes g n p) (packet-takes n) (other_takes n) n

  -- and it has so many bytes,
  pub sent_size : length (packet_under n) ≡ size_under n
  sent_size = either_packet (λ g p l f most. length p ≡ l) packet-size other_size n

  -- and so many fragments,
  pub sent_count : count (settings_of n) (packet_under n) ≡ count_under n
  sent_count = either_packet (λ g p l f most. count g p ≡ f) packet-count other_count n

  -- of which so many may be lost
  pub sent_bears : Bears (settings_of n) (packet_under n) (count_under n) (bearable n)
  sent_bears = either_packet (λ g p l f most. Bears g p f most) packet_bears other_bears n

  -- the receiver tells it by its number
  pub its_key : key_for (settings_of n) n ≡ n
  unfolding key_for
  its_key = refl
