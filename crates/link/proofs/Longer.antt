-- A datagram that passes the checks, with bytes behind it: 5 LENGTH. Assumes nothing.
use mathlib.Core.Path.{◌≡◌, refl, sym, ap, ap₂, ◌∙◌}
use mathlib.Core.Bool.{true, false, cond}
use mathlib.Core.List.{List, ◌++◌}
use Prim.Native.Nat.{ℕ, zero, suc, ◌+◌, ◌*◌, ◌≤◌, ◌<◌}
use native.Mathlib.Omega.{arith}
use borrow.Author.Tests.{le-ltb, ne_eqb}
use lib.ListN.{length, length-append, get_or-append}
use lib.Seq.{take-append-le}
use Rattle.std.specs.Prelude.{Option}
use Rattle.base_rules.specs.Bytes.{number_at}
use Rattle.base_rules.proofs.Firsts.{due, skip}
use Rattle.base_rules.proofs.Logic.{pass, same, other}
use Rattle.cut_rules.specs.declared.Address.{Address}
use Rattle.cut_rules.specs.Sizes.{address_bytes}
use Rattle.header_rules.specs.declared.Header.{Header}
use Rattle.header_rules.specs.Read.{address_at, fields_of, body_length, length_of, is_short, bad_crc, bad_length, fault_of}
use Rattle.header_rules.proofs.Checks.{Passing, fit-sync, passing}

module _ (s t : List ℕ) where
  number_front : (w i : ℕ) → i + w ≤ length s → number_at w (s ++ t) i ≡ number_at w s i
  unfolding number_at
  number_front zero i h = refl
  number_front (suc w) i h =
      ap₂ (λ (x y : ℕ). x * 256 + y) (number_front w i (omega arith)) (get_or-append s t 0 (i + w) (omega arith))

  module _ (own : Option Address) (passes : fault_of own s ≡ 0) (reads : fields_of (s ++ t) ≡ fields_of s) (some : 0 < length t) where
    p : Passing own s
    p = passing own s passes

    body_same : body_length (s ++ t) ≡ body_length s
    unfolding fields_of body_length address_at
    body_same = ap (λ (h : Header). cond h.fec 14 12 + address_bytes h.address) reads

    head_same : length_of (s ++ t) ≡ length_of s
    unfolding length_of
    head_same = ap (λ (x : ℕ). x + 2) body_same

    body_fits : body_length s + 2 ≤ length s
    unfolding length_of
    body_fits = p.whole

    not_short : is_short (s ++ t) ≡ false
    unfolding is_short
    not_short =
        rw (
          le-ltb (length (s ++ t)) 14 (omega (arith, p.long, length-append s t)),
          le-ltb (length (s ++ t)) (length_of (s ++ t)) (omega (arith, p.whole, head_same, length-append s t)),
        )

    crc_right : bad_crc (s ++ t) ≡ false
    unfolding bad_crc
    crc_right = rw (body_same, number_front 2 (body_length s) body_fits, take-append-le (body_length s) s t (omega (arith, body_fits))) (same p.summed)

    too_long : bad_length (s ++ t) (fields_of (s ++ t)) ≡ true
    unfolding bad_length
    too_long =
        let wrong : length (s ++ t) ≡ length_of (s ++ t) + (fields_of (s ++ t)).plen → ⊥ =
        λ e. omega (arith, e, p.sized, head_same, ap (λ (h : Header). h.plen) reads, length-append s t) in
        let size : (fields_of (s ++ t)).plen ≡ (fields_of s).plen = ap (λ (h : Header). h.plen) reads in
        sym (pass (ne_eqb (fields_of (s ++ t)).plen 0 (λ z. omega (arith, size, p.some))) (sym (other wrong)))

    -- for every configured address
    pub longer_fault : (own' : Option Address) → fault_of own' (s ++ t) ≡ 5
    unfolding fault_of
    longer_fault own' =
        sym (skip 2 _ not_short
        (skip 3 _ (fit-sync (s ++ t) _ refl (number_front 2 0 (omega (arith, p.long)) ∙ p.synced)) (skip 4 _ crc_right (due 5 _ too_long))))
