-- `payload` meets its contract: the part lent out has the bytes from 10 on, all but the last two, and begins there. Assumes nothing.
use mathlib.Core.Path.{◌≡◌, refl, ap}
use Prim.Native.Nat.{ℕ, ◌-◌, ◌≤◌}
use native.Mathlib.Omega.{arith}
use borrow.Author.Tests.{lt-ltb, le-ltb}
use lib.ListN.{length, take, drop}
use Rattle.base_rules.specs.Bounds.{least_l}
use Rattle.af_rules.specs.Packet.{header_bytes, crc_bytes, payload_of, payload_place}
use Rattle.af.proofs.payload.Goals as goal

pub returns-then-packet-lt-LEAST_L : goal.returns-then-packet-lt-LEAST_L
unfolding payload_of payload_place
returns-then-packet-lt-LEAST_L c =
    let none : length c.args.packet.now - least_l ≡ 0 = omega arith in
    (rw none refl, rw (lt-ltb _ least_l c.if-packet-lt-LEAST_L.true) refl)

pub returns : goal.returns
unfolding payload_of payload_place
returns c =
    let s = c.args.packet.now in
    let all : length s - crc_bytes - header_bytes ≡ length s - least_l = omega arith in
    let long : least_l ≤ length s = omega arith in
    (ap (λ (n : ℕ). take n (drop header_bytes s)) all, rw (le-ltb (length s) least_l long) refl)
