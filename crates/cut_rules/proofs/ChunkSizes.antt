-- The chunks of a packet: at most 207 bytes each, all alike, the last filled up with z zeros. Assumes nothing.
use mathlib.Core.Path.{◌≡◌, ap}
use Prim.Native.Nat.{ℕ, ◌+◌, ◌-◌, ◌*◌, ◌≤◌, ◌<◌}
use native.Mathlib.Nat.{le-mul_of_pos_right}
use native.Mathlib.Omega.{arith}
use Rattle.base_rules.specs.Bounds.{most_l, most_k, parity}
use Rattle.base_rules.specs.Round.{ceil}
use Rattle.base_rules.proofs.Ceil as ceils
use Rattle.cut_rules.specs.Sizes.{c, k, z, n}

module _ (l : ℕ) (some : 0 < l) where
  -- a packet that is not empty has at least one chunk
  pub c_some : 0 < c l
  unfolding c
  c_some = ceils.some l most_k (omega arith) some

  c_up : l ≤ most_k * c l
  unfolding c
  c_up = ceils.up l most_k (omega arith)

  c_near : most_k * c l < l + most_k
  unfolding c
  c_near = ceils.near l most_k (omega arith)

  k_up : l ≤ c l * k l
  unfolding k
  k_up = ceils.up l (c l) c_some

  -- a chunk has a byte of the packet
  pub c_few : c l ≤ l
  c_few = omega (arith, c_near, some)

  -- a chunk of a packet that is not empty has at least one data byte
  pub k_some : 0 < k l
  unfolding k
  k_some = ceils.some l (c l) c_some some

  -- a chunk has at most 207 data bytes
  pub k_most : k l ≤ most_k
  unfolding k
  k_most = ceils.least l (c l) c_some most_k (omega (arith, c_up))

  -- the data bytes of all chunks are the packet and its z zeros
  pub filled : c l * k l ≡ l + z l
  unfolding z
  filled = omega (arith, k_up)

  -- the zeros are fewer than a chunk has bytes: 207 c is less than 207 past l, and each byte below 207 in k takes c of those
  pub z_less : z l < k l
  z_less =
      let j : ℕ = most_k - k l in
      let whole : k l + j ≡ most_k = omega (arith, k_most) in
      let each : c l * (k l + j) ≡ c l * most_k = ap (λ (x : ℕ). c l * x) whole in
      let once : j ≤ j * c l = le-mul_of_pos_right j c_some in
      omega (arith, each, once, filled, c_near)

  -- a chunk has at least 49 bytes, one of data and the 48 of parity
  pub n_least : parity + 1 ≤ n l
  unfolding n
  n_least = omega (arith, k_some)

-- the longest packet has 40 chunks
pub c_most : (l : ℕ) → l ≤ most_l → c l ≤ 40
unfolding c ceil
c_most l to = omega arith
