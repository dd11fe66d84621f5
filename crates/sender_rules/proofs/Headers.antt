-- The header of every fragment that is sent is sound. Assumes nothing.
use mathlib.Core.Path.{◌≡◌, ap}
use mathlib.Core.Bool.{true, false}
use mathlib.Core.List.{List}
use Prim.Native.Nat.{ℕ, ◌+◌, ◌*◌, ◌≤◌, ◌<◌}
use native.Mathlib.Nat.{mul-le-mul_left, le-mul_of_pos_right}
use native.Mathlib.Omega.{arith}
use lib.ListN.{length}
use Rattle.base_rules.specs.Bounds.{most_k, place, parity}
use Rattle.cut_rules.specs.Plan.{with_fec}
use Rattle.cut_rules.specs.Sizes.{c, k, z, n, f, s}
use Rattle.cut_rules.specs.declared.Settings.{Settings}
use Rattle.cut_rules.proofs.ChunkSizes.{c_some}
use Rattle.cut_rules.proofs.PlanCases.{L-fec}
use Rattle.header_rules.specs.Claims.{Fitting, Written, Sound}
use Rattle.sender_rules.specs.Calls.{packet_fault}
use Rattle.sender_rules.specs.Fragments.{payload_for, header_for}
use Rattle.sender_rules.proofs.Checks.{in_bounds}
use Rattle.sender_rules.proofs.FragmentLengths.{size-fec, size_most, size_some, sure, s_placed}
use Rattle.sender_rules.proofs.PlannedFigures.{with_fec_lem, with_most}

-- without FEC there is no RSk and no RSz
without : (g : Settings) (x : ℕ) → g.fec ≡ false → with_fec g x ≡ 0
unfolding with_fec
without g x e = rw e

module _ (g : Settings) (number : ℕ) (packet : List ℕ) (i : ℕ) (passed : packet_fault g packet ≡ 0) (less : i < f g (length packet)) where
  z_most : z (length packet) ≤ most_k
  z_most = let bound = sure g packet passed in omega (arith, bound.z_less, bound.k_most)

  -- where Pseq, Source and Dest fit two bytes, each field of a sent header fits its bytes
  pub header_written : number < 65536 → Fitting g.address → Written (header_for g number packet i)
  unfolding header_for
  header_written small fitting =
      let l : ℕ = length packet in
      let few = (in_bounds g packet passed).few in
      record {
        number = small;
        index = omega (arith, few);
        count = omega (arith, few);
        plen = omega (arith, size_most g packet passed i, s_placed g packet passed);
        rsk = omega (arith, with_most g (k l) most_k (sure g packet passed).k_most);
        rsz = omega (arith, with_most g (z l) most_k z_most);
        plain = λ (e : g.fec ≡ false). (without g (k l) e, without g (z l) e);
        address = fitting;
      }

  all_placed : f g (length packet) * length (payload_for g packet i) ≤ place
  all_placed =
      omega (arith, mul-le-mul_left (f g (length packet)) (size_most g packet passed i), (sure g packet passed).placed)

  -- a chunk and its parity are within what is cut
  chunk_held : g.fec ≡ true → k (length packet) + parity ≤ f g (length packet) * length (payload_for g packet i)
  unfolding n
  chunk_held fec =
      let l : ℕ = length packet in
      let once : n l ≤ n l * c l = le-mul_of_pos_right (n l) (c_some l (omega (arith, (in_bounds g packet passed).from))) in
      let bytes : f g l * length (payload_for g packet i) ≡ f g l * s g l = ap (λ (x : ℕ). f g l * x) (size-fec g packet fec i) in
      omega (arith, once, bytes, L-fec g l fec, (sure g packet passed).all_held)

  -- where Pseq, Source and Dest fit two bytes, the header of each fragment that is sent is sound
  pub header_sound : number < 65536 → Fitting g.address → Sound (header_for g number packet i)
  unfolding header_for
  header_sound small fitting =
      let l : ℕ = length packet in
      let bound = sure g packet passed in
      record {
        written = header_written small fitting;
        some = size_some g packet passed i less;
        below = less;
        few = (in_bounds g packet passed).few;
        fits = all_placed;
        chunk = λ (e : g.fec ≡ true).
            let is_k : with_fec g (k l) ≡ k l = with_fec_lem g (k l) e in
            let is_z : with_fec g (z l) ≡ z l = with_fec_lem g (z l) e in (
              omega (arith, is_k, bound.k_least),
              omega (arith, is_k, bound.k_most),
              omega (arith, is_k, is_z, bound.z_less),
              omega (arith, is_k, chunk_held e),
            );
      }
