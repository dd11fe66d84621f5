-- R4, the theorem of the filling, as it can be held against clause 7.4.4 and document 01, "What a promise has to say here". That every input has
-- an answer that fits is the contract of `fill_chunk` and of `fill`; that no second one does is claimed here, and proved in
-- proofs/Proved.antt. And which
-- packets the encoder takes.
use Rattle.std.specs.Prelude.{◌≡◌, Bool, false, List, ℕ, ◌-◌, ◌*◌, ◌≤◌, ◌<◌, Result}
use Rattle.base_rules.specs.declared.Refusal.{Refusal}
use Rattle.code_rules.specs.Calls.{misfits, ChunkFilled, BlockFilled}
use Rattle.code_rules.specs.declared.Filled.{Filled}

-- R4: filling gives the word of the code that agrees if there is one, and else says why not. For a chunk, no second answer and no second chunk fits,
pub record R4 : Type 0 where
  pub chunk : (k : ℕ) (mask c v w : List ℕ) (r q : Result Filled Refusal) → ChunkFilled k mask c v r → ChunkFilled k mask c w q → (r ≡ q) × (v ≡ w)
  -- and for a block, no second answer and no second block
  pub block : (kept : List Bool) (f s k : ℕ) (b v w : List ℕ) (r q : Result Filled Refusal) → BlockFilled kept f s k b v r → BlockFilled kept f s k b w q
      → (r ≡ q) × (v ≡ w)

-- clause 7.3.1: a packet of l bytes fits c chunks of k bytes where it ends in the last of them, and only there; so none fits no chunk
pub record EndsInLast : Type 0 where
  pub taken : (l k c : ℕ) → (c - 1) * k < l → l ≤ c * k → misfits l k c ≡ false
  pub only : (l k c : ℕ) → misfits l k c ≡ false → ((c - 1) * k < l) × (l ≤ c * k)
