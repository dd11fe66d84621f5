-- No calls leave a record of one of the kinds of `Stray`. Assumes nothing.
use mathlib.Core.Path.{◌≡◌, refl, sym, ◌∙◌}
use mathlib.Core.Bool.{true, false}
use Prim.Native.Nat.{ℕ, ◌+◌, ◌<◌}
use native.Mathlib.Omega.{arith}
use borrow.Author.Tests.{le-leb, lt-leb}
use lib.Dec.{leb}
use lib.ListN.{get_or}
use Rattle.base_rules.proofs.Logic.{clash}
use Rattle.header_rules.specs.Read.{fields_of}
use Rattle.places_rules.specs.declared.Place.{Place}
use Rattle.places_rules.specs.Places.{four, free, place_at, key_in, is_last}
use Rattle.receiver_rules.specs.Promise.{State}
use Rattle.link.specs.Run.{Call, Reached}
use Rattle.link.specs.Reached.{sizeless, endless, overdue, NoStray}
use Rattle.link.proofs.Basic.{holds_yes}
use Rattle.link.proofs.Ring.{open_waits}
use Rattle.link.proofs.Standing.{Stood, last_told}
use Rattle.link.proofs.Holdings.{at_reached}

-- a fragment that a place without FEC keeps came with a Plen that is not 0, which is the size of those before the last or that of the last
module _ (s : State) (c : Reached s) (i : ℕ) (l : i < four) (some : (place_at s.table i).condition ≡ free → ⊥)
    (plain : (place_at s.table i).fec ≡ false) (j : ℕ) (kept : get_or (place_at s.table i).kept j false ≡ true) where
  abbrev p : Place
  p = place_at s.table i

  came : (k : Call) × Stood k c.calls p s.bytes i (key_in p) j
  came = at_reached c i l (key_in p) j (holds_yes p (key_in p) some refl) kept

  told : leb p.count (j + 1) ≡ is_last (fields_of came.0.datagram)
  told = rw plain at (last_told came.1)

  sized : j + 1 < p.count → p.size ≡ 0 → ⊥
  sized inner none = omega (arith, came.1.fits.sound.some, came.1.fits.size (sym told ∙ lt-leb p.count (j + 1) inner))

  ended : j + 1 ≡ p.count → p.last ≡ 0 → ⊥
  ended ends none = omega (arith, came.1.fits.sound.some, came.1.fits.last (sym told ∙ le-leb p.count (j + 1) (omega arith)))

-- in no reached state is one of the four places a stray
pub no_stray : NoStray
no_stray s c i l (sizeless some plain j inner kept none) = sized s c i l some plain j kept (omega arith) none
no_stray s c i l (endless some plain j ends kept none) = ended s c i l some plain j kept (omega arith) none
no_stray s c i l (overdue is_open enough) = clash enough (open_waits s c i l is_open)
