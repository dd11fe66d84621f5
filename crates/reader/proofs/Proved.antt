-- The claims of specs/Claims.antt, by what `tag` proved of its numbers. Assumes nothing.
use Prim.Native.Nat.{ℕ, zero, suc}
use mathlib.Core.List.{List, ◌∷◌}
use mathlib.Core.Path.{◌≡◌, refl, sym, ap, ◌∙◌}
use Rattle.std.specs.Prelude.{Result, Ok}
use Rattle.item_rules.specs.declared.Step.{Step}
use Rattle.item_rules.specs.declared.Step.TheVariants as step
use Rattle.tag_rules.specs.Calls.{after_of}
use Rattle.tag_rules.specs.Reading.{handed}
use Rattle.tag_rules.proofs.Reading.{after_is, refused_after}
use Rattle.tag_rules.proofs.Proved.{in_order as numbers-in-order}
use Rattle.reader.specs.declared.Reader.{Reader}
use Rattle.reader.specs.Steps.{opened_on, step_of, moved_of, handed_by, moved_by}
use Rattle.reader.specs.Claims.{InOrder, StaysAtEnd, StaysRefused}

-- the struct hands out what its packet and its two numbers do
as_numbers : (n : ℕ) (r : Reader) → handed_by n r ≡ handed n r.packet.now r.at r.refusal
unfolding handed_by handed
as_numbers zero r = refl
as_numbers (suc n) r = ap (λ (t : List (Result Step ℕ)). step_of r ∷ t) (as_numbers n (moved_of r))

pub in_order : InOrder
in_order w p n = as_numbers n (opened_on w p) ∙ numbers-in-order w p.now n

-- a reader whose position does not move stays for ever
stays : (r : Reader) → after_of r.packet.now r.at r.refusal ≡ r.at → (n : ℕ) → moved_by n r ≡ r
unfolding moved_by
stays r still zero = refl
stays r still (suc n) = ap (λ (at : ℕ). moved_by n (record { packet = r.packet; at = at; refusal = r.refusal })) still ∙ stays r still n

pub stays_at_end : StaysAtEnd
stays_at_end r b e = stays r (sym (after_is r.packet.now r.at r.refusal (Ok (step.End b)) e))

pub stays_refused : StaysRefused
stays_refused r refused = stays r (refused_after r.packet.now r.at r.refusal refused)
