-- `list` meets its contract: the listing, whole in a buffer that holds every one, is copied where out has room for it. Assumes nothing.
use mathlib.Core.Path.{sym}
use lib.ListN.{length-replicate}
use lib.Seq.{length-take-le}
use Prim.Native.Nat.{ℕ}
use Rattle.base_rules.proofs.ByteLaws.{bytes_from}
use Rattle.lister_rules.proofs.Written.{lays_within, list_short, list_copied}
use Rattle.lister.proofs.list.Goals as goal

pub returns-then-out-n : goal.returns-then-out-n
returns-then-out-n c =
    let a = c.args in
    list_short a.packet.now a.out.now (bytes_from c.args.packet.now (λ i l. (c.type_inv.packet i).fits)) _ _ _ (length-replicate {A = ℕ} 17399 0)
    c.lay-n.ensures c.if-out-n.true

pub slice_bounds-listing-end : goal.slice_bounds-listing-end
slice_bounds-listing-end c = lays_within _ _ _ _ c.lay-n.ensures

pub slice_bounds-plain-end : goal.slice_bounds-plain-end
slice_bounds-plain-end c = sym (length-take-le _ _ (lays_within _ _ _ _ c.lay-n.ensures))

pub returns : goal.returns
returns c =
    let a = c.args in
    let lay = c.lay-n in
    list_copied a.packet.now a.out.now (bytes_from c.args.packet.now (λ i l. (c.type_inv.packet i).fits)) _ _ _
    (length-replicate {A = ℕ} 17399 0) lay.ensures _ c.if-out-n.false c.plain.ensures.1
