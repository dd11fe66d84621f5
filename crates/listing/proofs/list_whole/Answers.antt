-- `list_whole` meets its contract: where the buffer holds every listing, none is refused.
use Rattle.std.proofs.Common.{◌≡◌, arith, ℕ}
use Rattle.base_rules.proofs.ByteLaws.{bytes_from}
use Rattle.lister_rules.proofs.Written.{listed_whole}
use Rattle.listing.proofs.list_whole.Goals as goal

pub returns-in-Ok : goal.returns-in-Ok
returns-in-Ok c =
    let a = c.args in
    let bytes = bytes_from a.packet.now (λ i l. (c.type_inv.packet i).fits) in
    let w = listed_whole a.packet.now a.out.now bytes c.list.result c.list.new.out c.requires c.list.ensures in
    (cc (w.0, c.in-Ok.is), w.1)

pub returns-in-Err : goal.returns-in-Err
returns-in-Err c =
    let a = c.args in
    let bytes = bytes_from a.packet.now (λ i l. (c.type_inv.packet i).fits) in
    let w = listed_whole a.packet.now a.out.now bytes c.list.result c.list.new.out c.requires c.list.ensures in
    let z : ◌≡◌ {A = ℕ} 0 1 = cc w.0 in
    absurd (omega arith)
