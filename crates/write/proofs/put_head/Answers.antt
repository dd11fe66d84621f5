-- `put_head` meets its contract: two puts with room, one behind the other. Assumes nothing.
use Rattle.write_rules.proofs.Puts.{head_put}
use Rattle.write.proofs.put_head.Goals as goal

pub returns : goal.returns
returns c =
    let P = c.requires in
    let Bytes4 = c.bytes4-n in
    let Bytes42 = c.bytes4-b in
    let Put = c.put in
    head_put _ _ _ _ _ _ _ _ _ (P) Bytes4.ensures Bytes42.ensures Put.ensures c.put-2.ensures
