-- `pad` meets its contract. Assumes nothing.
use Rattle.code_rules.proofs.CallCases.{pad_put}
use Rattle.code_encoder.proofs.calls.pad.Goals as goal

pub returns : goal.returns
returns c =
    let S = c in
    pad_put S.args.packet.now _ c.put.result S.requires c.put.ensures
