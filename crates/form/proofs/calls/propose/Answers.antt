-- `propose` meets its contract: with FEC what is decoded, without it what is joined. Assumes nothing.
use Rattle.form_rules.proofs.Handing.{proposed}
use Rattle.form.proofs.calls.propose.Goals as goal

pub returns : goal.returns
returns c =
    let Before = c in
    let s = Before in
    let learnt = c.join.ensures in
    proposed s.args.p s.args.held.now s.requires.0 c.if-p.false _ s.args.buffer.now _ s.requires.1
    learnt.0 learnt.1
