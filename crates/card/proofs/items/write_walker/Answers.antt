-- `write_walker` meets its contract: the numbers told are all of the bytes. Assumes nothing.
use mathlib.Core.Path.{refl}
use native.Mathlib.Omega.{arith}
use Rattle.card_rules.specs.Told.{told_length}
use Rattle.card_rules.proofs.ItemLaws.{walker_laid}
use Rattle.card.proofs.items.write_walker.Goals as goal

pub tell-requires : goal.tell-requires
unfolding told_length
tell-requires c = (refl, refl)

pub returns : goal.returns
returns c =
    let w = c.args.w in
    walker_laid c.args.d.now w c.requires (omega arith) c.tell.ensures
