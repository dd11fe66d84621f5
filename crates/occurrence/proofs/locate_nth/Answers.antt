-- `occurrence::locate_nth` meets its contract.
use mathlib.Core.Path.{◌≡◌, sym, ◌∙◌}
use borrow.Author.Rules.{rules}
use Rattle.std.specs.Prelude.{Err}
use Rattle.tag_rules.proofs.Numbers.{locate_nth_told}
use Rattle.tag_rules.proofs.Searches.{nth_unopened, nth_opened}
use Rattle.occurrence.proofs.locate_nth.Goals as goal

pub returns-in_err-open_reader : goal.returns-in_err-open_reader
returns-in_err-open_reader c =
    let e : c.from_residual.result ≡ Err c.in_err-open_reader.field-0.0 = search rules in
    locate_nth_told _ _ _ _ _ (e ∙ nth_unopened _ _ _ _ _ _ c.open_reader.ensures c.in_err-open_reader.was)

pub returns-in-Some : goal.returns-in-Some
returns-in-Some c =
    locate_nth_told _ _ _ _ _ (sym (nth_opened _ _ _ _ _ _ _ c.open_reader.ensures c.in_ok-open_reader.was
    (sym c.nth_in-f.ensures ∙ c.in-Some.is)))

pub returns-in-None : goal.returns-in-None
returns-in-None c =
    locate_nth_told _ _ _ _ _ (sym (nth_opened _ _ _ _ _ _ _ c.open_reader.ensures c.in_ok-open_reader.was
    (sym c.nth_in-f.ensures ∙ c.in-None.is)))
