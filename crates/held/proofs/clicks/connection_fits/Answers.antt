-- Answers for the goals that the search leaves.
use mathlib.Core.Path.{sym, ap, ◌∙◌}
use mathlib.Core.Bool.{not}
use borrow.Author.Tests.{ne_eqb}
use lib.ListN.{length}
use Rattle.lists.specs.First.{is_found}
use Rattle.held.specs.Plot.{fits}
use Rattle.held.proofs.EntryLaws.{one_connection}
use Rattle.held.proofs.Lists.{not_back}
use Rattle.held.proofs.clicks.connection_fits.Goals as goal

pub returns-then-numbers-eq-PORT : goal.returns-then-numbers-eq-PORT
returns-then-numbers-eq-PORT c =
    not_back _ _ c.is_none.ensures ∙ (ap (λ f. not (is_found f)) c.first_outside.ensures ∙ sym (one_connection c.args.numbers.now c.if-numbers-eq-PORT.true))

pub returns-else-numbers-eq-PORT : goal.returns-else-numbers-eq-PORT
unfolding fits
returns-else-numbers-eq-PORT c = let no = ne_eqb (length c.args.numbers.now) 5 c.if-numbers-eq-PORT.false in rw no
