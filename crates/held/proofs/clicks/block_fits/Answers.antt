-- Answers for the goals that the search leaves.
use mathlib.Core.Path.{sym, ap, ◌∙◌}
use mathlib.Core.Bool.{not}
use borrow.Author.Tests.{ne_eqb}
use lib.ListN.{length}
use Rattle.lists.specs.First.{is_found}
use Rattle.held.specs.Plot.{fits}
use Rattle.held.proofs.EntryLaws.{one_record}
use Rattle.held.proofs.Lists.{not_back}
use Rattle.held.proofs.clicks.block_fits.Goals as goal

pub returns-then-numbers-eq-COMPONENT : goal.returns-then-numbers-eq-COMPONENT
returns-then-numbers-eq-COMPONENT c =
    not_back _ _ c.is_none.ensures ∙ (ap (λ f. not (is_found f)) c.first_outside.ensures ∙ sym (one_record c.args.numbers.now c.if-numbers-eq-COMPONENT.true))

pub returns-else-numbers-eq-COMPONENT : goal.returns-else-numbers-eq-COMPONENT
unfolding fits
returns-else-numbers-eq-COMPONENT c = let no = ne_eqb (length c.args.numbers.now) 8 c.if-numbers-eq-COMPONENT.false in rw no
