-- Answers for the goals that the search leaves.
use mathlib.Core.Path.{sym, ap, ◌∙◌}
use Rattle.lists.specs.Limits.{component_limit}
use Rattle.lists.specs.First.{is_found}
use Rattle.lists.specs.Ranges.{component_low, component_high}
use Rattle.lists.proofs.Fields.{within}
use Rattle.held.proofs.ValidLaws.{none_of}
use Rattle.held.proofs.inspect.blocks_pass.Goals as goal

pub invariant_of-listed : goal.invariant_of-listed
invariant_of-listed c =
    let none = none_of _ (sym (c.is_some.ensures ∙ ap is_found c.first_outside.ensures) ∙ c.if-is_some.false) in
    record { within = within component_limit component_low component_high c.args.blocks.now c.requires.few none }
