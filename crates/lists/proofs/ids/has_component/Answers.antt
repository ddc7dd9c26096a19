-- `lists::ids::has_component` meets its contract.
-- Assumes nothing.
use mathlib.Core.Path.{ap, ◌∙◌}
use Rattle.lists.specs.First.{is_found}
use Rattle.lists.proofs.ids.has_component.Goals as goal

pub returns : goal.returns
returns c cs t = c.is_some.ensures ∙ ap is_found (c.place_of.ensures cs t)
