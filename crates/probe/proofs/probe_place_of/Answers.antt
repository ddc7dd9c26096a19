-- `probe::probe_place_of` meets its contract.
-- Assumes nothing.
use mathlib.Core.Path.{ap, ◌∙◌}
use Rattle.probe.specs.Places.{answer_of}
use Rattle.probe.proofs.probe_place_of.Goals as goal

pub returns : goal.returns
returns c = c.answer.ensures ∙ ap answer_of c.find.ensures.value
