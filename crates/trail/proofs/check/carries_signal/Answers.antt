-- Answers for the goals that the search leaves.
use mathlib.Core.Path.{refl}
use Rattle.trail.proofs.check.carries_signal.Goals as goal

pub returns : goal.returns
returns c = rw (c.transfer-signal.ensures, c.source.ensures.0, c.sink.ensures.0) refl
