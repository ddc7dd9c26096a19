-- `assessment::sources::drive_flags` meets its contract: each flag passed is that of its component.
-- Assumes nothing.
use mathlib.Core.Bool.{◌||◌}
use Rattle.lists.specs.First.{is_found}
use Rattle.lists.specs.Records.{component}
use Rattle.regions.specs.Graph.{marked}
use Rattle.signals.specs.Flags.{Flags}
use Rattle.signals.specs.Sources.{source_kind}
use Rattle.assessment.proofs.sources.drive_flags.Given as goal

abbrev pub invariant-loop-p : goal.invariant-loop-p
invariant-loop-p l = Flags l.p (λ q. is_found (source_kind (component l.components.numbers.now q).kind) || marked l.on_frontier q) l.flags
