-- `signals::inferred::passive_flags` meets its contract: each flag up to the present one is its component's.
-- Assumes nothing.
use Rattle.lists.specs.Records.{component}
use Rattle.signals.specs.Regions.{is_passive}
use Rattle.signals.specs.Flags.{Flags}
use Rattle.signals.proofs.inferred.passive_flags.Given as goal

abbrev pub invariant-loop-p : goal.invariant-loop-p
invariant-loop-p l = Flags l.p (λ j. is_passive l.rules (component l.components.numbers.now j).kind) l.flags
