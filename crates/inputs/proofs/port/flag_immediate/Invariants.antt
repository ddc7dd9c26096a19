-- `inputs::port::flag_immediate` meets its contract. The loop's invariant: the flags are those of the sources of the connections passed that feed the
-- port. Assumes nothing.
use mathlib.Core.Path.{◌≡◌}
use lib.ListN.{length, get_or}
use Rattle.lists.specs.Ends.{sources_of}
use Rattle.signals.specs.Flags.{GatheredBy}
use Rattle.inputs.specs.Port.{feeds_id}
use Rattle.inputs.proofs.port.flag_immediate.Given as goal

abbrev pub invariant-loop-k : goal.invariant-loop-k
invariant-loop-k l =
    (length l.starts ≡ length l.initial.starts)
    × GatheredBy l.k (λ j. get_or (sources_of l.fn.plot.ends.now) j 0) (feeds_id l.fn.plot.ports.now l.fn.id l.fn.port) l.starts
