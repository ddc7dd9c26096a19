-- The fields that are left decide as all of them do.
use mathlib.Core.Path.{◌≡◌}
use lib.ListN.{drop}
use Rattle.joining.specs.Cursor.{starts_before}
use Rattle.joining.proofs.merging.starts_before.Given as goal

abbrev pub invariant-loop-k : goal.invariant-loop-k
invariant-loop-k l = starts_before (drop l.k l.fields) l.a l.i l.b l.j ≡ starts_before l.fields l.a l.i l.b l.j
