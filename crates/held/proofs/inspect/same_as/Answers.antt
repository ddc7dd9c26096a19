-- Answers for the goals that the search leaves.
use native.Mathlib.Omega.{arith}
use Prim.Native.Nat.{◌*◌}
use Rattle.std.proofs.lemmas.Bool.Decides.{Decides-int_eq}
use Rattle.std.proofs.lemmas.Slice.Eq.{slice_eq-Decides}
use Rattle.held.proofs.Loops.{same_decided}
use Rattle.held.proofs.inspect.same_as.Goals as goal

pub returns : goal.returns
returns c = same_decided c.args.numbers.now c.args.list.now (c.args.k * 5) _ c.eq.result (omega arith) (slice_eq-Decides Decides-int_eq _ _ _ c.eq.ensures)
