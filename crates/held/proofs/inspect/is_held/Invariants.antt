-- `held::inspect::is_held` meets its contract: what is left decides.
-- Assumes nothing.
use Rattle.std.specs.Prelude.{◌≡◌, drop}
use Rattle.lists.specs.Limits.{port_width}
use Rattle.lists.specs.First.{tabulate}
use Rattle.held.specs.Tests.{any, same_numbers}
use Rattle.held.specs.Lent.{record_at}
use Rattle.held.proofs.inspect.is_held.Given as goal

abbrev pub invariant-loop-k : goal.invariant-loop-k
invariant-loop-k l =
    let held = tabulate (record_at port_width l.list) l.n in
    any (same_numbers l.numbers) (drop l.k held) ≡ any (same_numbers l.numbers) held
