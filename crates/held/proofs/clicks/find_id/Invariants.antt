-- `held::clicks::find_id` meets its contract: what is left decides.
-- Assumes nothing.
use Rattle.std.specs.Prelude.{◌≡◌, ◌-◌}
use Rattle.lists.specs.First.{first_from}
use Rattle.held.specs.Lent.{used_in}
use Rattle.held.specs.Writes.{id_in}
use Rattle.held.proofs.clicks.find_id.Given as goal

abbrev pub invariant-loop-k : goal.invariant-loop-k
invariant-loop-k l =
    let test = id_in l.state l.places l.id in
    first_from test l.k (l.k-end - l.k) ≡ first_from test 0 (used_in l.state)
