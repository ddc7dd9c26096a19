-- `records::stand_in` meets its contract.
-- Assumes nothing.
use mathlib.Core.Path.{◌∙◌, ap}
use mathlib.Core.Logic.{inl, inr}
use mathlib.Core.List.{List}
use Prim.Native.Nat.{◌+◌, ◌*◌}
use native.Mathlib.Omega.{arith}
use lib.ListN.{length, take}
use lib.Seq.{take_at, length-take-le}
use lib.IntN.{ℤ}
use Rattle.lists.specs.Limits.{connection_limit, port_width}
use Rattle.records.proofs.Filled.{length_flatten}
use Rattle.records.proofs.stand_in.Goals as goal

pub returns-then-records-gt-CONNECTIONS : goal.returns-then-records-gt-CONNECTIONS
returns-then-records-gt-CONNECTIONS c =
    let count = connection_limit * port_width + 1 in
    (omega arith, inr (c.if-records-gt-CONNECTIONS.true, omega (arith, length-take-le count c.args.flat.now (omega (arith, c.requires)))))

pub returns : goal.returns
returns c =
    let records = c.args.records.now in (
      omega (arith, c.if-records-gt-CONNECTIONS.false),
      inl (ap (λ (l : List ℤ). take (length records * port_width) l) c.copy_records.ensures ∙ take_at _ _ _ (length_flatten records)),
    )
