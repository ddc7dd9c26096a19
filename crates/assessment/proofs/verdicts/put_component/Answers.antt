-- `assessment::verdicts::put_component` meets its contract: the rows of three kinds, one after the other.
-- Assumes nothing.
use Prim.Native.Nat.{◌≤◌}
use native.Mathlib.Omega.{arith}
use lib.ListN.{length}
use Rattle.signals.specs.Sources.{source_kind}
use Rattle.assessment.proofs.Written.{put_more}
use Rattle.assessment.proofs.Devices.{kind_few, row_is}
use Rattle.assessment.proofs.verdicts.put_component.Goals as goal

pub returns : goal.returns
returns c =
    let a = c.args in
    let one = rw c.source_kind.ensures at c.put_source-first.ensures in
    let two = rw (c.then_some-boundary.ensures, row_is a.on_frontier a.id _) at c.put_source-second.ensures in
    let three = rw (c.then_some-primary.ensures, row_is a.inferred a.id _) at c.put_source.ensures in
    let first : c.put_source-first.result ≤ length c.put_source-first.new.out =
    omega (arith, one.place, c.put_source-first.auto.out, kind_few a.id (source_kind a.kind), c.requires.at_in_bounds) in
    put_more (omega (arith, c.requires.at_in_bounds)) one (put_more first two three)
