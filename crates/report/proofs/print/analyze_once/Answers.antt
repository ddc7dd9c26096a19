-- `report::print::analyze_once` meets its contract: what each stage leaves is of the plot that was prepared.
-- Assumes nothing.
use mathlib.Core.Path.{refl}
use native.Mathlib.Omega.{arith}
use Rattle.liveness.proofs.Inferring.{labels_long}
use Rattle.inputs.proofs.Asking.{ready_as}
use Rattle.report.proofs.print.analyze_once.Goals as goal

pub prepare-prepared-requires : goal.prepare-prepared-requires
prepare-prepared-requires c = let few = c.args.plot.now.accepted.scene.components.few in omega (arith, few)

pub make_ready-requires : goal.make_ready-requires
make_ready-requires c = record {
  fed_len = rw c.prepare-prepared.ensures.plot c.requires.tables_len.0;
  upstream = c.requires.upstream;
}

pub copy-requires : goal.copy-requires
copy-requires c =
    let p = rw c.prepare-prepared.ensures.plot at c.prepare-prepared.result.prepared in
    omega (arith, labels_long c.args.plot.now.accepted.scene p, c.requires.tables_len.1.0)

pub copy-requires-2 : goal.copy-requires-2
copy-requires-2 c =
    let p = rw c.prepare-prepared.ensures.plot at c.prepare-prepared.result.prepared in
    omega (arith, p.members_long, c.requires.tables_len.1.1)

pub analyze_prepared-requires : goal.analyze_prepared-requires
analyze_prepared-requires c =
    let few = c.args.plot.now.accepted.scene.components.few in
    let room = c.requires.rows_room in
    record {
      rows_room = rw c.prepare-prepared.ensures.plot (record {
        regions_room = room.0;
        sources_room = room.1.0;
        inputs_room = room.1.1;
        stack_room = omega (arith, few, c.prepare-prepared.auto.stack);
      });
      stack_zeros = c.prepare-prepared.ensures.stack;
    }

pub returns : goal.returns
returns c =
    let p = rw c.prepare-prepared.ensures.plot at c.prepare-prepared.result.prepared in
    record {
      analyzed = (c.prepare-prepared.new.stack, c.analyze_prepared.new.stack, rw c.prepare-prepared.ensures.plot at c.analyze_prepared.ensures);
      ready = ready_as refl c.copy.ensures (rw c.prepare-prepared.ensures.plot at c.make_ready.ensures);
      members = rw c.copy-2.ensures p.members_are;
    }
