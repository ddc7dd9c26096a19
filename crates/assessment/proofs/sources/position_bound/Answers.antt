-- `assessment::sources::position_bound` meets its contract: components that ascend part at the position, and their records with them.
-- Assumes nothing.
use Rattle.std.proofs.Common.{rules}
use Rattle.std.specs.Prelude.{List, ℤ}
use Rattle.std.proofs.lemmas.List.Sorted.{IsPartitionPoint-from_clause}
use Rattle.lists.specs.Records.{Position, component}
use Rattle.signals.specs.Sources.{before_position}
use Rattle.assessment.proofs.Positions.{records_part, parted_at}
use Rattle.assessment.proofs.sources.position_bound.Goals as goal

pub returns : goal.returns
returns c =
    let cs = c.args.components.now in
    let there : Position = record { x = c.args.there.0; y = c.args.there.1; z = c.args.there.2 } in
    let split = c.as_chunks.ensures.front in
    let long = c.as_chunks.ensures.front_len in
    let parted = records_part cs c.requires there split long in
    parted_at cs c.requires there split c.partition_point.result c.partition_point.ensures.bound long
    (IsPartitionPoint-from_clause (λ (r : List ℤ). before_position (component r 0) there) _ _ c.partition_point.ensures.partitioned parted (λ a r q k. search rules))
