-- The fields of the order lie within a record.
use native.Mathlib.Omega.{arith}
use Rattle.joining.proofs.Accepts.{connection_fields}
use Rattle.joining.proofs.joined.connection_count.Goals as goal

pub merged_count-requires-clause-fields_below : goal.merged_count-requires-clause-fields_below
merged_count-requires-clause-fields_below c = (connection_fields, omega arith)
