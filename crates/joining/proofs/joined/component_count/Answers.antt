-- The fields of the order lie within a record.
use native.Mathlib.Omega.{arith}
use Rattle.joining.proofs.Accepts.{component_fields}
use Rattle.joining.proofs.joined.component_count.Goals as goal

pub merged_count-requires-clause-fields_below : goal.merged_count-requires-clause-fields_below
merged_count-requires-clause-fields_below c = (component_fields, omega arith)
