-- `inputs::query::immediate_flags` meets its contract: each key passed is flagged, and each flag is that of a key.
-- Assumes nothing.
use mathlib.Core.List.{List}
use Prim.Native.Nat.{ℕ}
use Rattle.inputs.specs.Inputs.{SlotKeys}
use Rattle.inputs.proofs.Inputs.{Flagged}
use Rattle.inputs.proofs.query.immediate_flags.Given as goal

abbrev pub invariant-loop-key : goal.invariant-loop-key
invariant-loop-key l = (fed : List ℕ) (slot : ℕ) → SlotKeys fed slot l.keys → Flagged fed l.keys slot l.key-index l.flags
