-- The open calls of a walk as a stack of frames.
-- Assumes nothing.
use Prim.Native.Nat.{ℕ}

-- an open call: its node, and the place that it looks at next
pub record Frame : Type 0 where
  pub node : ℕ
  pub place : ℕ

abbrev pub frame : ℕ → ℕ → Frame
frame x place = record { node = x; place = place }
