-- What is left to read gives what the whole gives.
use Prim.Native.Nat.{◌≤◌}
use mathlib.Core.Path.{◌≡◌}
use lib.ListN.{drop}
use Rattle.lines.specs.Decimal.{limit}
use Rattle.lines.specs.Line.{read_digits}
use Rattle.lines.proofs.read.read_digits.Given as goal

abbrev pub invariant-loop-i : goal.invariant-loop-i
invariant-loop-i l = record {
  small : l.value ≤ limit;
  left : read_digits l.value (drop l.i l.text) ≡ read_digits l.first (drop l.at l.text);
}
