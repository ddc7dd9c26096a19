-- What is left to read gives what the whole gives.
use Prim.Native.Nat.{◌≤◌}
use mathlib.Core.Path.{◌≡◌}
use lib.ListN.{drop}
use Rattle.lines.specs.Decimal.{limit}
use Rattle.forms.specs.Numbers.{digits_until}
use Rattle.forms.proofs.number.read_digits.Given as goal

abbrev pub invariant-loop-i : goal.invariant-loop-i
invariant-loop-i l = record {
  small : l.value ≤ limit;
  left : digits_until l.ending l.value (drop l.i l.text) ≡ digits_until l.ending l.first (drop l.at l.text);
}
