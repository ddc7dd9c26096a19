-- What is left to read is accepted, and gives what the whole gives.
use Prim.Native.Nat.{◌-◌, ◌≤◌}
use mathlib.Core.Path.{◌≡◌}
use lib.ListN.{length, drop}
use Rattle.lines.specs.Decimal.{limit}
use Rattle.lines.specs.Line.{Accepted}
use Rattle.forms.specs.Numbers.{digits_until, magnitude_until}
use Rattle.forms.proofs.number.known_magnitude.Given as goal

abbrev pub invariant-loop-i : goal.invariant-loop-i
invariant-loop-i l = record {
  small : l.value ≤ limit;
  accepted : Accepted (digits_until l.ending l.value (drop l.i l.text));
  left : digits_until l.ending l.value (drop l.i l.text) ≡ magnitude_until l.ending (drop l.at l.text);
}

abbrev pub decreases-loop-i : goal.decreases-loop-i
decreases-loop-i l = length l.text - l.i
