-- The rest of the number, as `i` digits before what stands from `i` on, is the whole (`digit_set`).
use mathlib.Core.Path.{◌≡◌}
use lib.ListN.{drop}
use Rattle.lines.specs.Decimal.{digits}
use Rattle.lines.proofs.Digits.{last_digits}
use Rattle.lines.proofs.write.put_digits.Given as goal

abbrev pub invariant-loop-i : goal.invariant-loop-i
invariant-loop-i l = last_digits l.i l.rest (drop l.i l.out) ≡ digits l.n (drop l.k l.initial.out)
