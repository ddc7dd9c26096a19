-- `encoding::bytes::decode` meets its contract. The loop's invariant: the numbers that were passed stand at the front of the slice.
--
use mathlib.Core.Path.{◌≡◌}
use Rattle.lists.specs.Slices.{laid}
use Rattle.encoding.specs.Bytes.{first_numbers}
use Rattle.encoding.proofs.bytes.decode.Given as goal

abbrev pub invariant-loop-k : goal.invariant-loop-k
invariant-loop-k l = l.out ≡ laid (first_numbers l.bytes l.k) l.initial.out
