-- `encoding::bytes::encode` meets its contract. The loop's invariant: the bytes of the numbers that were passed stand at the front of the slice.
--
use mathlib.Core.Path.{◌≡◌}
use lib.ListN.{take}
use Rattle.lists.specs.Slices.{laid}
use Rattle.encoding.specs.Bytes.{bytes_of}
use Rattle.encoding.proofs.bytes.encode.Given as goal

abbrev pub invariant-loop-k : goal.invariant-loop-k
invariant-loop-k l = l.out ≡ laid (bytes_of (take l.k l.values)) l.initial.out
