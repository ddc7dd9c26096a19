-- Answers for the goals that the search leaves.
use mathlib.Core.Path.{refl, ◌∙◌}
use Prim.Native.Nat.{◌/◌, ◌<◌}
use lib.ListN.{length}
use mir.Syntax.{w64}
use mir.Facts.{to_z-of_z}
use Rattle.encoding.specs.Bytes.{number_bytes, first_numbers}
use Rattle.encoding.proofs.Laid.{laid_more}
use Rattle.encoding.proofs.Reading.{numbers_more, length_numbers}
use Rattle.encoding.proofs.Words.{signed_at}
use native.Mathlib.Omega.{arith}
use Rattle.encoding.proofs.bytes.decode.Goals as goal

pub loop-k-init : goal.loop-k-init
unfolding first_numbers
loop-k-init c = refl

pub loop-k-preserved : goal.loop-k-preserved
loop-k-preserved c =
    let l = c.loop-k in
    let bytes = c.args.bytes.now in
    let inside : l.k < length bytes / number_bytes = omega (arith, c.loop-k-test.true, c.as_chunks.ensures.front_len) in
    let number = to_z-of_z {w = w64} (record { sfits = c.from_le_bytes.type_inv }) ∙ c.from_le_bytes.ensures
    ∙ signed_at bytes c.as_chunks.result.0.now l.k c.type_inv.bytes c.as_chunks.ensures.front inside in
    rw (l.invariant, number, numbers_more) (laid_more (first_numbers bytes l.k) c.args.out.now l.k (length_numbers bytes l.k) _ (omega arith))
