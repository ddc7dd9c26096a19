-- Answers for the goals that the search leaves.
use mathlib.Core.Path.{refl, ◌∙◌}
use Rattle.encoding.specs.Bytes.{bytes_of}
use Rattle.encoding.proofs.Words.{low_of}
use Rattle.encoding.proofs.Writing.{encode_more}
use native.Mathlib.Omega.{arith}
use Rattle.encoding.proofs.bytes.encode.Goals as goal

pub loop-k-init : goal.loop-k-init
unfolding bytes_of
loop-k-init c = refl

pub loop-k-preserved : goal.loop-k-preserved
loop-k-preserved c =
    encode_more c.args.values.now c.args.out.now _ _ c.loop-k.k (omega arith) c.loop-k.invariant (c.copy_from_slice.ensures.after ∙ c.to_le_bytes.ensures ∙ low_of _)
