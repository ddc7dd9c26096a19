-- `capi::alive::put_sets` meets its contract: the bytes of each set stand after those of the sets before it. Assumes nothing.
use borrow.Author.Rules.{rules}
use mathlib.Core.Path.{◌≡◌, ap, ◌∙◌}
use mathlib.Core.List.{List, ◌++◌, append_assoc}
use Prim.Native.Nat.{ℕ, ◌*◌}
use native.Mathlib.Omega.{arith}
use lib.ListN.{length, length-append}
use Rattle.lists.specs.Slices.{laid}
use Rattle.sets.specs.Members.{word_count}
use Rattle.encoding.specs.Bytes.{number_bytes, bytes_of}
use Rattle.encoding.proofs.Writing.{bytes_then}
use Rattle.capi.proofs.alive.put_sets.Goals as goal

in-turn : (a b c d : List ℕ) → (((a ++ b) ++ c) ++ d) ≡ (a ++ (b ++ (c ++ d)))
in-turn a b c d = rw (append_assoc, append_assoc)

pub returns : goal.returns
returns c =
    let args = c.args in
    let old = args.out.now in
    let drive = args.analysis.drive.words in
    let potential = args.analysis.potential.words in
    let cyclic = args.analysis.cyclic.words in
    let has_drive = args.analysis.has_drive.words in
    let one : length drive ≡ word_count = search rules in
    let two : length potential ≡ word_count = search rules in
    let three : length cyclic ≡ word_count = search rules in
    let out₁ = c.encode.new.out in
    let out₂ = c.encode_at.new.out in
    let out₃ = c.encode_at-2.new.out in
    let out₄ = c.encode_at-3.new.out in
    let second = bytes_then drive potential old out₁ out₂ (word_count * number_bytes) (omega (arith, one)) c.encode.ensures c.encode_at.ensures in
    let third = bytes_then (drive ++ potential) cyclic old out₂ out₃ (2 * word_count * number_bytes)
    (omega (arith, one, two, length-append drive potential)) second c.encode_at-2.ensures in
    let fourth = bytes_then ((drive ++ potential) ++ cyclic) has_drive old out₃ out₄ (3 * word_count * number_bytes)
    (omega (arith, one, two, three, length-append drive potential, length-append (drive ++ potential) cyclic)) third c.encode_at-3.ensures in
    fourth ∙ ap (λ (l : List ℕ). laid (bytes_of l) old) (in-turn drive potential cyclic has_drive)
