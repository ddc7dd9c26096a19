-- `capi::held_plot::put_sets` meets its contract: the words of each set stand after those of the sets before it. Assumes nothing.
use borrow.Author.Rules.{rules}
use mathlib.Core.Path.{◌≡◌, refl, sym, ap, ◌∙◌}
use mathlib.Core.List.{List, [], ◌++◌, append_assoc}
use Prim.Native.Nat.{ℕ}
use native.Mathlib.Omega.{arith}
use lib.ListN.{length, length-append}
use Rattle.lists.specs.Slices.{laid}
use Rattle.sets.specs.Members.{word_count}
use Rattle.capi.proofs.HeldReport.{pasted_more}
use Rattle.capi.proofs.held_plot.put_sets.Goals as goal

in-turn : (a b c d : List ℕ) → (((a ++ b) ++ c) ++ d) ≡ (a ++ (b ++ (c ++ d)))
in-turn a b c d = rw (append_assoc, append_assoc)

pub returns : goal.returns
returns c =
    let a = c.args.analysis in
    let old = c.args.out.now in
    let drive = a.drive.words in
    let potential = a.potential.words in
    let cyclic = a.cyclic.words in
    let has_drive = a.has_drive.words in
    let one : length drive ≡ word_count = search rules in
    let two : length potential ≡ word_count = search rules in
    let three : length cyclic ≡ word_count = search rules in
    let out₁ = c.put_words.new.out in
    let out₂ = c.put_words-2.new.out in
    let out₃ = c.put_words-3.new.out in
    let out₄ = c.put_words-4.new.out in
    let first = pasted_more [] drive old old out₁ 0 refl refl c.put_words.ensures in
    let second = pasted_more drive potential old out₁ out₂ 16 (sym one) first c.put_words-2.ensures in
    let third = pasted_more (drive ++ potential) cyclic old out₂ out₃ 32 (omega (arith, one, two, length-append drive potential)) second c.put_words-3.ensures in
    let fourth = pasted_more ((drive ++ potential) ++ cyclic) has_drive old out₃ out₄ 48
    (omega (arith, one, two, three, length-append drive potential, length-append (drive ++ potential) cyclic)) third c.put_words-4.ensures in
    fourth ∙ ap (λ (l : List ℕ). laid l old) (in-turn drive potential cyclic has_drive)
