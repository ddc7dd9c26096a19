-- `sets::insert` meets its contract, by the law on a word with one digit set. Assumes nothing.
use mathlib.Core.Path.{◌≡◌}
use Prim.Native.Nat.{◌/◌, ◌%◌}
use native.Mathlib.Omega.{arith}
use borrow.Author.Rules.{rules}
use lib.ListN.{length}
use Rattle.sets.specs.Members.{word_count}
use Rattle.sets.proofs.Words.{inserted}
use Rattle.sets.proofs.ComponentSet.insert.Goals as goal

pub returns : goal.returns
returns c =
    let ws = c.args.self.words in
    let k = c.args.k in
    let len : length ws ≡ word_count = search rules in
    inserted ws (k / 64) (k % 64) k (omega arith) (omega arith) (omega arith)
