-- `union` meets its contract, word by word. Assumes nothing.
use Rattle.std.proofs.Common.{rules, ◌≡◌, refl, ℕ, ◌<◌, get_or, bit_or}
use Rattle.sets.specs.Members.{word_count}
use Rattle.sets.proofs.Made.{made_by}
use Rattle.sets.proofs.Words.{merged_all, member_or}
use Rattle.sets.proofs.ComponentSet.union.Goals as goal

pub returns : goal.returns
returns c =
    let us = c.args.self.words in
    let vs = c.args.other.words in
    let made = c.from_fn.ensures.items in
    let each : (i : ℕ) → i < word_count → get_or c.from_fn.result i 0 ≡ bit_or (get_or us i 0) (get_or vs i 0) =
    λ i h. made_by _ (λ i w. w ≡ bit_or (get_or us i 0) (get_or vs i 0)) _ (λ j y f k. search rules) _ word_count made i 0 h in
    member_or us vs _ (merged_all bit_or us vs _ word_count (search rules) (search rules) made.long refl each)
