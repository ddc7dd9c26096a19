-- `difference` meets its contract, word by word. Assumes nothing.
use Rattle.std.proofs.Common.{rules, ◌≡◌, refl, ℕ, ◌<◌, get_or, Fits, w64}
use Rattle.sets.specs.Members.{word_count}
use Rattle.sets.proofs.Made.{made_by}
use Rattle.sets.proofs.Words.{merged_all, but_not, member_but_not}
use Rattle.sets.proofs.ComponentSet.difference.Goals as goal

pub returns : goal.returns
returns c =
    let us = c.args.self.words in
    let vs = c.args.other.words in
    let made = c.from_fn.ensures.items in
    let each : (i : ℕ) → i < word_count → get_or c.from_fn.result i 0 ≡ but_not (get_or us i 0) (get_or vs i 0) =
    λ i h. made_by _ (λ i w. w ≡ but_not (get_or us i 0) (get_or vs i 0)) _ (λ j y f k. search rules) _ word_count made i 0 h in
    let fits : (i : ℕ) → Fits w64 (get_or vs i 0) = λ i. search rules in
    member_but_not us vs _ (λ i. (fits i).fits) (merged_all but_not us vs _ word_count (search rules) (search rules) made.long refl each)
