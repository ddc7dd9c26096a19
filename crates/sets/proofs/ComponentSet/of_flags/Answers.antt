-- `of_flags` meets its contract, word by word. Assumes nothing.
use Rattle.std.proofs.Common.{rules, arith, ◌+◌, ◌*◌, length, min}
use Rattle.sets.specs.Members.{word_count, WordOf}
use Rattle.sets.proofs.Made.{made_by}
use Rattle.sets.proofs.Flagged.{flagged_all}
use Rattle.sets.proofs.ComponentSet.of_flags.Goals as goal

pub returns : goal.returns
returns c =
    let flags = c.args.flags.now in
    let made = c.from_fn.ensures.items in
    flagged_all flags _ (omega (arith, made.long)) (λ i h.
    made_by _ (λ i w. WordOf flags (min (length flags) (64 * i)) (min (length flags) (64 * i + 64)) w) _ (λ j y f k. search rules) _ word_count made i 0 (omega (arith, made.long)))
