-- `list_flags` meets its contract: each call gives the flag of its number. Assumes nothing.
use Rattle.std.proofs.Common.{rules, ◌≡◌}
use Rattle.sets.specs.Members.{member_limit, member_of, as_nat}
use Rattle.sets.proofs.Made.{made_by}
use Rattle.replay.proofs.Listing.{flag_is, flags_all}
use Rattle.replay.proofs.compare.list_flags.Goals as goal

pub returns : goal.returns
returns c =
    let made = c.from_fn.ensures.items in
    let words = c.args.set.words in
    flags_all words _ member_limit made.long (λ k h. made_by _ (λ i v. v ≡ as_nat (member_of words i)) _ (λ j y f called. search (rules, flag_is)) _ member_limit made k 0 h)
