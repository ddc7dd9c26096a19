-- `sets::empty` meets its contract: sixteen words that are 0 have no member. Assumes nothing.
use Rattle.sets.specs.Members.{word_count}
use Rattle.sets.proofs.Words.{member_zeros, get_or_zeros}
use Rattle.sets.proofs.ComponentSet.empty.Goals as goal

pub returns : goal.returns
returns c = member_zeros _ (get_or_zeros word_count)
