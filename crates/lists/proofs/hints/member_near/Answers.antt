-- `lists::hints::member_near` meets its contract: the keys below the id's own are those of the smaller ids.
-- Assumes nothing.
use Rattle.lists.proofs.Members.{smaller_at}
use Rattle.lists.proofs.hints.member_near.Goals as goal

pub returns : goal.returns
returns c cs t = smaller_at t _ c.position_of.ensures
