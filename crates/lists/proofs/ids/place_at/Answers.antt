-- `lists::ids::place_at` meets its contract.
-- Assumes nothing.
use Rattle.lists.proofs.Members.{member_place}
use Rattle.lists.proofs.ids.place_at.Goals as goal

pub returns : goal.returns
returns c cs t = member_place t _ c.requires
