-- `lists::ids::id_at` meets its contract.
-- Assumes nothing.
use Rattle.lists.proofs.Members.{member_key}
use Rattle.lists.proofs.ids.id_at.Goals as goal

pub returns : goal.returns
returns c cs t = member_key t _ c.requires
