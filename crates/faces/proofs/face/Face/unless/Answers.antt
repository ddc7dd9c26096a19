-- `Face::unless` meets its contract.
-- Assumes nothing.
use Rattle.faces.proofs.Faces.{named_or}
use Rattle.faces.proofs.face.Face.unless.Goals as goal

pub returns : goal.returns
returns c = named_or c.args.self c.args.number c.try_from.result c.unwrap_or.result c.try_from.ensures c.unwrap_or.ensures
