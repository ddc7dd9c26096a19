-- Answers for the goals that the search leaves.
use Rattle.std.proofs.lemmas.Bool.Decides.{Decides-eqb}
use Rattle.std.proofs.lemmas.Slice.Eq.{slice_eq-Decides}
use Rattle.reach_table.proofs.Comparing.{compared}
use Rattle.reach_table.proofs.table.same_rows.Goals as goal

pub returns : goal.returns
returns c =
    compared c.args.square.now c.args.a c.args.b c.requires.0.long c.requires.1 c.requires.2 c.eq.result
    (slice_eq-Decides Decides-eqb _ _ _ c.eq.ensures)
