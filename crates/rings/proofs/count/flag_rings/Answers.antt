-- `rings::count::flag_rings` meets its contract: sizes and pairs are counted, and compared.
-- Assumes nothing.
use mathlib.Core.Path.{◌∙◌}
use lib.Seq.{length-take-le}
use Rattle.rings.proofs.Counting.{rings_flagged}
use Rattle.rings.proofs.count.flag_rings.Goals as goal

pub returns : goal.returns
returns c =
    rings_flagged (c.count_into.auto.counts ∙ length-take-le _ _ c.requires.1.1) (c.count_joins.auto.joins ∙ length-take-le _ _ c.requires.1.1)
    c.count_into.ensures c.count_joins.ensures c.flag_enough.ensures
