-- A place that was found is one of the list.
use mathlib.Core.Path.{sym, ◌∙◌}
use Rattle.lists.proofs.Table.{place_below_lem}
use Rattle.joining.proofs.conflict.conflicts.Goals as goal

pub same_record-requires : goal.same_record-requires
same_record-requires c =
    (place_below_lem c.args.first.now _ _ (sym (c.place_of.ensures c.args.first.now c.requires.1) ∙ c.in-Some.is), c.requires.0)
