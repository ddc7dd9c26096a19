-- The first pass answers, then the room, and the second pass stores only what both accept.
use mathlib.Core.Path.{◌∙◌}
use lib.ListN.{length}
use Rattle.sheet.proofs.Answers.{read, components_count, connections_count, frontiers_count, tested}
use Rattle.sheet.proofs.read_sheet.Goals as goal

pub returns : goal.returns
returns c =
    let a = c.args in
    let (cs, ps, fs, all, e) = c.in_ok-found.ensures in
    let room =
    tested all (length a.components.now) (length a.connections.now) (length a.frontiers.now) c.room_for.ensures c.room_for-2.ensures c.room_for-3.ensures in
    read _ a.components.now a.connections.now a.frontiers.now e
    (room ∙ c.if-not-enough.false)
    (c.store_list.ensures cs all.of_components)
    (c.store_list-2.ensures ps all.of_connections)
    (c.store_list-3.ensures fs all.of_frontiers)
    (components_count all)
    (connections_count all)
    (frontiers_count all)
