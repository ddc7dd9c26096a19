-- `rings::count::count_near` meets its contract: what both rows mark is near.
-- Assumes nothing.
use Rattle.std.proofs.Common.{◌≡◌, ◌<◌, ℕ, length, refl, ap, ◌∙◌, arith}
use Rattle.tables.specs.Order.{member}
use Rattle.graph.specs.Rows.{edges_of}
use Rattle.signals.proofs.Rowed.{row_indices}
use Rattle.rings.proofs.Counting.{none_seen, both_near}
use Rattle.rings.proofs.count.count_near.Goals as goal

pub count_row-onward-requires-clause-row : goal.count_row-onward-requires-clause-row
count_row-onward-requires-clause-row c =
    let net = c.args.network.now in
    let low : c.args.b < length net.forward.ends.now = omega (arith, net.nodes, c.requires.inside.0) in
    rw c.row.ensures (net.forward.rows.rising c.args.b low, row_indices net.forward.rows net.nodes low, c.requires.inside.0)

pub count_row-requires-clause-row : goal.count_row-requires-clause-row
count_row-requires-clause-row c =
    let net = c.args.network.now in
    rw c.row-2.ensures (net.turned.rising c.args.b c.requires.inside.0, row_indices net.turned refl c.requires.inside.0, c.requires.inside.0)

pub count_row-onward-requires-clause-counted : goal.count_row-onward-requires-clause-counted
count_row-onward-requires-clause-counted c =
    let up = c.requires.seen_room.1 in
    (λ a. omega (arith, up a), none_seen c.args.seen.now c.args.b up)

pub returns-clause-count : goal.returns-clause-count
returns-clause-count c =
    let net = c.args.network.now in
    let b = c.args.b in
    let edge = edges_of net.forward.ends.now net.forward.next.now in
    let forward : (a : ℕ) → member a c.row.result.now ≡ edge b a =
    λ a. ap (member a) c.row.ensures ∙ net.forward.rows.rows.holds b (omega (arith, net.nodes, c.requires.inside.0)) a in
    let backward : (a : ℕ) → member a c.row-2.result.now ≡ edge a b = λ a. ap (member a) c.row-2.ensures ∙ net.turned.rows.holds b c.requires.inside.0 a in
    both_near edge c.args.seen.now c.requires.seen_room.1 forward backward c.count_row-onward.ensures c.count_row.ensures
