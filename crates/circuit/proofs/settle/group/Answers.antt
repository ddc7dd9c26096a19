-- `circuit::settle::group` meets its contract: the numbers of both forests.
-- Assumes nothing.
use mathlib.Core.Path.{◌≡◌, sym, ap, ap₂, ◌∙◌}
use native.Mathlib.Omega.{arith}
use lib.ListN.{length}
use lib.Seq.{length-take-le}
use Rattle.circuit.specs.Groups.{roots_below, groups_of}
use Rattle.circuit.proofs.Numbering.{roots_stay}
use Rattle.circuit.proofs.Roots.{groups_laid}
use Rattle.lists.specs.Records.{component_count, connection_count}
use Rattle.circuit.specs.Topology.{net_kinds, fragment_kinds, forest_of}
use Rattle.circuit.proofs.Settling.{joins_below}
use Rattle.circuit.proofs.settle.group.Goals as goal

pub number_groups-requires-clause-inside : goal.number_groups-requires-clause-inside
number_groups-requires-clause-inside c v h =
    let cs = c.requires.places.0 in
    let p = c.requires.places.1 in
    let n = length c.args.keys.now in
    let front = length-take-le n c.args.nets.now c.requires.keys_len_bound.1.0 in
    let stays = roots_stay (component_count cs) (omega (arith, p.long, c.requires.keys_len_bound.0)) _ (joins_below cs c.args.connections.numbers.now net_kinds (connection_count c.args.connections.numbers.now)) in
    rw (front, p.long, c.join_all.ensures.nets cs p) (stays.inside v (rw (front, p.long) at h))

pub number_groups-requires-2-clause-inside : goal.number_groups-requires-2-clause-inside
number_groups-requires-2-clause-inside c v h =
    let cs = c.requires.places.0 in
    let p = c.requires.places.1 in
    let n = length c.args.keys.now in
    let front = length-take-le n c.args.fragments.now c.requires.keys_len_bound.1.1 in
    let stays = roots_stay (component_count cs) (omega (arith, p.long, c.requires.keys_len_bound.0)) _ (joins_below cs c.args.connections.numbers.now fragment_kinds (connection_count c.args.connections.numbers.now)) in
    rw (front, p.long, c.join_all.ensures.fragments cs p) (stays.inside v (rw (front, p.long) at h))

pub returns : goal.returns
returns c cs p =
    let ps = c.args.connections.numbers.now in
    let nets = c.number_groups in
    let fragments = c.number_groups-2 in
    let net_forest : c.join_all.new.nets ≡ forest_of cs ps net_kinds = c.join_all.ensures.nets cs p in
    let fragment_forest : c.join_all.new.fragments ≡ forest_of cs ps fragment_kinds = c.join_all.ensures.fragments cs p in
    let net_long : length nets.new.out ≡ component_count cs = nets.auto.out ∙ length-take-le (length c.args.keys.now) c.args.nets.now c.requires.keys_len_bound.1.0 ∙ p.long in
    let fragment_long : length fragments.new.out ≡ component_count cs = fragments.auto.out ∙ length-take-le (length c.args.keys.now) c.args.fragments.now c.requires.keys_len_bound.1.1 ∙ p.long in
    record {
      nets_laid = rw (p.long) (groups_laid _ _ _ _ _ net_forest net_long (nets.ensures.numbers ∙ ap (groups_of _) (sym nets.auto.out)));
      fragments_laid = rw (p.long) (groups_laid _ _ _ _ _ fragment_forest fragment_long (fragments.ensures.numbers ∙ ap (groups_of _) (sym fragments.auto.out)));
      net_count_lem = nets.ensures.count ∙ ap₂ roots_below net_forest (length-take-le (length c.args.keys.now) c.args.nets.now c.requires.keys_len_bound.1.0 ∙ p.long);
      fragment_count_lem = fragments.ensures.count ∙ ap₂ roots_below fragment_forest (length-take-le (length c.args.keys.now) c.args.fragments.now c.requires.keys_len_bound.1.1 ∙ p.long);
    }
