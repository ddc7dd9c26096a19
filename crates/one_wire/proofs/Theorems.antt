-- R-14, as specs/ states it.
--     one_grouping_connection, one_grouping_answer     specs/Grouping.antt
--     one_port_connection, one_port_answer,
--     repeated_port_connection                         specs/Ports.antt
-- Assumes nothing.
use mathlib.Core.Path.{◌≡◌, sym, ap, ◌∙◌}
use mathlib.Core.List.{[]}
use mathlib.Core.Logic.{⊎_elim}
use Prim.Native.Nat.{ℕ, ◌<◌}
use lib.ListN.{length}
use Rattle.lists.specs.Records.{port_connection, component_count, port_count}
use Rattle.checks.specs.Refusals.{room_for_groups, grouping_refusal, liveness_room}
use Rattle.checks.proofs.Accepted.{grouping_accept, liveness_accept}
use Rattle.liveness.proofs.Answers.{scene_of_lem}
use Rattle.circuit.specs.Topology.{net_kinds, fragment_kinds, net_count, fragment_count}
use Rattle.inputs.proofs.SameMembers.{same_answer}
use Rattle.one_wire.specs.Grouping.{OneGroupingConnection, OneGroupingAnswer}
use Rattle.one_wire.specs.Ports.{OnePortConnection, OnePortAnswer, RepeatedPortConnection}
use Rattle.one_wire.proofs.Shifted.{port_there, port_back}
use Rattle.one_wire.proofs.Merged.{counts_fall, counts_kept}
use Rattle.one_wire.proofs.Chains.{chains_same}
use Rattle.one_wire.proofs.Driven.{meanings, scene_before, reaches, stays, few, same_reach, idle}
use Rattle.one_wire.proofs.Rows.{rows_after}
use Rattle.one_wire.proofs.Answered.{grouping_answered, accepted_checks, driven_answered, rows_answered}

pub one_grouping_connection : OneGroupingConnection
one_grouping_connection rules cs ps ps' fs i enough added accepted =
    let small = (grouping_accept rules cs ps' fs enough accepted).components.few in
    record {
      nets = counts_fall cs ps ps' i added small net_kinds;
      fragments = counts_fall cs ps ps' i added small fragment_kinds;
      nets_kept = counts_kept cs ps ps' i added small net_kinds;
      fragments_kept = counts_kept cs ps ps' i added small fragment_kinds;
      groups = counts_fall cs ps ps' i added small;
    }

pub one_grouping_answer : OneGroupingAnswer
one_grouping_answer rules cs ps ps' i added nets nets₁ fragments fragments₁ old g nets' nets₁' fragments' fragments₁' new g' =
    let a = grouping_answered (grouping_refusal rules cs ps (length nets) (length fragments)) (net_count cs ps) (fragment_count cs ps) old g.answer in
    let b = grouping_answered (grouping_refusal rules cs ps' (length nets') (length fragments')) (net_count cs ps') (fragment_count cs ps') new g'.answer in
    let laws = one_grouping_connection rules cs ps ps' [] i (room_for_groups (component_count cs) (length nets') (length fragments')) added b.accepted in
    (rw (a.nets_are, b.nets_are) laws.nets, rw (a.fragments_are, b.fragments_are) laws.fragments)

pub one_port_connection : OnePortConnection
one_port_connection rules cs ps ps' fs i enough added signal accepted =
    let new = scene_of_lem (liveness_accept rules cs ps' fs enough accepted) in
    record {
      reaches = reaches cs ps ps' fs i added signal new;
      stays = stays cs ps ps' fs i added signal new;
      few = few cs ps ps' fs i added signal new;
      verdicts = rows_after rules cs ps ps' fs i added;
      same_chains = chains_same added;
      same_reach = same_reach cs ps ps' fs i added signal new;
      idle = idle cs ps ps' fs i added signal new;
      before = meanings cs ps (scene_before added new) fs;
      after = meanings cs ps' new fs;
    }

pub one_port_answer : OnePortAnswer
one_port_answer rules cs ps ps' fs i added signal regions regions₁ sources sources₁ inputs inputs₁ stack stack₁ old a
    regions' regions₁' sources' sources₁' inputs' inputs₁' stack' stack₁' new b =
    let enough = liveness_room cs (length regions') (length sources') (length inputs') (length stack') in
    let checks = accepted_checks b in
    let scene = scene_of_lem (liveness_accept rules cs ps' fs enough checks) in
    rw (driven_answered a (scene_before added scene), driven_answered b scene, rows_answered a, rows_answered b)
    (one_port_connection rules cs ps ps' fs i enough added signal checks)

pub repeated_port_connection : RepeatedPortConnection
repeated_port_connection rules cs ps ps' fs i k added h e =
    same_answer rules cs ps ps' fs (record {
      there = λ m l. let (j, b, q) = port_there added m l in (j, b, sym q);
      back = λ j l. ⊎_elim (λ (q : j ≡ i). (k, h, ap (port_connection ps') q ∙ e)) (λ (old : (m : ℕ) × (m < port_count ps) × (port_connection ps' j ≡ port_connection ps m)). old) (port_back added j l);
    })
