-- `capi::block::dustroute_block_ports` meets its contract: the checks of a plot of one block, and its ports.
-- Assumes nothing.
use Rattle.std.specs.Prelude.{⊤, Result, Ok}
use mathlib.Core.Path.{◌≡◌, sym, ap, subst, ◌∙◌}
use mathlib.Core.List.{List, []}
use Prim.Native.Nat.{◌/◌}
use native.Mathlib.Omega.{arith}
use mir.Facts.{to_z-of_z}
use lib.ListN.{length}
use lib.IntN.{ℤ}
use borrow.Author.Tests.{leb-true}
use Rattle.lists.specs.declared.Refusal.{Refusal}
use Rattle.lists.specs.Rules.{rules_of}
use Rattle.checks.specs.Refusals.{grouping_lists, room_for, Small}
use Rattle.checks.proofs.Small.{grouping_small}
use Rattle.checks.proofs.Accepted.{GroupingScene, grouping_accept}
use Rattle.faces.specs.Rows.{port_places}
use Rattle.capi.specs.BlockPorts.{block_record, block_refusal, row_width}
use Rattle.capi.proofs.BlockLaws.{alone}
use Rattle.capi.proofs.block.dustroute_block_ports.Goals as goal
use Rattle.capi.proofs.block.dustroute_block_ports.Goals.{After-grouping_lists}

abbrev block : After-grouping_lists → List ℤ
block c = block_record c.args.kind c.args.facing c.args.support c.args.conducts

abbrev listed : After-grouping_lists → Result ⊤ Refusal
listed c = grouping_lists (rules_of c.args.rules) (block c) [] [] (room_for port_places row_width (length c.args.ports.now))

-- the answer of the checks
answer : (c : After-grouping_lists) → c.grouping_lists.result ≡ listed c
answer c =
    let known = c.rules_of-rules.ensures ∙ ap rules_of (to_z-of_z c.ranges.rules) in
    rw (known, c.room_for-enough.ensures) at
    (rw (to_z-of_z c.ranges.kind, to_z-of_z c.ranges.facing, to_z-of_z c.ranges.support, to_z-of_z c.ranges.conducts) at c.grouping_lists.ensures).answer

-- is that of a block alone
refusal : (c : After-grouping_lists) → c.grouping_lists.result ≡ block_refusal (rules_of c.args.rules) (block c) (length c.args.ports.now)
refusal c = answer c ∙ alone (rules_of c.args.rules) c.args.kind c.args.facing c.args.support c.args.conducts _

accepted : (c : After-grouping_lists) → c.grouping_lists.result ≡ Ok tt
    → GroupingScene (rules_of c.args.rules) (block c) [] [] (room_for port_places row_width (length c.args.ports.now))
accepted c e = grouping_accept _ _ _ _ _ (sym (answer c) ∙ e)

pub pack_refusal-requires : goal.pack_refusal-requires
pack_refusal-requires c =
    let at = (goal.at.pack_refusal-requires c).After-grouping_lists in
    subst (λ (x : Result ⊤ Refusal). Small x) (sym (answer at) ∙ c.in-Err.is) (grouping_small (rules_of c.args.rules) (block at) [] [] _)

pub invariant_of-put_block : goal.invariant_of-put_block
invariant_of-put_block c =
    let at = (goal.at.invariant_of-put_block c).After-grouping_lists in
    rw (to_z-of_z c.ranges.kind, to_z-of_z c.ranges.facing, to_z-of_z c.ranges.support, to_z-of_z c.ranges.conducts)
    (record { within = (accepted at c.in-Ok.is).components })

pub put_block-requires-clause-room : goal.put_block-requires-clause-room
put_block-requires-clause-room c =
    let at = (goal.at.put_block-requires-clause-room c).After-grouping_lists in
    omega (arith, leb-true port_places (length c.args.ports.now / row_width) (accepted at c.in-Ok.is).scene.lengths.room)

pub returns-in-Err : goal.returns-in-Err
returns-in-Err c =
    let at = (goal.at.returns-in-Err c).After-grouping_lists in
    let refused = sym (refusal at) ∙ c.in-Err.is in
    record { answer = rw refused c.pack_refusal.ensures; left = rw refused }

pub returns-in-Ok : goal.returns-in-Ok
returns-in-Ok c =
    let at = (goal.at.returns-in-Ok c).After-grouping_lists in
    let taken = sym (refusal at) ∙ c.in-Ok.is in
    let known = c.rules_of-rules.ensures ∙ ap rules_of (to_z-of_z c.ranges.rules) in
    let put = rw (known, to_z-of_z c.ranges.kind, to_z-of_z c.ranges.facing, to_z-of_z c.ranges.support, to_z-of_z c.ranges.conducts) at c.put_block.ensures in
    record { answer = rw taken put.count; left = rw taken put.rows }
