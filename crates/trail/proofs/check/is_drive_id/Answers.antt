-- Answers for the goals that the search leaves.
use mathlib.Core.Path.{◌≡◌, sym, ◌∙◌}
use native.Mathlib.Omega.{arith}
use Rattle.lists.specs.Ids.{place_of}
use Rattle.lists.proofs.Table.{place_below_lem}
use Rattle.checks.proofs.Accepted.{id_past}
use Rattle.trail.proofs.Checked.{drive_by}
use Rattle.trail.proofs.check.is_drive_id.Goals as goal
use Rattle.trail.proofs.check.is_drive_id.Goals.{After-place_of}

-- what the lookup says of the id
looked : (c : After-place_of) → c.place_of.result ≡ place_of c.args.plot.now.components.now c.args.id
looked c = c.place_of.ensures c.args.plot.now.components.now c.args.plot.now.accepted.table

pub returns-then-id-ge-IDS : goal.returns-then-id-ge-IDS
returns-then-id-ge-IDS c =
    let l = c.args.plot.now in
    sym (drive_by l.components.now l.frontiers.now c.args.id (id_past _ l.accepted.scene.components c.args.id (omega (arith, c.if-id-ge-IDS.true))))

pub is_drive-requires : goal.is_drive-requires
is_drive-requires c =
    place_below_lem c.args.plot.now.components.now c.args.id _ (sym (looked (goal.at.is_drive-requires c).After-place_of) ∙ c.in-Some.is)

pub returns-in-Some : goal.returns-in-Some
returns-in-Some c =
    let l = c.args.plot.now in
    c.is_drive.ensures ∙ sym (drive_by l.components.now l.frontiers.now c.args.id (sym (looked (goal.at.returns-in-Some c).After-place_of) ∙ c.in-Some.is))

pub returns-in-None : goal.returns-in-None
returns-in-None c =
    let l = c.args.plot.now in
    sym (drive_by l.components.now l.frontiers.now c.args.id (sym (looked (goal.at.returns-in-None c).After-place_of) ∙ c.in-None.is))
