-- `inputs::row::row_place` meets its contract: no id is past the greatest; else the table has its place.
-- Assumes nothing.
use Rattle.std.specs.Prelude.{None}
use Rattle.std.proofs.Common.{rules}
use mathlib.Core.Path.{◌≡◌, sym, ◌∙◌}
use native.Mathlib.Omega.{arith}
use Rattle.lists.specs.Ids.{place_of}
use Rattle.checks.proofs.Accepted.{id_past}
use Rattle.inputs.proofs.Inputs.{place_below_lem, row_place_lem}
use Rattle.inputs.proofs.row.row_place.Goals as goal
use Rattle.inputs.proofs.row.row_place.Goals.{After-place_of}

pub returns-then-id-ge-IDS : goal.returns-then-id-ge-IDS
returns-then-id-ge-IDS c =
    sym (row_place_lem c.args.rules c.args.components.numbers.now c.args.id c.args.port (id_past _ c.args.components.within c.args.id (omega (arith, c.if-id-ge-IDS.true))))

-- what the lookup says of the id
looked : (c : After-place_of) → c.place_of.result ≡ place_of c.args.components.numbers.now c.args.id
looked c = c.place_of.ensures c.args.components.numbers.now c.requires

pub with_row-requires : goal.with_row-requires
with_row-requires c =
    place_below_lem c.args.components.numbers.now c.args.id
    (sym (looked (goal.at.with_row-requires c).After-place_of) ∙ c.in_ok-p.was)

pub returns : goal.returns
returns c =
    c.with_row.ensures ∙ sym
    (row_place_lem c.args.rules c.args.components.numbers.now c.args.id c.args.port
    (sym (looked (goal.at.returns c).After-place_of) ∙ c.in_ok-p.was))

pub returns-in_err-p : goal.returns-in_err-p
returns-in_err-p c =
    let back : c.from_residual.result ≡ None = search rules in
    back ∙ sym
    (row_place_lem c.args.rules c.args.components.numbers.now c.args.id c.args.port
    (sym (looked (goal.at.returns-in_err-p c).After-place_of) ∙ c.in_err-p.was))
