-- The refusal and the counts of a sheet have room in the answer's digits.
use mathlib.Core.Path.{sym, ◌∙◌}
use Rattle.lists.specs.Limits.{component_limit, connection_limit, frontier_limit}
use Rattle.lists.specs.Rules.{rules_limit}
use Rattle.forms.proofs.SheetSmall.{parse_small}
use Rattle.capi.proofs.TextLaws.{read_small, counts_few, by_head, by_refusal, by_sheet}
use Rattle.capi.proofs.texts.dustroute_sheet.Goals as goal

pub pack_refusal-requires : goal.pack_refusal-requires
pack_refusal-requires c =
    read_small (parse_small rules_limit component_limit connection_limit frontier_limit c.args.text.now) c.read_valid.ensures c.in-Err.is

pub pack_counts-requires-clause-few : goal.pack_counts-requires-clause-few
pack_counts-requires-clause-few c =
    let few = counts_few c.args.text.now c.read_valid.ensures c.in-Ok.is in
    (few.components, few.connections)

pub pack_counts-requires-clause-frontiers_few : goal.pack_counts-requires-clause-frontiers_few
pack_counts-requires-clause-frontiers_few c = (counts_few c.args.text.now c.read_valid.ensures c.in-Ok.is).frontiers

pub returns-then-not-room_for : goal.returns-then-not-room_for
returns-then-not-room_for c =
    let a = c.args in
    by_head a.text.now a.head.now (sym c.room_for.ensures ∙ c.if-not-room_for.true) c.refuse_head.ensures

pub returns-in-Err : goal.returns-in-Err
returns-in-Err c =
    let a = c.args in
    let room = sym c.room_for.ensures ∙ c.if-not-room_for.false in
    by_refusal a.text.now a.head.now room c.read_valid.ensures c.in-Err.is c.pack_refusal.ensures

pub returns-in-Ok : goal.returns-in-Ok
returns-in-Ok c =
    let a = c.args in
    let room = sym c.room_for.ensures ∙ c.if-not-room_for.false in
    by_sheet a.text.now a.head.now room c.read_valid.ensures c.in-Ok.is c.form_number.ensures c.pack_counts.ensures
