-- The head and the lists, one behind the other.
use mathlib.Core.List.{◌++◌}
use lib.ListN.{length}
use Rattle.lines.proofs.Writing.{wrote_then, room_then}
use Rattle.lists.specs.Limits.{component_width, connection_width}
use Rattle.lists.specs.Order.{component_order, connection_order}
use Rattle.lists.specs.declared.Section.TheVariants.{Components, Connections, Frontiers}
use Rattle.forms.specs.Writing.{list_text}
use Rattle.forms.specs.declared.Style.TheVariants.{Old}
use Rattle.forms.proofs.Texts.{sheet_parts, sheet_rooms}
use Rattle.joining.specs.Merge.{merged}
use Rattle.joining.proofs.Accepts.{component_fields, connection_fields}
use Rattle.join.proofs.text.write_joined.Goals as goal

pub write_united-requires-clause-fields_below : goal.write_united-requires-clause-fields_below
write_united-requires-clause-fields_below c = component_fields

pub write_united-requires-2-clause-fields_below : goal.write_united-requires-2-clause-fields_below
write_united-requires-2-clause-fields_below c = connection_fields

pub write_united-requires-clause-room : goal.write_united-requires-clause-room
write_united-requires-clause-room c =
    let p = c.args.first in
    let q = c.args.second in
    let cs = merged component_order component_width p.components.now q.components.now in
    let ps = merged connection_order connection_width p.connections.now q.connections.now in
    let rooms = sheet_rooms Old c.args.rules cs ps (p.frontiers.now ++ q.frontiers.now) (length c.args.out.now) c.requires in
    room_then c.write_head-a.ensures (list_text Old Components cs) rooms.two

pub write_united-requires-2-clause-room : goal.write_united-requires-2-clause-room
write_united-requires-2-clause-room c =
    let p = c.args.first in
    let q = c.args.second in
    let cs = merged component_order component_width p.components.now q.components.now in
    let ps = merged connection_order connection_width p.connections.now q.connections.now in
    let rooms = sheet_rooms Old c.args.rules cs ps (p.frontiers.now ++ q.frontiers.now) (length c.args.out.now) c.requires in
    room_then (wrote_then c.write_head-a.ensures c.write_united.ensures) (list_text Old Connections ps) rooms.three

pub write_frontiers-requires-clause-room : goal.write_frontiers-requires-clause-room
write_frontiers-requires-clause-room c =
    let p = c.args.first in
    let q = c.args.second in
    let cs = merged component_order component_width p.components.now q.components.now in
    let ps = merged connection_order connection_width p.connections.now q.connections.now in
    let fs = p.frontiers.now ++ q.frontiers.now in
    let rooms = sheet_rooms Old c.args.rules cs ps fs (length c.args.out.now) c.requires in
    room_then (wrote_then (wrote_then c.write_head-a.ensures c.write_united.ensures) c.write_united-2.ensures) (list_text Old Frontiers fs) rooms.four

pub returns : goal.returns
returns c =
    let p = c.args.first in
    let q = c.args.second in
    let cs = merged component_order component_width p.components.now q.components.now in
    let ps = merged connection_order connection_width p.connections.now q.connections.now in
    rw (← sheet_parts Old c.args.rules cs ps (p.frontiers.now ++ q.frontiers.now))
    (wrote_then (wrote_then (wrote_then c.write_head-a.ensures c.write_united.ensures) c.write_united-2.ensures) c.write_frontiers.ensures)
