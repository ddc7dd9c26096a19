-- The head and the lists, one behind the other.
use lib.ListN.{length}
use Rattle.lines.proofs.Writing.{wrote_then, room_then}
use Rattle.lists.specs.declared.Section.TheVariants.{Components, Connections, Frontiers}
use Rattle.forms.specs.Writing.{list_text}
use Rattle.forms.proofs.Texts.{sheet_parts, sheet_rooms}
use Rattle.forms.proofs.text.write_sheet.Goals as goal

pub write_list-requires : goal.write_list-requires
write_list-requires c =
    let a = c.args in
    let rooms = sheet_rooms a.style a.rules a.components.now a.connections.now a.frontiers.now (length a.out.now) c.requires in
    room_then c.write_head-a.ensures (list_text a.style Components a.components.now) rooms.two

pub write_list-requires-2 : goal.write_list-requires-2
write_list-requires-2 c =
    let a = c.args in
    let rooms = sheet_rooms a.style a.rules a.components.now a.connections.now a.frontiers.now (length a.out.now) c.requires in
    room_then (wrote_then c.write_head-a.ensures c.write_list.ensures) (list_text a.style Connections a.connections.now) rooms.three

pub write_list-requires-3 : goal.write_list-requires-3
write_list-requires-3 c =
    let a = c.args in
    let rooms = sheet_rooms a.style a.rules a.components.now a.connections.now a.frontiers.now (length a.out.now) c.requires in
    room_then (wrote_then (wrote_then c.write_head-a.ensures c.write_list.ensures) c.write_list-2.ensures)
    (list_text a.style Frontiers a.frontiers.now)
    rooms.four

pub returns : goal.returns
returns c =
    let a = c.args in
    rw (← sheet_parts a.style a.rules a.components.now a.connections.now a.frontiers.now)
    (wrote_then (wrote_then (wrote_then c.write_head-a.ensures c.write_list.ensures) c.write_list-2.ensures) c.write_list-3.ensures)
