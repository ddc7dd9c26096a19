-- `encoding::groups::by_rows` meets its contract: the rows of an accepted scene, at the front of the slices of numbers, are written as bytes.
-- Assumes nothing.
use Rattle.std.specs.Prelude.{⊤, Result, Ok, Err}
use mathlib.Core.Path.{◌≡◌, sym, ◌∙◌}
use mathlib.Core.List.{List}
use Prim.Native.Nat.{ℕ, ◌≤◌}
use native.Mathlib.Omega.{arith}
use lib.ListN.{length, take}
use lib.Seq.{length-take-le}
use lib.IntN.{ℤ}
use Rattle.lists.specs.Records.{component_count}
use Rattle.checks.specs.Refusals.{grouping_refusal, Small}
use Rattle.lists.specs.declared.Refusal.{Refusal}
use Rattle.checks.proofs.Small.{grouping_small}
use Rattle.circuit.specs.Topology.{net_kinds, fragment_kinds, forest_of, nets_of, fragments_of, net_count, fragment_count, Grouped}
use Rattle.circuit.specs.declared.Counts.{Counts}
use Rattle.circuit.proofs.Roots.{length_groups}
use Rattle.circuit.proofs.Numbering.{roots_most}
use Rattle.encoding.proofs.Answers.{refused_by, Counted, counted, Room, accepted_room, rows_front, accepted_laid}
use Rattle.encoding.proofs.groups.by_rows.Goals as goal

-- the lists, the rows before and after, and what was found
module _ {rules : ℕ} {cs ps : List ℤ} {nets nets' fragments fragments' : List ℕ} {r : Result Counts Refusal} (g : Grouped rules cs ps nets nets' fragments fragments' r) where
  -- the checks of the lists, and how many components there are
  abbrev checked : Result ⊤ Refusal
  checked = grouping_refusal rules cs ps (length nets) (length fragments)

  abbrev count : ℕ
  count = component_count cs

  -- ---- refused
  refused : {refusal : Refusal} → r ≡ Err refusal → checked ≡ Err refusal
  refused is = refused_by checked _ _ _ (sym is ∙ g.answer)

  -- ---- accepted
  module _ {counts : Counts} (is : r ≡ Ok counts) where
    accepted : Counted checked (net_count cs ps) (fragment_count cs ps) counts
    accepted = counted checked _ _ _ (sym is ∙ g.answer)

    room : Room cs (length nets) (length fragments)
    room = accepted_room _ _ _ _ _ accepted.accepted

    net_rows : length nets' ≡ length nets → (count ≤ length nets') × (length (take count nets') ≡ count)
    net_rows same =
        let h : count ≤ length nets' = omega (arith, room.net_places, same) in
        (h, length-take-le _ nets' h)

    fragment_rows : length fragments' ≡ length fragments → (count ≤ length fragments') × (length (take count fragments') ≡ count)
    fragment_rows same =
        let h : count ≤ length fragments' = omega (arith, room.fragment_places, same) in
        (h, length-take-le _ fragments' h)

    nets_are : take count nets' ≡ nets_of cs ps
    nets_are = rows_front checked _ _ _ count (length_groups (forest_of cs ps net_kinds) count) accepted.accepted g.nets_left

    fragments_are : take count fragments' ≡ fragments_of cs ps
    fragments_are = rows_front checked _ _ _ count (length_groups (forest_of cs ps fragment_kinds) count) accepted.accepted g.fragments_left

pub pack_refusal-requires : goal.pack_refusal-requires
pack_refusal-requires c =
    let small : Small (checked c.from_lists.ensures) = grouping_small _ _ _ _ _ in
    rw (refused c.from_lists.ensures c.in-Err.is) at small

pub slice_bounds-encode-end : goal.slice_bounds-encode-end
slice_bounds-encode-end c = (net_rows c.from_lists.ensures c.in-Ok.is c.from_lists.auto.nets).0

pub slice_bounds-encode-end-in-Ok : goal.slice_bounds-encode-end-in-Ok
slice_bounds-encode-end-in-Ok c = sym (net_rows c.from_lists.ensures c.in-Ok.is c.from_lists.auto.nets).1

pub slice_bounds-encode-end-in-Ok-2 : goal.slice_bounds-encode-end-in-Ok-2
slice_bounds-encode-end-in-Ok-2 c = (fragment_rows c.from_lists.ensures c.in-Ok.is c.from_lists.auto.fragments).0

pub slice_bounds-encode-end-in-Ok-3 : goal.slice_bounds-encode-end-in-Ok-3
slice_bounds-encode-end-in-Ok-3 c = sym (fragment_rows c.from_lists.ensures c.in-Ok.is c.from_lists.auto.fragments).1

pub pack_counts-requires : goal.pack_counts-requires
pack_counts-requires c =
    let g = c.from_lists.ensures in
    let cs = c.args.components.now in
    let ps = c.args.connections.now in
    let n = count g in (
      omega (arith, (accepted g c.in-Ok.is).nets_are, (room g c.in-Ok.is).few, roots_most (forest_of cs ps net_kinds) n),
      omega (arith, (accepted g c.in-Ok.is).fragments_are, (room g c.in-Ok.is).few, roots_most (forest_of cs ps fragment_kinds) n),
    )

pub returns-in-Ok : goal.returns-in-Ok
returns-in-Ok c =
    let g = c.from_lists.ensures in
    accepted_laid _ _ _ _ _ _ _ _ _ _ _ (accepted g c.in-Ok.is) c.encode.ensures (nets_are g c.in-Ok.is)
    c.encode-in-Ok.ensures (fragments_are g c.in-Ok.is) c.pack_counts.ensures
