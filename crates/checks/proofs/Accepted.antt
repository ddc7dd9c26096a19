-- What an accepted scene is: each check of its chain accepts.
--     grouping_accept       the lists of the grouping and of the ports entry, and of a sheet
--     liveness_accept       the lists of the liveness entry and of the input query
--     room_places           a slice with room for places of one number
--     id_past               no component has an id past the greatest
-- Assumes nothing.
use Rattle.lists.specs.declared.Fault.{Fault}
use Rattle.lists.specs.declared.Section.{Section}
use Rattle.std.specs.Prelude.{Some}
use Rattle.std.specs.Prelude.{Option, None, Ok}
use mathlib.Core.Path.{◌≡◌, refl, ◌∙◌}
use mathlib.Core.Bool.{Bool, true}
use mathlib.Core.List.{List}
use Prim.Native.Nat.{ℕ, ◌/◌, ◌≤◌, ◌<◌}
use native.Mathlib.Omega.{arith}
use lib.ListN.{length}
use lib.IntN.{ℤ}
use lib.Dec.{eqb}
use borrow.Author.Tests.{leb-true, ne_eqb}
use Rattle.lists.specs.Limits.{component_limit, connection_limit, frontier_limit, connection_width, port_width}
use Rattle.lists.specs.Records.{component, component_count}
use Rattle.lists.specs.Ranges.{first_out_of_range, component_low, component_high, connection_low, connection_high, port_low, port_high, frontier_low, frontier_high}
use Rattle.lists.specs.Within.{Components, Connections, PortConnections, Frontiers}
use Rattle.lists.specs.Order.{first_not_ascending, connection_order}
use Rattle.lists.specs.Ids.{place_below, place_of, first_end_missing}
use Rattle.checks.specs.Refusals.{refuse, room_for, scene_lists, grouping_lists, liveness_lists}
use Rattle.checks.proofs.Chain.{both_accept}
use Rattle.lists.proofs.Fields.{within, first_most}
use Rattle.lists.proofs.Search.{first_nothing}
use Rattle.checks.proofs.Accepts.{Scene, scene_accept, refuse_none, grouping_parts, liveness_parts}

pub room_places : (places n : ℕ) → room_for places 1 n ≡ true → places ≤ n
room_places places n e = omega (arith, leb-true places (n / 1) e)

-- the components and frontiers of an accepted scene
module _ {rules : ℕ} {cs : List ℤ} {width connections : ℕ} {found : Option ℕ} {fs : List ℤ} {enough : Bool} (s : Scene rules cs width connections found fs enough) where
  components_within : Components cs
  components_within = within component_limit component_low component_high cs s.lengths.components_few s.ranges.components

  frontiers_within : Frontiers fs
  frontiers_within = within frontier_limit frontier_low frontier_high fs s.lengths.frontiers_few s.ranges.frontiers

pub record GroupingScene (rules : ℕ) (cs ps fs : List ℤ) (enough : Bool) : Type 0 where
  pub scene : Scene rules cs connection_width (length ps) (first_out_of_range connection_low connection_high ps) fs enough
  pub components : Components cs
  pub connections : Connections ps
  pub frontiers : Frontiers fs
  pub ascending : first_not_ascending connection_order connection_width ps ≡ None

pub grouping_accept : (rules : ℕ) (cs ps fs : List ℤ) (enough : Bool) → grouping_lists rules cs ps fs enough ≡ Ok tt → GroupingScene rules cs ps fs enough
grouping_accept rules cs ps fs enough e =
    let parts =
    both_accept (scene_lists rules cs connection_width (length ps) (first_out_of_range connection_low connection_high ps) fs enough) (refuse Fault.UnsortedConnections (Some Section.Connections) (first_not_ascending connection_order connection_width ps))
    (grouping_parts rules cs ps fs enough ∙ e) in
    let s = scene_accept rules cs connection_width (length ps) (first_out_of_range connection_low connection_high ps) fs enough parts.0 in
    record {
      scene = s;
      components = components_within s;
      connections = within connection_limit connection_low connection_high ps s.lengths.connections_few s.ranges.connections;
      frontiers = frontiers_within s;
      ascending = refuse_none Fault.UnsortedConnections (Some Section.Connections) _ parts.1;
    }

pub record LivenessScene (rules : ℕ) (cs ps fs : List ℤ) (enough : Bool) : Type 0 where
  pub scene : Scene rules cs port_width (length ps) (first_out_of_range port_low port_high ps) fs enough
  pub components : Components cs
  pub connections : PortConnections ps
  pub frontiers : Frontiers fs
  pub ends : first_end_missing cs ps ≡ None

pub liveness_accept : (rules : ℕ) (cs ps fs : List ℤ) (enough : Bool) → liveness_lists rules cs ps fs enough ≡ Ok tt → LivenessScene rules cs ps fs enough
liveness_accept rules cs ps fs enough e =
    let parts =
    both_accept (scene_lists rules cs port_width (length ps) (first_out_of_range port_low port_high ps) fs enough) (refuse Fault.MissingEnd (Some Section.Connections) (first_end_missing cs ps))
    (liveness_parts rules cs ps fs enough ∙ e) in
    let s = scene_accept rules cs port_width (length ps) (first_out_of_range port_low port_high ps) fs enough parts.0 in
    record {
      scene = s;
      components = components_within s;
      connections = within connection_limit port_low port_high ps s.lengths.connections_few s.ranges.connections;
      frontiers = frontiers_within s;
      ends = refuse_none Fault.MissingEnd (Some Section.Connections) _ parts.1;
    }

-- no component has an id past the greatest
pub id_past : (cs : List ℤ) → Components cs → (id : ℕ) → 4294967295 < id → place_of cs id ≡ None
unfolding place_below
id_past cs w id h =
    first_nothing (λ k. eqb (component cs k).id id) 0 (component_count cs)
    (λ k a b. ne_eqb (component cs k).id id (λ e. omega (arith, first_most w k (let l : k < component_count cs = omega arith in l) (omega arith) 4294967295 refl refl)))
