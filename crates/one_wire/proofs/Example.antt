-- The bounds are reached. The counts of groups come by the laws of the forest, the rest as antt computes it.
-- Assumes nothing.
use Rattle.std.specs.Prelude.{Ok}
use mathlib.Core.Path.{sym, subst, ◌≡◌, refl, ◌∙◌}
use mathlib.Core.Bool.{Bool, true, false, cond, ◌&&◌}
use mathlib.Core.List.Memᴰ
use mathlib.Core.List.{List, [], ◌∷◌}
use mathlib.Core.Logic.{inr}
use Prim.Native.Nat.{ℕ, zero, suc, ◌<◌}
use native.Mathlib.Omega.{arith}
use lib.Dec.{eqb}
use lib.IntN.{ℤ}
use borrow.Author.Tests.{eq-eqb, ne_eqb}
use Rattle.sets.specs.Members.{count_below}
use Rattle.lists.specs.First.{first_from, all_from, tabulate}
use Rattle.lists.specs.Rules.{known_rules}
use Rattle.lists.specs.Records.{component}
use Rattle.lists.specs.Ranges.{record_in_range, first_out_of_range}
use Rattle.lists.specs.Order.{record_before, first_not_ascending}
use Rattle.lists.specs.Ids.{place_below, first_repeated, first_end_missing, smaller_ids}
use Rattle.checks.specs.Refusals.{not_whole, scene_lists, grouping_lists, liveness_lists}
use Rattle.circuit.specs.Connected.{Joined, pair, same, flip, chain}
use Rattle.circuit.specs.Topology.{net_kinds, fragment_kinds, joins, joins_of, net_count, fragment_count}
use Rattle.circuit.proofs.Nets.{numbers_joined}
use Rattle.faces.specs.Ports.{NoFace, turns, opposite, face_or, neither, repeater_ports, ports_by_facing, ports_for}
use Rattle.regions.specs.Graph as graph
use Rattle.regions.specs.Kosaraju as walk
use Rattle.signals.specs.Signals.{signals}
use Rattle.signals.specs.Sources.{source_kind, first_at, is_on_frontier}
use Rattle.signals.specs.Regions.{lamp}
use Rattle.signals.specs.Drive.{members_where, drive}
use Rattle.assessment.specs.Verdicts.{fed_by, status_of, port_rows, verdict_rows, input_rows}
use Rattle.assessment.specs.RulesLaws.{NoLamp, NoBlank}
use Rattle.assessment.proofs.RulesLaws.{rules_agree}
use Rattle.one_wire.specs.Grouping.{group_count}
use Rattle.one_wire.specs.Ports.{is_driven, is_reachable, newly}
use Rattle.one_wire.proofs.Merged.{number_of, group_count_lem}
use Rattle.one_wire.specs.Example.{lever_and_repeater, joining, feed, Reached}

net_accepted : (rules : ℕ) → known_rules rules ≡ true → grouping_lists rules lever_and_repeater (joining 4) [] true ≡ Ok tt
unfolding first_from all_from record_in_range first_out_of_range record_before first_not_ascending place_below first_repeated not_whole scene_lists grouping_lists
net_accepted rules known = rw known

fragment_accepted : (rules : ℕ) → known_rules rules ≡ true → grouping_lists rules lever_and_repeater (joining 8) [] true ≡ Ok tt
unfolding first_from all_from record_in_range first_out_of_range record_before first_not_ascending place_below first_repeated not_whole scene_lists grouping_lists
fragment_accepted rules known = rw known

feed_accepted : (rules : ℕ) → known_rules rules ≡ true → liveness_lists rules lever_and_repeater feed [] true ≡ Ok tt
unfolding first_from all_from record_in_range first_out_of_range record_before first_not_ascending place_below first_repeated first_end_missing not_whole scene_lists liveness_lists
feed_accepted rules known = rw known

newly_driven : count_below (newly (is_driven lever_and_repeater [] []) (is_driven lever_and_repeater feed [])) 2 ≡ 1
unfolding count_below first_from tabulate smaller_ids graph.range graph.filter graph.each graph.next walk.visit walk.reached signals source_kind first_at is_on_frontier members_where drive
newly_driven = refl

reachable : count_below (is_reachable lever_and_repeater [] 2) 2 ≡ 1
unfolding count_below first_from tabulate smaller_ids graph.range graph.filter graph.each graph.next walk.visit walk.reached signals is_reachable
reachable = refl

-- neither is a lamp, and neither has a blank facing: so the rows are those under rules 1
no_lamp : NoLamp lever_and_repeater
no_lamp = record { at = at }
  where
    at : (p : ℕ) → p < 2 → eqb (component lever_and_repeater p).kind lamp ≡ false
    at zero h = refl
    at (suc zero) h = refl
    at (suc (suc p)) h = absurd (omega arith)

no_blank : NoBlank lever_and_repeater
no_blank = record { at = at }
  where
    at : (p : ℕ) → p < 2 → (eqb (component lever_and_repeater p).facing NoFace && turns (component lever_and_repeater p).kind) ≡ false
    at zero h = refl
    at (suc zero) h = refl
    at (suc (suc p)) h = absurd (omega arith)

as_by_one : (rules : ℕ) (ps : List ℤ) → input_rows rules lever_and_repeater ps [] ≡ input_rows 1 lever_and_repeater ps []
as_by_one rules ps = (rules_agree rules 1 lever_and_repeater ps [] (inr no_lamp) (inr no_blank)).inputs

rows_before : (rules : ℕ) → input_rows rules lever_and_repeater [] [] ≡ 2 ∷ 1 ∷ 2 ∷ []
unfolding first_from opposite face_or neither repeater_ports ports_by_facing ports_for status_of port_rows verdict_rows
rows_before rules = as_by_one rules []

rows_after : (rules : ℕ) → input_rows rules lever_and_repeater feed [] ≡ 2 ∷ 1 ∷ 0 ∷ []
unfolding count_below first_from tabulate smaller_ids opposite face_or neither repeater_ports ports_by_facing ports_for graph.range graph.filter graph.each graph.next walk.visit walk.reached signals source_kind first_at is_on_frontier members_where drive fed_by status_of port_rows verdict_rows
rows_after rules = as_by_one rules feed

-- ---- groups

module _ (ps : List ℤ) (top : ℕ) where
  abbrev number : ℕ → ℕ
  number = number_of lever_and_repeater ps top

  -- of two places there is one group exactly if they have one number
  groups_of_two : (t : Bool) → eqb (number 0) (number 1) ≡ t → group_count lever_and_repeater ps top ≡ cond t 1 2
  unfolding count_below first_from
  groups_of_two true e = group_count_lem lever_and_repeater ps (omega arith) top ∙ rw e
  groups_of_two false e = group_count_lem lever_and_repeater ps (omega arith) top ∙ rw e

  apart : joins_of lever_and_repeater ps top ≡ [] → group_count lever_and_repeater ps top ≡ 2
  apart e = groups_of_two false (ne_eqb (number 0) (number 1) (λ q.
      let same : 0 ≡ 1 = alone (subst (λ (pairs : List (ℕ × ℕ)). Joined pairs 0 1) e ((numbers_joined lever_and_repeater ps (omega arith) top 0 1 (omega arith) (omega arith)).0 q)) in
      omega arith))
    where
      alone : {a b : ℕ} → Joined [] a b → a ≡ b
      alone (pair m) = absurd (Memᴰ.not-nil m)
      alone same = refl
      alone (flip j) = sym (alone j)
      alone (chain i j) = alone i ∙ alone j

  together : joins_of lever_and_repeater ps top ≡ (0, 1) ∷ [] → group_count lever_and_repeater ps top ≡ 1
  together e = groups_of_two true (eq-eqb (number 0) (number 1)
      ((numbers_joined lever_and_repeater ps (omega arith) top 0 1 (omega arith) (omega arith)).1 (subst (λ (pairs : List (ℕ × ℕ)). Joined pairs 0 1) (sym e) (pair (Memᴰ.head refl)))))

nets : (net_count lever_and_repeater [] ≡ 2) × (net_count lever_and_repeater (joining 4) ≡ 1) × (net_count lever_and_repeater (joining 5) ≡ 2)
unfolding joins place_below first_from
nets = (apart [] net_kinds refl, together (joining 4) net_kinds refl, apart (joining 5) net_kinds refl)

fragments : (fragment_count lever_and_repeater [] ≡ 2) × (fragment_count lever_and_repeater (joining 8) ≡ 1) × (fragment_count lever_and_repeater (joining 9) ≡ 2)
unfolding joins place_below first_from
fragments = (apart [] fragment_kinds refl, together (joining 8) fragment_kinds refl, apart (joining 9) fragment_kinds refl)

pub reached : Reached
reached = record {
  joining_added = λ kind. record { before = []; one = joining kind; after = []; place = refl; long = refl; old_is = refl; new_is = refl };
  net_accepted = net_accepted;
  nets = nets;
  fragment_accepted = fragment_accepted;
  fragments = fragments;
  feed_added = record { before = []; one = feed; after = []; place = refl; long = refl; old_is = refl; new_is = refl };
  feed_signal = refl;
  feed_accepted = feed_accepted;
  newly_driven = newly_driven;
  reachable = reachable;
  rows_before = rows_before;
  rows_after = rows_after;
}
