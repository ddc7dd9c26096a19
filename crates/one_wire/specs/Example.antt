-- The bounds are reached, so that none can be lowered: Lever 1 at 0,0,0 and Repeater 2 at 1,0,0 facing 2, other fields 0, and one connection from the
-- one to the other, at first not there. The theorem is `reached` of proofs/Example.antt.
-- Assumes nothing: these are statements.
use Rattle.std.specs.Prelude.{Ok, ℕ, ◌≡◌, true, List, [], ◌∷◌, ℤ, pos}
use Rattle.sets.specs.Members.{count_below}
use Rattle.lists.specs.Rules.{known_rules}
use Rattle.lists.specs.Limits.{connection_width, port_width}
use Rattle.checks.specs.Refusals.{grouping_lists, liveness_lists}
use Rattle.circuit.specs.Topology.{net_count, fragment_count}
use Rattle.signals.specs.Signals.{is_signal}
use Rattle.assessment.specs.Verdicts.{input_rows}
use Rattle.one_wire.specs.Added.{Added}
use Rattle.one_wire.specs.Ports.{is_driven, is_reachable, newly}

abbrev pub lever_and_repeater : List ℤ
lever_and_repeater =
    pos 1 ∷ pos 0 ∷ pos 0 ∷ pos 0 ∷ pos 4 ∷ pos 0 ∷ pos 0 ∷ pos 0
    ∷ pos 2 ∷ pos 1 ∷ pos 0 ∷ pos 0 ∷ pos 1 ∷ pos 2 ∷ pos 0 ∷ pos 0 ∷ []

-- of a kind
abbrev pub joining : ℕ → List ℤ
joining kind = pos 1 ∷ pos 2 ∷ pos kind ∷ []

-- from port 1 to port 1, of transfer 4
abbrev pub feed : List ℤ
feed = pos 1 ∷ pos 1 ∷ pos 2 ∷ pos 1 ∷ pos 4 ∷ []

pub record Reached : Type 0 where
  pub joining_added : (kind : ℕ) → Added connection_width [] 0 (joining kind)
  -- one net fewer, and with a kind above 4 none
  pub net_accepted : (rules : ℕ) → known_rules rules ≡ true → grouping_lists rules lever_and_repeater (joining 4) [] true ≡ Ok tt
  pub nets : (net_count lever_and_repeater [] ≡ 2) × (net_count lever_and_repeater (joining 4) ≡ 1)
      × (net_count lever_and_repeater (joining 5) ≡ 2)
  -- one fragment fewer, and with kind 9 none
  pub fragment_accepted : (rules : ℕ) → known_rules rules ≡ true → grouping_lists rules lever_and_repeater (joining 8) [] true ≡ Ok tt
  pub fragments : (fragment_count lever_and_repeater [] ≡ 2) × (fragment_count lever_and_repeater (joining 8) ≡ 1)
      × (fragment_count lever_and_repeater (joining 9) ≡ 2)
  -- one component newly driven, and one reachable from the sink: itself
  pub feed_added : Added port_width [] 0 feed
  pub feed_signal : is_signal feed 0 ≡ true
  pub feed_accepted : (rules : ℕ) → known_rules rules ≡ true → liveness_lists rules lever_and_repeater feed [] true ≡ Ok tt
  pub newly_driven : count_below (newly (is_driven lever_and_repeater [] []) (is_driven lever_and_repeater feed [])) 2 ≡ 1
  pub reachable : count_below (is_reachable lever_and_repeater [] 2) 2 ≡ 1
  -- and its port leaves status 2
  pub rows_before : (rules : ℕ) → input_rows rules lever_and_repeater [] [] ≡ 2 ∷ 1 ∷ 2 ∷ []
  pub rows_after : (rules : ℕ) → input_rows rules lever_and_repeater feed [] ≡ 2 ∷ 1 ∷ 0 ∷ []
