-- One grouping connection more (document 02, R-14): "If one grouping connection is added and the lists are still accepted, the net count falls
-- by one or not at all, and the fragment count likewise."
--     FallsByOneOrNotAtAll      of a count before and after
--     GroupCounts               what one connection does to the counts
--     OneGroupingConnection     the statement, of the definitions
--     OneGroupingAnswer         the same of what `circuit::from_parts` answers
-- The theorems are `one_grouping_connection` and `one_grouping_answer` of proofs/Theorems.antt.
-- Assumes nothing: these are statements.
use Rattle.std.specs.Prelude.{Ok, ℕ, suc, ◌<◌, ◌≡◌, Bool, List, ◌⊎◌, ℤ}
use Rattle.lists.specs.Limits.{connection_width}
use Rattle.lists.specs.Records.{connection, component_count}
use Rattle.checks.specs.Refusals.{grouping_lists}
use Rattle.circuit.specs.Groups.{roots_below}
use Rattle.circuit.specs.Topology.{forest_of, net_kinds, fragment_kinds, net_count, fragment_count, Grouped}
use Rattle.circuit.specs.declared.Counts.{Counts}
use Rattle.one_wire.specs.Added.{Added}

abbrev pub FallsByOneOrNotAtAll : ℕ → ℕ → Type 0
FallsByOneOrNotAtAll before after = (before ≡ after) ⊎ (before ≡ suc after)

-- how many groups the connections of kinds 0 to `top` leave
abbrev pub group_count : List ℤ → List ℤ → ℕ → ℕ
group_count cs ps top = roots_below (forest_of cs ps top) (component_count cs)

-- the connections ps' are ps with one more, of a kind
pub record GroupCounts (cs ps ps' : List ℤ) (kind : ℕ) : Type 0 where
  pub nets : FallsByOneOrNotAtAll (net_count cs ps) (net_count cs ps')
  pub fragments : FallsByOneOrNotAtAll (fragment_count cs ps) (fragment_count cs ps')
  -- besides: a kind above 4 changes no net count, and kind 9 no fragment count
  pub nets_kept : net_kinds < kind → net_count cs ps ≡ net_count cs ps'
  pub fragments_kept : fragment_kinds < kind → fragment_count cs ps ≡ fragment_count cs ps'
  -- and whichever kinds count, 0 to `top`
  pub groups : (top : ℕ) → FallsByOneOrNotAtAll (group_count cs ps top) (group_count cs ps' top)

-- of the lists only those with the connection need be accepted, by the grouping entry or in a sheet, whatever slices are lent
abbrev pub OneGroupingConnection : Type 0
OneGroupingConnection = (rules : ℕ) (cs ps ps' fs : List ℤ) (i : ℕ) (enough : Bool) → Added connection_width ps i ps'
    → grouping_lists rules cs ps' fs enough ≡ Ok tt
    → GroupCounts cs ps ps' (connection ps' i).kind

-- two answers of the entry, neither a refusal
abbrev pub OneGroupingAnswer : Type 0
OneGroupingAnswer = (rules : ℕ) (cs ps ps' : List ℤ) (i : ℕ) → Added connection_width ps i ps'
    → (nets nets₁ fragments fragments₁ : List ℕ) (old : Counts) → Grouped rules cs ps nets nets₁ fragments fragments₁ (Ok old)
    → (nets' nets₁' fragments' fragments₁' : List ℕ) (new : Counts) → Grouped rules cs ps' nets' nets₁' fragments' fragments₁' (Ok new)
    → FallsByOneOrNotAtAll old.nets new.nets × FallsByOneOrNotAtAll old.fragments new.fragments
