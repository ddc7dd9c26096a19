-- One port connection more (document 02, R-14): "If one non-support port connection is added and the scene is still accepted, every component
-- newly driven is reachable from its sink, and none ceases to be driven. The count of components newly driven is at most the count reachable
-- from that sink, itself included. A verdict leaves status 2 only at that sink port."
--     is_driven, is_reachable, newly   tests of the component at a list place
--     Meanings                         what the first two say, in chains of the scene's port connections
--     RowsAfter                        the verdict rows before and after
--     PortEffects                      what one connection does
--     OnePortConnection                the statement, of the definitions
--     OnePortAnswer                    the same of what `liveness::analyze_signal_liveness` answers
--     RepeatedPortConnection           one that is there already changes nothing
-- The theorems are `one_port_connection`, `one_port_answer` and `repeated_port_connection` of proofs/Theorems.antt. Inferred inputs are no part of
-- the first two.
-- Assumes nothing: these are statements.
use Rattle.std.specs.Prelude.{Ok, ℕ, ◌*◌, ◌≤◌, ◌<◌, ◌≡◌, Bool, true, false, not, ◌&&◌, List, [], ◌∷◌, ◌↔◌, eqb, take, ℤ}
use Rattle.sets.specs.Members as set
use Rattle.sets.specs.Members.{count_below}
use Rattle.lists.specs.Limits.{port_width}
use Rattle.lists.specs.Records.{PortConnection, component, port_connection, component_count, port_count}
use Rattle.lists.specs.First.{tabulate}
use Rattle.lists.specs.Ids.{smaller_ids, member_of}
use Rattle.checks.specs.Refusals.{liveness_lists}
use Rattle.regions.specs.Graph.{marked}
use Rattle.regions.specs.Kosaraju.{reached}
use Rattle.signals.specs.Signals.{is_signal, signals}
use Rattle.signals.specs.Sources.{is_drive}
use Rattle.signals.specs.Drive.{drive}
use Rattle.assessment.specs.Verdicts.{input_rows}
use Rattle.liveness.specs.Demand.{Chain}
use Rattle.liveness.specs.Meaning.{FedFrom}
use Rattle.liveness.specs.Entry.{Analyzed}
use Rattle.liveness.specs.declared.Analysis.{Analysis}
use Rattle.inputs.specs.Same.{SameAnswer}
use Rattle.one_wire.specs.Added.{Added}

-- ---- driven and reachable

abbrev pub is_driven : List ℤ → List ℤ → List ℤ → ℕ → Bool
is_driven cs ps fs p = marked (drive cs ps fs) (member_of cs p)

-- the walk from the member of the id visits that of the component at p
unfoldable pub is_reachable : List ℤ → List ℤ → ℕ → ℕ → Bool
is_reachable cs ps id p =
    marked (reached (component_count cs) (signals cs ps) (tabulate (eqb (smaller_ids cs id)) (component_count cs))) (member_of cs p)

-- after, and not before
abbrev pub newly : (ℕ → Bool) → (ℕ → Bool) → ℕ → Bool
newly before after p = after p && not (before p)

-- `Chain` is that of demand 3: port connections of transfer 0 to 5, each one's sink the next one's source
pub record Meanings (cs ps fs : List ℤ) (driven : ℕ → Bool) : Type 0 where
  -- driven is reached from a drive source
  pub driven_is : FedFrom cs ps (is_drive cs fs) driven
  -- reachable from a component, itself included
  pub reachable_is : (q p : ℕ) → q < component_count cs → p < component_count cs
      → (is_reachable cs ps (component cs q).id p ≡ true) ↔ Chain ps (component cs q).id (component cs p).id

-- ---- verdict rows

-- a row before and after the connection c is added
pub record RowAfter (c : PortConnection) (device port before after : ℕ) : Type 0 where
  -- "A verdict leaves status 2 only at that sink port."
  pub leaves : before ≡ 2 → (after ≡ 2 → ⊥) → (device ≡ c.sink) × (port ≡ c.sink_port_of)
  -- besides: none comes to status 2
  pub enters : after ≡ 2 → before ≡ 2

-- all rows, one by one: the same devices and ports, in the same order
pub data RowsAfter (c : PortConnection) : List ℕ → List ℕ → Type 0 where
  none : RowsAfter c [] []
  row : {device port before after : ℕ} {old new : List ℕ} → RowAfter c device port before after → RowsAfter c old new
      → RowsAfter c (device ∷ port ∷ before ∷ old) (device ∷ port ∷ after ∷ new)

-- ---- the statement

-- the port connections ps' are ps with c; which components are driven, and the verdict rows, before and after
pub record PortEffects (cs ps ps' fs : List ℤ) (c : PortConnection) (driven driven' : ℕ → Bool) (rows rows' : List ℕ) : Type 0 where
  -- "every component newly driven is reachable from its sink,"
  pub reaches : (p : ℕ) → p < component_count cs → newly driven driven' p ≡ true → Chain ps c.sink (component cs p).id
  -- "and none ceases to be driven."
  pub stays : (p : ℕ) → p < component_count cs → driven p ≡ true → driven' p ≡ true
  -- "The count of components newly driven is at most the count reachable from that sink, itself included."
  pub few : count_below (newly driven driven') (component_count cs) ≤ count_below (is_reachable cs ps c.sink) (component_count cs)
  -- "A verdict leaves status 2 only at that sink port."
  pub verdicts : RowsAfter c rows rows'
  -- "reachable from that sink" is the same before and after
  pub same_chains : (id : ℕ) → Chain ps c.sink id ↔ Chain ps' c.sink id
  pub same_reach : (p : ℕ) → p < component_count cs → is_reachable cs ps c.sink p ≡ is_reachable cs ps' c.sink p
  -- besides: where its source is not driven, nothing is newly driven
  pub idle : (q : ℕ) → q < component_count cs → (component cs q).id ≡ c.source → driven q ≡ false
      → (p : ℕ) → p < component_count cs → newly driven driven' p ≡ false
  -- what the tests say
  pub before : Meanings cs ps fs driven
  pub after : Meanings cs ps' fs driven'

-- of the scenes only the one with the connection need be accepted, whatever slices are lent
abbrev pub OnePortConnection : Type 0
OnePortConnection = (rules : ℕ) (cs ps ps' fs : List ℤ) (i : ℕ) (enough : Bool) → Added port_width ps i ps'
    → is_signal ps' i ≡ true → liveness_lists rules cs ps' fs enough ≡ Ok tt
    → PortEffects cs ps ps' fs (port_connection ps' i) (is_driven cs ps fs) (is_driven cs ps' fs) (input_rows rules cs ps fs) (input_rows rules cs ps' fs)

-- ---- of the entry's answers

-- the component at p is in the set of an answer
abbrev pub answered_driven : List ℤ → Analysis → ℕ → Bool
answered_driven cs r p = set.member_of r.drive.words (member_of cs p)

-- the verdict rows that it counts, three numbers each
abbrev pub answered_rows : Analysis → List ℕ → List ℕ
answered_rows r inputs = take (r.inputs * 3) inputs

-- two answers of the entry, neither a refusal
abbrev pub OnePortAnswer : Type 0
OnePortAnswer = (rules : ℕ) (cs ps ps' fs : List ℤ) (i : ℕ) → Added port_width ps i ps' → is_signal ps' i ≡ true
    → (regions regions₁ sources sources₁ inputs inputs₁ stack stack₁ : List ℕ) (old : Analysis)
    → Analyzed rules cs ps fs regions regions₁ sources sources₁ inputs inputs₁ stack stack₁ (Ok old)
    → (regions' regions₁' sources' sources₁' inputs' inputs₁' stack' stack₁' : List ℕ) (new : Analysis)
    → Analyzed rules cs ps' fs regions' regions₁' sources' sources₁' inputs' inputs₁' stack' stack₁' (Ok new)
    → PortEffects cs ps ps' fs (port_connection ps' i) (answered_driven cs old) (answered_driven cs new)
    (answered_rows old inputs₁) (answered_rows new inputs₁')

-- ---- a repeat

abbrev pub RepeatedPortConnection : Type 0
RepeatedPortConnection = (rules : ℕ) (cs ps ps' fs : List ℤ) (i k : ℕ) → Added port_width ps i ps'
    → k < port_count ps → port_connection ps' i ≡ port_connection ps k
    → SameAnswer rules cs ps ps' fs
