-- Order and repetition of port connections change nothing: the definitions see a list of them only by the tests that some of its members pass.
--     some_same                               such a test
--     signals_same, labels_same, ..           so each definition
--     same_answer                             and every part of an answer
-- Assumes nothing.
use mathlib.Core.Path.{◌≡◌, refl, sym, ap, ap₂, ◌∙◌}
use mathlib.Core.Bool.{Bool, true, not, ◌&&◌, ◌||◌}
use mathlib.Core.List.{List}
use Prim.Native.Nat.{ℕ, zero, suc, ◌<◌}
use lib.Dec.{eqb, leb}
use lib.ListN.{length}
use lib.IntN.{ℤ}
use Rattle.sets.specs.Members.{count_below}
use Rattle.lists.specs.Records.{PortConnection, component, port_connection, component_count, port_count}
use Rattle.lists.specs.First.{some, tabulate}
use Rattle.lists.specs.Ids.{support_transfer, smaller_ids, member_of, place_of}
use Rattle.faces.specs.Ports.{ports_of}
use Rattle.regions.specs.Graph.{Edges, at, marked, flip}
use Rattle.regions.specs.Kosaraju.{region_of, count, reached}
use Rattle.signals.specs.Signals.{signals}
use Rattle.signals.specs.Regions.{labels, region_of_place, is_cyclic, holds_drive, is_passive, kind_at, fed_from_outside, neighbours, is_inferred}
use Rattle.signals.specs.Drive.{drive, potential}
use Rattle.assessment.specs.Verdicts.{fed_by, status_of, port_rows, verdict_rows, sources_at, source_rows_below}
use Rattle.inputs.specs.Query.{is_immediate, upstream, is_inferred_for}
use Rattle.inputs.specs.Same.{SameConnections, SameAnswer}
use Rattle.lists.proofs.Some.{some_at}
use Rattle.lists.proofs.Some.{some_found}
use Rattle.signals.proofs.Tested.{same_truth}

-- ---- a test

-- some port connection passes it
abbrev passes : List ℤ → (PortConnection → Bool) → Bool
passes ps test = some (λ k. test (port_connection ps k)) (port_count ps)

passes_there : (ps qs : List ℤ) → ((k : ℕ) → k < port_count ps → (j : ℕ) × (j < port_count qs) × (port_connection ps k ≡ port_connection qs j))
    → (test : PortConnection → Bool) → passes ps test ≡ true → passes qs test ≡ true
passes_there ps qs there test e =
    let f = some_found (λ k. test (port_connection ps k)) (port_count ps) e in
    let t = there f.0 f.1 in
    some_at (λ k. test (port_connection qs k)) (port_count qs) t.0 t.1 (sym (ap test t.2) ∙ f.2)

pub some_same : {ps qs : List ℤ} → SameConnections ps qs → (test : PortConnection → Bool)
    → some (λ k. test (port_connection ps k)) (port_count ps) ≡ some (λ k. test (port_connection qs k)) (port_count qs)
some_same {ps} {qs} same test = same_truth _ _ (passes_there ps qs same.there test) (passes_there qs ps same.back test)

-- a test of a port connection
abbrev carries : PortConnection → Bool
carries c = not (eqb c.transfer support_transfer)

abbrev feeds : List ℤ → ℕ → ℕ → PortConnection → Bool
feeds cs p port c = carries c && (eqb c.sink (component cs p).id && eqb c.sink_port_of port)

module _ (cs ps qs fs : List ℤ) (same : SameConnections ps qs) where
  -- ---- regions

  pub signals_same : signals cs ps ≡ signals cs qs
  unfolding signals
  signals_same = λ i a b. some_same same (λ c. carries c && (eqb (smaller_ids cs c.source) a && eqb (smaller_ids cs c.sink) b)) i

  pub labels_same : labels cs ps ≡ labels cs qs
  labels_same = ap (region_of (component_count cs)) signals_same

  pub cyclic_same : (r : ℕ) → is_cyclic cs ps r ≡ is_cyclic cs qs r
  unfolding is_cyclic
  cyclic_same r =
      rw labels_same (ap (λ (b : Bool). leb 2 (count_below (λ m. eqb (at (labels cs qs) m) r) (component_count cs)) || b)
      (some_same same (λ c. carries c && (eqb (smaller_ids cs c.source) (smaller_ids cs c.sink) && eqb (at (labels cs qs) (smaller_ids cs c.sink)) r))))

  pub has_drive_same : (r : ℕ) → holds_drive cs ps fs r ≡ holds_drive cs qs fs r
  unfolding holds_drive
  has_drive_same r = rw labels_same

  pub neighbours_same : (m : ℕ) → neighbours cs ps m ≡ neighbours cs qs m
  unfolding neighbours
  neighbours_same m = rw signals_same

  -- ---- reach

  pub drive_same : drive cs ps fs ≡ drive cs qs fs
  unfolding drive
  drive_same = rw signals_same

  pub fed_same : (p port : ℕ) (flags : List Bool) → fed_by cs ps p port flags ≡ fed_by cs qs p port flags
  unfolding fed_by
  fed_same p port flags = some_same same (λ c. feeds cs p port c && marked flags (smaller_ids cs c.source))

  -- ---- the input query

  pub immediate_same : (p port a : ℕ) → is_immediate cs ps p port a ≡ is_immediate cs qs p port a
  unfolding is_immediate
  immediate_same p port a = some_same same (λ c. feeds cs p port c && eqb (smaller_ids cs c.source) a)

  pub upstream_same : (p port : ℕ) → upstream cs ps p port ≡ upstream cs qs p port
  unfolding upstream
  upstream_same p port =
      ap₂ (λ (edge : Edges) (test : ℕ → Bool). reached (component_count cs) (flip edge) (tabulate test (component_count cs)))
      signals_same (λ i a. immediate_same p port a i)

  -- ---- what depends on the rules number

  module _ (rules : ℕ) where
    pub outside_same : (r : ℕ) → fed_from_outside rules cs ps r ≡ fed_from_outside rules cs qs r
    unfolding fed_from_outside
    outside_same r =
        rw labels_same (some_same same (λ c. carries c
        && (not (eqb (at (labels cs qs) (smaller_ids cs c.source)) (at (labels cs qs) (smaller_ids cs c.sink)))
        && (eqb (at (labels cs qs) (smaller_ids cs c.sink)) r && not (is_passive rules (kind_at cs (place_of cs c.source)))))))

    pub inferred_same : is_inferred rules cs ps fs ≡ is_inferred rules cs qs fs
    unfolding is_inferred
    inferred_same = λ i p. at_place p i
      where
        at_place : (p : ℕ) → is_inferred rules cs ps fs p ≡ is_inferred rules cs qs fs p
        at_place p = rw (neighbours_same (member_of cs p), has_drive_same (region_of_place cs ps p), outside_same (region_of_place cs ps p), labels_same)

    pub potential_same : potential rules cs ps fs ≡ potential rules cs qs fs
    unfolding potential
    potential_same = rw (signals_same, inferred_same)

    pub status_same : (p port : ℕ) → status_of rules cs ps fs p port ≡ status_of rules cs qs fs p port
    unfolding status_of
    status_same p port =
        rw (some_same same (feeds cs p port), drive_same, potential_same, fed_same p port (drive cs qs fs), fed_same p port (potential rules cs qs fs))

    pub ports_same : (p n : ℕ) → port_rows rules cs ps fs p n ≡ port_rows rules cs qs fs p n
    unfolding port_rows
    ports_same p zero = refl
    ports_same p (suc k) = rw (ports_same p k, status_same p k)

    pub verdicts_same : (n : ℕ) → verdict_rows rules cs ps fs n ≡ verdict_rows rules cs qs fs n
    unfolding verdict_rows
    verdicts_same zero = refl
    verdicts_same (suc p) = rw (verdicts_same p, ports_same p (length (ports_of rules (component cs p))))

    pub sources_same : (n : ℕ) → source_rows_below rules cs ps fs n ≡ source_rows_below rules cs qs fs n
    unfolding source_rows_below sources_at
    sources_same zero = refl
    sources_same (suc p) = rw (sources_same p, inferred_same)

    pub inferred_for_same : (p port a : ℕ) → is_inferred_for rules cs ps fs p port a ≡ is_inferred_for rules cs qs fs p port a
    unfolding is_inferred_for
    inferred_for_same p port a = rw (upstream_same p port, inferred_same)

-- ---- every part of an answer

pub same_answer : (rules : ℕ) (cs ps qs fs : List ℤ) → SameConnections ps qs → SameAnswer rules cs ps qs fs
same_answer rules cs ps qs fs same = record {
  regions = ap (λ (l : List ℕ). tabulate (λ p. at l (member_of cs p)) (component_count cs)) (labels_same cs ps qs fs same);
  region_count_lem = ap (count (component_count cs)) (signals_same cs ps qs fs same);
  sources = sources_same cs ps qs fs same rules (component_count cs);
  inputs = verdicts_same cs ps qs fs same rules (component_count cs);
  driven = drive_same cs ps qs fs same;
  possible = potential_same cs ps qs fs same rules;
  cyclic = cyclic_same cs ps qs fs same;
  has_drive = has_drive_same cs ps qs fs same;
  immediate = immediate_same cs ps qs fs same;
  inferred = inferred_for_same cs ps qs fs same rules;
}
