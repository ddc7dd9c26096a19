-- Verdict rows and source rows (document 01, "liveness.rs"), as lists of numbers.
--     status_of          of a port of the component at a list place
--     verdict_rows       device, port, status: Repeater, Comparator, Piston, Torch in list order, each Input port, and the Torch's Control
--     source_rows        id, source kind, by list order, then kind
-- Assumes nothing: these are definitions.
use Rattle.std.specs.Prelude.{Option, Some, None}
use Rattle.std.specs.Prelude.{ℕ, zero, suc, Bool, not, cond, ◌&&◌, ◌||◌, List, [], ◌∷◌, ◌++◌, eqb, ltb, length, ℤ}
use Rattle.lists.specs.Records.{Component, component, port_connection, component_count, port_count}
use Rattle.lists.specs.First.{some}
use Rattle.faces.specs.Ports.{ports_of, Input, Control}
use Rattle.faces.specs.Select.{port_at}
use Rattle.regions.specs.Graph.{marked}
use Rattle.signals.specs.Signals.{is_signal, source_member}
use Rattle.signals.specs.Sources.{source_kind, is_on_frontier}
use Rattle.signals.specs.Regions.{is_inferred}
use Rattle.signals.specs.Drive.{drive, potential}

-- ---- statuses

-- port connection k sinks at the port of the component at p
abbrev pub feeds_port : List ℤ → List ℤ → ℕ → ℕ → ℕ → Bool
feeds_port cs ps p port k =
    is_signal ps k && (eqb (port_connection ps k).sink (component cs p).id && eqb (port_connection ps k).sink_port_of port)

-- an immediate source of the port is among the marked members
unfoldable pub fed_by : List ℤ → List ℤ → ℕ → ℕ → List Bool → Bool
fed_by cs ps p port flags = some (λ k. feeds_port cs ps p port k && marked flags (source_member cs ps k)) (port_count ps)

-- 2 Disconnected: no edge sinks there. Else 0 DrivenByKnownSource: an immediate source is in `drive`. Else 1 AwaitingExternalInput: one is in
-- `potential`. Else 3 NoKnownSource.
unfoldable pub status_of : ℕ → List ℤ → List ℤ → List ℤ → ℕ → ℕ → ℕ
status_of rules cs ps fs p port =
    cond (not (some (feeds_port cs ps p port) (port_count ps))) 2
    (cond (fed_by cs ps p port (drive cs ps fs)) 0
    (cond (fed_by cs ps p port (potential rules cs ps fs)) 1 3))

-- ---- verdict rows

abbrev pub torch : ℕ
torch = 3

-- Repeater, Comparator, Torch, Piston
abbrev pub is_device : ℕ → Bool
is_device kind = eqb kind 1 || (eqb kind 2 || (eqb kind torch || eqb kind 8))

-- port k of a device has a row, by the ports under the rules: it is an Input, or the Torch's Control
abbrev pub is_required : ℕ → Component → ℕ → Bool
is_required rules c k =
    is_device c.kind
    && (eqb (port_at (ports_of rules c) k).role Input || (eqb c.kind torch && eqb (port_at (ports_of rules c) k).role Control))

-- there is a port k, and it has a row
abbrev pub has_row : ℕ → Component → ℕ → Bool
has_row rules c k = ltb k (length (ports_of rules c)) && is_required rules c k

-- the rows of the first m ports of the component at p
unfoldable pub port_rows : ℕ → List ℤ → List ℤ → List ℤ → ℕ → ℕ → List ℕ
port_rows rules cs ps fs p zero = []
port_rows rules cs ps fs p (suc k) =
    port_rows rules cs ps fs p k
    ++ cond (is_required rules (component cs p) k) ((component cs p).id ∷ k ∷ status_of rules cs ps fs p k ∷ []) []

-- the rows of the first n components
unfoldable pub verdict_rows : ℕ → List ℤ → List ℤ → List ℤ → ℕ → List ℕ
verdict_rows rules cs ps fs zero = []
verdict_rows rules cs ps fs (suc p) =
    verdict_rows rules cs ps fs p ++ port_rows rules cs ps fs p (length (ports_of rules (component cs p)))

abbrev pub input_rows : ℕ → List ℤ → List ℤ → List ℤ → List ℕ
input_rows rules cs ps fs = verdict_rows rules cs ps fs (component_count cs)

-- ---- source rows

-- a row where the test holds
abbrev pub row_if : Bool → ℕ → ℕ → List ℕ
row_if test id kind = cond test (id ∷ kind ∷ []) []

abbrev pub kind_row : ℕ → Option ℕ → List ℕ
kind_row id (Some kind) = id ∷ kind ∷ []
kind_row id None = []

-- at most two: 0 or 1, then 2; 3 stands alone
unfoldable pub sources_at : ℕ → List ℤ → List ℤ → List ℤ → ℕ → List ℕ
sources_at rules cs ps fs p =
    kind_row (component cs p).id (source_kind (component cs p).kind)
    ++ (row_if (is_on_frontier cs fs p) (component cs p).id 2
    ++ row_if (is_inferred rules cs ps fs p) (component cs p).id 3)

unfoldable pub source_rows_below : ℕ → List ℤ → List ℤ → List ℤ → ℕ → List ℕ
source_rows_below rules cs ps fs zero = []
source_rows_below rules cs ps fs (suc p) = source_rows_below rules cs ps fs p ++ sources_at rules cs ps fs p

abbrev pub source_rows : ℕ → List ℤ → List ℤ → List ℤ → List ℕ
source_rows rules cs ps fs = source_rows_below rules cs ps fs (component_count cs)
