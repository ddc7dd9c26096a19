-- How the rows of an answer are written one after the other, and the ports that have a verdict row, by rules, kind and facing.
--     device_rows, rows_below        the verdict rows of a device, and of the first n components, by statuses
--     sources_of, sources_below      their source rows, by flags
-- Assumes nothing: these are definitions.
use Rattle.std.specs.Prelude.{Option}
use Rattle.std.specs.Prelude.{ℕ, zero, suc, ◌+◌, ◌*◌, ◌/◌, ◌%◌, ◌<◌, ◌≡◌, Bool, true, false, not, cond, ◌&&◌, List, [], ◌∷◌, ◌++◌, eqb, length, get_or, take, drop, ℤ}
use Rattle.tables.specs.Order.{member}
use Rattle.tables.specs.Pairs.{pair, span}
use Rattle.lists.specs.Limits.{component_limit}
use Rattle.lists.specs.Records.{component, component_count}
use Rattle.lists.specs.First.{some}
use Rattle.lists.specs.Slices.{laid}
use Rattle.faces.specs.Ports.{piston_kind, is_unread}
use Rattle.regions.specs.Graph.{marked}
use Rattle.signals.specs.Keys.{slot, ports}
use Rattle.signals.specs.Sources.{source_kind}
use Rattle.assessment.specs.declared.sources.SourceKind.{SourceKind}
use Rattle.assessment.specs.Verdicts.{row_if, kind_row}

-- the rows stand from place `at` on, and the rest is as it was; r is the place after them
pub record Put (rows : List ℕ) (at : ℕ) (old new : List ℕ) (r : ℕ) : Type 0 where
  pub place : r ≡ at + length rows
  pub is : new ≡ take at old ++ (rows ++ drop (at + length rows) old)

-- the first required port of a kind and how many a kind has: Repeater and Comparator port 1, Torch port 4, Piston ports 0 to 3
unfoldable pub first_required : ℕ → ℕ
first_required kind = get_or (0 ∷ 1 ∷ 1 ∷ 4 ∷ []) kind 0

unfoldable pub count_by_kind : ℕ → ℕ
count_by_kind kind = get_or (0 ∷ 1 ∷ 1 ∷ 1 ∷ 0 ∷ 0 ∷ 0 ∷ 0 ∷ 4 ∷ []) kind 0

-- an unread Repeater or Comparator has none (document 02, R-7), an unread Piston those of its kind
abbrev pub loses_input : ℕ → ℕ → ℕ → Bool
loses_input rules kind facing = is_unread rules kind facing && not (eqb kind piston_kind)

unfoldable pub required_count : ℕ → ℕ → ℕ → ℕ
required_count rules kind facing = cond (loses_input rules kind facing) 0 (count_by_kind kind)

-- no component has a required port
pub record NoneRequired (rules : ℕ) (cs : List ℤ) : Type 0 where
  pub at : (p : ℕ) → p < component_count cs → required_count rules (component cs p).kind (component cs p).facing ≡ 0

-- some key of the slot
unfoldable pub slot_fed : List ℕ → ℕ → Bool
slot_fed keys slot = some (λ a. member (pair slot a) keys) span

-- the second numbers of the slot's keys are below m
pub record SlotWithin (keys : List ℕ) (slot m : ℕ) : Type 0 where
  pub below : (i : ℕ) → i < length keys → get_or keys i 0 / span ≡ slot → get_or keys i 0 % span < m

-- the second numbers of the keys of every member's slots are below m
pub record FedWithin (keys : List ℕ) (m : ℕ) : Type 0 where
  pub below : (i : ℕ) → i < length keys → get_or keys i 0 / span < component_limit * ports → get_or keys i 0 % span < m

-- all rows stand at the front, and r says how many there are
pub record Scanned (rows : List ℕ) (width : ℕ) (old new : List ℕ) (r : ℕ) : Type 0 where
  pub is : new ≡ laid rows old
  pub count : r * width ≡ length rows

-- ---- verdict rows

-- the rows of ports first, first + 1, .., first + n - 1 of a device
unfoldable pub device_rows : ℕ → ℕ → (ℕ → ℕ) → ℕ → List ℕ
device_rows id first status zero = []
device_rows id first status (suc k) = device_rows id first status k ++ (id ∷ (first + k) ∷ status (first + k) ∷ [])

-- the rows of the required ports of a kind and facing, by the status of each port
abbrev pub rows_of : ℕ → ℕ → ℕ → ℕ → (ℕ → ℕ) → List ℕ
rows_of rules id kind facing status = device_rows id (first_required kind) status (required_count rules kind facing)

-- those of the first n components, by the status of each port of the component at a list place
unfoldable pub rows_below : ℕ → List ℤ → (ℕ → ℕ → ℕ) → ℕ → List ℕ
rows_below rules cs status zero = []
rows_below rules cs status (suc p) =
    rows_below rules cs status p ++ rows_of rules (component cs p).id (component cs p).kind (component cs p).facing (status p)

-- ---- source rows

-- source kinds in the numbers of source rows
abbrev pub source_number : SourceKind → ℕ
source_number SourceKind.ControllableInput = 0
source_number SourceKind.IntrinsicSource = 1
source_number SourceKind.ObservationBoundary = 2
source_number SourceKind.InferredPrimaryInput = 3

abbrev pub sources_of : ℕ → Option ℕ → Bool → Bool → List ℕ
sources_of id found frontier inferred = kind_row id found ++ (row_if frontier id 2 ++ row_if inferred id 3)

unfoldable pub sources_below : List ℤ → List Bool → List Bool → ℕ → List ℕ
sources_below cs frontier inferred zero = []
sources_below cs frontier inferred (suc p) =
    sources_below cs frontier inferred p
    ++ sources_of (component cs p).id (source_kind (component cs p).kind) (marked frontier p) (marked inferred p)

-- an inferred component is on no frontier, so that no component has more than two rows
pub record InferredAlone (cs : List ℤ) (frontier inferred : List Bool) : Type 0 where
  pub at : (p : ℕ) → p < component_count cs → marked inferred p ≡ true → marked frontier p ≡ false
