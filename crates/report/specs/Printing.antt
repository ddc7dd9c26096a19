-- What the functions that print a scene hand on to each other. No line of the report rests on these.
--     component_row_by, region_row_by         rows by what the entries wrote and answered
--     asked_text, row_lines, inputs_text     the verdict rows, each asked for by the id of its device and by its port
--     unread_text                         the last block
--     blocks_text, whole_text               the blocks before them, and the report by its rows
--     AskedOf                             the scenes that the tables of ports are of
--     SlopedFront, Cut                    rows of six at the front of a slice; the same as rows of five and slopes
--     Accepts, Gathered, Analyzed         the lists of an accepted sheet; what grouping, port selection and the analysis left
-- Assumes nothing: these are definitions.
use Rattle.blocks.specs.declared.Block.{Block}
use Rattle.std.specs.Prelude.{Ok}
use Rattle.std.specs.Prelude.{ℕ, ◌+◌, ◌*◌, ◌/◌, ◌<◌, ◌≡◌, cond, List, [], ◌∷◌, ◌++◌, map, length, get_or, take, ℤ, pos}
use Rattle.sets.specs.Members.{as_nat, member_of}
use Rattle.checks.specs.Refusals.{sheet_refusal}
use Rattle.lists.specs.Limits.{kept_width}
use Rattle.lists.specs.Rules.{blanks_unread}
use Rattle.lists.specs.Ids as ids
use Rattle.lists.specs.Ids.{IdTable}
use Rattle.lists.specs.Slices.{laid}
use Rattle.lines.specs.Text.{ascii}
use Rattle.lines.specs.Decimal.{line_of}
use Rattle.circuit.specs.Topology.{nets_of, fragments_of}
use Rattle.scene.specs.Kept.{sloped_rows, without_slopes, slopes_of}
use Rattle.inputs.specs.declared.asked.Asked.{Asked}
use Rattle.inputs.specs.Inputs.{Ready}
use Rattle.inputs.specs.Query.{row_place, at_place, is_immediate, is_inferred_for}
use Rattle.regions.specs.Graph.{marked}
use Rattle.signals.specs.Regions.{region_count, regions_of, is_cyclic, holds_drive}
use Rattle.signals.specs.Drive.{drive, potential}
use Rattle.assessment.specs.Verdicts.{source_rows, input_rows}
use Rattle.liveness.specs.Sets.{SetWhere}
use Rattle.liveness.specs.declared.Analysis.{Analysis}
use Rattle.lists.specs.Records.{component, component_count}
use Rattle.blocks.specs.Lines.{input_text}
use Rattle.blocks.specs.Blocks.{block_text}
use Rattle.report.specs.Report.{kept_list, ids_where}

-- the tables by which ports are asked for their sources are those of their components with these port connections and frontiers
abbrev pub AskedOf : Asked → List ℤ → List ℤ → Type 0
AskedOf a ps fs = Ready a.rules a.components.now ps fs a.fed.now a.labels.now a.upstream.now

-- ---- rows

-- of the component at p
abbrev pub component_row_by : List ℤ → List ℕ → List ℕ → List ℕ → List ℕ → List ℕ → ℕ → List ℕ
component_row_by cs nets fragments regions drive potential p =
    (component cs p).id ∷ get_or nets p 0 ∷ get_or fragments p 0 ∷ get_or regions p 0
    ∷ as_nat (member_of drive (ids.member_of cs p)) ∷ as_nat (member_of potential (ids.member_of cs p)) ∷ []

-- of region r
abbrev pub region_row_by : List ℕ → List ℕ → ℕ → List ℕ
region_row_by cyclic drive r = as_nat (member_of cyclic r) ∷ as_nat (member_of drive r) ∷ []

-- n rows of six stand at the front of a slice, their sixth numbers small
pub record SlopedFront (rows : List ℕ) (n : ℕ) (slice : List ℤ) : Type 0 where
  pub long : length rows ≡ n * kept_width
  pub is : take (n * kept_width) slice ≡ map pos rows
  pub small : (k : ℕ) → k < n → get_or rows (k * kept_width + 5) 0 < 256

-- rows of six as a list of rows of five and a list of their sixth numbers
pub record Cut (rows : List ℕ) (five : List ℤ) (slopes : List ℕ) : Type 0 where
  pub long : length rows ≡ length slopes * kept_width
  pub five_are : five ≡ map pos (without_slopes rows)
  pub slopes_are : slopes ≡ slopes_of rows

-- ---- verdict rows

-- the lines of a port with a status, asked for by its device's id
unfoldable pub asked_text : ℕ → List ℤ → List ℤ → List ℤ → ℕ → ℕ → ℕ → List ℕ
asked_text rules cs kept fs id port status =
    input_text id port status (ids_where cs (at_place (λ p a. is_immediate cs kept p port a) (row_place rules cs id port)))
    (ids_where cs (at_place (λ p a. is_inferred_for rules cs kept fs p port a) (row_place rules cs id port)))

-- rows of three numbers: device, port, status
unfoldable pub row_lines : (ℕ → ℕ → ℕ → List ℕ) → List ℕ → List ℕ
row_lines text [] = []
row_lines text (a ∷ []) = []
row_lines text (a ∷ b ∷ []) = []
row_lines text (a ∷ b ∷ c ∷ rows) = text a b c ++ row_lines text rows

abbrev pub inputs_text : ℕ → List ℤ → List ℤ → List ℤ → List ℕ → List ℕ
inputs_text rules cs kept fs rows = line_of (ascii "inputs") (pos (length rows / 3)) ++ row_lines (asked_text rules cs kept fs) rows

-- ---- the last block, by the ids that it lists

abbrev pub unread_text : ℕ → List ℕ → List ℕ
unread_text rules ids = cond (blanks_unread rules) (block_text Block.Unread ids) []

-- ---- the report by its rows

-- up to the verdict rows: of components, kept connections, regions, sources
abbrev pub blocks_text : List ℕ → List ℕ → List ℕ → List ℕ → List ℕ
blocks_text components kept regions sources =
    line_of (ascii "answer") (pos 0) ++ (block_text Block.Components components ++ (block_text Block.Connections kept ++ (block_text Block.Regions regions ++ block_text Block.Sources sources)))

abbrev pub whole_text : ℕ → List ℤ → List ℤ → List ℤ → List ℕ → List ℕ → List ℕ → List ℕ → List ℕ → List ℕ → List ℕ
whole_text rules cs kept fs components connections regions sources inputs ids =
    blocks_text components connections regions sources ++ (inputs_text rules cs kept fs inputs ++ unread_text rules ids)

-- ---- scenes

-- the rules and the lists of an accepted sheet, and the table of ids
pub record Accepts (rules : ℕ) (cs ps fs : List ℤ) (keys : List ℕ) : Type 0 where
  pub accepted : sheet_refusal rules cs ps fs ≡ Ok tt
  pub table : IdTable cs keys

-- its groups, and its kept connections with their slopes
pub record Gathered (rules : ℕ) (cs ps : List ℤ) (kept : List ℤ) (nets fragments slopes : List ℕ) : Type 0 where
  pub kept_are : kept ≡ kept_list rules cs ps
  pub sloped : Cut (sloped_rows rules cs ps) kept slopes
  pub nets_old : List ℕ
  pub nets_are : nets ≡ laid (nets_of cs ps) nets_old
  pub fragments_old : List ℕ
  pub fragments_are : fragments ≡ laid (fragments_of cs ps) fragments_old

-- what the analysis gave: the region of each component at the front of a slice, the source and the verdict rows, and the answer
pub record Analyzed (rules : ℕ) (cs ps fs : List ℤ) (regions sources inputs : List ℕ) (r : Analysis) : Type 0 where
  pub regions_old : List ℕ
  pub regions_are : regions ≡ laid (regions_of cs ps) regions_old
  pub sources_are : sources ≡ source_rows rules cs ps fs
  pub inputs_are : inputs ≡ input_rows rules cs ps fs
  pub region_count_lem : r.regions ≡ region_count cs ps
  pub drive_set : SetWhere (component_count cs) (marked (drive cs ps fs)) r.drive.words
  pub potential_set : SetWhere (component_count cs) (marked (potential rules cs ps fs)) r.potential.words
  pub cyclic_set : SetWhere (region_count cs ps) (is_cyclic cs ps) r.cyclic.words
  pub has_drive_set : SetWhere (region_count cs ps) (holds_drive cs ps fs) r.has_drive.words
