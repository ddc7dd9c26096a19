-- The report of a sheet (document 01, "The sheet and the program", its worked example): what is printed of a scene, one definition to a block,
-- in the order in which the blocks are printed. The connections are those kept, and the analysis is that of the liveness entry on them. The
-- rules number, the first argument, is that of the sheet.
-- The keys, and the lines of given numbers, are in crate `blocks` (Lines.antt).
--     component_rows, region_rows        the numbers of two blocks; those of the others are sloped_rows, source_rows, input_rows
--     input_block                       the verdict rows, each with its immediate sources and inferred inputs
--     unread_block                      under rules 3 the devices whose facing was left blank (document 02, R-7)
--     report_of                         the whole
-- Assumes nothing: these are definitions.
use Rattle.std.specs.Prelude.{Option, Some, None}
use Rattle.std.specs.Prelude.{ℕ, zero, suc, ◌/◌, Bool, cond, List, [], ◌∷◌, ◌++◌, map, eqb, length, get_or, ℤ, pos}
use Rattle.sets.specs.Members.{as_nat}
use Rattle.lists.specs.Records.{Component, component, component_count}
use Rattle.lists.specs.Rules.{blanks_unread}
use Rattle.lists.specs.First.{first_from}
use Rattle.lists.specs.Ids.{member_of}
use Rattle.lines.specs.Text.{ascii}
use Rattle.lines.specs.Decimal.{line_of}
use Rattle.blocks.specs.Lines.{component_keys, connection_keys, region_keys, source_keys, unread_keys, block, input_text}
use Rattle.circuit.specs.Topology.{nets_of, fragments_of}
use Rattle.faces.specs.Ports.{unread, ports_of}
use Rattle.scene.specs.Kept.{kept_rows, sloped_rows}
use Rattle.regions.specs.Graph.{marked}
use Rattle.signals.specs.Regions.{region_of_place, region_count, is_cyclic, holds_drive}
use Rattle.signals.specs.Drive.{drive, potential}
use Rattle.assessment.specs.Verdicts.{status_of, is_required, source_rows, input_rows}
use Rattle.inputs.specs.Query.{is_immediate, is_inferred_for}

-- ---- numbers

-- row 0, row 1, .., row (n - 1), one after the other
unfoldable pub all_rows : (ℕ → List ℕ) → ℕ → List ℕ
all_rows row zero = []
all_rows row (suc n) = all_rows row n ++ row n

-- the kept connections as a list of the liveness entry, without their slopes
abbrev pub kept_list : ℕ → List ℤ → List ℤ → List ℤ
kept_list rules cs ps = map pos (kept_rows rules cs ps)

-- id, net, fragment, region, drive, potential
abbrev pub component_row : ℕ → List ℤ → List ℤ → List ℤ → ℕ → List ℕ
component_row rules cs ps fs p =
    (component cs p).id ∷ get_or (nets_of cs ps) p 0 ∷ get_or (fragments_of cs ps) p 0 ∷ region_of_place cs (kept_list rules cs ps) p
    ∷ as_nat (marked (drive cs (kept_list rules cs ps) fs) (member_of cs p)) ∷ as_nat (marked (potential rules cs (kept_list rules cs ps) fs) (member_of cs p)) ∷ []

-- of the first n components, in list order
abbrev pub component_rows : ℕ → List ℤ → List ℤ → List ℤ → ℕ → List ℕ
component_rows rules cs ps fs n = all_rows (component_row rules cs ps fs) n

-- cyclic, has_drive
abbrev pub region_row : ℕ → List ℤ → List ℤ → List ℤ → ℕ → List ℕ
region_row rules cs ps fs r = as_nat (is_cyclic cs (kept_list rules cs ps) r) ∷ as_nat (holds_drive cs (kept_list rules cs ps) fs r) ∷ []

-- of the first n regions, in number order
abbrev pub region_rows : ℕ → List ℤ → List ℤ → List ℤ → ℕ → List ℕ
region_rows rules cs ps fs n = all_rows (region_row rules cs ps fs) n

-- ---- the components that members stand for

abbrev pub id_at : List ℤ → Option ℕ → ℕ
id_at cs (Some p) = (component cs p).id
id_at cs None = 0

-- the id of the component that member m stands for
unfoldable pub member_id : List ℤ → ℕ → ℕ
member_id cs m = id_at cs (first_from (λ p. eqb (member_of cs p) m) 0 (component_count cs))

-- the ids, rising, of the members below n that pass the test
unfoldable pub ids_below : List ℤ → (ℕ → Bool) → ℕ → List ℕ
ids_below cs test zero = []
ids_below cs test (suc m) = ids_below cs test m ++ cond (test m) (member_id cs m ∷ []) []

abbrev pub ids_where : List ℤ → (ℕ → Bool) → List ℕ
ids_where cs test = ids_below cs test (component_count cs)

-- ---- verdict rows

-- the lines of a port of the component at p
abbrev pub input_lines : ℕ → List ℤ → List ℤ → List ℤ → ℕ → ℕ → List ℕ
input_lines rules cs kept fs p port =
    input_text (component cs p).id port (status_of rules cs kept fs p port) (ids_where cs (is_immediate cs kept p port))
    (ids_where cs (is_inferred_for rules cs kept fs p port))

-- of the first m ports of the component at p
unfoldable pub port_lines : ℕ → List ℤ → List ℤ → List ℤ → ℕ → ℕ → List ℕ
port_lines rules cs kept fs p zero = []
port_lines rules cs kept fs p (suc k) = port_lines rules cs kept fs p k ++ cond (is_required rules (component cs p) k) (input_lines rules cs kept fs p k) []

-- of the first n components
unfoldable pub verdict_lines : ℕ → List ℤ → List ℤ → List ℤ → ℕ → List ℕ
verdict_lines rules cs kept fs zero = []
verdict_lines rules cs kept fs (suc p) = verdict_lines rules cs kept fs p ++ port_lines rules cs kept fs p (length (ports_of rules (component cs p)))

abbrev pub input_block : ℕ → List ℤ → List ℤ → List ℤ → List ℕ
input_block rules cs kept fs = line_of (ascii "inputs") (pos (length (input_rows rules cs kept fs) / 3)) ++ verdict_lines rules cs kept fs (component_count cs)

-- ---- devices whose facing was left blank

-- the id of a Repeater, Comparator or Piston of facing 0, where that is not taken as North
abbrev pub unread_row : ℕ → Component → List ℕ
unread_row rules c = cond (unread rules c) (c.id ∷ []) []

-- of the first n components, in list order, connected or not
abbrev pub unread_ids : ℕ → List ℤ → ℕ → List ℕ
unread_ids rules cs n = all_rows (λ p. unread_row rules (component cs p)) n

-- "`unread=` with a count and then an `id=` line each in list order"; under rules 1 and 2 no such block
abbrev pub unread_block : ℕ → List ℤ → List ℕ
unread_block rules cs = cond (blanks_unread rules) (block (ascii "unread") unread_keys (unread_ids rules cs (component_count cs))) []

-- ---- the whole

unfoldable pub report_of : ℕ → List ℤ → List ℤ → List ℤ → List ℕ
report_of rules cs ps fs =
    line_of (ascii "answer") (pos 0)
    ++ (block (ascii "components") component_keys (component_rows rules cs ps fs (component_count cs))
    ++ (block (ascii "connections") connection_keys (sloped_rows rules cs ps)
    ++ (block (ascii "regions") region_keys (region_rows rules cs ps fs (region_count cs (kept_list rules cs ps)))
    ++ (block (ascii "sources") source_keys (source_rows rules cs (kept_list rules cs ps) fs)
    ++ (input_block rules cs (kept_list rules cs ps) fs
    ++ unread_block rules cs)))))
