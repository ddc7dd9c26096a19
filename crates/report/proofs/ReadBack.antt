-- The numbers of a report are read back from its bytes, and demand 3 holds of them.
--     all_in_range, rows_in_range, kept_in_range     the numbers of a block can be read
--     block_read                                     the numbers of a block, with any text behind it
--     rows_at, column_at                             one number of each row
--     regions_printed                                the report of an accepted sheet, with any text behind it
--     demand_printed                                 and the buffer that it is printed into
-- Assumes nothing.
use Rattle.std.specs.Prelude.{⊤, Result, Ok}
use Rattle.lists.specs.declared.Refusal.{Refusal}
use mathlib.Core.Path.{◌≡◌, refl, sym, ap, ◌∙◌}
use mathlib.Core.Bool.{Bool, true, false}
use mathlib.Core.Logic.{⊎_elim}
use mathlib.Core.List.{List, [], ◌∷◌, ◌++◌, append_assoc, map, map-append}
use Prim.Native.Nat.{ℕ, zero, suc, ◌+◌, ◌*◌, ◌/◌, ◌%◌, ◌≤◌, ◌<◌}
use native.Mathlib.Nat.{eq-or-lt_of_le, le_of_suc-le-suc}
use native.Mathlib.Omega.{arith}
use lib.Dec.{ltb}
use lib.IntN.{ℤ, pos}
use borrow.Author.Tests.{ltb-true, ltb-false}
use lib.ListN.{length, get_or, drop, length-map, get_or-append}
use lib.Seq.{get_or-append-add}
use Rattle.sets.specs.Members.{as_nat}
use Rattle.lists.specs.Records.{component_count, connection_count, port_count, natural_at}
use Rattle.lists.specs.Within.{PortConnections}
use Rattle.lists.specs.Slices.{left_of}
use Rattle.lists.proofs.Fields.{field_most, first_most}
use Rattle.lists.proofs.Members.{member_below}
use Rattle.lines.specs.Text.{ascii}
use Rattle.lines.specs.Decimal.{limit, line_of}
use Rattle.lines.specs.Line.{taken, read_line}
use Rattle.lines.proofs.Grammar.{read_write}
use Rattle.checks.specs.Refusals.{sheet_refusal}
use Rattle.checks.proofs.Chain.{both_accept}
use Rattle.forms.specs.Form.{got, AllInRange, in_line, field_test, form_test}
use Rattle.forms.specs.Tables.{keyed}
use Rattle.forms.specs.Sheet.{Parsed}
use Rattle.sheet.specs.Entry.{rules_of, components_of, connections_of, frontiers_of, sheet_checked}
use Rattle.blocks.specs.Lines.{component_keys, connection_keys, region_keys, source_keys, field_lines, block}
use Rattle.circuit.specs.Topology.{net_kinds, fragment_kinds, forest_of}
use Rattle.circuit.proofs.Nets.{numbers_below}
use Rattle.circuit.proofs.Numbering.{roots_most}
use Rattle.scene.specs.Kept.{kept_rows, kept_count, sloped_rows}
use Rattle.scene.proofs.Slopes.{five_at, cut_map, sloped_count, cut_sloped, sloped_small}
use Rattle.signals.specs.Regions.{region_count}
use Rattle.signals.proofs.Tabulated.{tab_at}
use Rattle.signals.proofs.Within.{scene_regions}
use Rattle.assessment.specs.Verdicts.{source_rows}
use Rattle.liveness.specs.Scene.{Scene}
use Rattle.liveness.proofs.Demands.{region_laid, same_regions}
use Rattle.report.specs.Report.{all_rows, kept_list, component_row, component_rows, region_row, region_rows, input_block, unread_block, report_of}
use Rattle.report.specs.Demand.{read_block, column, RegionsPrinted}
use Rattle.sheet.specs.Written.{fits, PrintedBy}
use Rattle.report.specs.Entry.{lists_checked, report_checked}
use Rattle.report.proofs.RowText.{natural_is}
use Rattle.report.proofs.RowLines.{rows_read}
use Rattle.report.proofs.Assembled.{rows_long}
use Rattle.report.proofs.Scenes.{kept_scene}
use Rattle.report.proofs.SheetLaws.{report_demand}

-- ---- ranges

all_in_range : (ns : List ℕ) → ((k : ℕ) → k < length ns → get_or ns k 0 ≤ limit) → AllInRange (map pos ns)
unfolding AllInRange
all_in_range [] h = tt
all_in_range (n ∷ ns) h = (h 0 (omega arith), all_in_range ns (λ k l. h (suc k) (omega arith)))

in_range_append : (a b : List ℤ) → AllInRange a → AllInRange b → AllInRange (a ++ b)
unfolding AllInRange
in_range_append [] b h g = g
in_range_append (z ∷ a) b h g = (h.0, in_range_append a b h.1 g)

rows_in_range : (row : ℕ → List ℕ) (n : ℕ) → ((p : ℕ) → p < n → AllInRange (map pos (row p))) → AllInRange (map pos (all_rows row n))
unfolding all_rows AllInRange
rows_in_range row zero h = tt
rows_in_range row (suc n) h =
    rw map-append (in_range_append (map pos (all_rows row n)) (map pos (row n)) (rows_in_range row n (λ p l. h p (omega arith))) (h n (omega arith)))

module _ (ns : List ℕ) (w : PortConnections (map pos ns)) where
  field_small : (k f : ℕ) → k < port_count (map pos ns) → f < 5 → get_or ns (k * 5 + f) 0 ≤ limit
  field_small k zero h l = omega (arith, natural_is ns refl (k * 5 + 0), field_most w k 0 h (omega arith) 4294967295 refl refl)
  field_small k (suc zero) h l = omega (arith, natural_is ns refl (k * 5 + 1), field_most w k 1 h (omega arith) 255 refl refl)
  field_small k (suc (suc zero)) h l = omega (arith, natural_is ns refl (k * 5 + 2), field_most w k 2 h (omega arith) 4294967295 refl refl)
  field_small k (suc (suc (suc zero))) h l = omega (arith, natural_is ns refl (k * 5 + 3), field_most w k 3 h (omega arith) 255 refl refl)
  field_small k (suc (suc (suc (suc zero)))) h l = omega (arith, natural_is ns refl (k * 5 + 4), field_most w k 4 h (omega arith) 6 refl refl)
  field_small k (suc (suc (suc (suc (suc f))))) h l = absurd (omega arith)

-- of rows of six: the five numbers of a port connection, and a slope
kept_in_range : (rules : ℕ) (cs ps : List ℤ) → PortConnections (kept_list rules cs ps) → AllInRange (map pos (sloped_rows rules cs ps))
kept_in_range rules cs ps w = all_in_range rows number_small
  where
    rows : List ℕ
    rows = sloped_rows rules cs ps

    small : (k f : ℕ) → k < kept_count rules cs ps → (t : Bool) → ltb f 5 ≡ t → f < 6 → get_or rows (k * 6 + f) 0 ≤ limit
    small k f h true e l =
        let five : f < 5 = ltb-true f 5 e in
        let same = sym (five_at rows k f (omega (arith, sloped_count rules cs ps, h)) five) ∙ ap (λ (ns : List ℕ). get_or ns (k * 5 + f) 0) (cut_sloped rules cs ps) in
        omega (arith, same, field_small (kept_rows rules cs ps) w k f (omega (arith, h, length-map (kept_rows rules cs ps) pos)) five)
    small k f h false e l =
        let last : f ≡ 5 = omega (arith, ltb-false f 5 e, l) in
        rw last (omega (arith, sloped_small rules cs ps (connection_count ps) k))

    number_small : (k : ℕ) → k < length rows → get_or rows k 0 ≤ limit
    number_small k h =
        let parts : k / 6 * 6 + k % 6 ≡ k = omega arith in
        rw parts at (small (k / 6) (k % 6) (omega (arith, h, sloped_count rules cs ps)) (ltb (k % 6) 5) refl (omega arith))

flag_small : (b : Bool) → as_nat b ≤ limit
flag_small true = omega arith
flag_small false = omega arith

-- ---- a block

component_form : form_test (keyed component_keys) ≡ true
unfolding form_test field_test in_line
component_form = refl

connection_form : form_test (keyed connection_keys) ≡ true
unfolding form_test field_test in_line
connection_form = refl

block_read : (name : List ℕ) (keys : List (List ℕ)) → form_test (keyed keys) ≡ true → (rows rest : List ℕ) → AllInRange (map pos rows) → length rows / length keys ≤ limit
    → length rows / length keys * length keys ≡ length rows → read_block name keys (block name keys rows ++ rest) ≡ got (map pos rows) rest
block_read name keys good rows rest small few whole =
    let fields = field_lines keys 0 (map pos rows) in
    let count = length rows / length keys in
    rw (append_assoc (line_of name (pos count)) fields rest, read_write name (pos count) (fields ++ rest) few)
    (rows_read keys good count (map pos rows) rest (length-map rows pos ∙ sym whole) small)

-- ---- a number of each row

rows_at : (row : ℕ → List ℕ) → ((p : ℕ) → length (row p) ≡ 6) → (n v f : ℕ) → v < n → f < 6 → get_or (all_rows row n) (v * 6 + f) 0 ≡ get_or (row v) f 0
unfolding all_rows
rows_at row each zero v f h l = absurd (omega arith)
rows_at row each (suc n) v f h l =
    ⊎_elim
    (λ (same : v ≡ n).
    let here : v * 6 + f ≡ length (all_rows row n) + f = omega (arith, rows_long row 6 n each, same) in
    rw (here, same) (get_or-append-add (all_rows row n) (row n) f 0))
    (λ (less : v < n).
    get_or-append (all_rows row n) (row n) 0 (v * 6 + f) (omega (arith, rows_long row 6 n each))
    ∙ rows_at row each n v f less l)
    (eq-or-lt_of_le (le_of_suc-le-suc h))

-- ---- the report of an accepted sheet

seven_then : (a b c d e f g rest : List ℕ) → (a ++ (b ++ (c ++ (d ++ (e ++ (f ++ g)))))) ++ rest ≡ a ++ (b ++ (c ++ (d ++ (e ++ (f ++ (g ++ rest))))))
seven_then a b c d e f g rest = simp append_assoc

module _ (rules : ℕ) (cs ps fs : List ℤ) (e : sheet_refusal rules cs ps fs ≡ Ok tt) where
  abbrev n : ℕ
  n = component_count cs

  abbrev kept : List ℤ
  kept = kept_list rules cs ps

  abbrev rows : List ℕ
  rows = component_rows rules cs ps fs n

  scene : Scene cs kept
  scene = kept_scene rules cs ps fs e

  rows_count : length rows ≡ 6 * n
  rows_count = rows_long (component_row rules cs ps fs) 6 n (λ p. refl)

  row_small : (p : ℕ) → p < n → AllInRange (map pos (component_row rules cs ps fs p))
  unfolding AllInRange
  row_small p h =
      let few = scene.components.few in
      let net = numbers_below cs ps few net_kinds p h in
      let fragment = numbers_below cs ps few fragment_kinds p h in
      let laws = scene_regions cs kept scene.ends in (
        first_most scene.components p h (omega arith) 4294967295 refl refl,
        (
          omega (arith, net, roots_most (forest_of cs ps net_kinds) n, few),
          (
            omega (arith, fragment, roots_most (forest_of cs ps fragment_kinds) n, few),
            (omega (arith, laws.below _ (member_below cs p h), laws.few, few), (flag_small _, (flag_small _, tt))),
          ),
        ),
      )

  column_at : (f v : ℕ) → v < n → f < 6 → get_or (column f 6 (map pos rows)) v 0 ≡ get_or (component_row rules cs ps fs v) f 0
  column_at f v h l =
      let there : v < length (map pos rows) / 6 = omega (arith, h, length-map rows pos, rows_count) in
      tab_at (λ k. natural_at (map pos rows) (k * 6 + f)) (length (map pos rows) / 6) v there
      ∙ natural_is rows refl (v * 6 + f)
      ∙ rows_at (component_row rules cs ps fs) (λ p. refl) n v f h l

  module _ (rest : List ℕ) where
    abbrev after_count : List ℕ
    after_count =
        field_lines region_keys 0 (map pos (region_rows rules cs ps fs (region_count cs kept)))
        ++ (block (ascii "sources") source_keys (source_rows rules cs kept fs) ++ (input_block rules cs kept fs ++ (unread_block rules cs ++ rest)))

    abbrev after_connections : List ℕ
    after_connections =
        block (ascii "regions") region_keys (region_rows rules cs ps fs (region_count cs kept))
        ++ (block (ascii "sources") source_keys (source_rows rules cs kept fs) ++ (input_block rules cs kept fs ++ (unread_block rules cs ++ rest)))

    abbrev after_components : List ℕ
    after_components = block (ascii "connections") connection_keys (sloped_rows rules cs ps) ++ after_connections

    abbrev after_answer : List ℕ
    after_answer = block (ascii "components") component_keys rows ++ after_components

    in_order : report_of rules cs ps fs ++ rest ≡ line_of (ascii "answer") (pos 0) ++ after_answer
    unfolding report_of
    in_order =
        seven_then (line_of (ascii "answer") (pos 0)) (block (ascii "components") component_keys rows) (block (ascii "connections") connection_keys (sloped_rows rules cs ps))
        (block (ascii "regions") region_keys (region_rows rules cs ps fs (region_count cs kept))) (block (ascii "sources") source_keys (source_rows rules cs kept fs)) (input_block rules cs kept fs)
        (unread_block rules cs) rest

    components_read : read_block (ascii "components") component_keys after_answer ≡ got (map pos rows) after_components
    components_read =
        let few : length rows / 6 ≤ limit = omega (arith, rows_count, scene.components.few) in
        let whole : length rows / 6 * 6 ≡ length rows = omega (arith, rows_count) in
        block_read (ascii "components") component_keys component_form rows after_components (rows_in_range (component_row rules cs ps fs) n row_small) few whole

    connections_read : read_block (ascii "connections") connection_keys after_components ≡ got (map pos (sloped_rows rules cs ps)) after_connections
    connections_read =
        let count = sloped_count rules cs ps in
        let few : length (sloped_rows rules cs ps) / 6 ≤ limit = omega (arith, scene.connections.few, length-map (kept_rows rules cs ps) pos, count) in
        let whole : length (sloped_rows rules cs ps) / 6 * 6 ≡ length (sloped_rows rules cs ps) = omega (arith, count) in
        block_read (ascii "connections") connection_keys connection_form (sloped_rows rules cs ps) after_connections (kept_in_range rules cs ps scene.connections) few whole

    -- a region's row has two numbers
    count_read : read_line (ascii "regions") after_connections ≡ taken (pos (region_count cs kept)) after_count
    count_read =
        let marks = region_rows rules cs ps fs (region_count cs kept) in
        let two : length marks ≡ 2 * region_count cs kept = rows_long (region_row rules cs ps fs) 2 (region_count cs kept) (λ p. refl) in
        let many : length marks / 2 ≡ region_count cs kept = omega (arith, two) in
        let small : region_count cs kept ≤ limit = omega (arith, (scene_regions cs kept scene.ends).few, scene.components.few) in
        rw (append_assoc (line_of (ascii "regions") (pos (length marks / 2))) (field_lines region_keys 0 (map pos marks)) _, many)
        (read_write (ascii "regions") (pos (region_count cs kept)) after_count small)

    pub regions_printed : RegionsPrinted cs kept (report_of rules cs ps fs ++ rest)
    regions_printed = record {
      components = map pos rows;
      connections = map pos (sloped_rows rules cs ps);
      count = region_count cs kept;
      after_answer = after_answer;
      after_components = after_components;
      after_connections = after_connections;
      after_count = after_count;
      answer_read = rw in_order (read_write (ascii "answer") (pos 0) after_answer (omega arith));
      components_read = components_read;
      connections_read = connections_read;
      count_read = count_read;
      ids_are = λ v h. column_at 0 v h (omega arith);
      connections_are = cut_map pos (sloped_rows rules cs ps) ∙ ap (map pos) (cut_sloped rules cs ps);
      demand = same_regions cs kept (region_count cs kept) (λ v h. region_laid cs kept [] v h ∙ sym (column_at 3 v h (omega arith))) (report_demand rules cs ps fs e []);
    }

-- the buffer of an accepted sheet
pub demand_printed : (p : Parsed) (components connections frontiers : ℕ) {out out' : List ℕ} {r : Result ℕ Refusal}
    → PrintedBy (report_checked p components connections frontiers (length out)) (report_of (rules_of p) (components_of p) (connections_of p) (frontiers_of p)) out out' r
    → report_checked p components connections frontiers (length out) ≡ Ok tt
    → RegionsPrinted (components_of p) (kept_list (rules_of p) (components_of p) (connections_of p)) out'
demand_printed p components connections frontiers {out} printed e =
    let cs = components_of p in
    let ps = connections_of p in
    let fs = frontiers_of p in
    let text = report_of (rules_of p) cs ps fs in
    let lists = both_accept (sheet_checked p components connections frontiers) (lists_checked (rules_of p) cs ps fs (length out)) e in
    let scene = both_accept (sheet_refusal (rules_of p) cs ps fs) (fits text (length out)) lists.1 in
    let left = printed.left ∙ ap (λ (c : Result ⊤ Refusal). left_of c text out) e in
    rw left (regions_printed (rules_of p) cs ps fs scene.0 (drop (length text) out))
