-- The report of a sheet of no lamp is the same under rules 1 and 2: these have the same ports and so keep the same connections, and what is
-- sought by lamps is the same.
-- Assumes nothing.
use mathlib.Core.Path.{◌≡◌, refl, ap, ap₂, fun_ext, ◌∙◌}
use mathlib.Core.Bool.{Bool, ◌&&◌}
use mathlib.Core.Logic.{inl, inr}
use mathlib.Core.List.{List, ◌++◌}
use Prim.Native.Nat.{ℕ, zero, suc, ◌<◌, ◌≤◌}
use native.Mathlib.Omega.{arith}
use lib.IntN.{ℤ}
use lib.ListN.{length}
use Rattle.lists.specs.Records.{component, component_count}
use Rattle.faces.specs.Ports.{ports_of}
use Rattle.scene.specs.Kept.{kept_rows, sloped_rows}
use Rattle.scene.proofs.Unread.{read_kept}
use Rattle.regions.specs.Graph.{marked}
use Rattle.signals.specs.Regions.{region_count}
use Rattle.signals.specs.Drive.{members_where}
use Rattle.assessment.specs.RulesLaws.{NoLamp, SameUnder}
use Rattle.assessment.proofs.RulesLaws.{rules_agree}
use Rattle.inputs.specs.Query.{is_immediate, upstream, is_inferred_for}
use Rattle.blocks.specs.Lines.{input_text}
use Rattle.report.specs.Report.{kept_list, component_row, component_rows, region_row, region_rows, ids_where, input_lines, port_lines, verdict_lines, report_of}
use Rattle.report.specs.Rules.{LampsAlone}
use Rattle.report.proofs.RowText.{rows_same}

-- ---- the rows of verdicts, of connections that are kept

module _ (cs kept fs : List ℤ) (under : SameUnder 1 2 cs kept fs) where
  inferred_same : (p port : ℕ) → ids_where cs (is_inferred_for 1 cs kept fs p port) ≡ ids_where cs (is_inferred_for 2 cs kept fs p port)
  unfolding is_inferred_for
  inferred_same p port =
      ap (λ (test : ℕ → Bool). ids_where cs (λ a. marked (upstream cs kept p port) a && marked (members_where cs test) a)) (fun_ext under.marks.inferred)

  lines_same : (p port : ℕ) → input_lines 1 cs kept fs p port ≡ input_lines 2 cs kept fs p port
  lines_same p port =
      ap₂ (λ (status : ℕ) (ids : List ℕ). input_text (component cs p).id port status (ids_where cs (is_immediate cs kept p port)) ids)
      (under.marks.statuses p port) (inferred_same p port)

  ports_same : (p m : ℕ) → p < component_count cs → port_lines 1 cs kept fs p m ≡ port_lines 2 cs kept fs p m
  unfolding port_lines
  ports_same p zero h = refl
  ports_same p (suc k) h = rw (ports_same p k h, (under.ports p h).required k, lines_same p k)

  verdicts_same : (n : ℕ) → n ≤ component_count cs → verdict_lines 1 cs kept fs n ≡ verdict_lines 2 cs kept fs n
  unfolding verdict_lines
  verdicts_same zero h = refl
  verdicts_same (suc p) h =
      ap₂ ◌++◌ (verdicts_same p (omega arith))
      (ports_same p (length (ports_of 1 (component cs p))) (omega arith)
      ∙ ap (λ ports. port_lines 2 cs kept fs p (length ports)) (under.ports p (omega arith)).ports)

-- ---- the report

module _ (cs ps fs : List ℤ) (none : NoLamp cs) where
  same_kept : kept_rows 2 cs ps ≡ kept_rows 1 cs ps
  same_kept = (read_kept 2 cs ps).kept (omega arith)

  same_sloped : sloped_rows 2 cs ps ≡ sloped_rows 1 cs ps
  same_sloped = (read_kept 2 cs ps).sloped (omega arith)

  under : SameUnder 1 2 cs (kept_list 1 cs ps) fs
  under = rules_agree 1 2 cs (kept_list 1 cs ps) fs (inr none) (inl refl)

  same_components : (n : ℕ) → component_rows 1 cs ps fs n ≡ component_rows 2 cs ps fs n
  same_components n = rows_same (component_row 1 cs ps fs) (component_row 2 cs ps fs) n (λ p l. rw (same_kept, under.marks.reached))

  same_regions : (n : ℕ) → region_rows 1 cs ps fs n ≡ region_rows 2 cs ps fs n
  same_regions n = rows_same (region_row 1 cs ps fs) (region_row 2 cs ps fs) n (λ r l. rw same_kept)

  same_text : report_of 1 cs ps fs ≡ report_of 2 cs ps fs
  unfolding report_of
  same_text =
      rw (
        same_components (component_count cs),
        same_regions (region_count cs (kept_list 1 cs ps)),
        same_kept,
        same_sloped,
        under.marks.sources,
        under.inputs,
        verdicts_same cs (kept_list 1 cs ps) fs under (component_count cs) (omega arith),
      )

pub lamps_alone : LampsAlone
lamps_alone cs ps fs none = same_text cs ps fs none
