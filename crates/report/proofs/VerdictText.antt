-- The lines of the verdict rows, row by row, are those that the report has, port by port.
--     lines_at, lines_end       the next row of three numbers; fewer than three
--     rows_lines                the rows of the answer give the lines of the report
--     asked_text_lem                the lines of a port, by the sets that were asked for
-- Assumes nothing.
use Rattle.std.specs.Prelude.{Some, None}
use mathlib.Core.Path.{◌≡◌, refl, sym, ap, ◌∙◌}
use mathlib.Core.Bool.{Bool, true, false, cond}
use mathlib.Core.List.{List, [], ◌∷◌, ◌++◌, append_assoc, append-nil}
use Prim.Native.Nat.{ℕ, zero, suc, ◌+◌, ◌*◌, ◌/◌, ◌≤◌, ◌<◌}
use native.Mathlib.Omega.{arith}
use lib.Dec.{eqb}
use lib.IntN.{ℤ}
use lib.ListN.{length, get_or, drop, length-append, length-drop}
use lib.Seq.{drop-cons}
use borrow.Author.Tests.{eq-eqb, ne_eqb, lt-ltb}
use Rattle.std.specs.Simd.{first_chunks}
use Rattle.lists.specs.Records.{component, component_count}
use Rattle.lists.specs.Ids.{IdTable, place_below, place_of, first_repeated}
use Rattle.lists.proofs.Search.{first_is}
use Rattle.lists.proofs.Members.{ids_distinct}
use Rattle.faces.specs.Ports.{ports_of}
use Rattle.assessment.proofs.Positions.{field_of}
use Rattle.assessment.specs.Verdicts.{status_of, is_required, port_rows, verdict_rows, input_rows}
use Rattle.inputs.specs.Query.{row_place, PortSets}
use Rattle.inputs.specs.declared.InputSources.{InputSources}
use Rattle.blocks.specs.Lines.{input_text}
use Rattle.blocks.specs.Blocks.{ids_in}
use Rattle.report.specs.Report.{input_lines, port_lines, verdict_lines}
use Rattle.report.specs.Printing.{asked_text, row_lines}
use Rattle.report.proofs.Shown.{ids_are}

-- ---- rows of three numbers

-- the lines of the rows from k on
abbrev pub lines_from : (ℕ → ℕ → ℕ → List ℕ) → List ℕ → ℕ → List ℕ
lines_from text rows k = row_lines text (drop k rows)

-- the lines of a row
abbrev pub row_text : (ℕ → ℕ → ℕ → List ℕ) → List ℕ → List ℕ
row_text text row = text (get_or row 0 0) (get_or row 1 0) (get_or row 2 0)

module _ (text : ℕ → ℕ → ℕ → List ℕ) where
  lines_one : (rows : List ℕ) (k : ℕ) → k + 2 < length rows
      → lines_from text rows k ≡ text (get_or rows k 0) (get_or rows (k + 1) 0) (get_or rows (k + 2) 0) ++ lines_from text rows (k + 3)
  unfolding row_lines
  lines_one rows k h =
      let two : k + 2 ≡ suc (suc k) = omega arith in
      let three : k + 3 ≡ suc (suc (suc k)) = omega arith in
      let one : k + 1 ≡ suc k = omega arith in
      rw (one, two, three, drop-cons rows k 0 (omega arith), drop-cons rows (suc k) 0 (omega arith), drop-cons rows (suc (suc k)) 0 (omega arith))

  few : (rest : List ℕ) → length rest ≤ 2 → row_lines text rest ≡ []
  unfolding row_lines
  few [] h = refl
  few (a ∷ []) h = refl
  few (a ∷ b ∷ []) h = refl
  few (a ∷ b ∷ c ∷ rest) h = absurd (omega arith)

  lines_none : (rows : List ℕ) (k : ℕ) → length rows ≤ k + 2 → lines_from text rows k ≡ []
  lines_none rows k h = few (drop k rows) (omega (arith, length-drop k rows))

  -- row k of all, as an array, and behind the last one
  pub lines_at : (rows : List ℕ) {arrays : List (List ℕ)} → arrays ≡ first_chunks 3 (length rows / 3) rows → (k : ℕ) (d : List ℕ) → k < length rows / 3
      → lines_from text rows (3 * k) ≡ row_text text (get_or arrays k d) ++ lines_from text rows (3 * (k + 1))
  lines_at rows {arrays} split k d h =
      let next : 3 * (k + 1) ≡ 3 * k + 3 = omega arith in
      rw (next, number 0 (3 * k) (omega arith) (omega arith), number 1 (3 * k + 1) (omega arith) (omega arith), number 2 (3 * k + 2) (omega arith) (omega arith))
      (lines_one rows (3 * k) (omega (arith, h)))
    where
      number : (f i : ℕ) → f < 3 → k * 3 + f ≡ i → get_or (get_or arrays k d) f 0 ≡ get_or rows i 0
      number f i l e = rw split (field_of 0 3 (length rows / 3) rows k f d h l ∙ ap (λ (j : ℕ). get_or rows j 0) e)

  pub lines_end : (rows : List ℕ) (k : ℕ) → length rows / 3 ≤ k → lines_from text rows (3 * k) ≡ []
  lines_end rows k h = lines_none rows (3 * k) (omega (arith, h))

  lines_append : (turns : ℕ) (rows more : List ℕ) → length rows ≡ turns * 3 → row_lines text (rows ++ more) ≡ row_lines text rows ++ row_lines text more
  unfolding row_lines
  lines_append zero [] more e = refl
  lines_append zero (a ∷ rows) more e = absurd (omega arith)
  lines_append (suc t) [] more e = absurd (omega arith)
  lines_append (suc t) (a ∷ []) more e = absurd (omega arith)
  lines_append (suc t) (a ∷ b ∷ []) more e = absurd (omega arith)
  lines_append (suc t) (a ∷ b ∷ c ∷ rows) more e =
      ap (λ (s : List ℕ). text a b c ++ s) (lines_append t rows more (omega arith)) ∙ sym (append_assoc (text a b c) (row_lines text rows) (row_lines text more))

-- ---- the rows of the answer

module _ (rules : ℕ) (cs kept fs : List ℤ) (once : first_repeated cs ≡ None) where
  -- a component is found by its id
  place_is : (p : ℕ) → p < component_count cs → place_of cs (component cs p).id ≡ Some p
  unfolding place_below
  place_is p h =
      first_is (λ k. eqb (component cs k).id (component cs p).id) 0 (component_count cs) p (omega arith) (omega arith) (eq-eqb (component cs p).id (component cs p).id refl)
      (λ j l b. ne_eqb (component cs j).id (component cs p).id (λ e. let same = ids_distinct cs once j p (omega arith) h e in absurd (omega arith)))

  row_is : (p port : ℕ) → p < component_count cs → port < length (ports_of rules (component cs p)) → is_required rules (component cs p) port ≡ true
      → row_place rules cs (component cs p).id port ≡ Some p
  unfolding row_place
  row_is p port h l e = rw (place_is p h, lt-ltb port (length (ports_of rules (component cs p))) l, e)

  asked_is : (p port : ℕ) → p < component_count cs → port < length (ports_of rules (component cs p)) → is_required rules (component cs p) port ≡ true
      → asked_text rules cs kept fs (component cs p).id port (status_of rules cs kept fs p port) ≡ input_lines rules cs kept fs p port
  unfolding asked_text
  asked_is p port h l e = rw (row_is p port h l e)

  -- ---- of the first ports of a component

  abbrev row : ℕ → ℕ → List ℕ
  row p port = (component cs p).id ∷ port ∷ status_of rules cs kept fs p port ∷ []

  row_threes : (p port : ℕ) (t : Bool) → (turns : ℕ) × (length (cond t (row p port) []) ≡ turns * 3)
  row_threes p port true = (1, omega arith)
  row_threes p port false = (0, omega arith)

  port_threes : (p m : ℕ) → (turns : ℕ) × (length (port_rows rules cs kept fs p m) ≡ turns * 3)
  unfolding port_rows
  port_threes p zero = (0, omega arith)
  port_threes p (suc k) =
      let before = port_threes p k in
      let last = row_threes p k (is_required rules (component cs p) k) in
      (before.0 + last.0, omega (arith, before.1, last.1, length-append (port_rows rules cs kept fs p k) (cond (is_required rules (component cs p) k) (row p k) [])))

  verdict_threes : (n : ℕ) → (turns : ℕ) × (length (verdict_rows rules cs kept fs n) ≡ turns * 3)
  unfolding verdict_rows
  verdict_threes zero = (0, omega arith)
  verdict_threes (suc p) =
      let before = verdict_threes p in
      let last = port_threes p (length (ports_of rules (component cs p))) in
      (before.0 + last.0, omega (arith, before.1, last.1, length-append (verdict_rows rules cs kept fs p) (port_rows rules cs kept fs p (length (ports_of rules (component cs p))))))

  row_lines_lem : (p port : ℕ) → p < component_count cs → port < length (ports_of rules (component cs p)) → (t : Bool) → is_required rules (component cs p) port ≡ t
      → row_lines (asked_text rules cs kept fs) (cond t (row p port) []) ≡ cond t (input_lines rules cs kept fs p port) []
  unfolding row_lines
  row_lines_lem p port h l true e = append-nil _ ∙ asked_is p port h l e
  row_lines_lem p port h l false e = refl

  port_lines_lem : (p m : ℕ) → p < component_count cs → m ≤ length (ports_of rules (component cs p))
      → row_lines (asked_text rules cs kept fs) (port_rows rules cs kept fs p m) ≡ port_lines rules cs kept fs p m
  unfolding port_rows port_lines row_lines
  port_lines_lem p zero h l = refl
  port_lines_lem p (suc k) h l =
      let before = port_threes p k in
      lines_append (asked_text rules cs kept fs) before.0 (port_rows rules cs kept fs p k) (cond (is_required rules (component cs p) k) (row p k) []) before.1
      ∙ ap (λ (s : List ℕ). s ++ row_lines (asked_text rules cs kept fs) (cond (is_required rules (component cs p) k) (row p k) [])) (port_lines_lem p k h (omega arith))
      ∙ ap (λ (s : List ℕ). port_lines rules cs kept fs p k ++ s) (row_lines_lem p k h (omega arith) (is_required rules (component cs p) k) refl)

  lines_below : (n : ℕ) → n ≤ component_count cs → row_lines (asked_text rules cs kept fs) (verdict_rows rules cs kept fs n) ≡ verdict_lines rules cs kept fs n
  unfolding verdict_rows verdict_lines row_lines
  lines_below zero h = refl
  lines_below (suc p) h =
      let before = verdict_threes p in
      let ports = port_rows rules cs kept fs p (length (ports_of rules (component cs p))) in
      lines_append (asked_text rules cs kept fs) before.0 (verdict_rows rules cs kept fs p) ports before.1
      ∙ ap (λ (s : List ℕ). s ++ row_lines (asked_text rules cs kept fs) ports) (lines_below p (omega arith))
      ∙ ap (λ (s : List ℕ). verdict_lines rules cs kept fs p ++ s) (port_lines_lem p (length (ports_of rules (component cs p))) (omega arith) (omega arith))

  pub rows_lines : row_lines (asked_text rules cs kept fs) (input_rows rules cs kept fs) ≡ verdict_lines rules cs kept fs (component_count cs)
  rows_lines = lines_below (component_count cs) (omega arith)

-- ---- a port asked for

pub asked_text_lem : {rules : ℕ} {cs ps fs : List ℤ} {keys : List ℕ} {r : InputSources} (id port status : ℕ) → IdTable cs keys → first_repeated cs ≡ None
    → PortSets rules cs ps fs (row_place rules cs id port) port r
    → input_text id port status (ids_in keys r.immediate.words) (ids_in keys r.inferred.words) ≡ asked_text rules cs ps fs id port status
unfolding asked_text
asked_text_lem id port status t once a = rw (ids_are t once a.immediate_set, ids_are t once a.inferred_set)
