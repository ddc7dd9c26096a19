-- What holds of every sheet's answer.
--     sheet_numbers      a refusal's number is 1 to 6, 9, 11 or 12, so that 7, 8 and 10 never come from a sheet
--     report_demand      demand 3 of the regions that the report of an accepted sheet prints
-- Assumes nothing.
use Rattle.lists.specs.Refusal.{fault_number}
use Rattle.lists.specs.declared.Fault.{Fault}
use Rattle.lists.specs.declared.Section.{Section}
use Rattle.std.specs.Prelude.{⊤, Option, Some, None, Result, Ok, Err}
use mathlib.Core.Path.{◌≡◌, refl, subst}
use mathlib.Core.Bool.{Bool, true, false, cond, ◌||◌}
use mathlib.Core.List.{List, [], ◌∷◌, ◌++◌}
use Prim.Native.Nat.{ℕ, suc, ◌+◌, ◌*◌, min}
use lib.Dec.{eqb, leb}
use lib.IntN.{ℤ, pos, negsuc}
use lib.ListN.{length}
use Rattle.lines.specs.Line.{Taken, taken, refused, read_line, natural}
use Rattle.lists.specs.Limits.{component_limit, connection_limit, frontier_limit, component_width, connection_width, frontier_width}
use Rattle.lists.specs.Ranges.{first_out_of_range, component_low, component_high, connection_low, connection_high, frontier_low, frontier_high}
use Rattle.lists.specs.Order.{first_not_ascending, component_order, connection_order}
use Rattle.lists.specs.Ids.{first_repeated}
use Rattle.checks.specs.Refusals.{refuse, not_whole, too_short, strange_rules, scene_lists, grouping_lists, sheet_refusal, ◌or_else◌}
use Rattle.lists.specs.declared.Refusal.{Refusal}
use Rattle.lists.specs.Rules.{rules_limit}
use Rattle.lines.specs.Text.{ascii}
use Rattle.lines.specs.Line.{has_key}
use Rattle.forms.specs.Form.{Fields, got, stop, lines_of, read_records}
use Rattle.forms.specs.Tables.{form_of, count_key}
use Rattle.forms.specs.Sheet as sheets
use Rattle.forms.specs.Sheet.{Head, head, no_head, known, ruled, numbered, read_head, Part, part, fault, over_limit, records_to, counted, read_list, Parsed, Sheet, Faulty, ◌then◌, ended, parse_lists, headed, parse}
use Rattle.forms.specs.declared.Style.{Style}
use Rattle.forms.specs.declared.Style.TheVariants.{Old, Short}
use Rattle.sheet.specs.Entry.{rules_of, components_of, connections_of, frontiers_of, enough_room, sheet_checked}
use Rattle.signals.specs.Regions.{region_count, regions_of}
use Rattle.liveness.specs.Demand.{RegionsOfScene}
use Rattle.liveness.proofs.Demands.{demand_3}
use Rattle.report.specs.Report.{kept_list, report_of}
use Rattle.report.specs.Entry.{lists_checked, report_checked}
use Rattle.report.proofs.Scenes.{kept_scene}

-- ---- the numbers of a sheet's refusals

abbrev pub is_sheet_number : ℕ → Bool
is_sheet_number n = leb n 6 || (eqb n 9 || (eqb n 11 || eqb n 12))

abbrev Numbered : Result ⊤ Refusal → Type 0
Numbered (Ok _) = Unit
Numbered (Err r) = is_sheet_number (fault_number r.fault) ≡ true

chained : (a b : Result ⊤ Refusal) → Numbered a → Numbered b → Numbered (a or_else b)
chained (Ok tt) b p q = q
chained (Err r) b p q = p

check : (why : Fault) (list : Option Section) (found : Option ℕ) → is_sheet_number (fault_number why) ≡ true → Numbered (refuse why list found)
check why list (Some k) e = e
check why list None e = tt

-- of a head and a part that were read, and of the whole
abbrev HeadNumbered : Head → Type 0
HeadNumbered (head style rules s line) = Unit
HeadNumbered (no_head r) = is_sheet_number (fault_number r.fault) ≡ true

abbrev PartNumbered : Part → Type 0
PartNumbered (part zs s line) = Unit
PartNumbered (fault r) = is_sheet_number (fault_number r.fault) ≡ true

abbrev SheetNumbered : Parsed → Type 0
SheetNumbered (Sheet style rules cs ps fs) = Unit
SheetNumbered (Faulty r) = is_sheet_number (fault_number r.fault) ≡ true

cond_head : (b : Bool) (x y : Head) → HeadNumbered x → HeadNumbered y → HeadNumbered (cond b x y)
cond_head true x y h g = h
cond_head false x y h g = g

ruled_numbered : (style : Style) (most line : ℕ) (q : Taken ℤ) → HeadNumbered (ruled style most line q)
ruled_numbered style most line (taken (pos n) s) = cond_head (known most n) (head style n s (suc line)) (no_head (sheets.strange_rules line)) tt refl
ruled_numbered style most line (taken (negsuc n) s) = refl
ruled_numbered style most line refused = refl

numbered_numbered : (most : ℕ) (q : Taken ℤ) → HeadNumbered (numbered most q)
numbered_numbered most (taken (pos n) s) =
    let rules = read_line (ascii "rules") s in
    cond_head (eqb n 2) (ruled Short most 1 rules) (no_head (sheets.strange_form 0)) (ruled_numbered Short most 1 rules) refl
numbered_numbered most (taken (negsuc n) s) = refl
numbered_numbered most refused = refl

head_numbered : (most : ℕ) (s : List ℕ) → HeadNumbered (read_head most s)
unfolding read_head
head_numbered most s =
    let rules = read_line (ascii "rules") s in
    let old = cond (has_key (ascii "rules") s) (ruled Old most 0 rules) (head Old 1 s 0) in
    cond_head (has_key (ascii "sheet") s) (numbered most (read_line (ascii "sheet") s)) old
    (numbered_numbered most (read_line (ascii "sheet") s))
    (cond_head (has_key (ascii "rules") s) (ruled Old most 0 rules) (head Old 1 s 0) (ruled_numbered Old most 0 rules) tt)

records_numbered : (next : ℕ) (f : Fields) → PartNumbered (records_to next f)
records_numbered next (got zs s) = tt
records_numbered next (stop k) = refl

counted_numbered : (style : Style) (list : Section) (limit line : ℕ) (n : Taken ℕ) → PartNumbered (counted style list limit line n)
counted_numbered style list limit line (taken n s) = go (leb n limit)
  where
    records : Fields
    records = read_records (form_of style list) n (line + 1) s

    next : ℕ
    next = line + 1 + n * lines_of (form_of style list)

    go : (few : Bool) → PartNumbered (cond few (records_to next records) (fault (over_limit list limit)))
    go true = records_numbered next records
    go false = refl
counted_numbered style list limit line refused = refl

list_numbered : (style : Style) (list : Section) (limit line : ℕ) (s : List ℕ) → PartNumbered (read_list style list limit line s)
unfolding read_list
list_numbered style list limit line s = counted_numbered style list limit line (natural (read_line (count_key list) s))

then_numbered : (p : Part) (f : List ℤ → List ℕ → ℕ → Parsed) → PartNumbered p → ((zs : List ℤ) (s : List ℕ) (line : ℕ) → SheetNumbered (f zs s line)) → SheetNumbered (p then f)
then_numbered (part zs s line) f h g = g zs s line
then_numbered (fault r) f h g = h

ended_numbered : (style : Style) (rules : ℕ) (cs ps fs : List ℤ) (s : List ℕ) (line : ℕ) → SheetNumbered (ended style rules cs ps fs s line)
ended_numbered style rules cs ps fs [] line = tt
ended_numbered style rules cs ps fs (b ∷ s) line = refl

module _ (a b c : ℕ) where
  lists_numbered : (style : Style) (rules : ℕ) (text : List ℕ) (line : ℕ) → SheetNumbered (parse_lists a b c style rules text line)
  unfolding parse_lists
  lists_numbered style rules text line =
      let three : List ℤ → List ℤ → List ℤ → List ℕ → ℕ → Parsed = λ cs ps fs s line. ended style rules cs ps fs s line in
      let two : List ℤ → List ℤ → List ℕ → ℕ → Parsed = λ cs ps s line. read_list style Section.Frontiers (min c frontier_limit) line s then three cs ps in
      let one : List ℤ → List ℕ → ℕ → Parsed = λ cs s line. read_list style Section.Connections (min b connection_limit) line s then two cs in
      then_numbered (read_list style Section.Components (min a component_limit) line text) one (list_numbered style Section.Components (min a component_limit) line text) (λ cs s₁ line₁.
      then_numbered (read_list style Section.Connections (min b connection_limit) line₁ s₁) (two cs) (list_numbered style Section.Connections (min b connection_limit) line₁ s₁) (λ ps s₂ line₂.
      then_numbered (read_list style Section.Frontiers (min c frontier_limit) line₂ s₂) (three cs ps) (list_numbered style Section.Frontiers (min c frontier_limit) line₂ s₂) (λ fs s₃ line₃.
      ended_numbered style rules cs ps fs s₃ line₃)))

  headed_numbered : (h : Head) → HeadNumbered h → SheetNumbered (headed a b c h)
  headed_numbered (head style rules s line) g = lists_numbered style rules s line
  headed_numbered (no_head r) g = g

  parse_numbered : (most : ℕ) (text : List ℕ) → SheetNumbered (parse most a b c text)
  unfolding parse
  parse_numbered most text = headed_numbered (read_head most text) (head_numbered most text)

sheet_numbered : (p : Parsed) (a b c : ℕ) → SheetNumbered p → Numbered (sheet_checked p a b c)
sheet_numbered (Sheet style rules cs ps fs) a b c h = check Fault.ShortSlice None (too_short (enough_room cs ps fs a b c)) refl
sheet_numbered (Faulty r) a b c h = h

-- a check, and then others
first : (why : Fault) (list : Option Section) (found : Option ℕ) (later : Result ⊤ Refusal) → is_sheet_number (fault_number why) ≡ true → Numbered later
    → Numbered (refuse why list found or_else later)
first why list found later e p = chained (refuse why list found) later (check why list found e) p

-- the checks from each number on
module _ (rules : ℕ) (cs ps fs : List ℤ) where
  abbrev from5 : Result ⊤ Refusal
  from5 = refuse Fault.RepeatedId (Some Section.Components) (first_repeated cs)

  abbrev from4 : Result ⊤ Refusal
  from4 = refuse Fault.UnsortedComponents (Some Section.Components) (first_not_ascending component_order component_width cs) or_else from5

  abbrev from3 : Result ⊤ Refusal
  from3 = refuse Fault.OutOfRange (Some Section.Frontiers) (first_out_of_range frontier_low frontier_high fs) or_else from4

  abbrev from3₁ : Result ⊤ Refusal
  from3₁ = refuse Fault.OutOfRange (Some Section.Connections) (first_out_of_range connection_low connection_high ps) or_else from3

  abbrev from3₀ : Result ⊤ Refusal
  from3₀ = refuse Fault.OutOfRange (Some Section.Components) (first_out_of_range component_low component_high cs) or_else from3₁

  abbrev from2 : Result ⊤ Refusal
  from2 = refuse Fault.ShortSlice None (too_short true) or_else from3₀

  abbrev from1 : Result ⊤ Refusal
  from1 = refuse Fault.ListLength (Some Section.Frontiers) (not_whole frontier_width frontier_limit (length fs)) or_else from2

  abbrev from1₁ : Result ⊤ Refusal
  from1₁ = refuse Fault.ListLength (Some Section.Connections) (not_whole connection_width connection_limit (length ps)) or_else from1

  abbrev from1₀ : Result ⊤ Refusal
  from1₀ = refuse Fault.ListLength (Some Section.Components) (not_whole component_width component_limit (length cs)) or_else from1₁

  scene_numbered : Numbered (scene_lists rules cs connection_width (length ps) (first_out_of_range connection_low connection_high ps) fs true)
  unfolding scene_lists
  scene_numbered =
      first Fault.UnknownRules None (strange_rules rules) from1₀ refl
      (first Fault.ListLength (Some Section.Components) (not_whole component_width component_limit (length cs)) from1₁ refl
      (first Fault.ListLength (Some Section.Connections) (not_whole connection_width connection_limit (length ps)) from1 refl
      (first Fault.ListLength (Some Section.Frontiers) (not_whole frontier_width frontier_limit (length fs)) from2 refl
      (first Fault.ShortSlice None (too_short true) from3₀ refl
      (first Fault.OutOfRange (Some Section.Components) (first_out_of_range component_low component_high cs) from3₁ refl
      (first Fault.OutOfRange (Some Section.Connections) (first_out_of_range connection_low connection_high ps) from3 refl
      (first Fault.OutOfRange (Some Section.Frontiers) (first_out_of_range frontier_low frontier_high fs) from4 refl
      (first Fault.UnsortedComponents (Some Section.Components) (first_not_ascending component_order component_width cs) from5 refl
      (check Fault.RepeatedId (Some Section.Components) (first_repeated cs) refl)))))))))

  refusal_numbered : Numbered (sheet_refusal rules cs ps fs)
  unfolding grouping_lists
  refusal_numbered =
      chained (scene_lists rules cs connection_width (length ps) (first_out_of_range connection_low connection_high ps) fs true)
      (refuse Fault.UnsortedConnections (Some Section.Connections) (first_not_ascending connection_order connection_width ps))
      scene_numbered
      (check Fault.UnsortedConnections (Some Section.Connections) (first_not_ascending connection_order connection_width ps) refl)

-- from any text, limits, work lists and buffer
pub sheet_numbers : (components connections frontiers : ℕ) (text : List ℕ) (a b c room : ℕ) (r : Refusal)
    → report_checked (parse rules_limit components connections frontiers text) a b c room ≡ Err r → is_sheet_number (fault_number r.fault) ≡ true
sheet_numbers components connections frontiers text a b c room r e =
    let p = parse rules_limit components connections frontiers text in
    let cs = components_of p in
    let ps = connections_of p in
    let fs = frontiers_of p in
    let last = too_short (leb (length (report_of (rules_of p) cs ps fs)) room) in
    subst Numbered e
    (chained (sheet_checked p a b c) (lists_checked (rules_of p) cs ps fs room) (sheet_numbered p a b c (parse_numbered components connections frontiers rules_limit text))
    (chained (sheet_refusal (rules_of p) cs ps fs) (refuse Fault.ShortSlice None last) (refusal_numbered (rules_of p) cs ps fs) (check Fault.ShortSlice None last refl)))

-- ---- demand 3

-- `component_row` prints the region of each component, and `regions=` how many there are (ReadBack)
pub report_demand : (rules : ℕ) (cs ps fs : List ℤ) → sheet_refusal rules cs ps fs ≡ Ok tt → (rest : List ℕ)
    → RegionsOfScene cs (kept_list rules cs ps) (regions_of cs (kept_list rules cs ps) ++ rest) (region_count cs (kept_list rules cs ps))
report_demand rules cs ps fs e rest = demand_3 cs (kept_list rules cs ps) (kept_scene rules cs ps fs e) rest
