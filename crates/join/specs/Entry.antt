-- Two sheets joined (document 02, R-9): "Join two valid sheets of the same rules, each in either form, into one valid sheet of the old form,
-- `rules=1` left out." What the entry answers, and what it leaves in the work lists and in the buffer.
--     parsed_by, plot_said        what a text says, by the library's limits, and its lists
--     joined_text                 the joined sheet
--     join_checked                all of the first sheet's checks, all of the second's, and then those of both
--     SheetsJoined                from the two texts to the answer and every slice
-- Assumes nothing: these are definitions.
use Rattle.std.specs.Prelude.{⊤, Option, Some, None, Result, Ok, Err}
use Rattle.std.specs.Prelude.{ℕ, ◌-◌, ◌≡◌, cond, eqb, List, [], ◌∷◌, ◌++◌, length, ℤ}
use Rattle.lists.specs.Limits.{component_limit, connection_limit, frontier_limit}
use Rattle.lists.specs.Rules.{rules_limit}
use Rattle.lists.specs.Slices.{laid}
use Rattle.lists.specs.declared.Fault.{Fault}
use Rattle.lists.specs.declared.Refusal.{Refusal}
use Rattle.checks.specs.Refusals.{refuse, ◌or_else◌, refusal_numbers}
use Rattle.forms.specs.Sheet.{Parsed, parse}
use Rattle.forms.specs.Writing.{sheet_text}
use Rattle.forms.specs.declared.Style.TheVariants.{Old}
use Rattle.sheet.specs.Entry.{rules_of, components_of, connections_of, frontiers_of, sheet_checked}
use Rattle.sheet.specs.Written.{fits, list_by}
use Rattle.joining.specs.Plot.{Plot, plot_of, refusal_of, joined, join_refusal}
use Rattle.join.specs.declared.JoinRefusal.{JoinRefusal}

-- ---- what the sheets say, and what the joined one does

abbrev pub parsed_by : List ℕ → Parsed
parsed_by text = parse rules_limit component_limit connection_limit frontier_limit text

abbrev pub plot_said : Parsed → Plot
plot_said p = plot_of (components_of p) (connections_of p) (frontiers_of p)

-- a plot in the old form
abbrev pub plot_text : ℕ → Plot → List ℕ
plot_text rules p = sheet_text Old rules p.components p.connections p.frontiers

abbrev pub joined_text : Parsed → Parsed → List ℕ
joined_text p q = plot_text (rules_of p) (joined (plot_said p) (plot_said q))

-- ---- its refusals, given how many numbers each work list has, and how many bytes the buffer

-- 9, 1, 11 or 12 by line; 2 for the work lists; 3 to 6
abbrev pub first_checked : Parsed → ℕ → ℕ → ℕ → Result ⊤ Refusal
first_checked p components connections frontiers =
    sheet_checked p components connections frontiers or_else refusal_of (rules_of p) (plot_said p)

-- the same of the second sheet, whose records stand behind those of the first
abbrev pub second_checked : Parsed → Parsed → ℕ → ℕ → ℕ → Result ⊤ Refusal
second_checked p q components connections frontiers =
    first_checked q (components - length (components_of p)) (connections - length (connections_of p)) (frontiers - length (frontiers_of p))

-- 13: the rules differ
abbrev pub other_rules : ℕ → ℕ → Option ℕ
other_rules m n = cond (eqb m n) None (Some 0)

-- two plots and their rules: 13; 14 and the checks of the joined lists; the last 2
abbrev pub both_checked : ℕ → Plot → ℕ → Plot → ℕ → Result ⊤ Refusal
both_checked rules p other q room =
    refuse Fault.OtherRules None (other_rules rules other)
    or_else join_refusal rules p q
    or_else fits (plot_text rules (joined p q)) room

-- what is said of a sheet, 1 or 2, or of both, 0
abbrev pub in_sheet : {A : Type 0} → ℕ → Result A Refusal → Result A JoinRefusal
in_sheet n (Ok x) = Ok x
in_sheet n (Err r) = Err (record { sheet = n; refusal = r })

infixr 20 ◌or_next◌
-- the first of two checks that refuses
abbrev pub ◌or_next◌ : Result ⊤ JoinRefusal → Result ⊤ JoinRefusal → Result ⊤ JoinRefusal
(Ok tt) or_next next = next
Err r or_next next = Err r

-- "the first sheet's ahead of the second's with the answer saying which sheet, 1 or 2 (0 in every other refusal)"
abbrev pub join_checked : Parsed → Parsed → ℕ → ℕ → ℕ → ℕ → Result ⊤ JoinRefusal
join_checked p q components connections frontiers room =
    in_sheet 1 (first_checked p components connections frontiers)
    or_next in_sheet 2 (second_checked p q components connections frontiers)
    or_next in_sheet 0 (both_checked (rules_of p) (plot_said p) (rules_of q) (plot_said q) room)

-- ---- the answer

-- how many bytes were written, or the refusal
abbrev pub answer_by : Result ⊤ JoinRefusal → List ℕ → Result ℕ JoinRefusal
answer_by (Ok tt) text = Ok (length text)
answer_by (Err r) text = Err r

-- the buffer: the text at its front, or what it held
abbrev pub text_left : Result ⊤ JoinRefusal → List ℕ → List ℕ → List ℕ
text_left (Ok tt) text old = laid text old
text_left (Err r) text old = old

-- a joined sheet, or none, in the buffer
pub record TextJoined (checks : Result ⊤ JoinRefusal) (text old new : List ℕ) (r : Result ℕ JoinRefusal) : Type 0 where
  pub answer : r ≡ answer_by checks text
  pub left : new ≡ text_left checks text old

-- from what the texts say, three lent work lists and the buffer. A work list is zero once the first sheet was read into it
pub record JoinedBy (p q : Parsed) (components components' connections connections' frontiers frontiers' : List ℤ) (out out' : List ℕ) (r : Result ℕ JoinRefusal) : Type 0 where
  pub written : TextJoined (join_checked p q (length components) (length connections) (length frontiers) (length out)) (joined_text p q) out out' r
  pub components_left : components' ≡ list_by (sheet_checked p (length components) (length connections) (length frontiers)) components
  pub connections_left : connections' ≡ list_by (sheet_checked p (length components) (length connections) (length frontiers)) connections
  pub frontiers_left : frontiers' ≡ list_by (sheet_checked p (length components) (length connections) (length frontiers)) frontiers

abbrev pub SheetsJoined : List ℕ → List ℕ → List ℤ → List ℤ → List ℤ → List ℤ → List ℤ → List ℤ → List ℕ → List ℕ → Result ℕ JoinRefusal → Type 0
SheetsJoined first second components components' connections connections' frontiers frontiers' out out' r =
    JoinedBy (parsed_by first) (parsed_by second) components components' connections connections' frontiers frontiers' out out' r

-- the numbers of an answer: 0 and how many bytes, or those of the refusal and the sheet
abbrev pub numbers_of : Result ℕ JoinRefusal → List ℕ
numbers_of (Ok count) = 0 ∷ count ∷ []
numbers_of (Err r) = refusal_numbers r.refusal ++ (r.sheet ∷ [])
