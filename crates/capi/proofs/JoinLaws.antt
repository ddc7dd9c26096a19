-- The refusals of the join have room in their digits; a buffer counts for no more bytes than an answer can tell.
--     join_apart     the item and the sheet of its refusal
--     by_join        the entry on a buffer, from what was written into its front
-- Assumes nothing.
use Rattle.std.specs.Prelude.{⊤, Result, Ok, Err, Option, Some, None}
use mathlib.Core.Path.{◌≡◌, refl, ap, subst}
use mathlib.Core.Bool.{Bool, true, false, cond}
use mathlib.Core.List.{List, ◌++◌}
use Prim.Native.Nat.{ℕ, ◌≤◌, min}
use native.Mathlib.Omega.{arith}
use lib.Dec.{eqb}
use lib.ListN.{length, take, drop}
use lib.IntN.{ℤ}
use Rattle.lists.specs.declared.Fault.{Fault}
use Rattle.lists.specs.declared.Refusal.{Refusal}
use Rattle.lists.specs.declared.Section.{Section}
use Rattle.lists.specs.declared.Section.TheVariants.{Components}
use Rattle.lists.specs.Limits.{component_limit, connection_limit, frontier_limit}
use Rattle.lists.specs.Records.{component_count}
use Rattle.lists.specs.Rules.{rules_limit}
use Rattle.lists.proofs.Search.{found_at}
use Rattle.checks.specs.Refusals.{refuse, too_short, ◌or_else◌, item_limit}
use Rattle.checks.proofs.Small.{Few, grouping_few}
use Rattle.forms.specs.Sheet.{Parsed, Sheet, Faulty}
use Rattle.forms.proofs.Sheets.{parse_within}
use Rattle.forms.proofs.SheetSmall.{ParsedFew, parse_few}
use Rattle.forms.proofs.Tables.{same_width}
use Rattle.sheet.specs.Entry.{rules_of, components_of, sheet_checked}
use Rattle.joining.specs.Conflict.{conflicts, first_conflict}
use Rattle.joining.specs.Plot.{Plot, refusal_of, joined}
use Rattle.join.specs.Entry.{parsed_by, plot_said, joined_text, first_checked, second_checked, other_rules, both_checked, in_sheet, ◌or_next◌, join_checked, answer_by, SheetsJoined}
use Rattle.join.specs.declared.JoinRefusal.{JoinRefusal}
use Rattle.capi.proofs.TextLaws.{taken, dropped}
use Rattle.capi.specs.Join.{join_number, join_item_limit, Apart, JoinByTexts}

-- ---- items

-- the item of a refusal is one of few, as a record, from which the check can be inferred
record Fit (a : Result ⊤ Refusal) : Type 0 where
  few : (r : Refusal) → a ≡ Err r → r.item ≤ 200000

both : {a b : Result ⊤ Refusal} → Fit a → Fit b → Fit (a or_else b)
both {a} {b} s t = go a s
  where
    go : (c : Result ⊤ Refusal) → Fit c → Fit (c or_else b)
    go (Ok tt) s = t
    go (Err r) s = s

of_few : {a : Result ⊤ Refusal} → Few a → Fit a
of_few {a} f = record { few = λ r e. go a f r e }
  where
    go : (c : Result ⊤ Refusal) → Few c → (r : Refusal) → c ≡ Err r → r.item ≤ 200000
    go (Ok tt) f r e = cc
    go (Err x) f r e = let i : x ≡ r = cc in omega (arith, ap (λ (y : Refusal). y.item) i)

of_item : (fault : Fault) (list : Option Section) {found : Option ℕ} → ((k : ℕ) → found ≡ Some k → k ≤ 200000) → Fit (refuse fault list found)
of_item fault list {found} f = record { few = λ r e. go found f r e }
  where
    go : (g : Option ℕ) → ((k : ℕ) → g ≡ Some k → k ≤ 200000) → (r : Refusal) → refuse fault list g ≡ Err r → r.item ≤ 200000
    go (Some k) f r e =
        let i : ◌≡◌ {A = Refusal} (record { fault = fault; list = list; item = k }) r = cc in
        omega (arith, f k refl, ap (λ (y : Refusal). y.item) i)
    go None f r e = cc

short : (enough : Bool) → Fit (refuse Fault.ShortSlice None (too_short enough))
short enough = of_item Fault.ShortSlice None (go enough)
  where
    go : (b : Bool) (k : ℕ) → too_short b ≡ Some k → k ≤ 200000
    go true k e = cc
    go false k e = let i : 0 ≡ k = cc in omega arith

others : (m n : ℕ) → Fit (refuse Fault.OtherRules None (other_rules m n))
others m n = of_item Fault.OtherRules None (go (eqb m n))
  where
    go : (b : Bool) (k : ℕ) → ◌≡◌ {A = Option ℕ} (cond b None (Some 0)) (Some k) → k ≤ 200000
    go true k e = cc
    go false k e = let i : 0 ≡ k = cc in omega arith

-- ---- the checks

listed : (rules : ℕ) (p : Plot) → Fit (refusal_of rules p)
listed rules p = of_few (grouping_few rules p.components p.connections p.frontiers true)

read_fit : (p : Parsed) → ParsedFew 200000 p → (a b c : ℕ) → Fit (sheet_checked p a b c)
read_fit (Sheet style rules cs ps fs) h a b c = short _
read_fit (Faulty x) h a b c = record { few = λ r e. let i : x ≡ r = cc in omega (arith, h, ap (λ (y : Refusal). y.item) i) }

first_fit : (p : Parsed) → ParsedFew 200000 p → (a b c : ℕ) → Fit (first_checked p a b c)
first_fit p h a b c = both (read_fit p h a b c) (listed (rules_of p) (plot_said p))

unequal : (cs ds : List ℤ) → component_count ds ≤ component_limit → (k : ℕ) → first_conflict cs ds ≡ Some k → k ≤ 200000
unfolding first_conflict
unequal cs ds few k e = omega (arith, (found_at (conflicts cs ds) 0 (component_count ds) k e).below)

both_fit : (rules : ℕ) (p : Plot) (other : ℕ) (q : Plot) (room : ℕ) → component_count q.components ≤ component_limit → Fit (both_checked rules p other q room)
both_fit rules p other q room few =
    both (others rules other)
    (both (both (of_item Fault.UnequalFields (Some Components) (unequal p.components q.components few)) (listed rules (joined p q))) (short _))

-- a sheet has no more components than the limit
parsed_few : (text : List ℕ) (p : Parsed) → parsed_by text ≡ p → component_count (components_of p) ≤ component_limit
parsed_few text (Sheet style rules cs ps fs) e =
    let w = parse_within rules_limit component_limit connection_limit frontier_limit (omega arith) (omega arith) text style rules cs ps fs e in
    omega (arith, rw (same_width style Components) at w.of_components.few)
parsed_few text (Faulty r) e = omega arith

-- ---- the answer

in_apart : (n : ℕ) (c : Result ⊤ Refusal) → n ≤ 2 → Fit c → (d : Result ⊤ JoinRefusal)
    → ((r : JoinRefusal) → d ≡ Err r → (r.refusal.item ≤ 200000) × (r.sheet ≤ 2))
    → (r : JoinRefusal) → in_sheet n c or_next d ≡ Err r → (r.refusal.item ≤ 200000) × (r.sheet ≤ 2)
in_apart n (Ok tt) h f d g r e = g r e
in_apart n (Err x) h f d g r e =
    let i : ◌≡◌ {A = JoinRefusal} (record { sheet = n; refusal = x }) r = cc in
    (omega (arith, f.few x refl, ap (λ (y : JoinRefusal). y.refusal.item) i), omega (arith, ap (λ (y : JoinRefusal). y.sheet) i))

last_apart : (n : ℕ) (c : Result ⊤ Refusal) → n ≤ 2 → Fit c → (r : JoinRefusal) → in_sheet n c ≡ Err r → (r.refusal.item ≤ 200000) × (r.sheet ≤ 2)
last_apart n (Ok tt) h f r e = cc
last_apart n (Err x) h f r e =
    let i : ◌≡◌ {A = JoinRefusal} (record { sheet = n; refusal = x }) r = cc in
    (omega (arith, f.few x refl, ap (λ (y : JoinRefusal). y.refusal.item) i), omega (arith, ap (λ (y : JoinRefusal). y.sheet) i))

checked_apart : (first second : List ℕ) (a b c room : ℕ) (r : JoinRefusal) → join_checked (parsed_by first) (parsed_by second) a b c room ≡ Err r
    → (r.refusal.item ≤ 200000) × (r.sheet ≤ 2)
checked_apart first second a b c room =
    let p = parsed_by first in
    let q = parsed_by second in
    let hp = parse_few rules_limit component_limit connection_limit frontier_limit first in
    let hq = parse_few rules_limit component_limit connection_limit frontier_limit second in
    in_apart 1 (first_checked p a b c) (omega arith) (first_fit p hp a b c) _
    (in_apart 2 (second_checked p q a b c) (omega arith) (first_fit q hq _ _ _) _
    (last_apart 0 (both_checked (rules_of p) (plot_said p) (rules_of q) (plot_said q) room) (omega arith)
    (both_fit (rules_of p) (plot_said p) (rules_of q) (plot_said q) room (parsed_few second q refl))))

by_answer : (checks : Result ⊤ JoinRefusal) (text : List ℕ) → ((r : JoinRefusal) → checks ≡ Err r → (r.refusal.item ≤ 200000) × (r.sheet ≤ 2))
    → (found : Result ℕ JoinRefusal) → found ≡ answer_by checks text → Apart found
by_answer (Ok tt) text f (Ok n) e = tt
by_answer (Ok tt) text f (Err r) e = cc
by_answer (Err x) text f (Ok n) e = tt
by_answer (Err x) text f (Err r) e =
    let i : x ≡ r = cc in
    let l = f x refl in
    (omega (arith, l.0, ap (λ (y : JoinRefusal). y.refusal.item) i), omega (arith, l.1, ap (λ (y : JoinRefusal). y.sheet) i))

apart : (first second : List ℕ) {a a' b b' c c' : List ℤ} (out : List ℕ) {front : List ℕ} {found : Result ℕ JoinRefusal}
    → SheetsJoined first second a a' b b' c c' out front found → Apart found
apart first second {a = a} {b = b} {c = c} out {found = found} s =
    by_answer (join_checked (parsed_by first) (parsed_by second) (length a) (length b) (length c) (length out)) (joined_text (parsed_by first) (parsed_by second))
    (checked_apart first second (length a) (length b) (length c) (length out)) found s.written.answer

module _ (first second : List ℕ) {a a' b b' c c' : List ℤ} (out : List ℕ) {front : List ℕ} {found : Result ℕ JoinRefusal} where
  pub join_apart : {r : JoinRefusal} → SheetsJoined first second a a' b b' c c' out front found → found ≡ Err r → (r.refusal.item ≤ join_item_limit) × (r.sheet ≤ 2)
  join_apart {r} s e = subst Apart e (apart first second out s)

  pub by_join : {room r : ℕ} → room ≡ min (length out) item_limit → SheetsJoined first second a a' b b' c c' (take room out) front found → r ≡ join_number found
      → JoinByTexts first second a a' b b' c c' out (front ++ drop room out) r
  by_join h s e =
      let joined = rw (taken item_limit out h) at s in
      record {
        found = found;
        front = front;
        joined = joined;
        answer = e;
        apart = apart first second (take item_limit out) joined;
        left = ap (λ l. front ++ l) (dropped item_limit out h);
      }
