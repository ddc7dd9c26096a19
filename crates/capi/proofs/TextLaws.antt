-- The refusals of the entries over sheets have room in their digits, and so have the counts of a sheet; a buffer counts for no more bytes
-- than an answer can tell.
--     line_small, read_small, report_small, convert_small     the item of each entry's refusal
--     counts_few                                              the counts of a sheet
--     head_refused, head_without_room                         the refusal of a sheet for whose head there is no room
--     unsound, sound                                          a sheet that was read, refused by its lists or valid
--     by_head, by_refusal, by_sheet                           the lists of a sheet: without that room, refused, and read
--     taken, dropped                                          the front of a buffer, and what lies past it
--     by_report, by_convert                                   the entry on a buffer, from what was written into its front
-- Assumes nothing.
use Rattle.std.specs.Prelude.{⊤, Result, Ok, Err, None}
use Rattle.std.proofs.lemmas.List.{take_min}
use mathlib.Core.Path.{◌≡◌, refl, sym, ap, ◌∙◌}
use mathlib.Core.Bool.{Bool, true, false, ◌&&◌}
use mathlib.Core.List.{List, [], ◌∷◌, ◌++◌}
use Prim.Native.Nat.{ℕ, zero, suc, ◌+◌, ◌*◌, ◌/◌, ◌≤◌, min}
use native.Mathlib.Omega.{arith}
use lib.ListN.{length, take, drop, set, replicate, drop_of_length-le}
use lib.IntN.{ℤ, pos}
use borrow.Author.Tests.{leb-true}
use Rattle.lists.specs.declared.Fault.{Fault}
use Rattle.lists.specs.declared.Refusal.{Refusal}
use Rattle.lists.specs.declared.Section.TheVariants.{Components, Connections, Frontiers}
use Rattle.lists.specs.Limits.{component_limit, connection_limit, frontier_limit, component_width, connection_width, frontier_width}
use Rattle.lists.specs.Rules.{rules_limit}
use Rattle.lists.specs.Slices.{laid}
use Rattle.checks.specs.Refusals.{refuse, too_short, ◌or_else◌, room_for, sheet_refusal, item_limit, Small, packed}
use Rattle.checks.proofs.Chain.{refused_not, both_accept}
use Rattle.checks.proofs.Small.{small_or_else, grouping_small}
use Rattle.forms.specs.Sheet.{Parsed, Sheet, Faulty, parse}
use Rattle.forms.specs.Writing.{sheet_text}
use Rattle.forms.specs.Converter.{other, unless, turned}
use Rattle.forms.specs.declared.Counts.{Counts}
use Rattle.forms.specs.declared.Style.{Style}
use Rattle.forms.proofs.Tables.{same_width}
use Rattle.forms.proofs.Sheets.{parse_within}
use Rattle.forms.proofs.SheetSmall.{ParsedSmall, parse_small}
use Rattle.sheet.specs.Entry.{style_of, rules_of, components_of, connections_of, frontiers_of, enough_room, sheet_checked, reading_of, sheet_of, SheetRead}
use Rattle.sheet.specs.Written.{answer_by}
use Rattle.sheet.specs.declared.Sheet as read
use Rattle.sheet.proofs.Fronts.{fronts, accepted, ruled}
use Rattle.report.specs.Entry.{report_checked, Reported}
use Rattle.convert.specs.Entry.{parsed_by, converted_fits, convert_checked, SheetConverted}
use Rattle.capi.specs.Texts.{form_number, head_of, head_checked, lists_checked, ValidRead, SheetByText, limits, text_number, ReportByText, ConvertByText}

-- ---- checks

-- as a record, from which the check can be inferred
record Fit (a : Result ⊤ Refusal) : Type 0 where
  pub small : Small a

both : {a b : Result ⊤ Refusal} → Fit a → Fit b → Fit (a or_else b)
both {a} {b} s t = record { small = small_or_else a b s.small (λ e. t.small) }

short : (enough : Bool) → Fit (refuse Fault.ShortSlice None (too_short enough))
short true = record { small = tt }
short false = record { small = omega arith }

listed : (rules : ℕ) (cs ps fs : List ℤ) → Fit (sheet_refusal rules cs ps fs)
listed rules cs ps fs = record { small = grouping_small rules cs ps fs true }

read_fit : (p : Parsed) → ParsedSmall p → (a b c : ℕ) → Fit (sheet_checked p a b c)
read_fit (Sheet style rules cs ps fs) h a b c = short _
read_fit (Faulty r) h a b c = record { small = h }

valid_fit : (p : Parsed) → ParsedSmall p → (a b c : ℕ) → Fit (sheet_checked p a b c or_else lists_checked p)
valid_fit p h a b c = both (read_fit p h a b c) (listed _ _ _ _)

report_fit : (p : Parsed) → ParsedSmall p → (a b c room : ℕ) → Fit (report_checked p a b c room)
report_fit p h a b c room = both (read_fit p h a b c) (both (listed _ _ _ _) (short _))

convert_fit : (text : List ℕ) → ParsedSmall (parsed_by text) → (a b c room : ℕ) → Fit (convert_checked text a b c room)
convert_fit text h a b c room = both (read_fit (parsed_by text) h a b c) (go (parsed_by text) h)
  where
    by_check : (check : Result ⊤ Refusal) (t : List ℕ) → Fit check → Fit (converted_fits (unless check t) room)
    by_check (Ok tt) t f = short _
    by_check (Err r) t f = f

    go : (p : Parsed) → ParsedSmall p → Fit (converted_fits (turned sheet_refusal p) room)
    go (Sheet style rules cs ps fs) i = by_check (sheet_refusal rules cs ps fs) (sheet_text (other style) rules cs ps fs) (listed rules cs ps fs)
    go (Faulty r) i = record { small = i }

-- ---- refusals

pub line_small : {p : Parsed} {r : Refusal} → ParsedSmall p → p ≡ Faulty r → r.item ≤ item_limit
line_small h e = rw e at h

by_reading : (checks : Result ⊤ Refusal) (sheet : read.Sheet) {r : Refusal} → Fit checks → reading_of checks sheet ≡ Err r → r.item ≤ item_limit
by_reading (Ok tt) sheet f e = let o : ◌≡◌ {A = ℕ} 0 1 = cc in absurd (omega arith)
by_reading (Err x) sheet {r} f e = let i : x ≡ r = cc in rw i at f.small

by_answer : (checks : Result ⊤ Refusal) (t : List ℕ) {r : Refusal} → Fit checks → answer_by checks t ≡ Err r → r.item ≤ item_limit
by_answer (Ok tt) t f e = let o : ◌≡◌ {A = ℕ} 0 1 = cc in absurd (omega arith)
by_answer (Err x) t {r} f e = let i : x ≡ r = cc in rw i at f.small

-- a sheet whose lists are checked once it was read
abbrev pub ValidBy : Parsed → List ℤ → List ℤ → List ℤ → List ℤ → List ℤ → List ℤ → Result read.Sheet Refusal → Type 0
ValidBy p a a' b b' c c' found = ValidRead (sheet_checked p (length a) (length b) (length c)) p a a' b b' c c' found

module _ {a a' b b' c c' : List ℤ} {r : Refusal} where
  pub read_small : {p : Parsed} {found : Result read.Sheet Refusal} → ParsedSmall p → ValidBy p a a' b b' c c' found → found ≡ Err r → r.item ≤ item_limit
  read_small {p} h s e =
      by_reading (sheet_checked p (length a) (length b) (length c) or_else lists_checked p) (sheet_of p) (valid_fit p h (length a) (length b) (length c)) (sym s.answer ∙ e)

  module _ {out out' : List ℕ} {found : Result ℕ Refusal} where
    pub report_small : {p : Parsed} → ParsedSmall p → Reported p a a' b b' c c' out out' found → found ≡ Err r → r.item ≤ item_limit
    report_small {p} h s e = by_answer _ _ (report_fit p h (length a) (length b) (length c) (length out)) (sym s.printed.answer ∙ e)

    pub convert_small : {text : List ℕ} → SheetConverted text a a' b b' c c' out out' found → found ≡ Err r → r.item ≤ item_limit
    convert_small {text} s e =
        let h = parse_small rules_limit component_limit connection_limit frontier_limit text in
        by_answer _ _ (convert_fit text h (length a) (length b) (length c) (length out)) (sym s.written.answer ∙ e)

-- ---- counts

pub record Few (n : Counts) : Type 0 where
  pub components : n.components ≤ component_limit
  pub connections : n.connections ≤ connection_limit
  pub frontiers : n.frontiers ≤ frontier_limit

parsed_few : (x y z : ℕ) (text : List ℕ) (p : Parsed) → parse rules_limit x y z text ≡ p → Few (sheet_of p).counts
parsed_few x y z text (Sheet style rules cs ps fs) e =
    let w = parse_within rules_limit x y z (omega arith) (omega arith) text style rules cs ps fs e in
    record {
      components = omega (arith, rw (same_width style Components) at w.of_components.few);
      connections = omega (arith, rw (same_width style Connections) at w.of_connections.few);
      frontiers = omega (arith, rw (same_width style Frontiers) at w.of_frontiers.few);
    }
parsed_few x y z text (Faulty r) e = record { components = omega arith; connections = omega arith; frontiers = omega arith }

by_counts : (checks : Result ⊤ Refusal) (sheet : read.Sheet) {found : read.Sheet} → Few sheet.counts → reading_of checks sheet ≡ Ok found → Few found.counts
by_counts (Ok tt) sheet {found} f e = let i : sheet ≡ found = cc in rw i at f
by_counts (Err x) sheet f e = let o : ◌≡◌ {A = ℕ} 0 1 = cc in absurd (omega arith)

pub counts_few : (text : List ℕ) {a a' b b' c c' : List ℤ} {r : Result read.Sheet Refusal} {found : read.Sheet}
    → ValidBy (parsed_by text) a a' b b' c c' r → r ≡ Ok found → Few found.counts
counts_few text s e = by_counts _ _ (parsed_few component_limit connection_limit frontier_limit text (parsed_by text) refl) (sym s.answer ∙ e)

-- ---- the lists of a sheet

and_yes : (x : Bool) → x && true ≡ x
and_yes true = refl
and_yes false = refl

and_no : (x : Bool) → x && false ≡ false
and_no true = refl
and_no false = refl

-- with room for the head it is checked as when it is read
with_room : (p : Parsed) (a b c d : ℕ) → room_for 1 2 d ≡ true → head_checked p a b c d ≡ sheet_checked p a b c
with_room (Sheet style rules cs ps fs) a b c d e = rw (e, and_yes (enough_room cs ps fs a b c)) refl
with_room (Faulty r) a b c d e = refl

-- without it, it is refused whatever the work lists are
data Refused (p : Parsed) (a b c d : ℕ) : Type 0 where
  because : (x : Refusal) → head_checked p 0 0 0 0 ≡ Err x → head_checked p a b c d ≡ Err x → Refused p a b c d

without_room : (p : Parsed) (a b c d : ℕ) → room_for 1 2 d ≡ false → Refused p a b c d
without_room (Sheet style rules cs ps fs) a b c d e =
    because (record { fault = Fault.ShortSlice; list = None; item = 0 }) (rw (and_no (enough_room cs ps fs 0 0 0)) refl) (rw (e, and_no (enough_room cs ps fs a b c)) refl)
without_room (Faulty r) a b c d e = because r refl refl

module _ {n : Counts} (i : n ≡ limits) (text : List ℕ) {r : ℕ} where
  pub head_refused : {x : Refusal} → parse rules_limit n.components n.connections n.frontiers text ≡ Faulty x → r ≡ packed (Err x)
      → r ≡ packed (head_checked (parsed_by text) 0 0 0 0)
  head_refused {x} e h = let f : parsed_by text ≡ Faulty x = rw i at e in rw f h

  pub head_without_room : {style : Style} {rules : ℕ} {cs ps fs : List ℤ}
      → parse rules_limit n.components n.connections n.frontiers text ≡ Sheet style rules cs ps fs
      → r ≡ packed (Err (record { fault = Fault.ShortSlice; list = None; item = 0 })) → r ≡ packed (head_checked (parsed_by text) 0 0 0 0)
  head_without_room {style} {rules} {cs} {ps} {fs} e h =
      let f : parsed_by text ≡ Sheet style rules cs ps fs = rw i at e in
      rw (f, and_no (enough_room cs ps fs 0 0 0)) h

refused_as : (checks : Result ⊤ Refusal) (sheet : read.Sheet) {x : Refusal} → reading_of checks sheet ≡ Err x → checks ≡ Err x
refused_as (Ok tt) sheet e = let o : ◌≡◌ {A = ℕ} 0 1 = cc in absurd (omega arith)
refused_as (Err y) sheet e = cc

read_as : (checks : Result ⊤ Refusal) (sheet : read.Sheet) {found : read.Sheet} → reading_of checks sheet ≡ Ok found → (checks ≡ Ok tt) × (found ≡ sheet)
read_as (Ok tt) sheet e = (refl, cc)
read_as (Err y) sheet e = let o : ◌≡◌ {A = ℕ} 0 1 = cc in absurd (omega arith)

-- ---- a sheet that was read

-- by what the checks say of the fronts of the work lists
lists_said : (p : Parsed) {rules : ℕ} {cs ps fs : List ℤ} {checked : Result ⊤ Refusal}
    → rules ≡ rules_of p → cs ≡ components_of p → ps ≡ connections_of p → fs ≡ frontiers_of p
    → checked ≡ sheet_refusal rules cs ps fs → checked ≡ lists_checked p
lists_said p e f g i h = rw (e, f, g, i) at h

module _ (text : List ℕ) {n : Counts} (limited : n ≡ limits) {a a' b b' c c' : List ℤ} {found : Result read.Sheet Refusal} {sheet : read.Sheet}
    (told : SheetRead (parse rules_limit n.components n.connections n.frontiers text) a a' b b' c c' found) (e : found ≡ Ok sheet) where
  said : SheetRead (parsed_by text) a a' b b' c c' found
  said = rw limited at told

  good : sheet_checked (parsed_by text) (length a) (length b) (length c) ≡ Ok tt
  good = accepted component_limit connection_limit frontier_limit text said e

  module _ {checked : Result ⊤ Refusal}
      (by_fronts : checked ≡ sheet_refusal sheet.rules (take (sheet.counts.components * component_width) a')
      (take (sheet.counts.connections * connection_width) b') (take (sheet.counts.frontiers * frontier_width) c')) where
    same_lists : checked ≡ lists_checked (parsed_by text)
    same_lists =
        let at_fronts = fronts component_limit connection_limit frontier_limit text said e in
        lists_said (parsed_by text) (ruled component_limit connection_limit frontier_limit text said e)
        at_fronts.of_components.is at_fronts.of_connections.is at_fronts.of_frontiers.is by_fronts

    module _ {r : Result read.Sheet Refusal} where
      pub unsound : {a'' b'' c'' : List ℤ} {x : Refusal} {j k l : ℕ} → checked ≡ Err x
          → j ≡ length a → a'' ≡ replicate j (pos 0) → k ≡ length b → b'' ≡ replicate k (pos 0) → l ≡ length c → c'' ≡ replicate l (pos 0)
          → r ≡ Err x → ValidBy (parsed_by text) a a'' b b'' c c'' r
      unsound {x = x} bad j u k v l w h =
          let refused : lists_checked (parsed_by text) ≡ Err x = sym same_lists ∙ bad in
          record {
            answer = rw (good, refused) h;
            components_left = rw (good, refused) (rw j at u);
            connections_left = rw (good, refused) (rw k at v);
            frontiers_left = rw (good, refused) (rw l at w);
          }

      pub sound : checked ≡ Ok tt → r ≡ Ok sheet → ValidBy (parsed_by text) a a' b b' c c' r
      sound fine h =
          let all : lists_checked (parsed_by text) ≡ Ok tt = sym same_lists ∙ fine in
          let is = (read_as (sheet_checked (parsed_by text) (length a) (length b) (length c)) (sheet_of (parsed_by text)) (sym said.answer ∙ e)).1 in
          record {
            answer = rw (good, all) (rw is at h);
            components_left = rw (good, all) (rw good at said.components_left);
            connections_left = rw (good, all) (rw good at said.connections_left);
            frontiers_left = rw (good, all) (rw good at said.frontiers_left);
          }

-- ---- the lists of a sheet, with the head

set_two : (head : List ℕ) (x y : ℕ) → 1 ≤ length head / 2 → set (set head 0 x) 1 y ≡ x ∷ y ∷ drop 2 head
set_two [] x y h = absurd (omega arith)
set_two (k ∷ []) x y h = absurd (omega arith)
set_two (k ∷ l ∷ head) x y h = refl

head_is : (p : Parsed) (a b c : ℕ) (head : List ℕ) {x y : ℕ} → sheet_checked p a b c ≡ Ok tt → room_for 1 2 (length head) ≡ true
    → x ≡ form_number (style_of p) → y ≡ rules_of p → set (set head 0 x) 1 y ≡ laid (head_of p) head
head_is (Sheet style rules cs ps fs) a b c head {x} {y} good room e f = set_two head x y (leb-true 1 (length head / 2) room) ∙ rw (e, f) refl
head_is (Faulty r) a b c head good room e f = absurd (refused_not good)

module _ (text head : List ℕ) {a b c : List ℤ} where
  pub by_head : {r : ℕ} → room_for 1 2 (length head) ≡ false → r ≡ packed (head_checked (parsed_by text) 0 0 0 0) → SheetByText text a a b b c c head head r
  by_head {r} e h = go (without_room (parsed_by text) (length a) (length b) (length c) (length head) e)
    where
      go : Refused (parsed_by text) (length a) (length b) (length c) (length head) → SheetByText text a a b b c c head head r
      go (because x f g) = record {
        answer = rw g (rw f at h);
        components_left = rw g refl;
        connections_left = rw g refl;
        frontiers_left = rw g refl;
        head_left = rw g refl;
      }

  module _ (room : room_for 1 2 (length head) ≡ true) {a' b' c' : List ℤ} {found : Result read.Sheet Refusal}
      (s : ValidBy (parsed_by text) a a' b b' c c' found) where
    abbrev checked : Result ⊤ Refusal
    checked = sheet_checked (parsed_by text) (length a) (length b) (length c)

    same : head_checked (parsed_by text) (length a) (length b) (length c) (length head) ≡ checked
    same = with_room (parsed_by text) (length a) (length b) (length c) (length head) room

    pub by_refusal : {r : ℕ} {x : Refusal} → found ≡ Err x → r ≡ packed (Err x) → SheetByText text a a' b b' c c' head head r
    by_refusal {x = x} e h =
        let g : checked or_else lists_checked (parsed_by text) ≡ Err x =
        refused_as (checked or_else lists_checked (parsed_by text)) (sheet_of (parsed_by text)) (sym s.answer ∙ e) in
        record {
          answer = rw (same, g) h;
          components_left = rw same s.components_left;
          connections_left = rw same s.connections_left;
          frontiers_left = rw same s.frontiers_left;
          head_left = rw (same, g) refl;
        }

    pub by_sheet : {r : ℕ} {sheet : read.Sheet} {x : ℕ} → found ≡ Ok sheet → x ≡ form_number sheet.style
        → r ≡ 65536 * sheet.counts.components + 4294967296 * sheet.counts.connections + 281474976710656 * sheet.counts.frontiers
        → SheetByText text a a' b b' c c' head (set (set head 0 x) 1 sheet.rules) r
    by_sheet e f h =
        let (all, is) = read_as (checked or_else lists_checked (parsed_by text)) (sheet_of (parsed_by text)) (sym s.answer ∙ e) in
        let good = (both_accept checked (lists_checked (parsed_by text)) all).0 in
        record {
          answer = rw (same, all) (rw is at h);
          components_left = rw same s.components_left;
          connections_left = rw same s.connections_left;
          frontiers_left = rw same s.frontiers_left;
          head_left = rw (same, all) (head_is (parsed_by text) (length a) (length b) (length c) head good room (rw is at f) (ap (λ m. m.rules) is));
        }

-- ---- the front of a buffer

drop_min : (n : ℕ) (xs : List ℕ) → drop (min n (length xs)) xs ≡ drop n xs
drop_min zero xs = let on : min zero (length xs) ≡ zero = omega arith in ap (λ k. drop k xs) on
drop_min (suc n) [] = drop_of_length-le [] (omega arith)
drop_min (suc n) (x ∷ xs) =
    let on : min (suc n) (length (x ∷ xs)) ≡ suc (min n (length xs)) = omega arith in
    ap (λ k. drop k (x ∷ xs)) on ∙ drop_min n xs

module _ (n : ℕ) (out : List ℕ) {room : ℕ} (h : room ≡ min (length out) n) where
  turned_round : room ≡ min n (length out)
  turned_round = omega arith

  pub taken : take room out ≡ take n out
  taken = ap (λ k. take k out) turned_round ∙ take_min n out

  pub dropped : drop room out ≡ drop n out
  dropped = ap (λ k. drop k out) turned_round ∙ drop_min n out

module _ {text : List ℕ} {a a' b b' c c' : List ℤ} {out front : List ℕ} {found : Result ℕ Refusal} {room r : ℕ} (h : room ≡ min (length out) item_limit) (e : r ≡ text_number found) where
  pub by_report : {n : Counts} → n ≡ limits
      → Reported (parse rules_limit n.components n.connections n.frontiers text) a a' b b' c c' (take room out) front found
      → ReportByText text a a' b b' c c' out (front ++ drop room out) r
  by_report i s = record {
    found = found;
    front = front;
    reported = rw (i, taken item_limit out h) at s;
    answer = e;
    left = ap (λ l. front ++ l) (dropped item_limit out h);
  }

  pub by_convert : SheetConverted text a a' b b' c c' (take room out) front found → ConvertByText text a a' b b' c c' out (front ++ drop room out) r
  by_convert s = record {
    found = found;
    front = front;
    converted = rw (taken item_limit out h) at s;
    answer = e;
    left = ap (λ l. front ++ l) (dropped item_limit out h);
  }
