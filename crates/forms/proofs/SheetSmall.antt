-- A sheet that is refused is refused at one of its lines, and these are few: each list has at most `connection_limit` records.
--     stop_few        a fault in fields is at one of their lines
--     parse_few       the item of a sheet's refusal is one of few
--     parse_small     and so it has room in its digits
-- Assumes nothing.
use Prim.Native.Nat.{ℕ, suc, ◌+◌, ◌*◌, ◌≤◌, min}
use native.Mathlib.Omega.{arith}
use mathlib.Core.Path.{◌≡◌, refl}
use mathlib.Core.Bool.{Bool, true, false, cond}
use mathlib.Core.List.{List, [], ◌∷◌}
use lib.Dec.{eqb, leb}
use lib.IntN.{ℤ, pos, negsuc}
use borrow.Author.Tests.{leb-true}
use Rattle.std.specs.Prelude.{Err}
use Rattle.lines.specs.Text.{ascii}
use Rattle.lines.specs.Line.{Taken, taken, refused, has_key, read_line, natural}
use Rattle.lists.specs.Limits.{component_limit, connection_limit, frontier_limit}
use Rattle.lists.specs.declared.Section.{Section}
use Rattle.lists.specs.declared.Section.TheVariants.{Components, Connections, Frontiers}
use Rattle.checks.specs.Refusals.{Small}
use Rattle.forms.specs.Form.{Field, times, read_field, Fields, got, stop, after, onward, line_after, read_fields, read_records, lines_of}
use Rattle.forms.specs.declared.Style.{Style}
use Rattle.forms.specs.declared.Style.TheVariants.{Old, Short}
use Rattle.forms.specs.Tables.{form_of, count_key}
use Rattle.forms.specs.Sheet.{Head, head, no_head, known, ruled, numbered, read_head, Part, part, fault, records_to, counted, read_list, Parsed, Sheet, Faulty, strange_rules, strange_form, over_limit, ◌then◌, ended, parse_lists, headed, parse}
use Rattle.forms.proofs.Grammar.{times_lines}
use Rattle.forms.proofs.Finding.{few_lines, few_in_all}

-- ---- a run of fields

after_stop : (z : ℤ) (f : Fields) (k : ℕ) → after z f ≡ stop k → f ≡ stop k
after_stop z (got ys s) k e = let o : ◌≡◌ {A = ℕ} 0 1 = cc in absurd (omega arith)
after_stop z (stop j) k e = cc

pub stop_few : (fs : List Field) (line : ℕ) (s : List ℕ) (k : ℕ) → read_fields fs line s ≡ stop k → k ≤ line + lines_of fs
unfolding read_fields lines_of
stop_few [] line s k e = let o : ◌≡◌ {A = ℕ} 0 1 = cc in absurd (omega arith)
stop_few (f ∷ fs) line s k e =
    go (read_field f s) e (λ z r h. stop_few fs (line_after f line) r k (after_stop z (read_fields fs (line_after f line) r) k h))
  where
    turn : (b : Bool) → k ≤ cond b (suc line) line + lines_of fs → k ≤ line + cond b (suc (lines_of fs)) (lines_of fs)
    turn true h = omega arith
    turn false h = omega arith

    here : (b : Bool) → line ≡ k → k ≤ line + cond b (suc (lines_of fs)) (lines_of fs)
    here true h = omega arith
    here false h = omega arith

    go : (q : Taken ℤ) → onward line q (read_fields fs (line_after f line)) ≡ stop k
        → ((z : ℤ) (r : List ℕ) → after z (read_fields fs (line_after f line) r) ≡ stop k → k ≤ line_after f line + lines_of fs)
        → k ≤ line + cond (eqb f.ending 10) (suc (lines_of fs)) (lines_of fs)
    go (taken z r) h ih = turn (eqb f.ending 10) (ih z r h)
    go refused h ih = here (eqb f.ending 10) (let d : line ≡ k = cc in d)

-- ---- a list

-- its last line, or the item of its refusal, is at most n
abbrev PartFew : ℕ → Part → Type 0
PartFew n (part zs s line) = line ≤ n
PartFew n (fault r) = r.item ≤ n

records_few : (next n : ℕ) (q : Fields) → next ≤ n → ((k : ℕ) → q ≡ stop k → k ≤ n) → PartFew n (records_to next q)
records_few next n (got zs s) h f = h
records_few next n (stop k) h f = f k refl

list_few : (style : Style) (list : Section) (limit line : ℕ) (s : List ℕ) → limit ≤ connection_limit → PartFew (line + 40000) (read_list style list limit line s)
unfolding read_list
list_few style list limit line s most = go (natural (read_line (count_key list) s))
  where
    form : List Field
    form = form_of style list

    few : (n : ℕ) (r : List ℕ) → n ≤ limit → PartFew (line + 40000) (records_to (line + 1 + n * lines_of form) (read_records form n (line + 1) r))
    few n r h =
        let all : n * lines_of form ≤ connection_limit * 8 = few_in_all n limit connection_limit (lines_of form) h most (few_lines style list) in
        records_few (line + 1 + n * lines_of form) (line + 40000) (read_records form n (line + 1) r) (omega (arith, all))
        (λ k e. omega (arith, stop_few (times n form) (line + 1) r k e, times_lines n form, all))

    within : (b : Bool) (n : ℕ) (r : List ℕ) → leb n limit ≡ b
        → PartFew (line + 40000) (cond b (records_to (line + 1 + n * lines_of form) (read_records form n (line + 1) r)) (fault (over_limit list limit)))
    within true n r h = few n r (leb-true n limit h)
    within false n r h = omega arith

    go : (q : Taken ℕ) → PartFew (line + 40000) (counted style list limit line q)
    go (taken n r) = within (leb n limit) n r refl
    go refused = omega arith

-- ---- the head

abbrev HeadFew : Head → Type 0
HeadFew (head style rules s line) = line ≤ 2
HeadFew (no_head r) = r.item ≤ 2

ruled_few : (style : Style) (most line : ℕ) (q : Taken ℤ) → line ≤ 1 → HeadFew (ruled style most line q)
ruled_few style most line (taken (pos n) s) h = go (known most n)
  where
    go : (b : Bool) → HeadFew (cond b (head style n s (suc line)) (no_head (strange_rules line)))
    go true = omega arith
    go false = omega arith
ruled_few style most line (taken (negsuc n) s) h = omega arith
ruled_few style most line refused h = omega arith

numbered_few : (most : ℕ) (q : Taken ℤ) → HeadFew (numbered most q)
numbered_few most (taken (pos n) s) = go (eqb n 2)
  where
    go : (b : Bool) → HeadFew (cond b (ruled Short most 1 (read_line (ascii "rules") s)) (no_head (strange_form 0)))
    go true = ruled_few Short most 1 (read_line (ascii "rules") s) (omega arith)
    go false = omega arith
numbered_few most (taken (negsuc n) s) = omega arith
numbered_few most refused = omega arith

head_few : (most : ℕ) (s : List ℕ) → HeadFew (read_head most s)
unfolding read_head
head_few most s = go (has_key (ascii "sheet") s) (has_key (ascii "rules") s)
  where
    go : (a b : Bool) → HeadFew (cond a (numbered most (read_line (ascii "sheet") s)) (cond b (ruled Old most 0 (read_line (ascii "rules") s)) (head Old 1 s 0)))
    go true b = numbered_few most (read_line (ascii "sheet") s)
    go false true = ruled_few Old most 0 (read_line (ascii "rules") s) (omega arith)
    go false false = omega arith

-- ---- the sheet

-- a refusal's item has room in its digits
abbrev pub ParsedSmall : Parsed → Type 0
ParsedSmall (Sheet style rules cs ps fs) = Unit
ParsedSmall (Faulty r) = Small (Err r)

-- or is at most n
abbrev pub ParsedFew : ℕ → Parsed → Type 0
ParsedFew n (Sheet style rules cs ps fs) = Unit
ParsedFew n (Faulty r) = r.item ≤ n

then_few : (m n : ℕ) (q : Part) (f : List ℤ → List ℕ → ℕ → Parsed) → PartFew m q → m ≤ n
    → ((zs : List ℤ) (s : List ℕ) (line : ℕ) → line ≤ m → ParsedFew n (f zs s line)) → ParsedFew n (q then f)
then_few m n (part zs s line) f h l g = g zs s line h
then_few m n (fault r) f h l g = omega arith

ended_few : (n : ℕ) (style : Style) (rules : ℕ) (cs ps fs : List ℤ) (s : List ℕ) (line : ℕ) → line ≤ n → ParsedFew n (ended style rules cs ps fs s line)
ended_few n style rules cs ps fs [] line h = tt
ended_few n style rules cs ps fs (b ∷ s) line h = h

lists_few : (x y z : ℕ) (style : Style) (rules : ℕ) (s : List ℕ) (line : ℕ) → line ≤ 2 → ParsedFew 200000 (parse_lists x y z style rules s line)
unfolding parse_lists
lists_few x y z style rules s line h =
    then_few (line + 40000) 200000 (read_list style Components (min x component_limit) line s) _
    (list_few style Components (min x component_limit) line s (omega arith)) (omega arith) (λ cs s₁ l₁ h₁.
    then_few (l₁ + 40000) 200000 (read_list style Connections (min y connection_limit) l₁ s₁) _
    (list_few style Connections (min y connection_limit) l₁ s₁ (omega arith)) (omega arith) (λ ps s₂ l₂ h₂.
    then_few (l₂ + 40000) 200000 (read_list style Frontiers (min z frontier_limit) l₂ s₂) _
    (list_few style Frontiers (min z frontier_limit) l₂ s₂ (omega arith)) (omega arith) (λ fs s₃ l₃ h₃.
    ended_few 200000 style rules cs ps fs s₃ l₃ (omega arith))))

small : (p : Parsed) → ParsedFew 200000 p → ParsedSmall p
small (Sheet style rules cs ps fs) h = tt
small (Faulty r) h = omega arith

pub parse_few : (most x y z : ℕ) (text : List ℕ) → ParsedFew 200000 (parse most x y z text)
unfolding parse
parse_few most x y z text = go (read_head most text) (head_few most text)
  where
    go : (q : Head) → HeadFew q → ParsedFew 200000 (headed x y z q)
    go (head style rules s line) h = lists_few x y z style rules s line h
    go (no_head r) h = omega arith

pub parse_small : (most x y z : ℕ) (text : List ℕ) → ParsedSmall (parse most x y z text)
parse_small most x y z text = small (parse most x y z text) (parse_few most x y z text)
