-- What `parse` accepts is what `sheet_text` writes, in both forms.
--     list_sound, list_complete        a list
--     lists_sound, lists_complete      the three lists
--     head_sound, head_complete        the lines before them
--     parse_unique                     what is accepted is the writing of what it gives, but that an Old sheet may spell out `rules=1`
--     parse_within                     and that is within the limits
--     parse_write                      the writing of all that is within the limits is accepted and gives it back
--     sheet_unique                     no other form, rules or lists have this writing
-- Assumes nothing.
use Prim.Native.Nat.{ℕ, suc, ◌+◌, ◌*◌, ◌%◌, ◌≤◌, min}
use native.Mathlib.Omega.{arith}
use mathlib.Core.Path.{◌≡◌, refl, sym, ap, subst, ◌∙◌}
use mathlib.Core.Bool.{Bool, true, false, cond}
use mathlib.Core.Logic.{⊎_elim}
use mathlib.Core.List.{List, [], ◌∷◌, ◌++◌, append_assoc, append-nil}
use lib.Dec.{eqb, leb}
use lib.IntN.{ℤ, pos, negsuc}
use lib.ListN.{length}
use borrow.Author.Tests.{leb-true, le-leb, eqb-true, ne_eqb}
use Rattle.lines.specs.Text.{ascii}
use Rattle.lines.specs.Decimal.{limit as largest, line_of}
use Rattle.lines.specs.Line.{Taken, taken, refused, has_key, read_line, natural}
use Rattle.lines.proofs.Digits.{same_or}
use Rattle.lines.proofs.Counting.{natural_taken}
use Rattle.lines.proofs.Grammar.{read_write, write_read}
use Rattle.lists.specs.Limits.{component_limit, connection_limit, frontier_limit}
use Rattle.lists.specs.declared.Refusal.{Refusal}
use Rattle.lists.specs.declared.Section.{Section}
use Rattle.lists.specs.declared.Section.TheVariants.{Components, Connections, Frontiers}
use Rattle.forms.specs.Form.{Fields, got, stop, lines_of, write_records, read_records}
use Rattle.forms.specs.declared.Style.{Style}
use Rattle.forms.specs.declared.Style.TheVariants.{Old, Short}
use Rattle.forms.specs.Tables.{form_of, count_key, width_of}
use Rattle.forms.specs.Sheet.{Head, head, no_head, known, ruled, numbered, read_head, Part, part, fault, strange_rules, strange_form, records_to, counted, read_list, Parsed, Sheet, ◌then◌, ended, parse_lists, headed, parse}
use Rattle.forms.specs.Writing.{rules_line, head_text, count_of, list_text, lists_text, sheet_text, Writable, WithinLimits, Known}
use Rattle.forms.proofs.Grammar.{both, records_write, records_read}
use Rattle.forms.proofs.Tables.{passes, same_width, whole_parts, parts_whole}

-- ---- a list

from_part : (next : ℕ) (f : Fields) (zs : List ℤ) (r : List ℕ) (line : ℕ) → records_to next f ≡ part zs r line → f ≡ got zs r
from_part next (got ys s) zs r line e = cc
from_part next (stop k) zs r line e = cc

cond_part : (b : Bool) (p : Part) (x : Refusal) (zs : List ℤ) (r : List ℕ) (next : ℕ) → cond b p (fault x) ≡ part zs r next → (b ≡ true) × (p ≡ part zs r next)
cond_part true p x zs r next e = (refl, e)
cond_part false p x zs r next e = cc

module _ (style : Style) (list : Section) (limit line : ℕ) where
  abbrev form : List Rattle.forms.specs.Form.Field
  form = form_of style list

  counted_part : (q : Taken ℕ) (zs : List ℤ) (r : List ℕ) (next : ℕ) → counted style list limit line q ≡ part zs r next
      → (n : ℕ) × (s : List ℕ) × (q ≡ taken n s) × (n ≤ limit) × (read_records form n (line + 1) s ≡ got zs r)
  counted_part (taken n s) zs r next e =
      let (t, f) = cond_part (leb n limit) (records_to (line + 1 + n * lines_of form) (read_records form n (line + 1) s)) _ zs r next e in
      (n, s, refl, leb-true n limit t, from_part (line + 1 + n * lines_of form) (read_records form n (line + 1) s) zs r next f)
  counted_part refused zs r next e = cc

  pub list_sound : (s : List ℕ) (zs : List ℤ) (r : List ℕ) (next : ℕ) → read_list style list limit line s ≡ part zs r next
      → Writable style list limit zs × (s ≡ list_text style list zs ++ r)
  unfolding read_list
  list_sound s zs r next e =
      let (n, t, q, few, f) = counted_part (natural (read_line (count_key list) s)) zs r next e in
      let (count, small, rest) = records_read form (passes style list) n (line + 1) t zs r f in
      let here = (write_read (count_key list) s (pos n) t (natural_taken (read_line (count_key list) s) n t q)).1 in
      let (quotient, remainder) = whole_parts list n in
      let w = same_width style list in
      let l : length zs ≡ n * width_of list = count ∙ ap (λ (m : ℕ). n * m) w in
      let c : count_of style list zs ≡ n = rw (w, l) quotient in
      let c' : length zs % length form ≡ 0 = rw (w, l) remainder in (
        record { whole = c'; few = rw c few; small = small },
        rw c
            (here ∙ ap (λ (u : List ℕ). line_of (count_key list) (pos n) ++ u) rest
            ∙ sym (append_assoc (line_of (count_key list) (pos n)) (write_records form n zs) r)),
      )

  pub list_complete : (zs : List ℤ) (r : List ℕ) → limit ≤ largest → Writable style list limit zs
      → read_list style list limit line (list_text style list zs ++ r) ≡ part zs r (line + 1 + count_of style list zs * lines_of form)
  unfolding read_list
  list_complete zs r h w =
      let n = count_of style list zs in
      let e : read_line (count_key list) (list_text style list zs ++ r) ≡ taken (pos n) (write_records form n zs ++ r) =
      rw (append_assoc (line_of (count_key list) (pos n)) (write_records form n zs) r) (read_write (count_key list) (pos n) (write_records form n zs ++ r) (omega (arith, w.few))) in
      let v = same_width style list in
      let p : length zs ≡ n * length form = rw v (sym (parts_whole list (length zs) (rw v at w.whole))) in
      rw (e, le-leb n limit w.few, records_write form (passes style list) n (line + 1) zs r p w.small)

-- ---- the three lists

then_sheet : (p : Part) (f : List ℤ → List ℕ → ℕ → Parsed) (style : Style) (rules : ℕ) (cs ps fs : List ℤ) → (p then f) ≡ Sheet style rules cs ps fs
    → (zs : List ℤ) × (s : List ℕ) × (line : ℕ) × (p ≡ part zs s line) × (f zs s line ≡ Sheet style rules cs ps fs)
then_sheet (part zs s line) f style rules cs ps fs e = (zs, s, line, refl, e)
then_sheet (fault r) f style rules cs ps fs e = cc

ended_sheet : (style : Style) (rules : ℕ) (cs ps fs : List ℤ) (s : List ℕ) (line : ℕ) (style' : Style) (rules' : ℕ) (cs' ps' fs' : List ℤ)
    → ended style rules cs ps fs s line ≡ Sheet style' rules' cs' ps' fs'
    → (s ≡ []) × (style ≡ style') × (rules ≡ rules') × (cs ≡ cs') × (ps ≡ ps') × (fs ≡ fs')
ended_sheet style rules cs ps fs [] line style' rules' cs' ps' fs' e = (refl, cc, cc, cc, cc, cc)
ended_sheet style rules cs ps fs (b ∷ s) line style' rules' cs' ps' fs' e = cc

same_text : (style : Style) (xs ys zs cs ps fs : List ℤ) → xs ≡ cs → ys ≡ ps → zs ≡ fs
    → list_text style Components xs ++ (list_text style Connections ys ++ list_text style Frontiers zs) ≡ list_text style Components cs ++ (list_text style Connections ps ++ list_text style Frontiers fs)
same_text style xs ys zs cs ps fs c p f = rw (c, p, f)

three_texts : (a b c : List ℕ) {s s₁ s₂ s₃ : List ℕ} → s ≡ a ++ s₁ → s₁ ≡ b ++ s₂ → s₂ ≡ c ++ s₃ → s₃ ≡ [] → s ≡ a ++ (b ++ c)
three_texts a b c e f g h = rw (e, f, g, h, append-nil c)

module _ (components connections frontiers : ℕ) where
  pub lists_sound : (style : Style) (rules : ℕ) (s : List ℕ) (line : ℕ) (style' : Style) (rules' : ℕ) (cs ps fs : List ℤ)
      → parse_lists components connections frontiers style rules s line ≡ Sheet style' rules' cs ps fs
      → (style ≡ style') × (rules ≡ rules') × WithinLimits components connections frontiers style cs ps fs × (s ≡ lists_text style cs ps fs)
  unfolding parse_lists lists_text
  lists_sound style rules s line style' rules' cs ps fs e =
      let (xs, s₁, line₁, e₁, f₁) = then_sheet (read_list style Components (min components component_limit) line s) _ style' rules' cs ps fs e in
      let (ys, s₂, line₂, e₂, f₂) = then_sheet (read_list style Connections (min connections connection_limit) line₁ s₁) _ style' rules' cs ps fs f₁ in
      let (zs, s₃, line₃, e₃, f₃) = then_sheet (read_list style Frontiers (min frontiers frontier_limit) line₂ s₂) _ style' rules' cs ps fs f₂ in
      let (nil, st, ru, c, p, f) = ended_sheet style rules xs ys zs s₃ line₃ style' rules' cs ps fs f₃ in
      let (w₁, t₁) = list_sound style Components (min components component_limit) line s xs s₁ line₁ e₁ in
      let (w₂, t₂) = list_sound style Connections (min connections connection_limit) line₁ s₁ ys s₂ line₂ e₂ in
      let (w₃, t₃) = list_sound style Frontiers (min frontiers frontier_limit) line₂ s₂ zs s₃ line₃ e₃ in
      let t = three_texts (list_text style Components xs) (list_text style Connections ys) (list_text style Frontiers zs) t₁ t₂ t₃ nil in (
        st,
        ru,
        record {
          of_components = subst (λ (l : List ℤ). Writable style Components (min components component_limit) l) c w₁;
          of_connections = subst (λ (l : List ℤ). Writable style Connections (min connections connection_limit) l) p w₂;
          of_frontiers = subst (λ (l : List ℤ). Writable style Frontiers (min frontiers frontier_limit) l) f w₃;
        },
        t ∙ same_text style xs ys zs cs ps fs c p f,
      )

  pub lists_complete : (style : Style) (rules : ℕ) (line : ℕ) (cs ps fs : List ℤ) → WithinLimits components connections frontiers style cs ps fs
      → parse_lists components connections frontiers style rules (lists_text style cs ps fs) line ≡ Sheet style rules cs ps fs
  unfolding parse_lists lists_text
  lists_complete style rules line cs ps fs w =
      let e₁ = list_complete style Components (min components component_limit) line cs (list_text style Connections ps ++ list_text style Frontiers fs) (omega arith) w.of_components in
      let line₁ = line + 1 + count_of style Components cs * lines_of (form_of style Components) in
      let e₂ = list_complete style Connections (min connections connection_limit) line₁ ps (list_text style Frontiers fs) (omega arith) w.of_connections in
      let line₂ = line₁ + 1 + count_of style Connections ps * lines_of (form_of style Connections) in
      let e₃ = list_complete style Frontiers (min frontiers frontier_limit) line₂ fs [] (omega arith) w.of_frontiers in
      rw (e₁, e₂, rw append-nil at e₃)

-- ---- the head

module _ (style : Style) (most line : ℕ) where
  -- a rules line that is known
  ruled_head : (q : Taken ℤ) (style' : Style) (rules : ℕ) (r : List ℕ) (next : ℕ) → ruled style most line q ≡ head style' rules r next
      → (style ≡ style') × Known most rules × (q ≡ taken (pos rules) r)
  ruled_head (taken (pos n) s) style' rules r next e = go (known most n) refl e
    where
      go : (b : Bool) → known most n ≡ b → cond b (head style n s (suc line)) (no_head (strange_rules line)) ≡ head style' rules r next
          → (style ≡ style') × Known most rules × (taken (pos n) s ≡ taken (pos rules) r)
      go true k e =
          let p = both (leb 1 n) (leb n most) k in
          let n' : n ≡ rules = cc in
          (cc, record { least = omega (arith, leb-true 1 n p.0); largest = omega (arith, leb-true n most p.1) }, cc)
      go false k e = cc
  ruled_head (taken (negsuc n) s) style' rules r next e = cc
  ruled_head refused style' rules r next e = cc

  ruled_known : (rules : ℕ) (r : List ℕ) → Known most rules → ruled style most line (taken (pos rules) r) ≡ head style rules r (suc line)
  ruled_known rules r k = rw (le-leb 1 rules k.least, le-leb rules most k.largest)

-- the line `sheet=2`, and what is behind it
numbered_head : (most : ℕ) (q : Taken ℤ) (style : Style) (rules : ℕ) (r : List ℕ) (next : ℕ) → numbered most q ≡ head style rules r next
    → (s : List ℕ) × (q ≡ taken (pos 2) s) × (ruled Short most 1 (read_line (ascii "rules") s) ≡ head style rules r next)
numbered_head most (taken (pos n) s) style rules r next e = go (eqb n 2) refl e
  where
    go : (b : Bool) → eqb n 2 ≡ b → cond b (ruled Short most 1 (read_line (ascii "rules") s)) (no_head (strange_form 0)) ≡ head style rules r next
        → (t : List ℕ) × (taken (pos n) s ≡ taken (pos 2) t) × (ruled Short most 1 (read_line (ascii "rules") t) ≡ head style rules r next)
    go true k e = (s, ap (λ (m : ℕ). taken (pos m) s) (eqb-true n 2 k), e)
    go false k e = cc
numbered_head most (taken (negsuc n) s) style rules r next e = cc
numbered_head most refused style rules r next e = cc

-- a text whose head was read: as it is written, or spelled out
pub data HeadIs (style : Style) (rules : ℕ) (s r : List ℕ) : Type 0 where
  written : s ≡ head_text style rules ++ r → HeadIs style rules s r
  spelled : style ≡ Old → rules ≡ 1 → s ≡ rules_line 1 ++ r → HeadIs style rules s r

old_rules : (rules : ℕ) (s r : List ℕ) → s ≡ rules_line rules ++ r → HeadIs Old rules s r
unfolding head_text
old_rules rules s r e =
    ⊎_elim
    (λ h. spelled refl h (e ∙ ap (λ (n : ℕ). rules_line n ++ r) h))
    (λ n. written (rw (ne_eqb rules 1 n) e))
    (same_or rules 1)

pub head_sound : (most : ℕ) (s : List ℕ) (style : Style) (rules : ℕ) (r : List ℕ) (next : ℕ) → 1 ≤ most → read_head most s ≡ head style rules r next
    → Known most rules × HeadIs style rules s r
unfolding read_head head_text
head_sound most s style rules r next m e = first (has_key (ascii "sheet") s) e
  where
    second : (b : Bool) → cond b (ruled Old most 0 (read_line (ascii "rules") s)) (head Old 1 s 0) ≡ head style rules r next → Known most rules × HeadIs style rules s r
    second true e =
        let (o, k, q) = ruled_head Old most 0 (read_line (ascii "rules") s) style rules r next e in
        let t = (write_read (ascii "rules") s (pos rules) r q).1 in
        (k, subst (λ (y : Style). HeadIs y rules s r) o (old_rules rules s r t))
    second false e =
        let n : rules ≡ 1 = cc in
        let o : Old ≡ style = cc in
        let t : s ≡ r = cc in
        let w : HeadIs Old 1 s r = written t in
        (record { least = omega arith; largest = omega arith }, subst (λ (y : Style). HeadIs y rules s r) o (subst (λ (k : ℕ). HeadIs Old k s r) (sym n) w))

    first : (b : Bool) → cond b (numbered most (read_line (ascii "sheet") s)) (cond (has_key (ascii "rules") s) (ruled Old most 0 (read_line (ascii "rules") s)) (head Old 1 s 0)) ≡ head style rules r next
        → Known most rules × HeadIs style rules s r
    first true e =
        let (t, q, f) = numbered_head most (read_line (ascii "sheet") s) style rules r next e in
        let (o, k, g) = ruled_head Short most 1 (read_line (ascii "rules") t) style rules r next f in
        let a = (write_read (ascii "sheet") s (pos 2) t q).1 in
        let b = (write_read (ascii "rules") t (pos rules) r g).1 in
        let w : HeadIs Short rules s r = written (a ∙ ap (λ (u : List ℕ). line_of (ascii "sheet") (pos 2) ++ u) b ∙ sym (append_assoc (line_of (ascii "sheet") (pos 2)) (rules_line rules) r)) in
        (k, subst (λ (y : Style). HeadIs y rules s r) o w)
    first false e = second (has_key (ascii "rules") s) e

-- the lists behind the head begin with neither key
pub record Bare (r : List ℕ) : Type 0 where
  pub no_sheet : has_key (ascii "sheet") r ≡ false
  pub no_rules : has_key (ascii "rules") r ≡ false

pub lists_bare : (style : Style) (cs ps fs : List ℤ) → Bare (lists_text style cs ps fs)
unfolding has_key lists_text
lists_bare style cs ps fs = record { no_sheet = refl; no_rules = refl }

module _ (most : ℕ) (few : most ≤ largest) where
  rules_head : (rules : ℕ) (r : List ℕ) → Known most rules → read_head most (rules_line rules ++ r) ≡ head Old rules r 1
  unfolding read_head has_key
  rules_head rules r k = rw (read_write (ascii "rules") (pos rules) r (omega (arith, k.largest))) (ruled_known Old most 0 rules r k)

  bare_head : (r : List ℕ) → Bare r → read_head most r ≡ head Old 1 r 0
  unfolding read_head
  bare_head r b = rw (b.no_sheet, b.no_rules)

  -- an Old sheet with its rules spelled out or left out
  old_head : (rules : ℕ) (r : List ℕ) → Known most rules → Bare r → (t : Bool) → eqb rules 1 ≡ t → (line : ℕ) × (read_head most (cond t [] (rules_line rules) ++ r) ≡ head Old rules r line)
  old_head rules r k b true e = (0, bare_head r b ∙ ap (λ (n : ℕ). head Old n r 0) (sym (eqb-true rules 1 e)))
  old_head rules r k b false e = (1, rules_head rules r k)

  pub head_complete : (style : Style) (rules : ℕ) (r : List ℕ) → Known most rules → Bare r → (line : ℕ) × (read_head most (head_text style rules ++ r) ≡ head style rules r line)
  unfolding read_head head_text has_key
  head_complete Old rules r k b = old_head rules r k b (eqb rules 1) refl
  head_complete Short rules r k b =
      let e = read_write (ascii "sheet") (pos 2) (rules_line rules ++ r) (omega arith) in
      (2, short_head e)
    where
      short_head : read_line (ascii "sheet") (line_of (ascii "sheet") (pos 2) ++ (rules_line rules ++ r)) ≡ taken (pos 2) (rules_line rules ++ r)
          → read_head most ((line_of (ascii "sheet") (pos 2) ++ rules_line rules) ++ r) ≡ head Short rules r 2
      short_head e =
          rw (append_assoc (line_of (ascii "sheet") (pos 2)) (rules_line rules) r, e, read_write (ascii "rules") (pos rules) r (omega (arith, k.largest)))
          (ruled_known Short most 1 rules r k)

-- ---- the sheet

-- a text that `parse` accepts: as it is written, or with `rules=1` spelled out
pub data SheetIs (style : Style) (rules : ℕ) (cs ps fs : List ℤ) (text : List ℕ) : Type 0 where
  written : text ≡ sheet_text style rules cs ps fs → SheetIs style rules cs ps fs text
  spelled : style ≡ Old → rules ≡ 1 → text ≡ rules_line 1 ++ sheet_text Old 1 cs ps fs → SheetIs style rules cs ps fs text

head_sheet : (h : Head) (components connections frontiers : ℕ) (style : Style) (rules : ℕ) (cs ps fs : List ℤ)
    → headed components connections frontiers h ≡ Sheet style rules cs ps fs
    → (style' : Style) × (rules' : ℕ) × (r : List ℕ) × (line : ℕ) × (h ≡ head style' rules' r line)
    × (parse_lists components connections frontiers style' rules' r line ≡ Sheet style rules cs ps fs)
head_sheet (head style' rules' r line) components connections frontiers style rules cs ps fs e = (style', rules', r, line, refl, e)
head_sheet (no_head x) components connections frontiers style rules cs ps fs e = cc

join_head : (style : Style) (rules : ℕ) (cs ps fs : List ℤ) (text r : List ℕ) → HeadIs style rules text r → r ≡ lists_text style cs ps fs → SheetIs style rules cs ps fs text
unfolding head_text
join_head style rules cs ps fs text r (written e) t = written (e ∙ ap (λ (u : List ℕ). head_text style rules ++ u) t)
join_head style rules cs ps fs text r (spelled o n e) t =
    spelled o n (e ∙ ap (λ (u : List ℕ). rules_line 1 ++ u) (t ∙ ap (λ (y : Style). lists_text y cs ps fs) o))

module _ (most components connections frontiers : ℕ) (some : 1 ≤ most) (few : most ≤ largest) where
  pub parse_sound : (text : List ℕ) (style : Style) (rules : ℕ) (cs ps fs : List ℤ) → parse most components connections frontiers text ≡ Sheet style rules cs ps fs
      → Known most rules × WithinLimits components connections frontiers style cs ps fs × SheetIs style rules cs ps fs text
  unfolding parse
  parse_sound text style rules cs ps fs e =
      let (style', rules', r, line, h, f) = head_sheet (read_head most text) components connections frontiers style rules cs ps fs e in
      let (o, n, w, t) = lists_sound components connections frontiers style' rules' r line style rules cs ps fs f in
      let (k, i) = head_sound most text style' rules' r line some h in (
        subst (λ (m : ℕ). Known most m) n k,
        subst (λ (y : Style). WithinLimits components connections frontiers y cs ps fs) o w,
        subst (λ (y : Style). SheetIs y rules cs ps fs text) o
            (subst (λ (m : ℕ). SheetIs style' m cs ps fs text) n (join_head style' rules' cs ps fs text r i t)),
      )

  -- what is accepted is the writing of what it gives, but that an Old sheet may spell out `rules=1`
  pub parse_unique : (text : List ℕ) (style : Style) (rules : ℕ) (cs ps fs : List ℤ) → parse most components connections frontiers text ≡ Sheet style rules cs ps fs
      → SheetIs style rules cs ps fs text
  parse_unique text style rules cs ps fs e = (parse_sound text style rules cs ps fs e).2

  pub parse_within : (text : List ℕ) (style : Style) (rules : ℕ) (cs ps fs : List ℤ) → parse most components connections frontiers text ≡ Sheet style rules cs ps fs
      → WithinLimits components connections frontiers style cs ps fs
  parse_within text style rules cs ps fs e = (parse_sound text style rules cs ps fs e).1

  pub parse_known : (text : List ℕ) (style : Style) (rules : ℕ) (cs ps fs : List ℤ) → parse most components connections frontiers text ≡ Sheet style rules cs ps fs
      → Known most rules
  parse_known text style rules cs ps fs e = (parse_sound text style rules cs ps fs e).0

  -- the writing of all that is within the limits is accepted and gives it back
  pub parse_write : (style : Style) (rules : ℕ) (cs ps fs : List ℤ) → Known most rules → WithinLimits components connections frontiers style cs ps fs
      → parse most components connections frontiers (sheet_text style rules cs ps fs) ≡ Sheet style rules cs ps fs
  unfolding parse
  parse_write style rules cs ps fs k w =
      let (line, h) = head_complete most few style rules (lists_text style cs ps fs) k (lists_bare style cs ps fs) in
      rw h (lists_complete components connections frontiers style rules line cs ps fs w)

  -- and so is an Old sheet that spells out `rules=1`
  pub parse_spelled : (cs ps fs : List ℤ) → WithinLimits components connections frontiers Old cs ps fs
      → parse most components connections frontiers (rules_line 1 ++ sheet_text Old 1 cs ps fs) ≡ Sheet Old 1 cs ps fs
  unfolding parse head_text
  parse_spelled cs ps fs w =
      rw (rules_head most few 1 (lists_text Old cs ps fs) (record { least = omega arith; largest = some }))
      (lists_complete components connections frontiers Old 1 1 cs ps fs w)

  -- no other form, rules or lists have this writing
  pub sheet_unique : (style style' : Style) (rules rules' : ℕ) (cs ps fs cs' ps' fs' : List ℤ)
      → Known most rules → WithinLimits components connections frontiers style cs ps fs
      → Known most rules' → WithinLimits components connections frontiers style' cs' ps' fs'
      → sheet_text style rules cs ps fs ≡ sheet_text style' rules' cs' ps' fs'
      → (style ≡ style') × (rules ≡ rules') × (cs ≡ cs') × (ps ≡ ps') × (fs ≡ fs')
  sheet_unique style style' rules rules' cs ps fs cs' ps' fs' k w k' w' e =
      let l : Sheet style rules cs ps fs ≡ Sheet style' rules' cs' ps' fs' =
      sym (parse_write style rules cs ps fs k w) ∙ ap (parse most components connections frontiers) e ∙ parse_write style' rules' cs' ps' fs' k' w' in
      (cc, cc, cc, cc, cc)
