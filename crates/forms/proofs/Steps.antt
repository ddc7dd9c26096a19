-- A run of fields at a position of a text, field by field and record by record.
--     Passed                   the fields before `rest` gave these numbers
--     start, step, fails, ends none at first, one field more, a field that is refused, all fields
--     steps, fails_in          the same with a record
--     field_accepted           where every field is as it must be, the next one is
-- Assumes nothing.
use Prim.Native.Nat.{ℕ, suc, ◌+◌, ◌-◌, ◌*◌, ◌≤◌, ◌<◌}
use native.Mathlib.Nat.{add-mul, mul-le-mul_right}
use native.Mathlib.Omega.{arith}
use mathlib.Core.Path.{◌≡◌, refl, sym, ap, subst, ◌∙◌}
use mathlib.Core.Bool.{Bool, true, false, cond}
use mathlib.Core.Logic.{◌⊎◌, inl, inr, ⊎_elim}
use mathlib.Core.List.{List, [], ◌∷◌, ◌++◌, append_assoc, append-nil}
use lib.Dec.{eqb}
use lib.IntN.{ℤ}
use lib.ListN.{length, get_or, take, drop, length-append, length-take, length-drop}
use lib.Seq.{take-length}
use Rattle.std.specs.Prelude.{Some, None}
use Rattle.lines.specs.Line.{Taken, taken, refused, Accepted, taken_in}
use Rattle.lines.proofs.Placed.{refused_is}
use Rattle.forms.specs.Numbers.{Ends}
use Rattle.forms.specs.Form.{Field, times, read_field, Fields, got, stop, after, onward, line_after, read_fields, lines_of}
use Rattle.forms.specs.Places.{AllRead, field_of, fields_of}
use Rattle.forms.specs.declared.Field as code
use Rattle.std.proofs.lemmas.List.{length-map}
use Rattle.forms.proofs.Grammar.{append_lines, times_length, fields_sound}
use Rattle.forms.proofs.Held.{fields_turn, fields_none, lines_rest}
use Rattle.forms.proofs.Fields.{field_rest}

-- numbers that were read before
abbrev behind : List ℤ → Fields → Fields
behind zs (got ys s) = got (zs ++ ys) s
behind zs (stop k) = stop k

behind_after : (before : List ℤ) (z : ℤ) (f : Fields) → behind before (after z f) ≡ behind (before ++ (z ∷ [])) f
behind_after before z (got ys s) = ap (λ l. got l s) (sym (append_assoc before (z ∷ []) ys))
behind_after before z (stop k) = refl

behind_nil : (f : Fields) → behind [] f ≡ f
behind_nil (got ys s) = refl
behind_nil (stop k) = refl

behind_behind : (xs ys : List ℤ) (f : Fields) → behind xs (behind ys f) ≡ behind (xs ++ ys) f
behind_behind xs ys (got zs s) = ap (λ l. got l s) (sym (append_assoc xs ys zs))
behind_behind xs ys (stop k) = refl

after_behind : (z : ℤ) (ys : List ℤ) (f : Fields) → after z (behind ys f) ≡ behind (z ∷ ys) f
after_behind z ys (got zs s) = refl
after_behind z ys (stop k) = refl

-- ---- one field

module _ (f : Field) (fs : List Field) (line : ℕ) (s : List ℕ) where
  turn : read_fields (f ∷ fs) line s ≡ onward line (read_field f s) (read_fields fs (line_after f line))
  unfolding read_fields
  turn = refl

  line_turn : line_after f line + lines_of fs ≡ line + lines_of (f ∷ fs)
  unfolding lines_of
  line_turn = go (eqb f.ending 10)
    where
      go : (b : Bool) → cond b (suc line) line + lines_of fs ≡ line + cond b (suc (lines_of fs)) (lines_of fs)
      go true = omega arith
      go false = refl

-- ---- the fields of a record, and those after it

first_taken : (f : Field) (fs : List Field) (line : ℕ) (s : List ℕ) (z : ℤ) (r : List ℕ) → read_field f s ≡ taken z r
    → read_fields (f ∷ fs) line s ≡ after z (read_fields fs (line_after f line) r)
first_taken f fs line s z r e = turn f fs line s ∙ rw e

first_refused : (f : Field) (fs : List Field) (line : ℕ) (s : List ℕ) → read_field f s ≡ refused → read_fields (f ∷ fs) line s ≡ stop line
first_refused f fs line s e = turn f fs line s ∙ rw e

-- what the first fields gave, and the others behind them
abbrev joined : List Field → ℕ → Fields → Fields
joined gs line (got zs r) = behind zs (read_fields gs line r)
joined gs line (stop k) = stop k

joined_after : (gs : List Field) (line : ℕ) (z : ℤ) (f : Fields) → joined gs line (after z f) ≡ after z (joined gs line f)
joined_after gs line z (got zs r) = sym (after_behind z zs (read_fields gs line r))
joined_after gs line z (stop k) = refl

pub fields_append : (fs gs : List Field) (line : ℕ) (s : List ℕ) → read_fields (fs ++ gs) line s ≡ joined gs (line + lines_of fs) (read_fields fs line s)
unfolding read_fields lines_of
fields_append [] gs line s = let e : line + 0 ≡ line = omega arith in rw e (sym (behind_nil (read_fields gs line s)))
fields_append (f ∷ fs) gs line s = go (read_field f s) refl (λ r. fields_append fs gs (line_after f line) r)
  where
    go : (q : Taken ℤ) → read_field f s ≡ q
        → ((r : List ℕ) → read_fields (fs ++ gs) (line_after f line) r ≡ joined gs (line_after f line + lines_of fs) (read_fields fs (line_after f line) r))
        → read_fields ((f ∷ fs) ++ gs) line s ≡ joined gs (line + lines_of (f ∷ fs)) (read_fields (f ∷ fs) line s)
    go (taken z r) e h =
        first_taken f (fs ++ gs) line s z r e
        ∙ ap (after z) (h r)
        ∙ sym (joined_after gs (line_after f line + lines_of fs) z (read_fields fs (line_after f line) r))
        ∙ ap (λ (l : ℕ). joined gs l (after z (read_fields fs (line_after f line) r))) (line_turn f fs line s)
        ∙ ap (joined gs (line + lines_of (f ∷ fs))) (sym (first_taken f fs line s z r e))
    go refused e h = first_refused f (fs ++ gs) line s e ∙ ap (joined gs (line + lines_of (f ∷ fs))) (sym (first_refused f fs line s e))

pub lines_most : (fs : List Field) → lines_of fs ≤ length fs
unfolding lines_of
lines_most [] = omega arith
lines_most (f ∷ fs) = go (eqb f.ending 10) (lines_most fs)
  where
    go : (b : Bool) → lines_of fs ≤ length fs → cond b (suc (lines_of fs)) (lines_of fs) ≤ suc (length fs)
    go true h = omega arith
    go false h = omega arith

-- ---- the run

accepted_or : (q : Taken ℤ) → Accepted q ⊎ (q ≡ refused)
accepted_or (taken z s) = inl tt
accepted_or refused = inr refl

module _ (fs : List Field) (text : List ℕ) (at line : ℕ) where
  -- the fields before `rest`, which is at p and line l, gave `before`: what is left gives what the whole gives
  pub record Passed (rest : List Field) (l p : ℕ) (before : List ℤ) : Type 0 where
    pub placed : p ≤ length text
    pub count : length before + length rest ≡ length fs
    pub lines : l + lines_of rest ≡ line + lines_of fs
    pub whole : behind before (read_fields rest l (drop p text)) ≡ read_fields fs line (drop at text)

  pub start : at ≤ length text → Passed fs line at []
  start h = record { placed = h; count = omega arith; lines = refl; whole = behind_nil (read_fields fs line (drop at text)) }

  module _ {f : Field} {rest : List Field} {l p : ℕ} {before : List ℤ} (s : Passed (f ∷ rest) l p before) where
    -- a field was read
    pub step : Ends f.ending → (z : ℤ) (q : ℕ) → taken_in (length text) (read_field f (drop p text)) ≡ Some (z, q)
        → Passed rest (line_after f l) q (before ++ (z ∷ []))
    step good z q e =
        let t = field_rest text p f good z q e in
        record {
          placed = t.0;
          count = rw (length-append before (z ∷ [])) (omega (arith, s.count));
          lines = line_turn f rest l (drop p text) ∙ s.lines;
          whole =
              sym (behind_after before z (read_fields rest (line_after f l) (drop q text)))
              ∙ ap (behind before) (sym (first_taken f rest l (drop p text) z (drop q text) t.1))
              ∙ s.whole;
        }

    -- a field was refused
    pub fails : taken_in (length text) (read_field f (drop p text)) ≡ None → read_fields fs line (drop at text) ≡ stop l
    fails e =
        let q = refused_is (length text) (read_field f (drop p text)) e in
        sym s.whole ∙ ap (behind before) (first_refused f rest l (drop p text) q)

    -- where every field is as it must be, the next one is
    pub field_accepted : AllRead (read_fields fs line (drop at text)) → Accepted (read_field f (drop p text))
    field_accepted a =
        ⊎_elim
        (λ t. t)
        (λ e. absurd (subst AllRead (fails (ap (taken_in (length text)) e)) a))
        (accepted_or (read_field f (drop p text)))

  module _ (form rest : List Field) {l p : ℕ} {before : List ℤ} (s : Passed (form ++ rest) l p before) where
    -- a record was read
    pub steps : (zs : List ℤ) (q : ℕ) → q ≤ length text → read_fields form l (drop p text) ≡ got zs (drop q text)
        → Passed rest (l + lines_of form) q (before ++ zs)
    steps zs q h e =
        let n = (fields_sound form l (drop p text) zs (drop q text) e).0 in
        let t : read_fields (form ++ rest) l (drop p text) ≡ behind zs (read_fields rest (l + lines_of form) (drop q text)) =
        fields_append form rest l (drop p text) ∙ ap (joined rest (l + lines_of form)) e in
        record {
          placed = h;
          count = rw (length-append before zs) (omega (arith, s.count, length-append form rest));
          lines = omega (arith, s.lines, append_lines form rest);
          whole = sym (behind_behind before zs (read_fields rest (l + lines_of form) (drop q text))) ∙ ap (behind before) (sym t) ∙ s.whole;
        }

    -- a record was refused
    pub fails_in : (k : ℕ) → read_fields form l (drop p text) ≡ stop k → read_fields fs line (drop at text) ≡ stop k
    fails_in k e =
        sym s.whole ∙ ap (behind before) (fields_append form rest l (drop p text) ∙ ap (joined rest (l + lines_of form)) e)

    -- where every field is as it must be, the record is
    pub record_accepted : AllRead (read_fields fs line (drop at text)) → AllRead (read_fields form l (drop p text))
    record_accepted a = go (read_fields form l (drop p text)) refl
      where
        go : (x : Fields) → read_fields form l (drop p text) ≡ x → AllRead x
        go (got zs r) e = tt
        go (stop k) e = absurd (subst AllRead (fails_in k e) a)

  -- every field was read
  pub ends : {l p : ℕ} {before : List ℤ} → Passed [] l p before → read_fields fs line (drop at text) ≡ got before (drop p text)
  unfolding read_fields
  ends {l} {p} {before} s = sym s.whole ∙ rw (append-nil before)

-- nothing is left
pub none_left : {m n : ℕ} → m + 0 ≡ n → m ≡ n
none_left e = omega arith

-- ---- records

pub times_turn : (form : List Field) (count k : ℕ) → k < count → times (count - k) form ≡ form ++ times (count - (k + 1)) form
unfolding times
times_turn form count k h =
    let e : count - k ≡ suc (count - (k + 1)) = omega arith in
    rw e

pub times_none : (form : List Field) (n k : ℕ) → n ≤ k → times (n - k) form ≡ []
unfolding times
times_none form n k h = let e : n - k ≡ 0 = omega arith in rw e

module _ (form : List Field) (text : List ℕ) (at line n : ℕ) where
  -- k records were read
  abbrev pub Come : ℕ → ℕ → List ℤ → Type 0
  Come k p before = Passed (times n form) text at line (times (n - k) form) (line + k * lines_of form) p before

  pub records_start : at ≤ length text → Come 0 at []
  records_start h =
      let z : n - 0 ≡ n = omega arith in
      let l : line + 0 * lines_of form ≡ line = omega arith in
      rw (z, l) (start (times n form) text at line h)

  -- where record k begins
  abbrev pub here : ℕ → ℕ
  here k = line + k * lines_of form

  module _ (k : ℕ) {p : ℕ} {before : List ℤ} (s : Come k p before) (h : k < n) where
    apart : Passed (times n form) text at line (form ++ times (n - (k + 1)) form) (here k) p before
    apart = rw times_turn at s

    pub record_step : (zs : List ℤ) (q : ℕ) → q ≤ length text → read_fields form (here k) (drop p text) ≡ got zs (drop q text) → Come (k + 1) q (before ++ zs)
    record_step zs q w e =
        let l : line + k * lines_of form + lines_of form ≡ line + (k + 1) * lines_of form = omega arith in
        rw l at (steps (times n form) text at line form (times (n - (k + 1)) form) apart zs q w e)

    pub record_fails : (j : ℕ) → read_fields form (here k) (drop p text) ≡ stop j → read_fields (times n form) line (drop at text) ≡ stop j
    record_fails j e = fails_in (times n form) text at line form (times (n - (k + 1)) form) apart j e

    pub record_known : AllRead (read_fields (times n form) line (drop at text)) → AllRead (read_fields form (here k) (drop p text))
    record_known a = record_accepted (times n form) text at line form (times (n - (k + 1)) form) apart a

  -- as many numbers as fields
  pub records_count : (k : ℕ) {p : ℕ} {before : List ℤ} → Come k p before → k ≤ n → length before ≡ k * length form
  records_count k s h =
      let i : n ≡ k + (n - k) = omega arith in
      let d : n * length form ≡ k * length form + (n - k) * length form = ap (λ (m : ℕ). m * length form) i ∙ add-mul k (n - k) (length form) in
      omega (arith, s.count, times_length n form, times_length (n - k) form, d)

  pub records_end : (k : ℕ) {p : ℕ} {before : List ℤ} → Come k p before → n ≤ k
      → (length before ≡ length (times n form)) × (p ≤ length text) × (read_fields (times n form) line (drop at text) ≡ got before (drop p text))
  records_end k {p} {before} s h =
      let t : Passed (times n form) text at line [] (line + k * lines_of form) p before = rw times_none at s in
      (none_left t.count, t.placed, ends (times n form) text at line t)

pub all_read : {f : Fields} (zs : List ℤ) (s : List ℕ) → f ≡ got zs s → AllRead f
all_read zs s e = rw e tt

-- ---- the numbers do not depend on the line

after_some : (z : ℤ) (f g : Fields) (zs : List ℤ) (r : List ℕ) → ((ys : List ℤ) → f ≡ got ys r → g ≡ got ys r) → after z f ≡ got zs r → after z g ≡ got zs r
after_some z (got ys s) g zs r h e =
    let k : s ≡ r = cc in
    rw (h ys (ap (λ (t : List ℕ). got ys t) k)) (ap (λ (t : List ℕ). got (z ∷ ys) t) (sym k) ∙ e)
after_some z (stop k) g zs r h e = cc

pub any_line : (fs : List Field) (l m : ℕ) (s : List ℕ) (zs : List ℤ) (r : List ℕ) → read_fields fs l s ≡ got zs r → read_fields fs m s ≡ got zs r
unfolding read_fields
any_line [] l m s zs r e = e
any_line (f ∷ fs) l m s zs r e = go (read_field f s) (λ t ys. any_line fs (line_after f l) (line_after f m) t ys r) e
  where
    go : (q : Taken ℤ) → ((t : List ℕ) (ys : List ℤ) → read_fields fs (line_after f l) t ≡ got ys r → read_fields fs (line_after f m) t ≡ got ys r)
        → onward l q (read_fields fs (line_after f l)) ≡ got zs r → onward m q (read_fields fs (line_after f m)) ≡ got zs r
    go (taken z t) h e = after_some z (read_fields fs (line_after f l) t) (read_fields fs (line_after f m) t) zs r (h t) e
    go refused h e = cc

pub read_any_line : (fs : List Field) (l m : ℕ) (s : List ℕ) → AllRead (read_fields fs l s) → AllRead (read_fields fs m s)
read_any_line fs l m s a = go (read_fields fs l s) refl a
  where
    go : (x : Fields) → read_fields fs l s ≡ x → AllRead x → AllRead (read_fields fs m s)
    go (got zs r) e a = all_read zs r (any_line fs l m s zs r e)
    go (stop k) e a = absurd a

-- ---- a run of the fields that the code holds

module _ (form : List code.Field) (text : List ℕ) (at line k : ℕ) {m p : ℕ} {before : List ℤ}
    (s : Passed (fields_of form) text at line (fields_of (drop k form)) m p before) where
  -- field k is the first of those that are left
  pub turned : (d : code.Field) → k < length form
      → Passed (fields_of form) text at line (field_of (get_or form k d) ∷ fields_of (drop (k + 1) form)) m p before
  turned d h = subst (λ (fs : List Field). Passed (fields_of form) text at line fs m p before) (fields_turn form k d h) s

  -- at the line behind those before it
  pub line_here : m ≡ line + lines_of (fields_of (take k form))
  line_here = omega (arith, s.lines, lines_rest form k)

  -- as many numbers as fields
  pub before_count : k ≤ length form → length before ≡ k
  before_count h =
      omega (arith, s.count, length-map (drop k form) field_of, length-drop k form, length-map form field_of)

  -- none is left
  pub finished : length form ≤ k → Passed (fields_of form) text at line [] m p before
  finished h = subst (λ (fs : List Field). Passed (fields_of form) text at line fs m p before) (fields_none form k h) s

pub lines_few : (form : List code.Field) (k : ℕ) → lines_of (fields_of (take k form)) ≤ length form
lines_few form k = omega (arith, lines_most (fields_of (take k form)), length-map (take k form) field_of, length-take k form)

-- a record before the last has room where all have
pub front_room : (k n w room : ℕ) → k < n → n * w ≤ room → k * w ≤ room
front_room k n w room h l = let a : k * w ≤ n * w = mul-le-mul_right w (let i : k ≤ n = omega arith in i) in omega arith

-- a line of record k has room where one of the last has
pub line_room : (k n lines w line top : ℕ) → k < n → lines ≤ w → line + n * w + w < top → line + k * lines + w < top
line_room k n lines w line top h l r =
    let a : k * lines ≤ n * lines = mul-le-mul_right lines (let i : k ≤ n = omega arith in i) in
    let b : lines * n ≤ w * n = mul-le-mul_right n l in
    omega arith

-- the lines of all fields
pub all_lines : (form : List code.Field) (n : ℕ) → n ≡ lines_of (fields_of (take (length form) form)) → (n ≡ lines_of (fields_of form)) × (n ≤ length form)
all_lines form n e = (e ∙ ap (λ fs. lines_of (fields_of fs)) (take-length form), omega (arith, e, lines_few form (length form)))
