-- The lines of a block's rows are the writing of their numbers in a form, a line to a field; so they are read as a form's records are.
--     rows_written     the writing of so many rows
--     rows_read        reading it gives the numbers back, with any text behind it
-- Assumes nothing.
use mathlib.Core.Path.{◌≡◌, refl, sym, ap, ap₂, ◌∙◌}
use mathlib.Core.Bool.{true}
use mathlib.Core.List.{List, [], ◌∷◌, ◌++◌, append_assoc}
use Prim.Native.Nat.{ℕ, zero, suc, ◌+◌, ◌*◌}
use native.Mathlib.Nat.{suc-mul}
use native.Mathlib.Omega.{arith}
use lib.IntN.{ℤ}
use lib.ListN.{length, get_or, length-append}
use lib.Seq.{get_or-append-add}
use Rattle.std.proofs.lemmas.Nat.{mod-mul-add}
use Rattle.lines.specs.Decimal.{number, line_of}
use Rattle.forms.specs.Form.{times, field_text, write_fields, write_records, got, read_records, AllInRange, form_test}
use Rattle.forms.specs.Tables.{field, keyed}
use Rattle.forms.proofs.Grammar.{records_write}
use Rattle.blocks.specs.Lines.{field_key, field_lines}

keyed_length : (keys : List (List ℕ)) → length (keyed keys) ≡ length keys
keyed_length [] = refl
keyed_length (key ∷ keys) = ap suc (keyed_length keys)

line_is : (key : List ℕ) (z : ℤ) → line_of key z ≡ field_text (field (key ++ 61 ∷ []) 10) z
line_is key z = sym (append_assoc key (61 ∷ []) (number z (10 ∷ [])))

module _ (keys : List (List ℕ)) where
  -- the lines of the keys `left` of row r, and of n rows behind it
  from_key : (n r : ℕ) → ((zs : List ℤ) → length zs ≡ n * length keys → field_lines keys (suc r * length keys) zs ≡ write_records (keyed keys) n zs)
      → (before left : List (List ℕ)) → keys ≡ before ++ left → (zs : List ℤ) → length zs ≡ length left + n * length keys
      → field_lines keys (r * length keys + length before) zs ≡ write_fields (keyed left ++ times n (keyed keys)) zs
  unfolding field_lines write_fields
  from_key n r behind before [] e zs l =
      let w : length keys ≡ length before = omega (arith, ap length e, length-append before []) in
      let k : r * length keys + length before ≡ suc r * length keys = rw suc-mul (omega (arith, w)) in
      rw k (behind zs (omega (arith, l)))
  from_key n r behind before (key ∷ left) e [] l = absurd (omega arith)
  from_key n r behind before (key ∷ left) e (z ∷ zs) l =
      let j = length before in
      let w : length keys ≡ j + suc (length left) = omega (arith, ap length e, length-append before (key ∷ left)) in
      let here : field_key keys (r * length keys + j) ≡ key =
      ap (λ (m : ℕ). get_or keys m []) (mod-mul-add r (length keys) j (omega arith))
      ∙ ap (λ (ks : List (List ℕ)). get_or ks j []) e
      ∙ first_behind before (key ∷ left) in
      let next : suc (r * length keys + j) ≡ r * length keys + length (before ++ (key ∷ [])) = omega (arith, length-append before (key ∷ [])) in
      let rest = from_key n r behind (before ++ (key ∷ [])) left (e ∙ sym (append_assoc before (key ∷ []) left)) zs (omega arith) in
      ap₂ ◌++◌ (ap (λ (k : List ℕ). line_of k z) here ∙ line_is key z) (ap (λ (m : ℕ). field_lines keys m zs) next ∙ rest)
    where
      first_behind : (before after : List (List ℕ)) → get_or (before ++ after) (length before) [] ≡ get_or after 0 []
      first_behind before after = let z : length before + 0 ≡ length before = omega arith in rw z at (get_or-append-add before after 0 [])

  from_row : (n r : ℕ) (zs : List ℤ) → length zs ≡ n * length keys → field_lines keys (r * length keys) zs ≡ write_records (keyed keys) n zs
  unfolding times field_lines write_fields
  from_row zero r [] l = refl
  from_row zero r (z ∷ zs) l = absurd (omega arith)
  from_row (suc n) r zs l =
      let k : r * length keys + 0 ≡ r * length keys = omega arith in
      let c : length zs ≡ length keys + n * length keys = l ∙ rw suc-mul (omega arith) in
      rw k at (from_key n r (from_row n (suc r)) [] keys refl zs c)

  pub rows_written : (n : ℕ) (zs : List ℤ) → length zs ≡ n * length keys → field_lines keys 0 zs ≡ write_records (keyed keys) n zs
  rows_written n zs l = let z : 0 * length keys ≡ 0 = omega arith in rw z at (from_row n 0 zs l)

  pub rows_read : form_test (keyed keys) ≡ true → (n : ℕ) (zs : List ℤ) (rest : List ℕ) → length zs ≡ n * length keys → AllInRange zs
      → read_records (keyed keys) n 0 (field_lines keys 0 zs ++ rest) ≡ got zs rest
  rows_read good n zs rest l small =
      rw (rows_written n zs l) (records_write (keyed keys) good n 0 zs rest (l ∙ ap (λ (w : ℕ). n * w) (sym (keyed_length keys))) small)
