-- The lines before a sheet's lists, by what the code reads of them. Assumes nothing.
use Prim.Native.Nat.{ℕ, ◌+◌, ◌≤◌}
use native.Mathlib.Numerals.{add-one}
use mathlib.Core.Path.{◌≡◌, refl, sym, ap}
use mathlib.Core.Bool.{Bool, true, false, cond, false≢true}
use mathlib.Core.List.{List}
use lib.IntN.{ℤ, pos, negsuc}
use lib.Signed.{lt_z}
use lib.ListN.{length}
use borrow.Author.Tests.{ltb-false, le-leb, ne_eqb}
use Rattle.std.specs.Prelude.{Some, None, is_some, nat_abs}
use Rattle.lines.specs.Text.{ascii}
use Rattle.lines.specs.Line.{taken, refused, has_key, read_line, after_key}
use Rattle.forms.specs.Sheet.{head, no_head, bad_line, strange_form, ruled, read_head}
use Rattle.forms.specs.declared.Style.{Style}
use Rattle.forms.specs.declared.Style.TheVariants.{Old, Short}

pub key_begins : (text key : List ℕ) → is_some (after_key text 0 key) ≡ has_key key text
key_begins text key = go (has_key key text)
  where
    go : (b : Bool) → is_some (cond b (Some (0 + length key + 1)) None) ≡ b
    go true = refl
    go false = refl

-- ---- the rules

module _ (style : Style) (most line : ℕ) (s : List ℕ) where
  pub rules_known : (z : ℤ) → lt_z z (pos 1) ≡ false → nat_abs z ≤ most → ruled style most line (taken z s) ≡ head style (nat_abs z) s (line + 1)
  rules_known (pos n) l h = rw (le-leb 1 n (ltb-false n 1 l), le-leb n most h, add-one)
  rules_known (negsuc n) l h = absurd (false≢true (sym l))

-- ---- the form

module _ (most : ℕ) (s : List ℕ) where
  pub form_unread : has_key (ascii "sheet") s ≡ true → read_line (ascii "sheet") s ≡ refused → read_head most s ≡ no_head (bad_line 0)
  unfolding read_head
  form_unread e f = rw (e, f)

  pub form_strange : has_key (ascii "sheet") s ≡ true → (z : ℤ) (r : List ℕ) → read_line (ascii "sheet") s ≡ taken z r → (z ≡ pos 2 → ⊥)
      → read_head most s ≡ no_head (strange_form 0)
  unfolding read_head
  form_strange e (pos n) r f h = rw (e, f, ne_eqb n 2 (λ i. h (ap pos i)))
  form_strange e (negsuc n) r f h = rw (e, f)

  pub form_short : has_key (ascii "sheet") s ≡ true → (r : List ℕ) → read_line (ascii "sheet") s ≡ taken (pos 2) r
      → read_head most s ≡ ruled Short most 1 (read_line (ascii "rules") r)
  unfolding read_head
  form_short e r f = rw (e, f)

  pub form_old : has_key (ascii "sheet") s ≡ false → has_key (ascii "rules") s ≡ true → read_head most s ≡ ruled Old most 0 (read_line (ascii "rules") s)
  unfolding read_head
  form_old e f = rw (e, f)

  pub form_bare : has_key (ascii "sheet") s ≡ false → has_key (ascii "rules") s ≡ false → read_head most s ≡ head Old 1 s 0
  unfolding read_head
  form_bare e f = rw (e, f)
