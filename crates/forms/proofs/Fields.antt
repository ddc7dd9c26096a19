-- A field at a position of a text: its prefix, the number behind it, and the text that is left. Assumes nothing.
use Prim.Native.Nat.{ℕ, ◌+◌, ◌≤◌}
use native.Mathlib.Omega.{arith}
use mathlib.Core.Path.{◌≡◌, refl, sym, ap, subst, ◌∙◌}
use mathlib.Core.Bool.{true, false}
use mathlib.Core.List.{List, [], ◌∷◌}
use lib.Dec.{eqb}
use lib.IntN.{ℤ}
use lib.ListN.{length, take, drop, length-append, length-drop}
use lib.Seq.{drop-drop}
use Rattle.std.specs.Prelude.{Some}
use Rattle.std.specs.Cmp.Lexicographic.{pointwise}
use Rattle.lines.specs.Line.{taken, refused, Accepted, taken_in}
use Rattle.lines.proofs.Reading.{from, from_is, eqb_comm}
use Rattle.lines.proofs.Placed.{taken_is, rest_at}
use Rattle.forms.specs.Numbers.{number_until, Ends}
use Rattle.forms.specs.Form.{Field, field_text, has_prefix, read_field}
use Rattle.forms.proofs.Grammar.{there, missing, prefixed, field_sound, field_size}

-- ---- the prefix

pub prefix_parts : (key s : List ℕ) → has_prefix key s ≡ pointwise eqb key (take (length key) s)
unfolding has_prefix
prefix_parts [] s = refl
prefix_parts (k ∷ ks) [] = refl
prefix_parts (k ∷ ks) (b ∷ bs) = rw (eqb_comm b k, prefix_parts ks bs)

module _ (text : List ℕ) (at : ℕ) (f : Field) where
  -- from behind the prefix the field's number is read
  pub field_at : pointwise eqb f.prefix (take (length f.prefix) (from text at)) ≡ true
      → read_field f (drop at text) ≡ number_until f.ending (drop (at + length f.prefix) text)
  unfolding read_field
  field_at e =
      rw (prefix_parts f.prefix (drop at text), rw (from_is text at) at e) (ap (number_until f.ending) (drop-drop (length f.prefix) at text))

  pub no_field_at : pointwise eqb f.prefix (take (length f.prefix) (from text at)) ≡ false → read_field f (drop at text) ≡ refused
  unfolding read_field
  no_field_at e = rw (prefix_parts f.prefix (drop at text), rw (from_is text at) at e)

  -- an accepted field has its prefix
  pub field_known : Accepted (read_field f (drop at text))
      → (read_field f (drop at text) ≡ number_until f.ending (drop (at + length f.prefix) text))
      × Accepted (number_until f.ending (drop (at + length f.prefix) text))
  field_known a =
      elim (prefixed f (drop at text)) [
        | there h q ↦
            let r : read_field f (drop at text) ≡ number_until f.ending (drop (at + length f.prefix) text) =
            q ∙ ap (number_until f.ending) (drop-drop (length f.prefix) at text) in
            (r, subst Accepted r a)
        | missing h q ↦ absurd (subst Accepted q a)
      ]

  -- what is read stands there, and a reader goes on behind it
  pub field_rest : Ends f.ending → (z : ℤ) (p : ℕ) → taken_in (length text) (read_field f (drop at text)) ≡ Some (z, p)
      → (p ≤ length text) × (read_field f (drop at text) ≡ taken z (drop p text))
  field_rest good z p e =
      let q = taken_is (length text) (read_field f (drop at text)) z p e in
      let w = field_sound f (drop at text) z q.0 q.1 in
      let l : p ≡ at + length (field_text f z) =
      omega (arith, field_size f z, q.2, ap length w.1, length-drop at text, length-append (field_text f z) q.0) in
      let r : drop p text ≡ q.0 = ap (λ k. drop k text) l ∙ rest_at text at (field_text f z) q.0 w.1 in
      (omega (arith, q.2), q.1 ∙ ap (taken z) (sym r))

pub ruleset fields_at = (field_at, no_field_at)
