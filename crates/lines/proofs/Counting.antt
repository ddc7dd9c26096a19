-- The line of a count: a number with no minus is a magnitude, and the text goes on behind it. Assumes nothing.
use Prim.Native.Nat.{ℕ, zero, suc, ◌≤◌, ◌<◌}
use native.Mathlib.Omega.{arith}
use mathlib.Core.Path.{◌≡◌, refl, sym, ap, ◌∙◌}
use mathlib.Core.Logic.{⊎_elim}
use mathlib.Core.List.{List, [], ◌∷◌}
use lib.IntN.{ℤ, pos, negsuc}
use lib.ListN.{length, drop, length-drop}
use borrow.Author.Tests.{eq-eqb, ne_eqb}
use Rattle.lines.specs.Line.{Taken, taken, refused, read_magnitude, positive, negative, read_number, read_line, after_key, natural, taken_in}
use Rattle.std.specs.Prelude.{Some, None}
use Rattle.lines.proofs.Digits.{same_or}
use Rattle.lines.proofs.Reading.{digit_low, magnitude_other, key_long}
use Rattle.lines.proofs.Placed.{taken_is, line_rest, key_after, key_missing}

natural_positive : (q : Taken ℕ) → natural (positive q) ≡ q
natural_positive (taken n r) = refl
natural_positive refused = refl

natural_negative : (q : Taken ℕ) → natural (negative q) ≡ refused
natural_negative (taken zero r) = refl
natural_negative (taken (suc n) r) = refl
natural_negative refused = refl

pub natural_number : (s : List ℕ) → natural (read_number s) ≡ read_magnitude s
unfolding read_number read_magnitude
natural_number [] = refl
natural_number (b ∷ bs) =
    ⊎_elim
    (λ e. rw (eq-eqb b 45 e) (natural_negative (read_magnitude bs) ∙ sym (magnitude_other b bs (λ z. omega arith) (digit_low b (omega arith)))))
    (λ n. rw (ne_eqb b 45 n) (natural_positive (read_magnitude (b ∷ bs))))
    (same_or b 45)

-- behind the key the line goes on as a magnitude
module _ (text : List ℕ) (at : ℕ) (key : List ℕ) where
  pub count_after : (p : ℕ) → after_key text at key ≡ Some p → natural (read_line key (drop at text)) ≡ read_magnitude (drop p text)
  count_after p e = ap natural (key_after text at key p e) ∙ natural_number (drop p text)

  pub count_missing : after_key text at key ≡ None → natural (read_line key (drop at text)) ≡ refused
  count_missing e = ap natural (key_missing text at key e)

  pub count_behind : length text < at → natural (read_line key (drop at text)) ≡ refused
  unfolding read_line
  count_behind h = rw (key_long key (drop at text) (omega (arith, length-drop at text)))

pub ruleset count_at = (count_after, count_missing, count_behind)

pub natural_taken : (q : Taken ℤ) (n : ℕ) (r : List ℕ) → natural q ≡ taken n r → q ≡ taken (pos n) r
natural_taken (taken (pos m) s) n r e = cc
natural_taken (taken (negsuc m) s) n r e = cc
natural_taken refused n r e = cc

pub count_rest : (text key : List ℕ) (at n p : ℕ) → taken_in (length text) (natural (read_line key (drop at text))) ≡ Some (n, p)
    → (p ≤ length text) × (natural (read_line key (drop at text)) ≡ taken n (drop p text))
count_rest text key at n p e =
    let q = taken_is (length text) (natural (read_line key (drop at text))) n p e in
    let t = natural_taken (read_line key (drop at text)) n q.0 q.1 in
    let v : taken_in (length text) (read_line key (drop at text)) ≡ Some (pos n, p) = rw (t, q.2) in
    let r = line_rest text at key (pos n) p v in
    (r.0, ap natural r.1)
