-- The code's answers against the taken ones: what a position says of the text that is left. Assumes nothing.
use Prim.Native.Nat.{ℕ, zero, suc, ◌+◌, ◌-◌, ◌≤◌, ◌<◌}
use native.Mathlib.Omega.{arith}
use mathlib.Core.Path.{◌≡◌, refl, sym, ap, ◌∙◌}
use mathlib.Core.List.{List, [], ◌∷◌, ◌++◌}
use lib.ListN.{length, drop, length-append, length-drop}
use lib.IntN.{ℤ, pos, neg_ℤ}
use lib.Seq.{drop-drop, drop-append_seam}
use Rattle.lines.specs.Decimal.{limit, InRange, number, line_of}
use Rattle.lines.specs.Line.{Taken, taken, refused, read_magnitude, positive, negative, taken_in, read_number, read_line, after_key}
use Rattle.std.specs.Prelude.{Some, None}
use Rattle.std.proofs.lemmas.Option.{some_pair_parts}
use Rattle.lines.proofs.Reading.{number_none_at, minus_at, plain_at, there, missing, keyed}
use Rattle.lines.proofs.Grammar.{magnitude_sound, read_write, write_read}

module _ {A : Type 0} where
  pub taken_is : (n : ℕ) (q : Taken A) (v : A) (p : ℕ) → taken_in n q ≡ Some (v, p) → (r : List ℕ) × (q ≡ taken v r) × (n - length r ≡ p)
  taken_is n (taken w r) v p e = let (a, b) = some_pair_parts w v (n - length r) p e in (r, cc, b)
  taken_is n refused v p e = cc

  pub refused_is : (n : ℕ) (q : Taken A) → taken_in n q ≡ None → q ≡ refused
  refused_is n (taken v r) e = cc
  refused_is n refused e = refl

module _ (n : ℕ) (s : List ℕ) (m p : ℕ) (e : taken_in n (read_magnitude s) ≡ Some (m, p)) where
  pub magnitude_small : m ≤ limit
  magnitude_small = let q = taken_is n (read_magnitude s) m p e in (magnitude_sound s m q.0 q.1).0

  pub positive_some : taken_in n (positive (read_magnitude s)) ≡ Some (pos m, p)
  positive_some = let q = taken_is n (read_magnitude s) m p e in rw (q.1, q.2)

pub negative_some : (n : ℕ) (s : List ℕ) (m p : ℕ) → taken_in n (read_magnitude s) ≡ Some (m, p) → (m ≡ 0 → ⊥) → taken_in n (negative (read_magnitude s)) ≡ Some (neg_ℤ (pos m), p)
negative_some n s zero p e h = absurd (h refl)
negative_some n s (suc m) p e h = let q = taken_is n (read_magnitude s) (suc m) p e in rw (q.1, q.2)

pub negative_zero : (n : ℕ) (s : List ℕ) (m p : ℕ) → taken_in n (read_magnitude s) ≡ Some (m, p) → m ≡ 0 → taken_in n (negative (read_magnitude s)) ≡ None
negative_zero n s zero p e h = let q = taken_is n (read_magnitude s) zero p e in rw q.1
negative_zero n s (suc m) p e h = absurd (omega arith)

module _ (n : ℕ) (q : Taken ℕ) (e : taken_in n q ≡ None) where
  pub positive_none : taken_in n (positive q) ≡ None
  positive_none = rw (refused_is n q e)

  pub negative_none : taken_in n (negative q) ≡ None
  negative_none = rw (refused_is n q e)

pub ruleset number_at =
    (number_none_at, minus_at, plain_at, magnitude_small, positive_some, negative_some, negative_zero, positive_none, negative_none)

-- ---- a line at a position of a text

pub rest_at : (text : List ℕ) (at : ℕ) (s r : List ℕ) → drop at text ≡ s ++ r → drop (at + length s) text ≡ r
rest_at text at s r e = sym (drop-drop (length s) at text) ∙ ap (drop (length s)) e ∙ drop-append_seam s r

line_some : (key : List ℕ) (z : ℤ) → 0 < length (line_of key z)
line_some key z = omega (arith, length-append key (61 ∷ number z (10 ∷ [])))

module _ (text : List ℕ) (at : ℕ) (key : List ℕ) (z : ℤ) where
  -- where the line stands, it is read, and the position is that behind it
  pub line_placed : (r : List ℕ) → InRange z → drop at text ≡ line_of key z ++ r → taken_in (length text) (read_line key (drop at text)) ≡ Some (z, at + length (line_of key z))
  line_placed r h e =
      let l : length text - length r ≡ at + length (line_of key z) =
      omega (arith, line_some key z, ap length e, length-drop at text, length-append (line_of key z) r) in
      rw (e, read_write key z r h) (ap (λ (k : ℕ). Some (z, k)) l)

  -- and what is read stands there: the text behind it starts at the position
  pub line_found : (p : ℕ) → taken_in (length text) (read_line key (drop at text)) ≡ Some (z, p) → InRange z × (p ≡ at + length (line_of key z)) × (drop at text ≡ line_of key z ++ drop p text)
  line_found p e =
      let q = taken_is (length text) (read_line key (drop at text)) z p e in
      let w = write_read key (drop at text) z q.0 q.1 in
      let l : p ≡ at + length (line_of key z) =
      omega (arith, line_some key z, q.2, ap length w.1, length-drop at text, length-append (line_of key z) q.0) in
      let r : drop p text ≡ q.0 = ap (λ k. drop k text) l ∙ rest_at text at (line_of key z) q.0 w.1 in
      (w.0, l, rw r w.1)

  -- a parser goes on at the position
  pub line_rest : (p : ℕ) → taken_in (length text) (read_line key (drop at text)) ≡ Some (z, p) → (p ≤ length text) × (read_line key (drop at text) ≡ taken z (drop p text))
  line_rest p e =
      let f = line_found p e in
      (omega (arith, (taken_is (length text) (read_line key (drop at text)) z p e).2), rw f.2 (read_write key z (drop p text) f.0))

-- ---- a key at a position of a text

module _ (text : List ℕ) (at : ℕ) (key : List ℕ) where
  -- from the position that is answered the line's number is read
  pub key_after : (p : ℕ) → after_key text at key ≡ Some p → read_line key (drop at text) ≡ read_number (drop p text)
  key_after p e =
      elim (keyed key (drop at text)) [
        | there h q ↦
            let e' : Some (at + length key + 1) ≡ Some p = rw h at e in
            let l' : at + length key + 1 ≡ p = cc in
            let l : at + (length key + 1) ≡ p = omega arith in
            q ∙ ap read_number (drop-drop (length key + 1) at text ∙ ap (λ (n : ℕ). drop n text) l)
        | missing h q ↦ let e' : None ≡ Some p = rw h at e in cc
      ]

  -- and a line without its key is refused
  pub key_missing : after_key text at key ≡ None → read_line key (drop at text) ≡ refused
  key_missing e =
      elim (keyed key (drop at text)) [
        | there h q ↦
            let e' : Some (at + length key + 1) ≡ None = rw h at e in
            cc
        | missing h q ↦ q
      ]
