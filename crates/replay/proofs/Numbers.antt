-- Numbers read one after the other, at a position of a text.
--     number_rest              behind a number that was read
--     Passed                   the lines before line i gave these numbers
--     start, step, fails, ends none at first, one number more, a line that is refused, all numbers
-- Assumes nothing.
use Prim.Native.Nat.{ℕ, zero, suc, ◌+◌, ◌-◌, ◌≤◌, ◌<◌}
use native.Mathlib.Omega.{arith}
use native.Mathlib.Nat.{sub-zero}
use mathlib.Core.Path.{◌≡◌, refl, sym, ap, ◌∙◌}
use mathlib.Core.List.{List, [], ◌∷◌, ◌++◌, append_assoc, append-nil}
use lib.IntN.{ℤ}
use lib.ListN.{length, take, drop, set, length-append, length-drop}
use lib.Seq.{take-length}
use Rattle.std.proofs.lemmas.List.{take_more_set}
use Rattle.lines.proofs.Reading.{starts}
use Rattle.lines.specs.Decimal.{number}
use Rattle.lines.specs.Line.{Taken, taken, refused, read_number, has_key, read_line, taken_in}
use Rattle.std.specs.Prelude.{Some, None}
use Rattle.lines.proofs.Grammar.{write_read}
use Rattle.lines.proofs.Placed.{taken_is, refused_is, rest_at}
use Rattle.replay.specs.Recorded.{before, and_then, read_numbers}

-- a number is read as the line of an empty key
number_line : (s : List ℕ) → read_line [] (61 ∷ s) ≡ read_number s
unfolding read_line has_key
number_line s = refl

pub number_rest : (text : List ℕ) (p : ℕ) (z : ℤ) (q : ℕ) → p ≤ length text → taken_in (length text) (read_number (drop p text)) ≡ Some (z, q)
    → (q ≤ length text) × (read_number (drop p text) ≡ taken z (drop q text))
number_rest text p z q h e =
    let t = taken_is (length text) (read_number (drop p text)) z q e in
    let w = write_read [] (61 ∷ drop p text) z t.0 (number_line (drop p text) ∙ t.1) in
    let d : drop p text ≡ number z (10 ∷ []) ++ t.0 = ap (drop 1) w.1 in
    let l : q ≡ p + length (number z (10 ∷ [])) =
    omega (arith, t.2, h, ap length d, length-drop p text, length-append (number z (10 ∷ [])) t.0) in
    let r : drop q text ≡ t.0 = ap (λ k. drop k text) l ∙ rest_at text p (number z (10 ∷ [])) t.0 d in
    (omega (arith, t.2), t.1 ∙ ap (taken z) (sym r))

-- numbers that were read before
abbrev behind : List ℤ → Taken (List ℤ) → Taken (List ℤ)
behind zs (taken ys s) = taken (zs ++ ys) s
behind zs refused = refused

behind_before : (zs : List ℤ) (z : ℤ) (q : Taken (List ℤ)) → behind zs (before z q) ≡ behind (zs ++ (z ∷ [])) q
behind_before zs z (taken ys s) = ap (λ l. taken l s) (sym (append_assoc zs (z ∷ []) ys))
behind_before zs z refused = refl

behind_nil : (q : Taken (List ℤ)) → behind [] q ≡ q
behind_nil (taken ys s) = refl
behind_nil refused = refl

turn : (m : ℕ) (s : List ℕ) → 0 < m → read_numbers m s ≡ and_then (read_number s) (read_numbers (m - 1))
unfolding read_numbers
turn zero s h = absurd (omega arith)
turn (suc m) s h = let e : suc m - 1 ≡ m = omega arith in rw e

module _ (text : List ℕ) (at n : ℕ) where
  -- the lines before line i, at p, gave `zs`: what is left gives what the whole gives
  pub record Passed (i p : ℕ) (zs : List ℤ) : Type 0 where
    pub within : i ≤ n
    pub placed : p ≤ length text
    pub count : length zs ≡ i
    pub whole : behind zs (read_numbers (n - i) (drop p text)) ≡ read_numbers n (drop at text)

  pub start : at ≤ length text → Passed 0 at []
  start h = record { within = omega arith; placed = h; count = refl; whole = rw (sub-zero n) (behind_nil (read_numbers n (drop at text))) }

  pub step : {i p : ℕ} {zs : List ℤ} → Passed i p zs → i < n → (z : ℤ) (q : ℕ) → taken_in (length text) (read_number (drop p text)) ≡ Some (z, q)
      → Passed (i + 1) q (zs ++ (z ∷ []))
  step {i} {p} {zs} s h z q e =
      let l = number_rest text p z q s.placed e in
      let m : n - i - 1 ≡ n - (i + 1) = omega arith in
      let t : read_numbers (n - i) (drop p text) ≡ before z (read_numbers (n - (i + 1)) (drop q text)) =
      rw (turn (n - i) (drop p text) (omega arith), l.1, m) in
      record {
        within = omega arith;
        placed = l.0;
        count = rw (length-append zs (z ∷ [])) (omega (arith, s.count));
        whole = sym (behind_before zs z (read_numbers (n - (i + 1)) (drop q text))) ∙ ap (behind zs) (sym t) ∙ s.whole;
      }

  pub fails : {i p : ℕ} {zs : List ℤ} → Passed i p zs → i < n → taken_in (length text) (read_number (drop p text)) ≡ None
      → read_numbers n (drop at text) ≡ refused
  fails {i} {p} {zs} s h e =
      let q = refused_is (length text) (read_number (drop p text)) e in
      sym s.whole ∙ rw (turn (n - i) (drop p text) (omega arith), q)

  pub ends : {i p : ℕ} {zs : List ℤ} → Passed i p zs → n ≤ i → read_numbers n (drop at text) ≡ taken zs (drop p text)
  unfolding read_numbers
  ends {i} {p} {zs} s h =
      let z : n - i ≡ 0 = omega arith in
      sym s.whole ∙ rw (z, append-nil zs)

  -- the same of numbers that stand at the front of a list
  pub step_at : {i p : ℕ} (out : List ℤ) → Passed i p (take i out) → length out ≡ n → i < length out → (z : ℤ) (q : ℕ)
      → taken_in (length text) (read_number (drop p text)) ≡ Some (z, q) → Passed (i + 1) q (take (i + 1) (set out i z))
  step_at {i} {p} out s e h z q f = rw (take_more_set out i z h) (step s (omega arith) z q f)

  pub ends_at : {i p : ℕ} (out : List ℤ) → Passed i p (take i out) → length out ≡ n → n ≤ i
      → (read_numbers n (drop at text) ≡ taken out (drop p text)) × (p ≡ length text - length (drop p text))
  ends_at {i} {p} out s e h =
      let same : take i out ≡ out = ap (λ k. take k out) (omega (arith, s.within, e, h)) ∙ take-length out in
      (ends s h ∙ ap (λ zs. taken zs (drop p text)) same, sym (starts text p s.placed))

pub ruleset numbers = (start, fails, ends_at)
