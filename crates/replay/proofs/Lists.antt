-- A recorded list by its count and its numbers, against what the code answers.
--     long                      as many numbers are read as were asked for
--     too_long                  the lent list is too short
--     list_read, list_unread    the numbers behind the count are read, or refused
-- Assumes nothing.
use Prim.Native.Nat.{ℕ, zero, suc, ◌≤◌, ◌<◌}
use native.Mathlib.Omega.{arith}
use mathlib.Core.Path.{◌≡◌, refl, sym, ap, subst, ◌∙◌}
use mathlib.Core.List.{List, ◌++◌}
use lib.IntN.{ℤ}
use lib.ListN.{length, take, drop}
use lib.Seq.{length-take-le}
use Rattle.lines.specs.Line.{Taken, taken, refused, read_number, read_line, natural, taken_in}
use Rattle.lines.proofs.Counting.{count_rest}
use Rattle.replay.specs.Recorded.{before, and_then, read_numbers, numbers_of, read_list, Filled, ReadFrom}
use Rattle.std.specs.Prelude.{Option, Some, None}

abbrev Long : ℕ → Taken (List ℤ) → Type 0
Long n (taken zs s) = length zs ≡ n
Long n refused = Unit {0}

long_before : (n : ℕ) (z : ℤ) (q : Taken (List ℤ)) → Long n q → Long (suc n) (before z q)
long_before n z (taken zs s) h = ap suc h
long_before n z refused h = tt

long_then : (n : ℕ) (q : Taken ℤ) → ((s : List ℕ) → Long n (read_numbers n s)) → Long (suc n) (and_then q (read_numbers n))
long_then n (taken z s) h = long_before n z (read_numbers n s) (h s)
long_then n refused h = tt

long : (n : ℕ) (s : List ℕ) → Long n (read_numbers n s)
unfolding read_numbers
long zero s = refl
long (suc n) s = long_then n (read_number s) (long n)

short : (m n : ℕ) (q : Taken (List ℤ)) (out : List ℤ) → Long n q → length out < n → ReadFrom m q out out None
short m n (taken zs s) out h l = omega (arith, h, l)
short m n refused out h l = tt

front : (m n p : ℕ) (q : Taken (List ℤ)) (out mid : List ℤ) → Long n q → Filled m q mid (Some p) → ReadFrom m q out (mid ++ drop n out) (Some (n, p))
front m n p (taken zs s) out mid h f = (ap (λ l. l ++ drop n out) f.0 ∙ ap (λ k. zs ++ drop k out) (sym h), sym h, (let e = f.1 in cc))
front m n p refused out mid h f = cc

unread : (m : ℕ) (q : Taken (List ℤ)) (out mid out' : List ℤ) → Filled m q mid None → ReadFrom m q out out' None
unread m (taken zs s) out mid out' f = let e = f.1 in cc
unread m refused out mid out' f = tt

module _ (text word : List ℕ) (at : ℕ) (out : List ℤ) where
  module _ (n start : ℕ) (e : taken_in (length text) (natural (read_line word (drop at text))) ≡ Some (n, start)) where
    behind : read_numbers n (drop start text) ≡ read_list word (drop at text)
    behind = sym (ap numbers_of (count_rest text word at n start e).1)

    pub too_long : length out < n → ReadFrom (length text) (read_list word (drop at text)) out out None
    too_long h =
        subst (λ (q : Taken (List ℤ)). ReadFrom (length text) q out out None) behind (short (length text) n (read_numbers n (drop start text)) out (long n (drop start text)) h)

    module _ (mid : List ℤ) (h : n ≤ length out) where
      lent : (r t : Option ℕ) → r ≡ t → Filled (length text) (read_numbers (length (take n out)) (drop start text)) mid r → Filled (length text) (read_numbers n (drop start text)) mid t
      lent r t d f =
          subst
          (Filled (length text) (read_numbers n (drop start text)) mid)
          d
          (subst (λ (k : ℕ). Filled (length text) (read_numbers k (drop start text)) mid r) (length-take-le n out h) f)

      pub list_read : (r : Option ℕ) (p : ℕ) → r ≡ Some p → Filled (length text) (read_numbers (length (take n out)) (drop start text)) mid r
          → ReadFrom (length text) (read_list word (drop at text)) out (mid ++ drop n out) (Some (n, p))
      list_read r p d f =
          subst
          (λ (q : Taken (List ℤ)). ReadFrom (length text) q out (mid ++ drop n out) (Some (n, p)))
          behind
          (front (length text) n p (read_numbers n (drop start text)) out mid (long n (drop start text)) (lent r (Some p) d f))

      pub list_unread : (r : Option ℕ) → r ≡ None → Filled (length text) (read_numbers (length (take n out)) (drop start text)) mid r
          → ReadFrom (length text) (read_list word (drop at text)) out (mid ++ drop n out) None
      list_unread r d f =
          subst
          (λ (q : Taken (List ℤ)). ReadFrom (length text) q out (mid ++ drop n out) None)
          behind
          (unread (length text) (read_numbers n (drop start text)) out mid (mid ++ drop n out) (lent r None d f))

pub ruleset lists = (too_long, list_read, list_unread)
