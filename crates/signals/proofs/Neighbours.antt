-- The neighbours seen so far, none, one or many.
--     seen_cong                              what was seen by one test was seen by another that agrees with it
--     seen_more                              a second neighbour
--     few_none, few_one, few_many            at most one was seen exactly if the test holds at most once
--     row_none, row_near, row_other, row_all the neighbours of a row: none yet, one more, all
--     both_rows                              the neighbours of two rows
-- Assumes nothing.
use mathlib.Core.Path.{◌≡◌, refl, sym, ap, ◌∙◌}
use mathlib.Core.Bool.{Bool, true, false, ◌&&◌, ◌||◌, or-false, or_assoc, and-false}
use mathlib.Core.List.{List, [], ◌∷◌}
use mathlib.Core.Logic.{◌⊎◌, ⊎_elim, inl, inr}
use Prim.Native.Nat.{ℕ, zero, suc, ◌+◌, ◌≤◌, ◌<◌}
use native.Mathlib.Numerals.{add-one}
use native.Mathlib.Omega.{arith}
use lib.Dec.{eqb, leb}
use lib.ListN.{length, get_or, take}
use lib.Seq.{take_all}
use borrow.Author.Tests.{eq-eqb, ne_eqb, eqb-true, le-leb, lt-leb}
use Rattle.sets.specs.Members.{count_below}
use Rattle.sets.proofs.Counts.{count_none}
use Rattle.tables.specs.Order.{member}
use Rattle.tables.specs.Laws.{same?, order?}
use Rattle.lists.proofs.Search.{never}
use Rattle.lists.proofs.Members.{count_less, count_once}
use Rattle.regions.proofs.Laws.Lists.{or_right}
use Rattle.signals.specs.Seen.{SeenOf}
use Rattle.signals.specs.declared.inferred.Seen.{Seen}
use Rattle.signals.specs.declared.inferred.Seen.TheVariants.{None, One, Many}

-- ---- truth values

pub or_left : {a : Bool} (b : Bool) → a ≡ true → (a || b) ≡ true
or_left b e = ap (λ (t : Bool). t || b) e

pub either : (a b : Bool) → (a || b) ≡ true → (a ≡ true) ⊎ (b ≡ true)
either true b e = inl refl
either false b e = inr e

pub eqb_turn : (a b : ℕ) → eqb a b ≡ eqb b a
eqb_turn a b = ⊎_elim (λ e. eq-eqb a b e ∙ sym (eq-eqb b a (sym e))) (λ ne. ne_eqb a b ne ∙ sym (ne_eqb b a (λ e. ne (sym e)))) (same? a b)

-- ---- what was seen

module _ (n : ℕ) (P Q : ℕ → Bool) (same : (j : ℕ) → j < n → P j ≡ Q j) where
  pub seen_cong : (s : Seen) → SeenOf n P s → SeenOf n Q s
  seen_cong None none = λ j h. sym (same j h) ∙ none j h
  seen_cong (One i) (lt, (is, only)) = (lt, (sym (same i lt) ∙ is, λ j h e. only j h (same j h ∙ e)))
  seen_cong Many (i, (j, (less, (lt, (p, q))))) = (i, (j, (less, (lt, (sym (same i (omega arith)) ∙ p, sym (same j lt) ∙ q)))))

module _ (n : ℕ) (test : ℕ → Bool) (j : ℕ) (lt : j < n) where
  abbrev more : ℕ → Bool
  more i = test i || eqb j i

  pub seen_more : (i : ℕ) → (i ≡ j → ⊥) → SeenOf n test (One i) → SeenOf n more Many
  seen_more i other (low, (is, only)) =
      let first = or_left (eqb j i) is in
      let second = or_right (test j) (eq-eqb j j refl) in
      ⊎_elim
      (λ (le : i ≤ j). (i, (j, (omega arith, (lt, (first, second))))))
      (λ (less : j < i). (j, (i, (less, (low, (second, first))))))
      (order? i j)

-- ---- at most one

module _ (n : ℕ) (Q : ℕ → Bool) where
  pub few_none : SeenOf n Q None → true ≡ leb (count_below Q n) 1
  few_none none = sym (le-leb (count_below Q n) 1 (omega (arith, count_none Q n none)))

  pub few_one : (i : ℕ) → SeenOf n Q (One i) → true ≡ leb (count_below Q n) 1
  few_one i (lt, (is, only)) =
      sym (le-leb (count_below Q n) 1 (count_once Q n (λ a b less h p q. omega (arith, only a (omega arith) p, only b h q))))

  pub few_many : SeenOf n Q Many → false ≡ leb (count_below Q n) 1
  few_many (i, (j, (less, (lt, (p, q))))) =
      let some = count_less (λ k. false) (eqb i) n (λ k h e. never e) i (omega arith) refl (eq-eqb i i refl) in
      let other = count_less (eqb i) Q n (λ k h e. ap Q (sym (eqb-true i k e)) ∙ p) j lt (ne_eqb i j (λ e. omega arith)) q in
      sym (lt-leb (count_below Q n) 1 (omega arith))

-- ---- the neighbours of a row passed so far

-- j was seen before, or has the label of m and is among the neighbours passed so far
abbrev pub passed : List ℕ → List ℕ → ℕ → ℕ → (ℕ → Bool) → ℕ → Bool
passed row labels m at test j = test j || (eqb (get_or labels j 0) (get_or labels m 0) && member j (take at row))

pub member_one : (v at : ℕ) (row : List ℕ) → at < length row → member v (take (suc at) row) ≡ (member v (take at row) || eqb v (get_or row at 0))
unfolding member
member_one v at [] h = absurd (omega arith)
member_one v zero (x ∷ row) h = or-false (eqb v x)
member_one v (suc at) (x ∷ row) h =
    ap (λ (t : Bool). eqb v x || t) (member_one v at row (omega arith)) ∙ sym (or_assoc (eqb v x) (member v (take at row)) (eqb v (get_or row at 0)))

-- a neighbour in hand, which is of the region or not
in-region : (t l s e : Bool) → (e ≡ true → l ≡ true) → ((t || (l && s)) || e) ≡ (t || (l && (s || e)))
in-region true l s e h = refl
in-region false true s e h = refl
in-region false false s true h = never (h refl)
in-region false false s false h = refl

out_of_region : (t l s e : Bool) → (e ≡ true → l ≡ false) → (t || (l && s)) ≡ (t || (l && (s || e)))
out_of_region true l s e h = refl
out_of_region false true s true h = never (sym (h refl))
out_of_region false true s false h = sym (or-false s)
out_of_region false false s e h = refl

module _ (row labels : List ℕ) (m : ℕ) where
  abbrev n : ℕ
  n = length labels

  abbrev same : ℕ → Bool
  same j = eqb (get_or labels j 0) (get_or labels m 0)

  none_yet : (j : ℕ) → member j (take 0 row) ≡ false
  unfolding member
  none_yet j = refl

  pub row_none : (test : ℕ → Bool) (s : Seen) → SeenOf n test s → SeenOf n (passed row labels m 0 test) s
  row_none test =
      seen_cong n test (passed row labels m 0 test)
      (λ j h.
      sym (ap (λ (t : Bool). test j || (same j && t)) (none_yet j) ∙ ap (λ (t : Bool). test j || t) (and-false (same j)) ∙ or-false (test j)))

  module _ (at : ℕ) (inside : at < length row) where
    abbrev here : ℕ
    here = get_or row at 0

    one_more : (j : ℕ) → member j (take (at + 1) row) ≡ (member j (take at row) || eqb here j)
    one_more j = rw add-one (member_one j at row inside ∙ ap (λ (t : Bool). member j (take at row) || t) (eqb_turn j here))

    pub row_near : same here ≡ true → (test : ℕ → Bool) (s : Seen)
        → SeenOf n (λ i. passed row labels m at test i || eqb here i) s → SeenOf n (passed row labels m (at + 1) test) s
    row_near is test =
        seen_cong n (λ i. passed row labels m at test i || eqb here i) (passed row labels m (at + 1) test)
        (λ j h.
        in-region (test j) (same j) (member j (take at row)) (eqb here j) (λ e. ap same (sym (eqb-true here j e)) ∙ is)
        ∙ ap (λ (t : Bool). test j || (same j && t)) (sym (one_more j)))

    pub row_other : same here ≡ false → (test : ℕ → Bool) (s : Seen)
        → SeenOf n (passed row labels m at test) s → SeenOf n (passed row labels m (at + 1) test) s
    row_other is test =
        seen_cong n (passed row labels m at test) (passed row labels m (at + 1) test)
        (λ j h.
        out_of_region (test j) (same j) (member j (take at row)) (eqb here j) (λ e. ap same (sym (eqb-true here j e)) ∙ is)
        ∙ ap (λ (t : Bool). test j || (same j && t)) (sym (one_more j)))

  pub row_all : (at : ℕ) → at ≡ length row
      → (test : ℕ → Bool) (s : Seen) → SeenOf n (passed row labels m at test) s → SeenOf n (λ j. test j || (same j && member j row)) s
  row_all at all test =
      seen_cong n (passed row labels m at test) (λ j. test j || (same j && member j row))
      (λ j h. ap (λ (l : List ℕ). test j || (same j && member j l)) (take_all at row (omega arith)))

-- ---- two rows

either_row : (l f b : Bool) → ((l && f) || (l && b)) ≡ (l && (f || b))
either_row true f b = refl
either_row false f b = refl

pub both_rows : (n : ℕ) (same inward outward forward backward : ℕ → Bool) → ((j : ℕ) → inward j ≡ forward j) → ((j : ℕ) → outward j ≡ backward j) → (s : Seen)
    → SeenOf n (λ j. (false || (same j && inward j)) || (same j && outward j)) s → SeenOf n (λ j. same j && (forward j || backward j)) s
both_rows n same inward outward forward backward f b =
    seen_cong n (λ j. (same j && inward j) || (same j && outward j)) (λ j. same j && (forward j || backward j))
    (λ j h. either_row (same j) (inward j) (outward j) ∙ ap (λ (t : Bool). same j && (t || outward j)) (f j) ∙ ap (λ (t : Bool). same j && (forward j || t)) (b j))
