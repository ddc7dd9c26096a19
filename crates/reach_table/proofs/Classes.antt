-- The loops that number the classes of equal rows.
--     Classing      the class of one row, among the rows before b
--     Counting      the classes of the rows of an order from its end on
-- Assumes nothing.
use mathlib.Core.Path.{◌≡◌, refl, sym, ap, ap₂, subst, ◌∙◌}
use mathlib.Core.Bool.{Bool, true, false, cond, ◌&&◌, ◌||◌}
use mathlib.Core.List.{List, [], ◌∷◌, ◌++◌, reverse, reverse-cons, append-nil, append_assoc}
use Prim.Native.Nat.{ℕ, zero, suc, ◌+◌, ◌≤◌, ◌<◌}
use native.Mathlib.Numerals.{add-one}
use native.Mathlib.Omega.{arith}
use lib.Dec.{ltb}
use lib.ListN.{length, replicate, length-append, length-replicate}
use lib.Seq.{ext_get_or}
use borrow.Author.Tests.{lt-ltb}
use Rattle.lists.specs.First.{tabulate}
use Rattle.regions.specs.Graph.{Edges, at, marked, each}
use Rattle.regions.specs.Kosaraju.{unlabelled}
use Rattle.regions.specs.Search.{labels_of}
use Rattle.regions.proofs.Laws.Loops.{each_append}
use Rattle.signals.proofs.Tabulated.{tabulated_length, tabulated_at}
use Rattle.reach_table.specs.Table.{is_same_row}
use Rattle.reach_table.specs.Numbers.{number_class, number_next, numbers}
use Rattle.reach_table.specs.Square.{Holds, PlacesIn, ClassNumbered, AllNumbered}

-- ---- one class

pub record Classing (n : ℕ) (square : List ℕ) (a count : ℕ) (numbered₀ : List Bool) (regions₀ : List ℕ) (b : ℕ) (numbered : List Bool) (regions : List ℕ) : Type 0 where
  pub numbered_long : length numbered ≡ n
  pub regions_long : length regions ≡ n
  pub marks : (t : Edges) → Holds n t square → (y : ℕ) → y < n → marked numbered y ≡ (marked numbered₀ y || (ltb y b && is_same_row n t a y))
  pub values : (t : Edges) → Holds n t square → (y : ℕ) → y < n → at regions y ≡ cond (ltb y b && is_same_row n t a y) count (at regions₀ y)

module _ {n : ℕ} {square : List ℕ} (a count : ℕ) (numbered₀ : List Bool) (regions₀ : List ℕ) where
  module _ {b : ℕ} {numbered : List Bool} {regions : List ℕ} (p : Classing n square a count numbered₀ regions₀ b numbered regions) where
    pub class_done : n ≤ b → ClassNumbered n square a count numbered₀ regions₀ numbered regions
    class_done h = record {
      is = λ t held.
          ap₂ (λ v l. record { visited = v; region_of = l; count = suc count })
          (ext_get_or false numbered (tabulate (λ y. marked numbered₀ y || is_same_row n t a y) n) (p.numbered_long ∙ sym (tabulated_length _ n)) (λ y l.
          let low : y < n = omega (arith, p.numbered_long) in
          p.marks t held y low
          ∙ ap (λ d. marked numbered₀ y || (d && is_same_row n t a y)) (lt-ltb y b (omega arith))
          ∙ sym (tabulated_at (λ y. marked numbered₀ y || is_same_row n t a y) false n y low)))
          (ext_get_or 0 regions (tabulate (λ y. cond (is_same_row n t a y) count (at regions₀ y)) n) (p.regions_long ∙ sym (tabulated_length _ n)) (λ y l.
          let low : y < n = omega (arith, p.regions_long) in
          p.values t held y low
          ∙ ap (λ d. cond (d && is_same_row n t a y) count (at regions₀ y)) (lt-ltb y b (omega arith))
          ∙ sym (tabulated_at (λ y. cond (is_same_row n t a y) count (at regions₀ y)) 0 n y low)));
    }

-- ---- all classes

-- from the last to the first: the first of a list is dealt with at the end
pub each_turned : {S : Type 0} (f : ℕ → S → S) (a : ℕ) (l : List ℕ) (s : S) → each f (reverse (a ∷ l)) s ≡ f a (each f (reverse l) s)
unfolding each
each_turned f a l s = ap (λ m. each f m s) (reverse-cons a l) ∙ each_append f (reverse l) (a ∷ []) s

-- `rest` is left of the order, and the rows after it are dealt with, the last first
pub record Counting (n : ℕ) (square order : List ℕ) (numbered : List Bool) (regions : List ℕ) (count : ℕ) (rest : List ℕ) : Type 0 where
  pub done : List ℕ
  pub order_is : rest ++ done ≡ order
  pub room : count + length rest ≤ n
  pub numbered_long : length numbered ≡ n
  pub regions_long : length regions ≡ n
  pub is : (t : Edges) → Holds n t square
      → labels_of numbered regions count ≡ each (number_next n (is_same_row n t)) (reverse done) (unlabelled n)

pub count_none : {n : ℕ} (square : List ℕ) {order : List ℕ} (numbered₀ : List Bool) {numbered : List Bool} (regions₀ : List ℕ) {regions : List ℕ} → PlacesIn n order
    → length numbered₀ ≡ n → length regions₀ ≡ n → numbered ≡ replicate (length numbered₀) false → regions ≡ replicate (length regions₀) 0
    → Counting n square order numbered regions zero order
unfolding each
count_none {n} square {order} numbered₀ regions₀ p a b e f =
    let e' = e ∙ ap (λ (k : ℕ). replicate k false) a in
    let f' = f ∙ ap (λ (k : ℕ). replicate k 0) b in
    record {
      done = [];
      order_is = append-nil order;
      room = omega (arith, p.long);
      numbered_long = ap length e' ∙ length-replicate n false;
      regions_long = ap length f' ∙ length-replicate n 0;
      is = λ t h. ap₂ (λ v l. record { visited = v; region_of = l; count = zero }) e' f';
    }

module _ {n : ℕ} {square order : List ℕ} {numbered : List Bool} {regions : List ℕ} {count : ℕ} {rest : List ℕ} (front : List ℕ) (a : ℕ)
    (p : Counting n square order numbered regions count rest) {b : ℕ} (is : a ≡ b) (taken : rest ≡ front ++ (b ∷ [])) where
  last : rest ≡ front ++ (a ∷ [])
  last = taken ∙ ap (λ (x : ℕ). front ++ (x ∷ [])) (sym is)

  order_next : front ++ (a ∷ p.done) ≡ order
  order_next = sym (append_assoc front (a ∷ []) p.done) ∙ ap (λ m. m ++ p.done) (sym last) ∙ p.order_is

  shorter : length rest ≡ length front + 1
  shorter = ap length last ∙ length-append front (a ∷ [])

  pub count_yes : {numbered' : List Bool} {regions' : List ℕ} → marked numbered a ≡ false
      → length numbered' ≡ length numbered → length regions' ≡ length regions
      → ClassNumbered (length regions) square a count numbered regions numbered' regions'
      → Counting n square order numbered' regions' (count + 1) front
  unfolding number_next
  count_yes {numbered'} {regions'} new u v class = record {
    done = a ∷ p.done;
    order_is = order_next;
    room = omega (arith, shorter, p.room);
    numbered_long = u ∙ p.numbered_long;
    regions_long = v ∙ p.regions_long;
    is = λ t h.
        ap (λ (k : ℕ). labels_of numbered' regions' k) (add-one count)
        ∙ (subst (λ (k : ℕ). ClassNumbered k square a count numbered regions numbered' regions') p.regions_long class).is t h
        ∙ ap (λ d. cond d (labels_of numbered regions count) (number_class n (is_same_row n t) a (labels_of numbered regions count))) (sym new)
        ∙ ap (number_next n (is_same_row n t) a) (p.is t h)
        ∙ sym (each_turned (number_next n (is_same_row n t)) a p.done (unlabelled n));
  }

  pub count_no : marked numbered a ≡ true → Counting n square order numbered regions count front
  unfolding number_next
  count_no old = record {
    done = a ∷ p.done;
    order_is = order_next;
    room = omega (arith, shorter, p.room);
    numbered_long = p.numbered_long;
    regions_long = p.regions_long;
    is = λ t h.
        ap (λ d. cond d (labels_of numbered regions count) (number_class n (is_same_row n t) a (labels_of numbered regions count))) (sym old)
        ∙ ap (number_next n (is_same_row n t) a) (p.is t h)
        ∙ sym (each_turned (number_next n (is_same_row n t)) a p.done (unlabelled n));
  }

none_left : (l : List ℕ) → length l ≡ 0 → l ≡ []
none_left [] e = refl
none_left (x ∷ l) e = absurd (omega arith)

pub count_done : {n : ℕ} {square order : List ℕ} {numbered : List Bool} {regions : List ℕ} {count : ℕ} {rest : List ℕ} → length rest ≡ 0
    → Counting n square order numbered regions count rest → AllNumbered n square order numbered regions count
unfolding numbers
count_done {n} {rest = rest} e p = record {
  is = λ t h. p.is t h ∙ ap (λ l. each (number_next n (is_same_row n t)) (reverse l) (unlabelled n)) (ap (λ l. l ++ p.done) (sym (none_left rest e)) ∙ p.order_is);
}
