-- The kept list: its port connection i is that of kept item i, which misses no end.
--     row_long, rows_more      a row, and a row more
--     kept_whole, kept_few     whole rows, no more than were given
--     unchanged                port connection i of it
--     kept_no_missing          number 7 cannot come of it
--     kept_in_range            nor 3, where it does not come of the given list
-- Assumes nothing.
use Rattle.std.specs.Prelude.{None}
use mathlib.Core.Path.{◌≡◌, refl, sym, ap, ◌∙◌}
use mathlib.Core.Bool.{Bool, true, false, not, ◌&&◌}
use mathlib.Core.List.{List, [], append-nil, ◌∷◌, ◌++◌}
use Prim.Native.Nat.{ℕ, zero, suc, ◌+◌, ◌*◌, ◌%◌, ◌≤◌, ◌<◌}
use native.Mathlib.Nat.{add-zero}
use native.Mathlib.Omega.{arith}
use lib.Dec.{eqb}
use lib.ListN.{length, drop, get_or, length-append, length-drop, get_or-append}
use lib.Seq.{length-take-le, get_or-append-add}
use lib.IntN.{ℤ, pos}
use Rattle.std.specs.List.{flat_map}
use Rattle.std.proofs.lemmas.Grind.{flat_map-append}
use Rattle.std.proofs.lemmas.List.{get_or-take, get_or-drop}
use Rattle.lists.specs.Limits.{port_width}
use Rattle.lists.specs.Signed.{at, in_range}
use Rattle.lists.specs.First.{all_from}
use Rattle.lists.specs.Records.{PortConnection, port_connection, port_count}
use Rattle.lists.specs.Ranges.{record_in_range, first_out_of_range, port_low, port_high}
use Rattle.lists.specs.Ids.{has_component, support_transfer, end_missing, first_end_missing}
use Rattle.lists.proofs.Search.{first_nothing, none_found, record_within}
use Rattle.clearing.specs.Parts.{port_row, kept_items, kept_rows}
use Rattle.clearing.proofs.Items.{items_below, Passes, passes, build, before_end, at_end, in_order}

-- ---- a row

pub row_long : (ps : List ℤ) (k : ℕ) → k < port_count ps → length (port_row ps k) ≡ port_width
row_long ps k h = length-take-le 5 (drop (k * 5) ps) (omega (arith, length-drop (k * 5) ps, record_within k (length ps) 5 h))

row_at : (ps : List ℤ) (k f : ℕ) → f < port_width → at (port_row ps k) f ≡ at ps (k * port_width + f)
row_at ps k f h = get_or-take 5 (drop (k * 5) ps) f (pos 0) h ∙ get_or-drop (k * 5) ps f (pos 0)

-- the same five numbers
abbrev SameRow : List ℤ → ℕ → List ℤ → ℕ → Type 0
SameRow l i m j = (f : ℕ) → f < 5 → at l (i * 5 + f) ≡ at m (j * 5 + f)

same_record : (l m : List ℤ) (i j : ℕ) → SameRow l i m j → port_connection l i ≡ port_connection m j
same_record l m i j e =
    let first : at l (i * 5) ≡ at m (j * 5) = rw (add-zero, add-zero) at (e 0 (omega arith)) in
    rw (first, e 1 (omega arith), e 2 (omega arith), e 3 (omega arith), e 4 (omega arith))

-- ---- rows one after the other

pub rows_more : {A : Type 0} (row : ℕ → List A) (items : List ℕ) (k : ℕ) → flat_map row (items ++ (k ∷ [])) ≡ flat_map row items ++ row k
rows_more {A} row items k = flat_map-append row items (k ∷ []) ∙ ap (λ (r : List A). flat_map row items ++ r) (append-nil (row k))

-- a row for each item, in order
record Lined (ps : List ℤ) (items : List ℕ) : Type 0 where
  long : length (flat_map (port_row ps) items) ≡ length items * port_width
  each : (i : ℕ) → i < length items → SameRow (flat_map (port_row ps) items) i ps (get_or items i 0)

module _ (ps : List ℤ) (items : List ℕ) (k : ℕ) (h : k < port_count ps) (l : Lined ps items) where
  abbrev rows : List ℤ
  rows = flat_map (port_row ps) items

  row_before : (i : ℕ) → i < length items → SameRow (rows ++ port_row ps k) i ps (get_or items i 0)
  row_before i b f g = get_or-append rows (port_row ps k) (pos 0) (i * 5 + f) (omega (arith, l.long)) ∙ l.each i b f g

  row_last : (i : ℕ) → i ≡ length items → SameRow (rows ++ port_row ps k) i ps k
  row_last i e f g =
      let place : i * 5 + f ≡ length rows + f = omega (arith, l.long) in
      rw place (get_or-append-add rows (port_row ps k) f (pos 0)) ∙ row_at ps k f g

  lined_more : Lined ps (items ++ (k ∷ []))
  lined_more = record {
    long = rw (rows_more (port_row ps) items k, length-append) (omega (arith, length-append items (k ∷ []), row_long ps k h, l.long));
    each = λ i b. rw (rows_more (port_row ps) items k) (in_order items k i b
        (λ before. rw (before_end items k i before) (row_before i before))
        (λ last. rw (at_end items k i last) (row_last i last)));
  }

lined_below : (ps : List ℤ) (test : ℕ → Bool) (n : ℕ) → n ≤ port_count ps → Lined ps (items_below test n)
lined_below ps test =
    build test (λ n items. n ≤ port_count ps → Lined ps items)
    (λ h. record { long = refl; each = λ i b. absurd (omega arith) })
    (λ n items e p h. lined_more ps items n (omega arith) (p (omega arith)))
    (λ n items e p h. p (omega arith))

-- ---- the kept list

module _ (cs ps : List ℤ) where
  abbrev test : ℕ → Bool
  test k = not (end_missing cs ps k)

  lined : Lined ps (kept_items cs ps)
  lined = lined_below ps test (port_count ps) (omega arith)

  pub kept_passes : Passes test (port_count ps) (kept_items cs ps)
  kept_passes = passes test (port_count ps)

  pub kept_long : length (kept_rows cs ps) ≡ length (kept_items cs ps) * port_width
  kept_long = lined.long

  pub kept_whole : length (kept_rows cs ps) % port_width ≡ 0
  kept_whole = omega (arith, kept_long)

  pub kept_count : port_count (kept_rows cs ps) ≡ length (kept_items cs ps)
  kept_count = omega (arith, kept_long)

  pub kept_few : port_count (kept_rows cs ps) ≤ port_count ps
  kept_few = omega (arith, kept_count, kept_passes.few)

  pub unchanged : (i : ℕ) → i < length (kept_items cs ps) → port_connection (kept_rows cs ps) i ≡ port_connection ps (get_or (kept_items cs ps) i 0)
  unchanged i h = same_record (kept_rows cs ps) ps i (get_or (kept_items cs ps) i 0) (lined.each i h)

-- refusal 7's test of a record
abbrev misses : List ℤ → PortConnection → Bool
misses cs p = not (eqb p.transfer support_transfer) && not (has_component cs p.source && has_component cs p.sink)

not_true : (t : Bool) → not t ≡ true → t ≡ false
not_true true e = sym e
not_true false e = refl

pub kept_no_missing : (cs ps : List ℤ) → first_end_missing cs (kept_rows cs ps) ≡ None
unfolding first_end_missing
kept_no_missing cs ps =
    let rows = kept_rows cs ps in
    first_nothing (end_missing cs rows) 0 (port_count rows)
    (λ i a b.
    let h : i < length (kept_items cs ps) = omega (arith, kept_count cs ps) in
    ap (misses cs) (unchanged cs ps i h) ∙ not_true (end_missing cs ps (get_or (kept_items cs ps) i 0)) ((kept_passes cs ps).each i h))

-- ---- ranges

all_same : (f g : ℕ → Bool) (k n : ℕ) → ((j : ℕ) → j < k + n → f j ≡ g j) → all_from f k n ≡ all_from g k n
unfolding all_from
all_same f g k zero e = refl
all_same f g k (suc n) e = rw (e k (omega arith), all_same f g (suc k) n (λ j h. e j (omega arith)))

pub kept_in_range : (cs ps : List ℤ) → first_out_of_range port_low port_high ps ≡ None → first_out_of_range port_low port_high (kept_rows cs ps) ≡ None
unfolding first_out_of_range record_in_range
kept_in_range cs ps e =
    let rows = kept_rows cs ps in
    first_nothing (λ k. not (record_in_range port_low port_high rows (k * 5))) 0 (port_count rows)
    (λ i a b.
    let h : i < length (kept_items cs ps) = omega (arith, kept_count cs ps) in
    let item = get_or (kept_items cs ps) i 0 in
    let same : record_in_range port_low port_high rows (i * 5) ≡ record_in_range port_low port_high ps (item * 5)
    = all_same (λ f. in_range (at port_low f) (at port_high f) (at rows (i * 5 + f))) (λ f. in_range (at port_low f) (at port_high f) (at ps (item * 5 + f))) 0 5
    (λ f g. rw ((lined cs ps).each i h f (omega arith))) in
    ap not same ∙ none_found (λ k. not (record_in_range port_low port_high ps (k * 5))) 0 (port_count ps) e item (omega arith) (omega (arith, (kept_passes cs ps).below i h)))
