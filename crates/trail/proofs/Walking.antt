-- The walk from the start down: the neighbours passed over, and the way as a list.
-- Assumes nothing.
use Prim.Native.Nat.{ℕ, zero, suc, ◌+◌, ◌-◌, ◌≤◌, ◌<◌}
use mathlib.Core.Path.{◌≡◌, sym, ap, ◌∙◌, subst}
use mathlib.Core.Bool.{Bool, true}
use mathlib.Core.List.{List, [], ◌∷◌}
use mathlib.Core.Logic.{⊎_elim}
use native.Mathlib.Omega.{arith}
use lib.ListN.{length, take, drop, set}
use lib.Seq.{drop-cons, get_or-set_same, get_or-set_other}
use Rattle.tables.specs.Laws.{same?, order?}
use Rattle.regions.specs.Graph.{Edges, at}
use Rattle.trail.specs.Levels.{Levels, StepDown, Descends}
use Rattle.trail.specs.Ways.{WalkedDown}
use Rattle.trail.proofs.Row.{Neighbours}

-- no neighbour before a place has the level
abbrev pub NonePassed : List ℕ → List ℕ → ℕ → ℕ → Type 0
NonePassed row levels level place = (i : ℕ) → i < place → at levels (at row i) ≡ level → ⊥

module _ {n : ℕ} {edge : Edges} {x : ℕ} {row : List ℕ} (r : Neighbours n edge x row) (levels : List ℕ) {lower : ℕ} (above : at levels x ≡ suc lower) {place : ℕ}
    (none : NonePassed row levels lower place) where
  -- the first neighbour that has it is the least
  pub stepped : place < length row → {k : ℕ} → k ≡ at row place → at levels k ≡ lower → StepDown edge levels x k
  stepped h {k} is level =
      record {
        along = rw is (r.held place h);
        lower = omega (arith, above, level);
        least = λ z e up.
            let (i, inside, here) = r.all z e in
            ⊎_elim
            (λ le. let rise = r.rising place i le inside in omega (arith, is, here, rise))
            (λ lt. absurd (none i lt (ap (at levels) here ∙ omega (arith, above, up))))
            (order? place i);
      }

  -- some neighbour has it
  pub stepped_some : length row ≤ place → (y : ℕ) × (edge x y ≡ true) × (at levels x ≡ suc (at levels y)) → ⊥
  stepped_some all (y, e, up) = let (i, inside, here) = r.all y e in none i (omega arith) (ap (at levels) here ∙ omega (arith, above, up))

-- ---- the way as a list

-- the first i places of a way: steps down from s, to a node of the level that is left
pub record Going (n : ℕ) (edge : Edges) (levels : List ℕ) (s i node : ℕ) (way : List ℕ) : Type 0 where
  pub begun : 0 < i
  pub short : i ≤ at levels s
  pub inside : node < n
  pub first : at way 0 ≡ s
  pub last : at way (i - 1) ≡ node
  pub left : at levels node + i ≡ at levels s + 1
  pub steps : (j : ℕ) → suc j < i → StepDown edge levels (at way j) (at way (suc j))

module _ {n : ℕ} {edge : Edges} {levels : List ℕ} {s i node : ℕ} {way : List ℕ} (g : Going n edge levels s i node way) where
  -- there is a node one level lower
  pub going_lower : {feeds : ℕ → Bool} → Levels n edge feeds levels → i < at levels s → (y : ℕ) × (edge node y ≡ true) × (at levels node ≡ suc (at levels y))
  going_lower v more =
      let left = g.left in
      let d = v.down node (at levels s - i - 1) (omega arith) in
      (d.0, d.1, (let e = d.2 in omega (arith, left)))

  -- one turn of the loop
  pub going_next : {k : ℕ} → ((a b : ℕ) → edge a b ≡ true → b < n) → i < length way → i < at levels s → StepDown edge levels node k
      → Going n edge levels s (i + 1) k (set way i k)
  going_next {k} within room more step = record {
    begun = omega arith;
    short = omega arith;
    inside = within node k step.along;
    first = old 0 g.begun ∙ g.first;
    last = ap (at (set way i k)) (let e : i + 1 - 1 ≡ i = omega arith in e) ∙ get_or-set_same way i k 0 room;
    left = omega (arith, g.left, step.lower);
    steps = λ j h. ⊎_elim (λ e. new j e) (λ ne. kept j (let b = g.begun in omega arith)) (same? (suc j) i);
  }
    where
      old : (j : ℕ) → j < i → at (set way i k) j ≡ at way j
      old j h = get_or-set_other way i j k 0 (λ e. omega arith)

      kept : (j : ℕ) → suc j < i → StepDown edge levels (at (set way i k) j) (at (set way i k) (suc j))
      kept j h = rw (old j (omega arith), old (suc j) h) (g.steps j h)

      new : (j : ℕ) → suc j ≡ i → StepDown edge levels (at (set way i k) j) (at (set way i k) (suc j))
      new j e =
          let a : at (set way i k) j ≡ node = old j (omega arith) ∙ ap (at way) (omega (arith, e)) ∙ g.last in
          let b : at (set way i k) (suc j) ≡ k = ap (at (set way i k)) e ∙ get_or-set_same way i k 0 room in
          rw (a, b) step

-- from place k on, c steps to the end
descends : {edge : Edges} {levels : List ℕ} (way : List ℕ) (c k : ℕ) → suc (k + c) ≤ length way
    → ((j : ℕ) → suc j < suc (k + c) → StepDown edge levels (at way j) (at way (suc j)))
    → at levels (at way (k + c)) ≡ 1 → Descends edge levels (at way k) (take c (drop (suc k) way))
descends {edge} {levels} way zero k room steps end = subst (λ (j : ℕ). at levels (at way j) ≡ 1) (omega arith) end
descends {edge} {levels} way (suc c) k room steps end =
    let cut : drop (suc k) way ≡ at way (suc k) ∷ drop (suc (suc k)) way = drop-cons way (suc k) 0 (omega arith) in
    let rest = descends way c (suc k) (omega arith) (λ j h. steps j (omega arith)) (subst (λ (j : ℕ). at levels (at way j) ≡ 1) (omega arith) end) in
    subst (λ (l : List ℕ). Descends edge levels (at way k) (take (suc c) l)) (sym cut) (steps k (omega arith), rest)

pub going_end : {n : ℕ} {edge : Edges} {levels : List ℕ} {s i node : ℕ} {way : List ℕ} → Going n edge levels s i node way → at levels s ≤ i
    → at levels s ≤ length way → WalkedDown edge levels s way
going_end {n} {edge} {levels} {s} {i} {node} {way} g done room = record {
  rest = take (at levels s - 1) (drop 1 way);
  down = subst (λ (x : ℕ). Descends edge levels x (take (at levels s - 1) (drop 1 way))) g.first
      (descends way (at levels s - 1) 0 (omega arith) (λ j h. g.steps j (omega arith))
      (ap (λ (j : ℕ). at levels (at way j)) all ∙ ap (at levels) g.last ∙ omega (arith, g.left)));
  way_is = ap (λ (k : ℕ). take k way) count ∙ front way (at levels s - 1) (omega arith) g.first;
}
  where
    begun : 0 < i
    begun = g.begun

    short : i ≤ at levels s
    short = g.short

    all : 0 + (at levels s - 1) ≡ i - 1
    all = omega arith

    count : at levels s ≡ suc (at levels s - 1)
    count = omega arith

    front : (l : List ℕ) (c : ℕ) → 0 < length l → at l 0 ≡ s → take (suc c) l ≡ s ∷ take c (drop 1 l)
    front [] c h e = absurd (omega arith)
    front (x ∷ l) c h e = ap (λ (y : ℕ). y ∷ take c l) e
