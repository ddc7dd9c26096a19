-- The loop of `seek_all`: searches from the starts, one after the other. Its invariant is `Going`.
-- Assumes nothing.
use mathlib.Core.Path.{◌≡◌, refl, sym, ap, ap₂, ◌∙◌}
use mathlib.Core.Bool.{Bool, true, false, cond}
use mathlib.Core.List.{List, [], ◌∷◌, ◌++◌}
use Prim.Native.Nat.{ℕ, zero, suc, ◌+◌, ◌-◌, ◌≤◌, ◌<◌}
use native.Mathlib.Nat.{zero-add}
use native.Mathlib.Omega.{arith}
use lib.ListN.{length, replicate}
use Rattle.regions.specs.Graph.{Edges, marked, range, filter, each}
use Rattle.regions.specs.Kosaraju.{starts_of}
use Rattle.regions.proofs.Laws.Loops.{each_append}
use Rattle.driven.specs.Seek.{Search, seek, seeking, sought}
use Rattle.driven.specs.Search.{search_of, SeekRoom, SeeksFrom, Seeks}
use Rattle.driven.proofs.Passing.{each_stopped}

-- ---- the starts, by rising number

range_append : (a j k : ℕ) → range a (j + k) ≡ range a j ++ range (a + j) k
unfolding range
range_append a zero k = ap₂ range (let e : a ≡ a + zero = omega arith in e) (let e : zero + k ≡ k = omega arith in e)
range_append a (suc j) k =
    let e : suc j + k ≡ suc (j + k) = omega arith in
    let f : suc a + j ≡ a + suc j = omega arith in
    ap (range a) e ∙ ap (λ (l : List ℕ). a ∷ l) (range_append (suc a) j k ∙ ap (λ (b : ℕ). range (suc a) j ++ range b k) f)

filter_append : (p : ℕ → Bool) (l m : List ℕ) → filter p (l ++ m) ≡ filter p l ++ filter p m
unfolding filter
filter_append p [] m = refl
filter_append p (x ∷ l) m = go (p x) (filter_append p l m)
  where
    go : (b : Bool) → filter p (l ++ m) ≡ filter p l ++ filter p m
        → cond b (x ∷ filter p (l ++ m)) (filter p (l ++ m)) ≡ cond b (x ∷ filter p l) (filter p l) ++ filter p m
    go true ih = ap (λ t. x ∷ t) ih
    go false ih = ih

starts_split : (marks : List Bool) (j k : ℕ) → starts_of (j + k) marks ≡ starts_of j marks ++ filter (marked marks) (range j k)
starts_split marks j k =
    ap (filter (marked marks)) (range_append zero j k ∙ ap (λ (b : ℕ). range zero j ++ range b k) (zero-add j))
    ∙ filter_append (marked marks) (range zero j) (range j k)

module _ {S : Type 0} (f : ℕ → S → S) (marks : List Bool) (s : S) where
  -- the starts before j, then those from j on
  each_split : (j k : ℕ) → each f (starts_of (j + k) marks) s ≡ each f (filter (marked marks) (range j k)) (each f (starts_of j marks) s)
  each_split j k =
      ap (λ l. each f l s) (starts_split marks j k) ∙ each_append f (starts_of j marks) (filter (marked marks) (range j k)) s

  each_one : (j : ℕ) → each f (starts_of (j + 1) marks) s ≡ cond (marked marks j) (f j (each f (starts_of j marks) s)) (each f (starts_of j marks) s)
  unfolding each filter range
  each_one j = each_split j 1 ∙ go (marked marks j)
    where
      go : (b : Bool) → each f (cond b (j ∷ []) []) (each f (starts_of j marks) s) ≡ cond b (f j (each f (starts_of j marks) s)) (each f (starts_of j marks) s)
      go true = refl
      go false = refl

-- ---- the invariant: the search from the starts before `start` has met these, and goes on

pub record Going (n : ℕ) (edge : Edges) (goals starts met : List Bool) (stack : List ℕ) (start : ℕ) : Type 0 where
  pub goes : seeking met ≡ each (seek n edge goals n) (starts_of start starts) (seeking (replicate n false))
  pub room : SeekRoom n goals met stack

pub going_begin : {n : ℕ} {edge : Edges} {goals met₀ met : List Bool} {stack : List ℕ} (starts : List Bool) → SeekRoom n goals met₀ stack
    → met ≡ replicate (length met₀) false → length met ≡ length met₀ → Going n edge goals starts met stack 0
unfolding range filter each
going_begin {n} {edge} {goals} {met₀} {met} {stack} starts r e same = record {
  goes = ap seeking (e ∙ ap (λ (k : ℕ). replicate k false) r.met_length);
  room = record {
    goals_length = r.goals_length;
    met_length = same ∙ r.met_length;
    stack_room = r.stack_room;
    stack_zeros = r.stack_zeros;
  };
}

module _ {n : ℕ} {edge : Edges} {goals starts met : List Bool} {stack : List ℕ} {start : ℕ} (g : Going n edge goals starts met stack start) where
  -- a node that is no start
  pub going_skip : marked starts start ≡ false → Going n edge goals starts met stack (start + 1)
  going_skip e = record {
    goes =
        g.goes
        ∙ ap (λ (b : Bool). cond b (f start so_far) so_far) (sym e)
        ∙ sym (each_one f starts (seeking (replicate n false)) start);
    room = g.room;
  }
    where
      f : ℕ → Search → Search
      f = seek n edge goals n

      so_far : Search
      so_far = each f (starts_of start starts) (seeking (replicate n false))

module _ {n : ℕ} {edge : Edges} {goals starts met : List Bool} {stack : List ℕ} {start : ℕ} (g : Going n edge goals starts met stack start)
    (marks : marked starts start ≡ true) {met' : List Bool} {stopped : Bool} {stack' : List ℕ}
    (s : SeeksFrom n edge goals start met met' stopped stack') where
  -- after one start more
  after : search_of met' stopped ≡ each (seek n edge goals n) (starts_of (start + 1) starts) (seeking (replicate n false))
  after =
      s.seeks
      ∙ ap (seek n edge goals n start) g.goes
      ∙ ap (λ (b : Bool). cond b (seek n edge goals n start so_far) so_far) (sym marks)
      ∙ sym (each_one (seek n edge goals n) starts (seeking (replicate n false)) start)
    where
      so_far : Search
      so_far = each (seek n edge goals n) (starts_of start starts) (seeking (replicate n false))

  pub going_on : stopped ≡ false → length met' ≡ length met → length stack' ≡ length stack → Going n edge goals starts met' stack' (start + 1)
  going_on e lm ls = record {
    goes = ap (search_of met') (sym e) ∙ after;
    room = record {
      goals_length = g.room.goals_length;
      met_length = lm ∙ g.room.met_length;
      stack_room = omega (arith, g.room.stack_room, ls);
      stack_zeros = s.stack_zeros;
    };
  }

  -- the search stops: nothing is done at the starts that are left
  pub going_stops : stopped ≡ true → start < n → Seeks n edge goals starts met' true stack'
  unfolding sought
  going_stops e lt =
      let k = n - (start + 1) in
      let all : start + 1 + k ≡ n = omega arith in
      let f = seek n edge goals n in
      let now : search_of met' true ≡ each f (starts_of (start + 1) starts) (seeking (replicate n false)) = ap (search_of met') (sym e) ∙ after in
      record {
        seeks =
            sym (each_stopped n edge goals n (filter (marked starts) (range (start + 1) k)) (search_of met' true) refl)
            ∙ ap (each f (filter (marked starts) (range (start + 1) k))) now
            ∙ sym (each_split f starts (seeking (replicate n false)) (start + 1) k)
            ∙ ap (λ (j : ℕ). each f (starts_of j starts) (seeking (replicate n false))) all;
        stack_zeros = s.stack_zeros;
      }

-- no start is left
pub going_end : {n : ℕ} {edge : Edges} {goals starts met : List Bool} {stack : List ℕ} {start : ℕ} → Going n edge goals starts met stack start → start ≤ n → n ≤ start
    → Seeks n edge goals starts met false stack
unfolding sought
going_end {n} {edge} {goals} {starts} {start = start} g le ge =
    let e : start ≡ n = omega arith in
    record {
      seeks = g.goes ∙ ap (λ (j : ℕ). each (seek n edge goals n) (starts_of j starts) (seeking (replicate n false))) e;
      stack_zeros = g.room.stack_zeros;
    }
