-- Loops over a held plot, a turn at a time.
--     freed_start, freed_other, freed_here, freed_none     the freed places, for one
--     SeenMarks, marks_start, marks_more, marks_all        the same with their marks
--     gathered_start, gathered_more                        blocks gathered
--     blank_more                                           blank places
--     among_here, among_later, among_done                  connections, from one on
--     keys_start, keys_more, neighbours_more               keys of connections
-- Assumes nothing.
use mathlib.Core.Path.{◌≡◌, refl, sym, ap, ◌∙◌, subst}
use mathlib.Core.Bool.{Bool, true, false, cond}
use mathlib.Core.List.{List, [], ◌∷◌, ◌++◌}
use mathlib.Core.Logic.{⊎_elim}
use Prim.Native.Nat.{◌-◌, ℕ, ◌+◌, ◌*◌, ◌≤◌, ◌<◌}
use native.Mathlib.Omega.{arith}
use native.Mathlib.Numerals.{add-one}
use lib.ListN.{length, get_or, take, drop, set, length-append, length-drop, length-set}
use lib.Seq.{paste, take-paste, length-take-le, take-length, get_or-set_same, get_or-set_other}
use lib.Dec.{eqb, ltb}
use lib.IntN.{ℤ}
use Rattle.std.specs.Bool.{Decides}
use borrow.Author.Tests.{lt-ltb}
use Rattle.tables.specs.Order.{member}
use Rattle.lists.specs.Limits.{component_width, port_width}
use Rattle.lists.specs.First.{tabulate}
use Rattle.lists.proofs.Search.{never}
use Rattle.lists.proofs.Some.{and_true}
use Rattle.held.specs.Tests.{any, every, distinct, same_numbers}
use Rattle.held.specs.Plot.{Record, Place, free, taken, blocks}
use Rattle.held.specs.Lent.{flat, record_at, counts_width, freed_count_in, freed_places_in, is_blank}
use Rattle.std.specs.Prelude.{Option, Some, None}
use Rattle.held.specs.Inspected.{both_ends, connection_key, key_if, KeysBelow, FreedMarked, marked_place, GatheredOne, Gathered}
use Rattle.held.proofs.Lists.{member_head, member_other, distinct_cons}
use Rattle.held.proofs.Places.{same_or_not}
use Rattle.held.proofs.Flat.{flat_snoc}
use Rattle.held.proofs.Reached.{length_tabulate, get_or_tabulate}
use Rattle.held.proofs.Sorting.{same_is, same_self}
use Rattle.held.proofs.InspectLaws.{seen, seen_more, seen_all, fails_below, fails_twice, blocks_snoc_free, blocks_snoc_taken, any_turn, any_done}

-- ---- the freed places

-- the first i are below and different, and they are marked
pub record SeenMarks (state : List ℕ) (used i : ℕ) (marks : List Bool) : Type 0 where
  pub once : distinct eqb (seen state i) ≡ true
  pub below : every (λ k. ltb k used) (seen state i) ≡ true
  pub marked : (k : ℕ) → k < length marks → get_or marks k false ≡ member k (seen state i)

module _ (state : List ℕ) (room : counts_width + freed_count_in state ≤ length state) where
  grown : (i : ℕ) → i < freed_count_in state → seen state (i + 1) ≡ get_or state (counts_width + i) 0 ∷ seen state i
  grown i h = ap (seen state) (add-one i) ∙ seen_more state room i h

  pub freed_start : (k : ℕ) → member k (seen state 0) ≡ false
  unfolding member
  freed_start k = refl

  pub freed_other : (k i : ℕ) → i < freed_count_in state → (get_or state (counts_width + i) 0 ≡ k → ⊥) → member k (seen state i) ≡ false → member k (seen state (i + 1)) ≡ false
  freed_other k i h n e = rw (grown i h) (member_other k (get_or state (counts_width + i) 0) (seen state i) (λ s. n (sym s)) ∙ e)

  pub freed_none : (k i : ℕ) → freed_count_in state ≤ i → member k (seen state i) ≡ false → false ≡ member k (freed_places_in state)
  freed_none k i h e = sym (subst (λ (l : List ℕ). member k l ≡ false) (seen_all state room i h) e)

  -- ---- with their marks

  pub marks_start : (used : ℕ) (marks : List Bool) → ((k : ℕ) → get_or marks k false ≡ false) → SeenMarks state used 0 marks
  unfolding distinct every member
  marks_start used marks none = record { once = refl; below = refl; marked = λ k h. none k }

  pub marks_more : (used i : ℕ) (marks : List Bool) → i < freed_count_in state → get_or state (counts_width + i) 0 < used → used ≤ length marks
      → get_or marks (get_or state (counts_width + i) 0) false ≡ false → SeenMarks state used i marks → SeenMarks state used (i + 1) (set marks (get_or state (counts_width + i) 0) true)
  unfolding every
  marks_more used i marks h below fits new s =
      let x : ℕ = get_or state (counts_width + i) 0 in
      let fresh : member x (seen state i) ≡ false = sym (s.marked x (omega arith)) ∙ new in
      record {
        once = rw (grown i h) (distinct_cons x (seen state i) fresh s.once);
        below = rw (grown i h) (and_true _ _ (lt-ltb x used below) s.below);
        marked = λ k b.
            rw (grown i h)
            (⊎_elim
            (λ (same : k ≡ x). rw same (get_or-set_same marks x true false (omega arith) ∙ sym (member_head x (seen state i))))
            (λ (n : k ≡ x → ⊥). get_or-set_other marks x k true false n ∙ (s.marked k (simp length-set at b) ∙ sym (member_other k x (seen state i) n)))
            (same_or_not k x));
      }

  pub marks_all : (used i : ℕ) (marks : List Bool) → freed_count_in state ≤ i → SeenMarks state used i marks → FreedMarked state used marks true
  marks_all used i marks h s =
      let all = seen_all state room i h in
      record {
        answer = sym (and_true _ _ (subst (λ (t : List ℕ). distinct eqb t ≡ true) all s.once) (subst (λ (t : List ℕ). every (λ k. ltb k used) t ≡ true) all s.below));
        marked = λ e. record { at = λ k h. subst (λ (t : List ℕ). get_or marks k false ≡ member k t) all (s.marked k h) };
      }

  pub marks_above : (used i : ℕ) (marks : List Bool) → i < freed_count_in state → used ≤ get_or state (counts_width + i) 0 → FreedMarked state used marks false
  marks_above used i marks h above = record { answer = sym (fails_below state room used i h above); marked = λ e. never e }

  pub marks_twice : (used i : ℕ) (marks : List Bool) → i < freed_count_in state → get_or state (counts_width + i) 0 < used → used ≤ length marks
      → get_or marks (get_or state (counts_width + i) 0) false ≡ true → SeenMarks state used i marks → FreedMarked state used marks false
  marks_twice used i marks h below fits old s =
      let again : member (get_or state (counts_width + i) 0) (seen state i) ≡ true = sym (s.marked (get_or state (counts_width + i) 0) (omega arith)) ∙ old in
      record { answer = sym (fails_twice state room used i h again); marked = λ e. never e }

  -- ---- blank places

  pub blank_start : (places : List ℤ) → every (is_blank places) (seen state 0) ≡ true
  unfolding every
  blank_start places = refl

  pub blank_more : (places : List ℤ) (i : ℕ) → i < freed_count_in state → is_blank places (get_or state (counts_width + i) 0) ≡ true
      → every (is_blank places) (seen state i) ≡ true → every (is_blank places) (seen state (i + 1)) ≡ true
  unfolding every
  blank_more places i h e f = rw (grown i h) (and_true _ _ e f)

  pub blank_all : (places : List ℤ) (i : ℕ) → freed_count_in state ≤ i → every (is_blank places) (seen state i) ≡ true → true ≡ every (is_blank places) (freed_places_in state)
  blank_all places i h e = sym (subst (λ (t : List ℕ). every (is_blank places) t ≡ true) (seen_all state room i h) e)

-- ---- blocks

pub gathered_start : (places : List ℤ) (marks : List Bool) (out : List ℤ) → Gathered places marks 0 out 0
unfolding tabulate blocks flat
gathered_start places marks out = record { count = refl; numbers = refl; few = omega arith }

pub gathered_more : (places : List ℤ) (marks : List Bool) (k count : ℕ) (out out' : List ℤ) (r : ℕ) → k * component_width + component_width ≤ length places
    → count * component_width + component_width ≤ length out → Gathered places marks k out count
    → GatheredOne places (get_or marks k false) k count out out' r → Gathered places marks (k + 1) out' r
unfolding tabulate
gathered_more places marks k count out out' r room fits g one = go (get_or marks k false) refl one.count_is one.out_is
  where
    ps : List Place
    ps = tabulate (marked_place marks places) k

    block : Record
    block = record_at component_width places k

    long : length block ≡ component_width
    long = length-take-le component_width (drop (k * component_width) places) (omega (arith, length-drop (k * component_width) places))

    next : (b : Bool) → get_or marks k false ≡ b → tabulate (marked_place marks places) (k + 1) ≡ ps ++ (cond b free (taken block) ∷ [])
    next b e = ap (tabulate (marked_place marks places)) (add-one k) ∙ ap (λ (t : Bool). ps ++ (cond t free (taken block) ∷ [])) e

    go : (b : Bool) → get_or marks k false ≡ b → r ≡ cond b count (count + 1) → out' ≡ cond b out (paste out (count * component_width) block component_width)
        → Gathered places marks (k + 1) out' r
    go true e c o =
        let same : blocks (tabulate (marked_place marks places) (k + 1)) ≡ blocks ps = ap blocks (next true e) ∙ blocks_snoc_free ps in
        record {
          count = c ∙ (g.count ∙ ap length (sym same));
          numbers = rw (o, c) (g.numbers ∙ ap flat (sym same));
          few = omega (arith, g.few);
        }
    go false e c o =
        let grown : blocks (tabulate (marked_place marks places) (k + 1)) ≡ blocks ps ++ (block ∷ []) = ap blocks (next false e) ∙ blocks_snoc_taken ps block in
        let whole : take component_width block ≡ block = subst (λ (n : ℕ). take n block ≡ block) long (take-length block) in
        let size : (count + 1) * component_width ≡ count * component_width + component_width = omega arith in
        let front : take (count * component_width + component_width) (paste out (count * component_width) block component_width) ≡ take (count * component_width) out ++ block =
        take-paste out (count * component_width) block component_width (omega arith) (omega (arith, long)) ∙ ap (λ (t : List ℤ). take (count * component_width) out ++ t) whole in
        record {
          count = c ∙ (omega (arith, g.count, length-append (blocks ps) (block ∷ [])) ∙ ap length (sym grown));
          numbers = rw (o, c, size) (front ∙ (rw g.numbers (sym (flat_snoc (blocks ps) block)) ∙ ap flat (sym grown)));
          few = omega (arith, g.few);
        }

-- ---- connections

-- record k of a list is the record that is lent, as many numbers long
pub same_decided : (a list : List ℤ) (from : ℕ) (j : ℕ) (r : Bool) → j ≡ port_width → Decides r (a ≡ take j (drop from list)) → r ≡ same_numbers a (take port_width (drop from list))
same_decided a list from j r e d =
    let b = take port_width (drop from list) in
    let back : Decides r (a ≡ b) = subst (λ (n : ℕ). Decides r (a ≡ take n (drop from list))) e d in
    go r (same_numbers a b) refl back
  where
    go : (s t : Bool) → same_numbers a (take port_width (drop from list)) ≡ t → Decides s (a ≡ take port_width (drop from list)) → s ≡ t
    go true true q d = refl
    go true false q d = sym (subst (λ (y : Record). same_numbers a y ≡ true) (d.0 refl) (same_self a)) ∙ q
    go false true q d = d.1 (same_is a _ q)
    go false false q d = refl

module _ (test : Record → Bool) (list : List ℤ) (n k : ℕ) where
  pub among_here : k < n → test (record_at port_width list k) ≡ true → any test (drop k (tabulate (record_at port_width list) n)) ≡ true
  among_here h e = any_turn test (tabulate (record_at port_width list) n) k [] (omega (arith, length_tabulate (record_at port_width list) n)) ∙ rw (get_or_tabulate (record_at port_width list) n k [] h, e)

  pub among_later : k < n → test (record_at port_width list k) ≡ false → any test (drop k (tabulate (record_at port_width list) n)) ≡ any test (drop (k + 1) (tabulate (record_at port_width list) n))
  among_later h e = any_turn test (tabulate (record_at port_width list) n) k [] (omega (arith, length_tabulate (record_at port_width list) n)) ∙ rw (get_or_tabulate (record_at port_width list) n k [] h, e)

  pub among_done : n ≤ k → any test (drop k (tabulate (record_at port_width list) n)) ≡ false
  among_done h = any_done test (tabulate (record_at port_width list) n) k (omega (arith, length_tabulate (record_at port_width list) n))

-- ---- keys

pub keys_start : (cs ps : List ℤ) (keys : List ℕ) → KeysBelow cs ps keys 0
keys_start cs ps keys = record { ends = λ k h. absurd (omega arith); key = λ k h. absurd (omega arith) }

pub some_key : (b : Bool) (x y : ℕ) → ◌≡◌ {A = Option ℕ} (Some y) (cond b (Some x) None) → (b ≡ true) × (y ≡ x)
some_key true x y e = (refl, cc)
some_key false x y e = let z : ◌≡◌ {A = ℕ} 0 1 = cc in absurd (omega arith)

pub no_key : (b : Bool) (x : ℕ) → ◌≡◌ {A = Option ℕ} None (cond b (Some x) None) → b ≡ false
no_key true x e = let z : ◌≡◌ {A = ℕ} 0 1 = cc in absurd (omega arith)
no_key false x e = refl

pub keys_more : (cs ps : List ℤ) (keys : List ℕ) (k key : ℕ) → k < length keys → Some key ≡ key_if cs ps k → KeysBelow cs ps keys k → KeysBelow cs ps (set keys k key) (k + 1)
keys_more cs ps keys k key h e b =
    let here = some_key (both_ends cs ps k) (connection_key cs ps k) key e in
    record {
      ends = λ j l. ⊎_elim (λ (same : j ≡ k). subst (λ (i : ℕ). both_ends cs ps i ≡ true) (sym same) here.0) (λ (n : j ≡ k → ⊥). b.ends j (omega arith)) (same_or_not j k);
      key = λ j l.
          ⊎_elim
          (λ (same : j ≡ k). rw same (get_or-set_same keys k key 0 h ∙ here.1))
          (λ (n : j ≡ k → ⊥). get_or-set_other keys k j key 0 n ∙ b.key j (omega arith))
          (same_or_not j k);
    }

-- no number below place k is the same as the next
abbrev pub DifferBelow : List ℕ → ℕ → Type 0
DifferBelow keys k = (i : ℕ) → i + 1 < k → get_or keys i 0 ≡ get_or keys (i + 1) 0 → ⊥

pub neighbours_more : (keys : List ℕ) (k : ℕ) → (get_or keys (k - 1) 0 ≡ get_or keys k 0 → ⊥) → DifferBelow keys k → DifferBelow keys (k + 1)
neighbours_more keys k n d i h e =
    ⊎_elim
    (λ (last : i + 1 ≡ k). let j : i ≡ k - 1 = omega arith in n (rw (← j, ← last) e))
    (λ (other : i + 1 ≡ k → ⊥). d i (omega arith) e)
    (same_or_not (i + 1) k)
