-- Every sound plot is left by an opening and clicks. As many blocks as the plot has places are placed, the block at place k with id k. All
-- are broken again: first those whose places are free in the plot, in the order in which it freed them, then the others by rising place.
-- Now nothing stands anywhere, and the freed places are the others, the highest place first, and then those of the plot. The plot's own
-- blocks are placed, the one at the highest place first: each gets its place. Last its connections are added, in their order.
--     Reach, clicks_of               a plot that accepted clicks lead to, and these clicks
--     first_blocks, breaks, others_broken, filled, joined_all      the stages
--     reached                        every sound plot is leavable
-- Assumes nothing.
use Rattle.std.specs.Prelude.{⊤, Option, Some, Result, Ok}
use Rattle.lists.specs.declared.Refusal.{Refusal}
use mathlib.Core.Path.{◌≡◌, refl, sym, ap, ◌∙◌, subst}
use mathlib.Core.Bool.{Bool, true, false, cond, ◌||◌}
use mathlib.Core.List.{List, [], ◌∷◌, ◌++◌, append_assoc, append-nil}
use mathlib.Core.Logic.{◌⊎◌, inl, inr, ⊎_elim}
use Prim.Native.Nat.{ℕ, zero, suc, ◌≤◌, ◌<◌}
use native.Mathlib.Omega.{arith}
use lib.ListN.{length, get_or, set, length-set, length-append, get_or-append}
use lib.Seq.{ext_get_or, get_or_at, get_or-set_same, get_or-set_other}
use lib.Dec.{eqb, ltb, leb-zero}
use lib.IntN.{ℤ, pos}
use borrow.Author.Tests.{le-leb, ltb-true, ltb-false, lt-ltb, le-ltb}
use Rattle.tables.specs.Order.{member}
use Rattle.lists.specs.Limits.{component_limit, connection_limit}
use Rattle.lists.specs.Ranges.{record_in_range}
use Rattle.lists.specs.First.{tabulate, all_from}
use Rattle.lists.proofs.Search.{both}
use Rattle.held.specs.Tests.{every, distinct, keep, same_numbers}
use Rattle.held.specs.Plot.{Record, Place, free, taken, Plot, at, present, id_of, place_of, is_present, fits, block_fits, connection_fits, ends_present, opened, seated, still_free, broken_at, is_held, joined}
use Rattle.held.specs.Left.{Click, place, break, connect, checks_of, effect_of, left_if, left_by, run, Leavable}
use Rattle.held.proofs.Lists.{true_not_false, member_head, member_tail, member_other, distinct_head, distinct_tail, distinct_front}
use Rattle.held.proofs.Places.{same_or_not, not_both, same_block, taken_below, Stands, present_at, absent_is, place_is, count_most, count_less}
use Rattle.held.proofs.Sound.{Sound}
use Rattle.held.proofs.Kept.{accepts_placing, accepts_breaking, accepts_connecting}

-- ---- clicks that are accepted, one after the other

pub data Reach (rules : ℕ) (frontiers : List ℤ) : Plot → Type 0 where
  start : Reach rules frontiers (opened rules frontiers)
  next : {plot : Plot} → Reach rules frontiers plot → (click : Click) → checks_of plot click ≡ Ok tt → Reach rules frontiers (effect_of plot click)

run_snoc : (plot : Plot) (clicks : List Click) (click : Click) → run plot (clicks ++ (click ∷ [])) ≡ left_by (run plot clicks) click
unfolding run
run_snoc plot [] click = refl
run_snoc plot (c ∷ clicks) click = run_snoc (left_by plot c) clicks click

pub clicks_of : {rules : ℕ} {frontiers : List ℤ} {plot : Plot} → Reach rules frontiers plot → (clicks : List Click) × (run (opened rules frontiers) clicks ≡ plot)
unfolding run
clicks_of start = ([], refl)
clicks_of {rules} {frontiers} (next {plot = before} r click e) = go (clicks_of r)
  where
    go : (clicks : List Click) × (run (opened rules frontiers) clicks ≡ before) → (clicks : List Click) × (run (opened rules frontiers) clicks ≡ effect_of before click)
    go (clicks, q) = (
      clicks ++ (click ∷ []),
      run_snoc (opened rules frontiers) clicks click ∙ (ap (λ (p : Plot). left_by p click) q ∙ ap (λ (c : Result ⊤ Refusal). left_if c (effect_of before click) before) e),
    )

-- ---- places by a function, some of them free

module _ {A : Type 0} (f : ℕ → A) where
  pub length_tabulate : (n : ℕ) → length (tabulate f n) ≡ n
  unfolding tabulate
  length_tabulate zero = refl
  length_tabulate (suc n) = length-append (tabulate f n) (f n ∷ []) ∙ omega (arith, length_tabulate n)

  pub get_or_tabulate : (n k : ℕ) (d : A) → k < n → get_or (tabulate f n) k d ≡ f k
  unfolding tabulate
  get_or_tabulate zero k d h = absurd (omega arith)
  get_or_tabulate (suc n) k d h =
      ⊎_elim
      (λ (same : k ≡ n). get_or_at (tabulate f n) (f n) [] d k (length_tabulate n ∙ sym same) ∙ ap f (sym same))
      (λ (other : k ≡ n → ⊥).
      let below : k < n = omega (arith, other) in
      get_or-append (tabulate f n) (f n ∷ []) d k (omega (arith, length_tabulate n)) ∙ get_or_tabulate n k d below)
      (same_or_not k n)

-- the places below n, free where a list names them
abbrev shown : (ℕ → Place) → ℕ → List ℕ → List Place
shown f n qs = tabulate (λ k. cond (member k qs) free (f k)) n

at_shown : (f : ℕ → Place) (n : ℕ) (qs : List ℕ) (k : ℕ) → k < n → at (shown f n qs) k ≡ cond (member k qs) free (f k)
at_shown f n qs k h = get_or_tabulate (λ k. cond (member k qs) free (f k)) n k free h

length_shown : (f : ℕ → Place) (n : ℕ) (qs : List ℕ) → length (shown f n qs) ≡ n
length_shown f n qs = length_tabulate (λ k. cond (member k qs) free (f k)) n

at_free : (f : ℕ → Place) (n : ℕ) (qs : List ℕ) (k : ℕ) → k < n → member k qs ≡ true → at (shown f n qs) k ≡ free
at_free f n qs k h m = at_shown f n qs k h ∙ rw m

at_taken : (f : ℕ → Place) (n : ℕ) (qs : List ℕ) (k : ℕ) → k < n → member k qs ≡ false → at (shown f n qs) k ≡ f k
at_taken f n qs k h m = at_shown f n qs k h ∙ rw m

-- a block that stands there is the function's, at a place that is not named
stands_shown : (f : ℕ → Place) (n : ℕ) (qs : List ℕ) (id k : ℕ) → (s : Stands (shown f n qs) id k) → (k < n) × (member k qs ≡ false) × (f k ≡ taken s.block)
stands_shown f n qs id k s = go (member k qs) refl
  where
    below : k < n
    below = omega (arith, taken_below (shown f n qs) k s.block s.here, length_shown f n qs)

    go : (b : Bool) → member k qs ≡ b → (k < n) × (member k qs ≡ false) × (f k ≡ taken s.block)
    go true m = not_both (at (shown f n qs) k) s.block s.here (at_free f n qs k below m)
    go false m = (below, m, sym (at_taken f n qs k below m) ∙ s.here)

-- one more is free
set_free : (f : ℕ → Place) (n : ℕ) (qs : List ℕ) (k : ℕ) → k < n → set (shown f n qs) k free ≡ shown f n (k ∷ qs)
set_free f n qs k h =
    ext_get_or free (set (shown f n qs) k free) (shown f n (k ∷ qs))
    (length-set (shown f n qs) k free ∙ (length_shown f n qs ∙ sym (length_shown f n (k ∷ qs))))
    (λ j b. each j (omega (arith, length-set (shown f n qs) k free, length_shown f n qs)))
  where
    each : (j : ℕ) → j < n → at (set (shown f n qs) k free) j ≡ at (shown f n (k ∷ qs)) j
    each j b =
        ⊎_elim
        (λ (same : j ≡ k).
        subst (λ (i : ℕ). at (set (shown f n qs) k free) i ≡ at (shown f n (k ∷ qs)) i) (sym same)
        (get_or-set_same (shown f n qs) k free free (omega (arith, length_shown f n qs)) ∙ sym (at_free f n (k ∷ qs) k h (member_head k qs))))
        (λ (other : j ≡ k → ⊥).
        get_or-set_other (shown f n qs) k j free free other
        ∙ (at_shown f n qs j b ∙ (ap (λ (t : Bool). cond t free (f j)) (sym (member_other j k qs other)) ∙ sym (at_shown f n (k ∷ qs) j b))))
        (same_or_not j k)

-- one is taken again
set_taken : (f : ℕ → Place) (n : ℕ) (qs : List ℕ) (k : ℕ) (r : Record) → k < n → member k qs ≡ false → f k ≡ taken r
    → set (shown f n (k ∷ qs)) k (taken r) ≡ shown f n qs
set_taken f n qs k r h m e =
    ext_get_or free (set (shown f n (k ∷ qs)) k (taken r)) (shown f n qs)
    (length-set (shown f n (k ∷ qs)) k (taken r) ∙ (length_shown f n (k ∷ qs) ∙ sym (length_shown f n qs)))
    (λ j b. each j (omega (arith, length-set (shown f n (k ∷ qs)) k (taken r), length_shown f n (k ∷ qs))))
  where
    each : (j : ℕ) → j < n → at (set (shown f n (k ∷ qs)) k (taken r)) j ≡ at (shown f n qs) j
    each j b =
        ⊎_elim
        (λ (same : j ≡ k).
        subst (λ (i : ℕ). at (set (shown f n (k ∷ qs)) k (taken r)) i ≡ at (shown f n qs) i) (sym same)
        (get_or-set_same (shown f n (k ∷ qs)) k (taken r) free (omega (arith, length_shown f n (k ∷ qs))) ∙ sym (at_taken f n qs k h m ∙ e)))
        (λ (other : j ≡ k → ⊥).
        get_or-set_other (shown f n (k ∷ qs)) k j (taken r) free other
        ∙ (at_shown f n (k ∷ qs) j b ∙ (ap (λ (t : Bool). cond t free (f j)) (member_other j k qs other) ∙ sym (at_shown f n qs j b))))
        (same_or_not j k)

-- all are free
all_free : (f g : ℕ → Place) (n : ℕ) (qs : List ℕ) → ((k : ℕ) → k < n → member k qs ≡ true) → shown f n qs ≡ shown g n qs
all_free f g n qs h =
    ext_get_or free (shown f n qs) (shown g n qs) (length_shown f n qs ∙ sym (length_shown g n qs))
    (λ j b. let l : j < n = omega (arith, length_shown f n qs) in at_free f n qs j l (h j l) ∙ sym (at_free g n qs j l (h j l)))

-- ---- the first blocks

-- a wire at 0, 0, 0 whose id is k
abbrev first : ℕ → Record
first k = pos k ∷ pos 0 ∷ pos 0 ∷ pos 0 ∷ pos 0 ∷ pos 0 ∷ pos 0 ∷ pos 0 ∷ []

first_fits : (k : ℕ) → k ≤ 4294967295 → block_fits (first k) ≡ true
unfolding fits record_in_range all_from
first_fits k h = rw (leb-zero k, le-leb k 4294967295 h)

-- a plot without connections
abbrev bare : ℕ → List ℤ → List Place → List ℕ → Plot
bare rules frontiers places freed = record { rules = rules; frontiers = frontiers; places = places; freed = freed; connections = [] }

module _ (rules : ℕ) (frontiers : List ℤ) where
  -- n of them, those of a list broken again
  abbrev partly : ℕ → List ℕ → Plot
  partly n qs = bare rules frontiers (shown (λ k. taken (first k)) n qs) qs

  first_blocks : (n : ℕ) → n ≤ component_limit → Reach rules frontiers (partly n [])
  unfolding tabulate member seated still_free
  first_blocks zero h = start
  first_blocks (suc n) h = next (first_blocks n (omega arith)) (place (first n)) (accepts_placing (partly n []) (first n) (record { fit = first_fits n (omega arith); new = fresh; room = room }))
    where
      fresh : is_present (shown (λ k. taken (first k)) n []) n ≡ false
      fresh =
          absent_is (shown (λ k. taken (first k)) n []) n
          (λ k s.
          let p = stands_shown (λ k. taken (first k)) n [] n k s in
          let i : k ≡ n = ap id_of (same_block (first k) s.block p.2) ∙ s.named in
          omega (arith, p.0))

      room : present (shown (λ k. taken (first k)) n []) < component_limit
      room = omega (arith, count_most (shown (λ k. taken (first k)) n []), length_shown (λ k. taken (first k)) n [])

  -- one more is broken
  break_one : (n : ℕ) (qs : List ℕ) (k : ℕ) → k < n → member k qs ≡ false → Reach rules frontiers (partly n qs) → Reach rules frontiers (partly n (k ∷ qs))
  unfolding keep
  break_one n qs k h m r =
      subst (λ (ps : List Place). Reach rules frontiers (bare rules frontiers ps (k ∷ qs))) (set_free (λ k. taken (first k)) n qs k h)
      (subst (λ (f : Option ℕ). Reach rules frontiers (broken_at (partly n qs) k f)) found
      (next r (break k) (accepts_breaking (partly n qs) k (present_at (partly n qs).places k k here))))
    where
      here : Stands (shown (λ k. taken (first k)) n qs) k k
      here = record { block = first k; here = at_taken (λ k. taken (first k)) n qs k h m; named = refl }

      found : place_of (shown (λ k. taken (first k)) n qs) k ≡ Some k
      found =
          place_is (shown (λ k. taken (first k)) n qs) k k here
          (λ j s. ap id_of (same_block (first j) s.block (stands_shown (λ k. taken (first k)) n qs k j s).2) ∙ s.named)

  -- those of a list, from its end
  breaks : (n : ℕ) → n ≤ component_limit → (qs : List ℕ) → distinct eqb qs ≡ true → ((k : ℕ) → member k qs ≡ true → k < n) → Reach rules frontiers (partly n qs)
  breaks n h [] e b = first_blocks n h
  breaks n h (q ∷ qs) e b =
      break_one n qs q (b q (member_head q qs)) (distinct_head q qs e)
      (breaks n h qs (distinct_tail eqb q qs e) (λ k m. b k (member_tail k q qs m)))

-- the places below k that are not freed, the highest first, and then the freed ones
others : List ℕ → ℕ → List ℕ
others freed zero = freed
others freed (suc k) = cond (member k freed) (others freed k) (k ∷ others freed k)

ltb_suc : (j k : ℕ) → (j ≡ k → ⊥) → ltb j (suc k) ≡ ltb j k
ltb_suc j k n = go (ltb j k) refl
  where
    go : (t : Bool) → ltb j k ≡ t → ltb j (suc k) ≡ t
    go true e = lt-ltb j (suc k) (omega (arith, ltb-true j k e))
    go false e = le-ltb j (suc k) (omega (arith, n, ltb-false j k e))

member_others : (freed : List ℕ) (k j : ℕ) → member j (others freed k) ≡ (ltb j k || member j freed)
unfolding others
member_others freed zero j = rw (le-ltb j 0 (omega arith))
member_others freed (suc k) j = go (member k freed) refl (member_others freed k j) (same_or_not j k)
  where
    go : (b : Bool) → member k freed ≡ b → member j (others freed k) ≡ (ltb j k || member j freed) → (j ≡ k) ⊎ (j ≡ k → ⊥)
        → member j (cond b (others freed k) (k ∷ others freed k)) ≡ (ltb j (suc k) || member j freed)
    go true m rest (inl same) =
        let in-freed : member j freed ≡ true = subst (λ (i : ℕ). member i freed ≡ true) (sym same) m in
        let below : ltb j (suc k) ≡ true = lt-ltb j (suc k) (omega arith) in
        rw (rest, in-freed, below) (le_or (ltb j k))
      where
        le_or : (t : Bool) → (t || true) ≡ true
        le_or true = refl
        le_or false = refl
    go true m rest (inr n) = rw (ltb_suc j k n) rest
    go false m rest (inl same) =
        let below : ltb j (suc k) ≡ true = lt-ltb j (suc k) (omega arith) in
        rw below (subst (λ (i : ℕ). member j (i ∷ others freed k) ≡ true) same (member_head j (others freed k)))
    go false m rest (inr n) = rw (ltb_suc j k n, member_other j k (others freed k) n) rest

-- ---- all are broken, and the plot's own blocks placed

module _ (plot : Plot) (s : Sound plot) where
  others_broken : (k : ℕ) → k ≤ length plot.places → Reach plot.rules plot.frontiers (partly plot.rules plot.frontiers (length plot.places) (others plot.freed k))
  unfolding others
  others_broken zero h =
      breaks plot.rules plot.frontiers (length plot.places) s.places_sound.few plot.freed s.freed_sound.once s.freed_sound.used
  others_broken (suc k) h = go (member k plot.freed) refl (others_broken k (omega arith))
    where
      go : (b : Bool) → member k plot.freed ≡ b
          → Reach plot.rules plot.frontiers (partly plot.rules plot.frontiers (length plot.places) (others plot.freed k))
          → Reach plot.rules plot.frontiers (partly plot.rules plot.frontiers (length plot.places) (cond b (others plot.freed k) (k ∷ others plot.freed k)))
      go true m r = r
      go false m r =
          break_one plot.rules plot.frontiers (length plot.places) (others plot.freed k) k (omega arith)
          (member_others plot.freed k k ∙ rw (m, le-ltb k k (omega arith))) r

  -- the plot's own blocks, without those of a list
  abbrev own : List ℕ → Plot
  own qs = bare plot.rules plot.frontiers (shown (at plot.places) (length plot.places) qs) qs

  place_one : (qs : List ℕ) (k : ℕ) (r : Record) → k < length plot.places → member k qs ≡ false → at plot.places k ≡ taken r
      → Reach plot.rules plot.frontiers (own (k ∷ qs)) → Reach plot.rules plot.frontiers (own qs)
  unfolding seated still_free
  place_one qs k r h m e reach =
      subst (λ (ps : List Place). Reach plot.rules plot.frontiers (bare plot.rules plot.frontiers ps qs)) (set_taken (at plot.places) (length plot.places) qs k r h m e)
      (next reach (place r) (accepts_placing (own (k ∷ qs)) r (record { fit = s.places_sound.fit k r e; new = fresh; room = room })))
    where
      fresh : is_present (shown (at plot.places) (length plot.places) (k ∷ qs)) (id_of r) ≡ false
      fresh =
          absent_is (shown (at plot.places) (length plot.places) (k ∷ qs)) (id_of r)
          (λ j t.
          let p = stands_shown (at plot.places) (length plot.places) (k ∷ qs) (id_of r) j t in
          let same : j ≡ k = s.places_sound.one j k t.block r p.2 e t.named in
          true_not_false (sym (subst (λ (i : ℕ). member i (k ∷ qs) ≡ true) (sym same) (member_head k qs)) ∙ p.1))

      room : present (shown (at plot.places) (length plot.places) (k ∷ qs)) < component_limit
      room =
          let less = count_less (shown (at plot.places) (length plot.places) (k ∷ qs)) k (omega (arith, length_shown (at plot.places) (length plot.places) (k ∷ qs)))
          (at_free (at plot.places) (length plot.places) (k ∷ qs) k h (member_head k qs)) in
          omega (arith, less, length_shown (at plot.places) (length plot.places) (k ∷ qs), s.places_sound.few)

  -- a place that is not freed is taken
  stands_there : (k : ℕ) → k < length plot.places → member k plot.freed ≡ false → (r : Record) × (at plot.places k ≡ taken r)
  stands_there k h m = go (at plot.places k) refl
    where
      go : (p : Place) → at plot.places k ≡ p → (r : Record) × (at plot.places k ≡ taken r)
      go free e = true_not_false (sym (s.freed_sound.all k h e) ∙ m)
      go (taken r) e = (r, e)

  -- from the highest place down
  filled : (k : ℕ) → k ≤ length plot.places → Reach plot.rules plot.frontiers (own (others plot.freed k)) → Reach plot.rules plot.frontiers (own plot.freed)
  unfolding others
  filled zero h r = r
  filled (suc k) h r = filled k (omega arith) (go (member k plot.freed) refl r)
    where
      go : (b : Bool) → member k plot.freed ≡ b → Reach plot.rules plot.frontiers (own (cond b (others plot.freed k) (k ∷ others plot.freed k)))
          → Reach plot.rules plot.frontiers (own (others plot.freed k))
      go true m reach = reach
      go false m reach =
          let t = stands_there k (omega arith) m in
          place_one (others plot.freed k) k t.0 (omega arith) (member_others plot.freed k k ∙ rw (m, le-ltb k k (omega arith))) t.1 reach

  own_places : shown (at plot.places) (length plot.places) plot.freed ≡ plot.places
  own_places =
      ext_get_or free (shown (at plot.places) (length plot.places) plot.freed) plot.places (length_shown (at plot.places) (length plot.places) plot.freed)
      (λ j b. each j (omega (arith, length_shown (at plot.places) (length plot.places) plot.freed)))
    where
      each : (j : ℕ) → j < length plot.places → at (shown (at plot.places) (length plot.places) plot.freed) j ≡ at plot.places j
      each j b = go (member j plot.freed) refl
        where
          go : (t : Bool) → member j plot.freed ≡ t → at (shown (at plot.places) (length plot.places) plot.freed) j ≡ at plot.places j
          go true m = at_free (at plot.places) (length plot.places) plot.freed j b m ∙ sym (s.freed_sound.frees j m)
          go false m = at_taken (at plot.places) (length plot.places) plot.freed j b m

  -- the plot with the first of its connections
  abbrev wired : List Record → Plot
  wired cs = record { rules = plot.rules; frontiers = plot.frontiers; places = plot.places; freed = plot.freed; connections = cs }

  unwired : Reach plot.rules plot.frontiers (wired [])
  unwired =
      subst (λ (ps : List Place). Reach plot.rules plot.frontiers (bare plot.rules plot.frontiers ps plot.freed)) own_places
      (filled (length plot.places) (omega arith)
      (subst (λ (ps : List Place). Reach plot.rules plot.frontiers (bare plot.rules plot.frontiers ps (others plot.freed (length plot.places))))
      (all_free (λ k. taken (first k)) (at plot.places) (length plot.places) (others plot.freed (length plot.places))
      (λ k h. member_others plot.freed (length plot.places) k ∙ rw (lt-ltb k (length plot.places) h)))
      (others_broken (length plot.places) (omega arith))))

  -- the connections, one after the other
  joined_all : (done rest : List Record) → every connection_fits rest ≡ true → every (ends_present plot.places) rest ≡ true → distinct same_numbers (done ++ rest) ≡ true
      → length (done ++ rest) ≤ connection_limit → Reach plot.rules plot.frontiers (wired done) → Reach plot.rules plot.frontiers (wired (done ++ rest))
  unfolding every
  joined_all done [] f e d l r = rw (append-nil done) r
  joined_all done (c ∷ rest) f e d l r =
      let fs = both (connection_fits c) (every connection_fits rest) f in
      let es = both (ends_present plot.places c) (every (ends_present plot.places) rest) e in
      let new : is_held (wired done) c ≡ false = distinct_front same_numbers done c rest d in
      let same : (done ++ (c ∷ [])) ++ rest ≡ done ++ (c ∷ rest) = append_assoc done (c ∷ []) rest in
      let room : length done < connection_limit = omega (arith, length-append done (c ∷ rest)) in
      let more : Reach plot.rules plot.frontiers (wired (done ++ (c ∷ []))) =
      subst (λ (b : Bool). Reach plot.rules plot.frontiers (cond b (wired done) (joined (wired done) c))) new
      (next r (connect c) (accepts_connecting (wired done) c fs.0 es.0 room)) in
      subst (λ (cs : List Record). Reach plot.rules plot.frontiers (wired cs)) same
      (joined_all (done ++ (c ∷ [])) rest fs.1 es.1 (rw same d) (rw same l) more)

  pub reached : Leavable plot
  reached =
      let c = s.connections_sound in
      let r = clicks_of (joined_all [] plot.connections c.fit c.ends c.once c.few unwired) in
      record { rules = plot.rules; frontiers = plot.frontiers; clicks = r.0; accepted = s.opens; leaves = r.1 }
