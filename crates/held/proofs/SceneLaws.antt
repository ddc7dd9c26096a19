-- What specs/Scene.antt states: the lists of the fresh scene of a held plot are accepted.
--     at_flat                 a field of a record that is laid out
--     flat_in_range           records in range, laid out, are in range
--     scene_accepted
--     fresh                   the sorted rows are the only ones that rise and are the plot's blocks
-- Assumes nothing.
use Rattle.std.specs.Prelude.{Option, Some, None, Ok}
use Rattle.lists.specs.declared.Fault.{Fault}
use Rattle.lists.specs.declared.Section.{Section}
use Rattle.checks.specs.Refusals.{strange_rules, scene_lists}
use mathlib.Core.Path.{◌≡◌, refl, sym, ap, ◌∙◌, subst}
use mathlib.Core.Bool.{Bool, true, false, not, ◌&&◌, ◌||◌}
use mathlib.Core.List.{List, [], ◌∷◌, ◌++◌, append-nil}
use mathlib.Core.Logic.{◌⊎◌, inl, inr}
use Prim.Native.Nat.{ℕ, zero, suc, ◌+◌, ◌*◌, ◌-◌, ◌/◌, ◌%◌, ◌≤◌, ◌<◌}
use native.Mathlib.Nat.{add-zero, zero-add}
use native.Mathlib.Omega.{arith}
use lib.ListN.{length, get_or, drop, get_or-append}
use lib.Seq.{drop-cons, get_or-drop}
use lib.Dec.{eqb}
use lib.IntN.{ℤ, nat_abs}
use borrow.Author.Tests.{eqb-false, eq-eqb, ne_eqb, le-ltb, not-true}
use Rattle.lists.specs.Limits.{component_limit, connection_limit, frontier_limit, component_width, port_width, frontier_width}
use Rattle.lists.specs.Signed.{at, in_range}
use Rattle.lists.specs.Records.{component, port_connection, component_count, port_count}
use Rattle.lists.specs.Ranges.{record_in_range, first_out_of_range, component_low, component_high, port_low, port_high, frontier_low, frontier_high}
use Rattle.lists.specs.Order.{record_before, first_not_ascending, component_order}
use Rattle.lists.specs.Ids.{place_below, has_component, used_earlier, first_repeated, support_transfer, end_missing, first_end_missing}
use Rattle.lists.specs.First.{is_found}
use Rattle.lists.proofs.Search.{never, both, all_at, first_nothing}
use Rattle.lists.proofs.Some.{and_true, some_at}
use Rattle.checks.specs.Refusals.{refuse, ◌or_else◌, not_whole, too_short, liveness_lists}
use Rattle.checks.proofs.Chain.{both_accept}
use Rattle.checks.proofs.Accepts.{refuse_none}
use Rattle.held.specs.Tests.{any, every, distinct, same_numbers}
use Rattle.held.specs.Plot.{Record, Place, free, taken, Plot, blocks, id_of, source_of, sink_of, fits, block_fits, is_present, ends_present, opening}
use Rattle.held.specs.Left.{same_id}
use Rattle.held.specs.Lent.{flat}
use Rattle.held.specs.Scene.{less_by, sorted, SceneAccepted, Fresh}
use Rattle.held.proofs.Lists.{or_neither, or_cases}
use Rattle.held.proofs.Places.{present_found}
use Rattle.held.proofs.Sound.{Sound, at_every, from_all, of_one}
use Rattle.held.proofs.Shown.{fits_long, held_long}
use Rattle.held.proofs.Flat.{Long, length_flat, drop_flat}
use Rattle.held.proofs.Sorting.{every_sorted, any_sorted, sorted_length, sorted_distinct, sorted_rising, rising_at, rising_unique}

-- ---- records of one width, laid out

-- field f of record k
pub at_flat : (w : ℕ) (rs : List Record) (k f : ℕ) → Long w rs → k < length rs → f < w → at (flat rs) (k * w + f) ≡ at (get_or rs k []) f
unfolding flat
at_flat w rs k f l h b =
    let there : drop (k * w) (flat rs) ≡ get_or rs k [] ++ flat (drop (suc k) rs) =
    (subst (λ (t : List ℤ). drop (k * w) t ≡ flat (drop k rs)) (append-nil (flat rs)) (drop_flat w rs k [] l (omega arith) ∙ append-nil (flat (drop k rs)))) ∙ ap flat (drop-cons rs k [] h) in
    sym (get_or-drop (k * w) (flat rs) f _) ∙ (ap (λ (t : List ℤ). at t f) there ∙ get_or-append (get_or rs k []) (flat (drop (suc k) rs)) _ f (omega (arith, long k rs l h)))
  where
    long : (j : ℕ) (ts : List Record) → Long w ts → j < length ts → length (get_or ts j []) ≡ w
    long j [] m p = absurd (omega arith)
    long zero (t ∷ ts) m p = m.0
    long (suc j) (t ∷ ts) m p = long j ts m.1 (omega arith)

-- the first field
pub first_flat : (w : ℕ) (rs : List Record) (k : ℕ) → Long w rs → k < length rs → 0 < w → at (flat rs) (k * w) ≡ at (get_or rs k []) 0
first_flat w rs k l h b = subst (λ (i : ℕ). at (flat rs) i ≡ at (get_or rs k []) 0) (add-zero (k * w)) (at_flat w rs k 0 l h b)

pub every_get_or : (test : Record → Bool) (rs : List Record) → every test rs ≡ true → (k : ℕ) → k < length rs → test (get_or rs k []) ≡ true
unfolding every
every_get_or test [] e k h = absurd (omega arith)
every_get_or test (r ∷ rs) e zero h = (both (test r) (every test rs) e).0
every_get_or test (r ∷ rs) e (suc k) h = every_get_or test rs (both (test r) (every test rs) e).1 k (omega arith)

pub any_get_or : (test : Record → Bool) (rs : List Record) → any test rs ≡ true → (k : ℕ) × (k < length rs) × (test (get_or rs k []) ≡ true)
unfolding any
any_get_or test [] e = never e
any_get_or test (r ∷ rs) e = go (or_cases (test r) (any test rs) e) (any_get_or test rs)
  where
    go : (test r ≡ true) ⊎ (any test rs ≡ true) → (any test rs ≡ true → (k : ℕ) × (k < length rs) × (test (get_or rs k []) ≡ true))
        → (k : ℕ) × (k < suc (length rs)) × (test (get_or (r ∷ rs) k []) ≡ true)
    go (inl h) rest = (0, omega arith, h)
    go (inr h) rest = let f = rest h in (suc f.0, omega (arith, f.1), f.2)

pub at_any : (test : Record → Bool) (ps : List Place) (k : ℕ) (r : Record) → get_or ps k free ≡ taken r → test r ≡ true → any test (blocks ps) ≡ true
unfolding any blocks
at_any test [] k r e t = let z : ◌≡◌ {A = ℕ} 0 1 = cc in absurd (omega arith)
at_any test (free ∷ ps) zero r e t = let z : ◌≡◌ {A = ℕ} 0 1 = cc in absurd (omega arith)
at_any test (free ∷ ps) (suc k) r e t = at_any test ps k r e t
at_any test (taken s ∷ ps) zero r e t = let same : s ≡ r = cc in rw (same, t)
at_any test (taken s ∷ ps) (suc k) r e t = later (test s) (at_any test ps k r e t)
  where
    later : (b : Bool) → any test (blocks ps) ≡ true → (b || any test (blocks ps)) ≡ true
    later true h = refl
    later false h = h

-- ---- 1

pub whole : (width limit n : ℕ) → n / width ≤ limit → n % width ≡ 0 → not_whole width limit n ≡ None
unfolding not_whole
whole width limit n few rest = rw (le-ltb limit (n / width) few, eq-eqb (n % width) 0 rest)

-- ---- 3

module _ (low high : List ℤ) (rs : List Record) (l : Long (length low) rs) (f : every (fits low high) rs ≡ true) (n : length (flat rs) / length low ≡ length rs) where
  pub flat_in_range : first_out_of_range low high (flat rs) ≡ None
  unfolding first_out_of_range record_in_range fits
  flat_in_range =
      first_nothing (λ k. not (record_in_range low high (flat rs) (k * length low))) 0 (length (flat rs) / length low)
      (λ k a b. ap not (each k (omega (arith, n))))
    where
      field : (k : ℕ) → k < length rs → (g : ℕ) → g < length low → in_range (at low g) (at high g) (at (flat rs) (k * length low + g)) ≡ true
      field k h g b =
          let r : Record = get_or rs k [] in
          let t = both (eqb (length r) (length low)) (record_in_range low high r 0) (every_get_or (fits low high) rs f k h) in
          let i : in_range (at low g) (at high g) (at r (0 + g)) ≡ true = all_at (λ g. in_range (at low g) (at high g) (at r (0 + g))) 0 (length low) t.1 g (omega arith) (omega arith) in
          rw (at_flat (length low) rs k g l h b) (rw zero-add at i)

      each : (k : ℕ) → k < length rs → record_in_range low high (flat rs) (k * length low) ≡ true
      each k h = from_all (λ g. in_range (at low g) (at high g) (at (flat rs) (k * length low + g))) 0 (length low) (λ g a b. field k h g (omega arith))

-- ---- 4

-- each named field lies within a record of the width
unfoldable FieldsBelow : ℕ → List ℕ → Type 0
FieldsBelow width [] = Unit
FieldsBelow width (f ∷ fields) = (f < width) × FieldsBelow width fields

before_flat : (w : ℕ) (rs : List Record) → Long w rs → (fields : List ℕ) → FieldsBelow w fields → (a b : ℕ) → a < length rs → b < length rs
    → record_before fields (flat rs) (a * w) (b * w) ≡ less_by fields (get_or rs a []) (get_or rs b [])
unfolding record_before less_by FieldsBelow
before_flat w rs l [] t a b h i = refl
before_flat w rs l (f ∷ fields) t a b h i = rw (at_flat w rs a f l h t.0, at_flat w rs b f l i t.0, before_flat w rs l fields t.1 a b h i)

-- ---- 5

pub distinct_at : (rs : List Record) → distinct same_id rs ≡ true → (j k : ℕ) → j < k → k < length rs → id_of (get_or rs j []) ≡ id_of (get_or rs k []) → ⊥
unfolding distinct any
distinct_at [] d j k h l e = absurd (omega arith)
distinct_at (r ∷ rs) d j zero h l e = absurd (omega arith)
distinct_at (r ∷ rs) d zero (suc k) h l e = eqb-false (id_of (get_or rs k [])) (id_of r) (none k rs (not-true _ (both (not (any (λ later. same_id later r) rs)) (distinct same_id rs) d).0) (omega arith)) (sym e)
  where
    none : (i : ℕ) (ts : List Record) → any (λ later. same_id later r) ts ≡ false → i < length ts → same_id (get_or ts i []) r ≡ false
    none i [] a b = absurd (omega arith)
    none zero (t ∷ ts) a b = (or_neither (same_id t r) (any (λ later. same_id later r) ts) a).0
    none (suc i) (t ∷ ts) a b = none i ts (or_neither (same_id t r) (any (λ later. same_id later r) ts) a).1 (omega arith)
distinct_at (r ∷ rs) d (suc j) (suc k) h l e = distinct_at rs (both (not (any (λ later. same_id later r) rs)) (distinct same_id rs) d).1 j k (omega arith) (omega arith) e

-- ---- the scene of a sound plot

blocks_long : (rs : List Record) → every block_fits rs ≡ true → Long component_width rs
unfolding every
blocks_long [] e = tt
blocks_long (r ∷ rs) e =
    let p = both (block_fits r) (every block_fits rs) e in
    (fits_long _ _ r p.0, blocks_long rs p.1)

count_few : (ps : List Place) → length (blocks ps) ≤ length ps
unfolding blocks
count_few [] = omega arith
count_few (free ∷ ps) = omega (arith, count_few ps)
count_few (taken r ∷ ps) = omega (arith, count_few ps)

fields_below : FieldsBelow component_width component_order
unfolding FieldsBelow
fields_below = (omega arith, (omega arith, (omega arith, (omega arith, tt))))

module _ (plot : Plot) (s : Sound plot) where
  -- the components, in order
  abbrev rows : List Record
  rows = sorted (blocks plot.places)

  rows_fit : every block_fits rows ≡ true
  rows_fit = every_sorted block_fits (blocks plot.places) ∙ at_every block_fits plot.places s.places_sound.fit

  rows_long : Long component_width rows
  rows_long = blocks_long rows rows_fit

  ids_differ : distinct same_id (blocks plot.places) ≡ true
  ids_differ = of_one plot.places s.places_sound.one

  rows_few : length rows ≤ component_limit
  rows_few = omega (arith, sorted_length (blocks plot.places), count_few plot.places, s.places_sound.few)

  rows_size : length (flat rows) ≡ length rows * component_width
  rows_size = length_flat component_width rows rows_long

  wires_long : Long port_width plot.connections
  wires_long = held_long plot.connections s.connections_sound.fit

  wires_size : length (flat plot.connections) ≡ length plot.connections * port_width
  wires_size = length_flat port_width plot.connections wires_long

  row_count : component_count (flat rows) ≡ length rows
  row_count = omega (arith, rows_size)

  wire_count : port_count (flat plot.connections) ≡ length plot.connections
  wire_count = omega (arith, wires_size)

  ascends : first_not_ascending component_order component_width (flat rows) ≡ None
  unfolding first_not_ascending
  ascends =
      first_nothing (λ k. not (record_before component_order (flat rows) ((k - 1) * component_width) (k * component_width))) 1 (length (flat rows) / component_width - 1)
      (λ k a b. step k a (omega (arith, row_count)))
    where
      step : (k : ℕ) → 1 ≤ k → k < length rows → not (record_before component_order (flat rows) ((k - 1) * component_width) (k * component_width)) ≡ false
      step zero a b = absurd (omega arith)
      step (suc k) a b =
          let same : suc k - 1 ≡ k = omega arith in
          let before : record_before component_order (flat rows) (k * component_width) (suc k * component_width) ≡ true =
          before_flat component_width rows rows_long component_order fields_below k (suc k) (omega arith) b ∙ rising_at rows (sorted_rising (blocks plot.places) ids_differ) k b in
          rw (same, before)

  id_row : (k : ℕ) → k < length rows → (component (flat rows) k).id ≡ id_of (get_or rows k [])
  id_row k h = ap nat_abs (first_flat component_width rows k rows_long h (omega arith))

  once : first_repeated (flat rows) ≡ None
  unfolding first_repeated place_below
  once =
      first_nothing (used_earlier (flat rows)) 0 (component_count (flat rows))
      (λ k a b.
      ap is_found
      (first_nothing (λ j. eqb (component (flat rows) j).id (component (flat rows) k).id) 0 k
      (λ j c d. differ j k (omega arith) (omega (arith, row_count)))))
    where
      differ : (j k : ℕ) → j < k → k < length rows → eqb (component (flat rows) j).id (component (flat rows) k).id ≡ false
      differ j k h l =
          ne_eqb (component (flat rows) j).id (component (flat rows) k).id
          (λ e. distinct_at rows (sorted_distinct (blocks plot.places) ids_differ) j k h l (sym (id_row j (omega arith)) ∙ (e ∙ id_row k l)))

  -- a present id is a component of the scene
  has_row : (id : ℕ) → is_present plot.places id ≡ true → has_component (flat rows) id ≡ true
  unfolding place_below
  has_row id e =
      let f = present_found plot.places id e in
      let t : any (λ r. eqb (id_of r) id) rows ≡ true =
      any_sorted (λ r. eqb (id_of r) id) (blocks plot.places)
      ∙ at_any (λ r. eqb (id_of r) id) plot.places f.0 f.1.block f.1.here (eq-eqb (id_of f.1.block) id f.1.named) in
      let k = any_get_or (λ r. eqb (id_of r) id) rows t in
      some_at (λ k. eqb (component (flat rows) k).id id) (component_count (flat rows)) k.0 (omega (arith, row_count, k.1))
      (rw (id_row k.0 k.1) k.2)

  ends_there : first_end_missing (flat rows) (flat plot.connections) ≡ None
  unfolding first_end_missing
  ends_there =
      first_nothing (end_missing (flat rows) (flat plot.connections)) 0 (port_count (flat plot.connections))
      (λ k a b. there k (omega (arith, wire_count)))
    where
      and_none : (a b : Bool) → b ≡ true → (a && not b) ≡ false
      and_none true b e = rw e
      and_none false b e = refl

      there : (k : ℕ) → k < length plot.connections → end_missing (flat rows) (flat plot.connections) k ≡ false
      there k h =
          let e = every_get_or (ends_present plot.places) plot.connections s.connections_sound.ends k h in
          let p = both (is_present plot.places (source_of (get_or plot.connections k []))) (is_present plot.places (sink_of (get_or plot.connections k []))) e in
          let source : (port_connection (flat plot.connections) k).source ≡ source_of (get_or plot.connections k []) =
          ap nat_abs (first_flat port_width plot.connections k wires_long h (omega arith)) in
          let sink : (port_connection (flat plot.connections) k).sink ≡ sink_of (get_or plot.connections k []) =
          ap nat_abs (at_flat port_width plot.connections k 2 wires_long h (omega arith)) in
          and_none (not (eqb (port_connection (flat plot.connections) k).transfer support_transfer)) (has_component (flat rows) (port_connection (flat plot.connections) k).source && has_component (flat rows) (port_connection (flat plot.connections) k).sink)
          (and_true _ _
          (subst (λ (id : ℕ). has_component (flat rows) id ≡ true) (sym source) (has_row (source_of (get_or plot.connections k [])) p.0))
          (subst (λ (id : ℕ). has_component (flat rows) id ≡ true) (sym sink) (has_row (sink_of (get_or plot.connections k [])) p.1)))

  frontiers_fine : (strange_rules plot.rules ≡ None) × (not_whole frontier_width frontier_limit (length plot.frontiers) ≡ None) × (first_out_of_range frontier_low frontier_high plot.frontiers ≡ None)
  unfolding opening
  frontiers_fine =
      let first = both_accept (refuse Fault.UnknownRules None (strange_rules plot.rules)) _ s.opens in
      let second = both_accept (refuse Fault.ListLength (Some Section.Frontiers) (not_whole frontier_width frontier_limit (length plot.frontiers))) (refuse Fault.ShortSlice None (too_short true) or_else refuse Fault.OutOfRange (Some Section.Frontiers) (first_out_of_range frontier_low frontier_high plot.frontiers)) first.1 in
      (refuse_none Fault.UnknownRules None (strange_rules plot.rules) first.0, refuse_none Fault.ListLength (Some Section.Frontiers) (not_whole frontier_width frontier_limit (length plot.frontiers)) second.0, refuse_none Fault.OutOfRange (Some Section.Frontiers) (first_out_of_range frontier_low frontier_high plot.frontiers) second.1)

  pub scene_accepted : (enough : Bool) → SceneAccepted plot enough
  unfolding liveness_lists scene_lists
  scene_accepted enough =
      let one-components : not_whole component_width component_limit (length (flat rows)) ≡ None = whole component_width component_limit (length (flat rows)) (omega (arith, rows_size, rows_few)) (omega (arith, rows_size)) in
      let one-ports : not_whole port_width connection_limit (length (flat plot.connections)) ≡ None =
      whole port_width connection_limit (length (flat plot.connections)) (omega (arith, wires_size, s.connections_sound.few)) (omega (arith, wires_size)) in
      let three-components : first_out_of_range component_low component_high (flat rows) ≡ None = flat_in_range component_low component_high rows rows_long rows_fit row_count in
      let three-ports : first_out_of_range port_low port_high (flat plot.connections) ≡ None =
      flat_in_range port_low port_high plot.connections wires_long s.connections_sound.fit wire_count in
      rw (frontiers_fine.0, one-components, one-ports, frontiers_fine.1, three-components, three-ports, frontiers_fine.2, ascends, once, ends_there) (last (too_short enough))
    where
      last : (f : Option ℕ) → ((refuse Fault.ShortSlice None f or_else (Ok tt)) or_else (Ok tt)) ≡ refuse Fault.ShortSlice None f
      last (Some k) = refl
      last None = refl

-- there is one such list
pub fresh : (plot : Plot) → Sound plot → (rs : List Record) → Fresh plot rs
fresh plot s rs rise same =
    rising_unique rs (sorted (blocks plot.places)) rise (sorted_rising (blocks plot.places) (of_one plot.places s.places_sound.one))
    (λ x. same.same x ∙ sym (any_sorted (same_numbers x) (blocks plot.places)))
