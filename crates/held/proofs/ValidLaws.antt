-- The test of number 18 in the parts in which the code makes it.
--     places_shown       the places that slices show, free where a place is freed
--     freed_part, opens_part, blocks-part, connections_part      each part says what `valid` says of it
--     present_part       an id is present exactly if the blocks have it
-- Assumes nothing.
use Rattle.std.specs.Prelude.{Option, Some, None, Ok}
use Rattle.lists.specs.Rules.{known_rules}
use Rattle.lists.specs.declared.Fault.{Fault}
use Rattle.lists.specs.declared.Section.{Section}
use mathlib.Core.Path.{◌≡◌, refl, sym, ap, ap₂, ◌∙◌, subst}
use mathlib.Core.Bool.{Bool, true, false, not, cond, ◌&&◌, ◌||◌}
use mathlib.Core.List.{List, [], ◌∷◌, append-nil}
use Prim.Native.Nat.{ℕ, zero, suc, ◌+◌, ◌*◌, ◌/◌, ◌%◌, ◌≤◌, ◌<◌}
use native.Mathlib.Nat.{zero-add, mul-le-mul_right, suc-mul}
use native.Mathlib.Omega.{arith}
use lib.ListN.{length, get_or, take, drop, length-drop}
use lib.Seq.{length-take-le, ext_get_or}
use lib.Dec.{eqb, leb, ltb}
use lib.IntN.{ℤ, nat_abs}
use borrow.Author.Tests.{eqb-true, eq-eqb, ne_eqb, leb-true, le-leb, ltb-true, lt-ltb, not-false}
use Rattle.tables.specs.Order.{member}
use Rattle.lists.specs.Limits.{component_limit, connection_limit, frontier_limit, component_width, port_width, frontier_width}
use Rattle.lists.specs.Signed.{at, in_range}
use Rattle.lists.specs.Records.{component, port_connection, component_count, port_count}
use Rattle.lists.specs.Ranges.{record_in_range, first_out_of_range, port_low, port_high, frontier_low, frontier_high}
use Rattle.lists.specs.Ids.{place_below, has_component, used_earlier, first_repeated}
use Rattle.lists.specs.First.{all_from, is_found, tabulate}
use Rattle.lists.proofs.Search.{never, both, all_at, none_found, first_nothing}
use Rattle.lists.proofs.Some.{and_true, some_at, some_found}
use Rattle.checks.specs.Refusals.{refuse, ◌or_else◌}
use Rattle.held.specs.Tests.{any, every, distinct, same_numbers}
use Rattle.held.specs.Plot.{Record, Place, free, taken, blocks, id_of, source_of, sink_of, is_present, ends_present, fits, opening}
use Rattle.held.specs.Left.{is_accepted, same_id, valid_freed, valid_connections}
use Rattle.held.specs.Lent.{flat, record_at, used_in, freed_count_in, held_in, place_in, counts_fit}
use Rattle.held.specs.Inspected.{Counts, opens_with, both_ends, connections_pass}
use Rattle.held.proofs.Lists.{true_not_false, every_member, member_every}
use Rattle.held.proofs.Places.{not_both, same_block, taken_below, present_at, present_found}
use Rattle.held.proofs.Sound.{freed_of, of_freed, from_all}
use Rattle.held.proofs.Reached.{length_tabulate, get_or_tabulate}
use Rattle.held.proofs.Flat.{Long, length_flat, flat_tabulate, record_flat}
use Rattle.held.proofs.SceneLaws.{at_flat, first_flat, flat_in_range, every_get_or, any_get_or, at_any, distinct_at, whole}

-- two tests that pass together are the same
bool_iff : (a b : Bool) → (a ≡ true → b ≡ true) → (b ≡ true → a ≡ true) → a ≡ b
bool_iff true b f g = sym (f refl)
bool_iff false true f g = g refl
bool_iff false false f g = refl

pub none_of : (f : Option ℕ) → is_found f ≡ false → f ≡ None
none_of (Some k) e = true_not_false e
none_of None e = refl

pub not_found : (f : Option ℕ) → not (is_found f) ≡ true → f ≡ None
not_found (Some k) e = never e
not_found None e = refl

-- ---- the counts

pub counts_of : (state : List ℕ) → counts_fit state ≡ true → Counts state
unfolding counts_fit
counts_of state e =
    let a = both (leb (used_in state) component_limit) _ e in
    let b = both (leb (freed_count_in state) component_limit) _ a.1 in
    let c = both (leb (held_in state) connection_limit) _ b.1 in
    record { used = leb-true _ _ a.0; freed = leb-true _ _ b.0; held = leb-true _ _ c.0; frontiers = leb-true _ _ c.1 }

-- ---- opening

pub opens_part : (rules : ℕ) (fs : List ℤ) → length fs / frontier_width ≤ frontier_limit → length fs % frontier_width ≡ 0 → is_accepted (opening rules fs true) ≡ opens_with rules fs
unfolding opening opens_with
opens_part rules fs few rest = rw (whole frontier_width frontier_limit (length fs) few rest) (go (known_rules rules) (first_out_of_range frontier_low frontier_high fs))
  where
    go : (b : Bool) (f : Option ℕ) → is_accepted (refuse Fault.UnknownRules None (cond b None (Some 0)) or_else (Ok tt) or_else (Ok tt) or_else refuse Fault.OutOfRange (Some Section.Frontiers) f) ≡ (not (is_found f) && b)
    go true (Some k) = refl
    go true None = refl
    go false (Some k) = refl
    go false None = refl

-- ---- freed places

module _ (places : List ℤ) (freed : List ℕ) (n : ℕ) where
  abbrev shown_places : List Place
  shown_places = tabulate (place_in freed places) n

  place_at : (k : ℕ) → k < n → get_or shown_places k free ≡ place_in freed places k
  place_at k h = get_or_tabulate (place_in freed places) n k free h

  pub freed_part : valid_freed shown_places freed ≡ (distinct eqb freed && every (λ k. ltb k n) freed)
  freed_part = bool_iff (valid_freed shown_places freed) (distinct eqb freed && every (λ k. ltb k n) freed) there back
    where
      long : length shown_places ≡ n
      long = length_tabulate (place_in freed places) n

      there : valid_freed shown_places freed ≡ true → (distinct eqb freed && every (λ k. ltb k n) freed) ≡ true
      there e =
          let s = freed_of shown_places freed e in
          and_true _ _ s.once (member_every (λ k. ltb k n) freed (λ k m. lt-ltb k n (omega (arith, s.used k m, long))))

      back : (distinct eqb freed && every (λ k. ltb k n) freed) ≡ true → valid_freed shown_places freed ≡ true
      back e =
          let p = both (distinct eqb freed) (every (λ k. ltb k n) freed) e in
          let below : (k : ℕ) → member k freed ≡ true → k < n = λ k m. ltb-true k n (every_member (λ k. ltb k n) freed p.1 k m) in
          of_freed shown_places freed
          (record {
            once = p.0;
            used = λ k m. omega (arith, below k m, long);
            frees = λ k m. place_at k (below k m) ∙ rw m;
            all = λ k h f. go k (member k freed) refl (sym (place_at k (omega (arith, long))) ∙ f);
          })
        where
          go : (k : ℕ) (b : Bool) → member k freed ≡ b → place_in freed places k ≡ free → member k freed ≡ true
          go k true m f = m
          go k false m f = not_both (taken (record_at component_width places k)) (record_at component_width places k) refl (sym (rw m) ∙ f)

  -- every block that stands has eight numbers
  pub blocks_long : n * component_width ≤ length places → Long component_width (blocks shown_places)
  unfolding blocks
  blocks_long room = all_long shown_places (λ k r e. long_at k r (omega (arith, taken_below shown_places k r e, length_tabulate (place_in freed places) n)) e)
    where
      all_long : (ps : List Place) → ((k : ℕ) (r : Record) → get_or ps k free ≡ taken r → length r ≡ component_width) → Long component_width (blocks ps)
      all_long [] h = tt
      all_long (free ∷ ps) h = all_long ps (λ k r e. h (suc k) r e)
      all_long (taken r ∷ ps) h = (h 0 r refl, all_long ps (λ k r e. h (suc k) r e))

      long_at : (k : ℕ) (r : Record) → k < n → get_or shown_places k free ≡ taken r → length r ≡ component_width
      long_at k r h e = go (member k freed) refl (sym (place_at k h) ∙ e)
        where
          go : (b : Bool) → member k freed ≡ b → place_in freed places k ≡ taken r → length r ≡ component_width
          go true m q = not_both free r (sym (rw m) ∙ q) refl
          go false m q =
              let same : record_at component_width places k ≡ r = same_block (record_at component_width places k) r (sym (rw m) ∙ q) in
              ap length (sym same) ∙ length-take-le component_width (drop (k * component_width) places) (omega (arith, length-drop (k * component_width) places))

-- ---- records laid out

get_or_every : (test : Record → Bool) (rs : List Record) → ((k : ℕ) → k < length rs → test (get_or rs k []) ≡ true) → every test rs ≡ true
unfolding every
get_or_every test [] h = refl
get_or_every test (r ∷ rs) h = and_true _ _ (h 0 (omega arith)) (get_or_every test rs (λ k b. h (suc k) (omega arith)))

long_get_or : (w : ℕ) (rs : List Record) (k : ℕ) → Long w rs → k < length rs → length (get_or rs k []) ≡ w
long_get_or w [] k l h = absurd (omega arith)
long_get_or w (r ∷ rs) zero l h = l.0
long_get_or w (r ∷ rs) (suc k) l h = long_get_or w rs k l.1 (omega arith)

module _ (low high : List ℤ) (rs : List Record) (l : Long (length low) rs) (n : length (flat rs) / length low ≡ length rs) where
  in-range-flat : first_out_of_range low high (flat rs) ≡ None → every (fits low high) rs ≡ true
  unfolding first_out_of_range record_in_range fits
  in-range-flat e = get_or_every (fits low high) rs each
    where
      row : (k : ℕ) → k < length rs → record_in_range low high (flat rs) (k * length low) ≡ true
      row k h =
          not-false (record_in_range low high (flat rs) (k * length low))
          (none_found (λ k. not (record_in_range low high (flat rs) (k * length low))) 0 (length (flat rs) / length low) e k (omega arith) (omega (arith, n)))

      field : (k : ℕ) → k < length rs → (g : ℕ) → g < length low → in_range (at low g) (at high g) (at (get_or rs k []) (0 + g)) ≡ true
      field k h g b =
          let i : in_range (at low g) (at high g) (at (flat rs) (k * length low + g)) ≡ true =
          all_at (λ g. in_range (at low g) (at high g) (at (flat rs) (k * length low + g))) 0 (length low) (row k h) g (omega arith) (omega arith) in
          rw zero-add (rw (at_flat (length low) rs k g l h b) at i)

      each : (k : ℕ) → k < length rs → fits low high (get_or rs k []) ≡ true
      each k h =
          and_true _ _ (eq-eqb (length (get_or rs k [])) (length low) (long_get_or (length low) rs k l h))
          (from_all (λ g. in_range (at low g) (at high g) (at (get_or rs k []) (0 + g))) 0 (length low) (λ g a b. field k h g (omega arith)))

  pub range_part : every (fits low high) rs ≡ not (is_found (first_out_of_range low high (flat rs)))
  range_part =
      bool_iff (every (fits low high) rs) (not (is_found (first_out_of_range low high (flat rs))))
      (λ e. ap (λ (f : Option ℕ). not (is_found f)) (flat_in_range low high rs l e n))
      (λ e. in-range-flat (not_found (first_out_of_range low high (flat rs)) e))

-- ---- ids

at_distinct : (rs : List Record) → ((j k : ℕ) → j < k → k < length rs → id_of (get_or rs j []) ≡ id_of (get_or rs k []) → ⊥) → distinct same_id rs ≡ true
unfolding distinct any
at_distinct [] h = refl
at_distinct (r ∷ rs) h =
    and_true _ _ (ap not (none rs (λ k b e. h 0 (suc k) (omega arith) (omega arith) (sym e)))) (at_distinct rs (λ j k a b e. h (suc j) (suc k) (omega arith) (omega arith) e))
  where
    none : (ts : List Record) → ((k : ℕ) → k < length ts → id_of (get_or ts k []) ≡ id_of r → ⊥) → any (λ later. same_id later r) ts ≡ false
    none [] g = refl
    none (t ∷ ts) g = rw (ne_eqb (id_of t) (id_of r) (g 0 (omega arith))) (none ts (λ k b. g (suc k) (omega arith)))

module _ (rs : List Record) (l : Long component_width rs) where
  pub row_count : component_count (flat rs) ≡ length rs
  row_count = omega (arith, length_flat component_width rs l)

  id_row : (k : ℕ) → k < length rs → (component (flat rs) k).id ≡ id_of (get_or rs k [])
  id_row k h = ap nat_abs (first_flat component_width rs k l h (omega arith))

  pub ids_part : distinct same_id rs ≡ not (is_found (first_repeated (flat rs)))
  unfolding first_repeated place_below
  ids_part = bool_iff (distinct same_id rs) (not (is_found (first_repeated (flat rs)))) there back
    where
      there : distinct same_id rs ≡ true → not (is_found (first_repeated (flat rs))) ≡ true
      there d =
          ap (λ (f : Option ℕ). not (is_found f))
          (first_nothing (used_earlier (flat rs)) 0 (component_count (flat rs))
          (λ k a b.
          ap is_found
          (first_nothing (λ j. eqb (component (flat rs) j).id (component (flat rs) k).id) 0 k
          (λ j c e. differ j k (omega arith) (omega (arith, row_count))))))
        where
          differ : (j k : ℕ) → j < k → k < length rs → eqb (component (flat rs) j).id (component (flat rs) k).id ≡ false
          differ j k h b =
              ne_eqb (component (flat rs) j).id (component (flat rs) k).id
              (λ e. distinct_at rs d j k h b (sym (id_row j (omega arith)) ∙ (e ∙ id_row k b)))

      back : not (is_found (first_repeated (flat rs))) ≡ true → distinct same_id rs ≡ true
      back e =
          at_distinct rs
          (λ j k h b same.
          let none = none_found (used_earlier (flat rs)) 0 (component_count (flat rs)) (not_found (first_repeated (flat rs)) e) k (omega arith) (omega (arith, row_count)) in
          true_not_false (sym (some_at (λ j. eqb (component (flat rs) j).id (component (flat rs) k).id) k j h
          (eq-eqb (component (flat rs) j).id (component (flat rs) k).id (id_row j (omega arith) ∙ (same ∙ sym (id_row k b))))) ∙ none))

-- ---- ids that are present

any_at : (test : Record → Bool) (ps : List Place) → any test (blocks ps) ≡ true → (k : ℕ) × (r : Record) × (get_or ps k free ≡ taken r) × (test r ≡ true)
unfolding any blocks
any_at test [] e = never e
any_at test (free ∷ ps) e = let f = any_at test ps e in (suc f.0, f.1, f.2, f.3)
any_at test (taken r ∷ ps) e = go (test r) refl e (any_at test ps)
  where
    go : (b : Bool) → test r ≡ b → (b || any test (blocks ps)) ≡ true → (any test (blocks ps) ≡ true → (k : ℕ) × (s : Record) × (get_or ps k free ≡ taken s) × (test s ≡ true))
        → (k : ℕ) × (s : Record) × (get_or (taken r ∷ ps) k free ≡ taken s) × (test s ≡ true)
    go true q h rest = (0, r, refl, q)
    go false q h rest = let f = rest h in (suc f.0, f.1, f.2, f.3)

get_or_any : (test : Record → Bool) (rs : List Record) (k : ℕ) → k < length rs → test (get_or rs k []) ≡ true → any test rs ≡ true
unfolding any
get_or_any test [] k h e = absurd (omega arith)
get_or_any test (r ∷ rs) zero h e = rw e
get_or_any test (r ∷ rs) (suc k) h e = later (test r) (get_or_any test rs k (omega arith) e)
  where
    later : (b : Bool) → any test rs ≡ true → (b || any test rs) ≡ true
    later true h = refl
    later false h = h

pub present_part : (ps : List Place) → Long component_width (blocks ps) → (id : ℕ) → is_present ps id ≡ has_component (flat (blocks ps)) id
unfolding place_below
present_part ps l id = bool_iff (is_present ps id) (has_component (flat (blocks ps)) id) there back
  where
    rs : List Record
    rs = blocks ps

    there : is_present ps id ≡ true → has_component (flat (blocks ps)) id ≡ true
    there e =
        let f = present_found ps id e in
        let t : any (λ r. eqb (id_of r) id) (blocks ps) ≡ true = at_any (λ r. eqb (id_of r) id) ps f.0 f.1.block f.1.here (eq-eqb (id_of f.1.block) id f.1.named) in
        let k = any_get_or (λ r. eqb (id_of r) id) (blocks ps) t in
        some_at (λ k. eqb (component (flat (blocks ps)) k).id id) (component_count (flat (blocks ps))) k.0 (omega (arith, row_count (blocks ps) l, k.1)) (rw (id_row (blocks ps) l k.0 k.1) k.2)

    back : has_component (flat (blocks ps)) id ≡ true → is_present ps id ≡ true
    back e =
        let f = some_found (λ k. eqb (component (flat (blocks ps)) k).id id) (component_count (flat (blocks ps))) e in
        let b : f.0 < length (blocks ps) = omega (arith, row_count (blocks ps) l, f.1) in
        let t = get_or_any (λ r. eqb (id_of r) id) (blocks ps) f.0 b (subst (λ (i : ℕ). eqb i id ≡ true) (id_row (blocks ps) l f.0 b) f.2) in
        let s = any_at (λ r. eqb (id_of r) id) ps t in
        present_at ps id s.0 (record { block = s.1; here = s.2; named = eqb-true (id_of s.1) id s.3 })

-- ---- connections

-- every record passes: every place passes
every_from : (test : Record → Bool) (rs : List Record) → every test rs ≡ all_from (λ k. test (get_or rs k [])) 0 (length rs)
every_from test rs =
    bool_iff (every test rs) (all_from (λ k. test (get_or rs k [])) 0 (length rs))
    (λ e. from_all (λ k. test (get_or rs k [])) 0 (length rs) (λ k a b. every_get_or test rs e k (omega arith)))
    (λ e. get_or_every test rs (λ k h. all_at (λ k. test (get_or rs k [])) 0 (length rs) e k (omega arith) (omega arith)))

-- a test is the same at each place
from_same : (f g : ℕ → Bool) (n : ℕ) → ((k : ℕ) → k < n → f k ≡ g k) → all_from f 0 n ≡ all_from g 0 n
from_same f g n h =
    bool_iff (all_from f 0 n) (all_from g 0 n)
    (λ e. from_all g 0 n (λ k a b. sym (h k (omega arith)) ∙ all_at f 0 n e k (omega arith) (omega arith)))
    (λ e. from_all f 0 n (λ k a b. h k (omega arith) ∙ all_at g 0 n e k (omega arith) (omega arith)))

swap_and : (a b c : Bool) → (a && (b && c)) ≡ (a && (c && b))
swap_and false b c = refl
swap_and true true true = refl
swap_and true true false = refl
swap_and true false true = refl
swap_and true false false = refl

long_records : (w : ℕ) (list : List ℤ) (n : ℕ) → n * w ≤ length list → Long w (tabulate (record_at w list) n)
long_records w list n h = go (tabulate (record_at w list) n) (λ k b. each k (omega (arith, length_tabulate (record_at w list) n)))
  where
    each : (k : ℕ) → k < n → length (get_or (tabulate (record_at w list) n) k []) ≡ w
    each k b =
        let more : suc k * w ≤ n * w = mul-le-mul_right w b in
        ap length (get_or_tabulate (record_at w list) n k [] b) ∙ length-take-le w (drop (k * w) list) (omega (arith, length-drop (k * w) list, suc-mul k w))

    go : (rs : List Record) → ((k : ℕ) → k < length rs → length (get_or rs k []) ≡ w) → Long w rs
    go [] f = tt
    go (r ∷ rs) f = (f 0 (omega arith), go rs (λ k b. f (suc k) (omega arith)))

module _ (ps : List Place) (l : Long component_width (blocks ps)) (list : List ℤ) (m : ℕ) (room : m * port_width ≤ length list) (few : m ≤ connection_limit) where
  wires : List Record
  wires = tabulate (record_at port_width list) m

  wires_long : Long port_width wires
  unfolding wires
  wires_long = long_records port_width list m room

  wires_flat : flat wires ≡ take (m * port_width) list
  unfolding wires
  wires_flat = flat_tabulate port_width list m

  wires_count : length wires ≡ m
  unfolding wires
  wires_count = length_tabulate (record_at port_width list) m

  port_count_lem : port_count (flat wires) ≡ length wires
  port_count_lem = omega (arith, length_flat port_width wires wires_long)

  -- the records of the laid out connections are the connections
  again : tabulate (record_at port_width (flat wires)) (port_count (flat wires)) ≡ wires
  again =
      rw port_count_lem
      (ext_get_or [] (tabulate (record_at port_width (flat wires)) (length wires)) wires (length_tabulate (record_at port_width (flat wires)) (length wires))
      (λ k b.
      let h : k < length wires = omega (arith, length_tabulate (record_at port_width (flat wires)) (length wires)) in
      get_or_tabulate (record_at port_width (flat wires)) (length wires) k [] h
      ∙ subst (λ (t : List ℤ). record_at port_width t k ≡ get_or wires k []) (append-nil (flat wires)) (record_flat port_width wires k [] [] wires_long h)))

  ends_same : every (ends_present ps) wires ≡ all_from (both_ends (flat (blocks ps)) (flat wires)) 0 (port_count (flat wires))
  ends_same =
      every_from (ends_present ps) wires
      ∙ (from_same (λ k. ends_present ps (get_or wires k [])) (both_ends (flat (blocks ps)) (flat wires)) (length wires) each
      ∙ ap (all_from (both_ends (flat (blocks ps)) (flat wires)) 0) (sym port_count_lem))
    where
      each : (k : ℕ) → k < length wires → ends_present ps (get_or wires k []) ≡ both_ends (flat (blocks ps)) (flat wires) k
      each k h =
          let source : (port_connection (flat wires) k).source ≡ source_of (get_or wires k []) = ap nat_abs (first_flat port_width wires k wires_long h (omega arith)) in
          let sink : (port_connection (flat wires) k).sink ≡ sink_of (get_or wires k []) = ap nat_abs (at_flat port_width wires k 2 wires_long h (omega arith)) in
          ap₂ ◌&&◌
          (present_part ps l (source_of (get_or wires k [])) ∙ ap (has_component (flat (blocks ps))) (sym source))
          (present_part ps l (sink_of (get_or wires k [])) ∙ ap (has_component (flat (blocks ps))) (sym sink))

  whole_part : valid_connections ps wires ≡ connections_pass (flat (blocks ps)) (flat wires)
  unfolding valid_connections connections_pass
  whole_part =
      let fit : leb (length wires) connection_limit ≡ true = le-leb (length wires) connection_limit (omega (arith, wires_count)) in
      rw (fit, again) (ap₂ ◌&&◌ (range_part port_low port_high wires wires_long port_count_lem) (ap (λ (b : Bool). distinct same_numbers wires && b) ends_same)
      ∙ swap_and (not (is_found (first_out_of_range port_low port_high (flat wires)))) (distinct same_numbers wires) (all_from (both_ends (flat (blocks ps)) (flat wires)) 0 (port_count (flat wires))))

  pub connections_part : valid_connections ps (tabulate (record_at port_width list) m) ≡ connections_pass (flat (blocks ps)) (take (m * port_width) list)
  unfolding wires
  connections_part = whole_part ∙ ap (connections_pass (flat (blocks ps))) wires_flat
