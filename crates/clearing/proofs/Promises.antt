-- What the request promises.
--     whole_back, none_dropped          a list with no missing end comes back whole with an empty list
--     cleared_scene                     the cleared scene is accepted, and clearing it again drops nothing
--     front_is                          the rows that an accepted call left at the front
--     partition                         kept and dropped together are the given list, each item once
--     counts_sum                        so their counts sum up to the given count
--     taken_few                         and neither is more than a list may have
--     first_dropped                     where the liveness entry refuses with 7, its item is the first dropped
-- Assumes nothing.
use Rattle.std.specs.Prelude.{Some, None, Ok}
use mathlib.Core.Path.{◌≡◌, refl, sym, ap, ap₂, ◌∙◌}
use mathlib.Core.Bool.{Bool, true, false, not, ◌&&◌}
use mathlib.Core.List.{List, [], ◌∷◌}
use Prim.Native.Nat.{ℕ, zero, suc, ◌+◌, ◌*◌, ◌/◌, ◌%◌, ◌≤◌, ◌<◌}
use native.Mathlib.Omega.{arith}
use lib.Dec.{ltb}
use lib.ListN.{length, take, drop}
use lib.Seq.{take_at, take-add, take_all}
use lib.IntN.{ℤ}
use borrow.Author.Tests.{lt-ltb, le-ltb, eq-eqb}
use Rattle.std.specs.List.{flat_map, range_with_len}
use Rattle.std.proofs.lemmas.List.Filters.{length-filter_both}
use Rattle.std.proofs.lemmas.List.FromFn.{length-range_with_len}
use Rattle.sets.specs.Members.{as_nat}
use Rattle.lists.specs.declared.Fault.{Fault}
use Rattle.lists.specs.Limits.{component_limit, connection_limit, frontier_limit, component_width, port_width, frontier_width}
use Rattle.lists.specs.Records.{port_connection, port_count}
use Rattle.lists.specs.Ranges.{first_out_of_range, port_low, port_high}
use Rattle.lists.specs.Ids.{support_transfer, end_missing, first_end_missing}
use Rattle.lists.specs.Slices.{laid}
use Rattle.lists.proofs.Search.{none_found, found_at}
use Rattle.checks.specs.Refusals.{refuse, not_whole, too_short, scene_lists, liveness_lists}
use Rattle.checks.proofs.Accepts.{Scene, scene_accept}
use Rattle.clearing.specs.Parts.{port_row, kept_items, dropped_items, kept_rows}
use Rattle.clearing.specs.Promises.{ClearedScene, times, Partition}
use Rattle.clearing.specs.Entry.{clearing_room, clear_refusal}
use Rattle.clearing.proofs.Numbers.{scene_only}
use Rattle.clearing.proofs.Items.{items_below, items_yes, same_items, none_pass, first_passing, times_once, interleaved}
use Rattle.clearing.proofs.Kept.{rows_more, kept_long, kept_whole, kept_count, kept_few, unchanged, kept_no_missing, kept_in_range}

-- ---- a list with no missing end

-- all rows of a list of whole records are the list
front_rows : (ps : List ℤ) (n : ℕ) → n * 5 ≤ length ps → flat_map (port_row ps) (items_below (λ _. true) n) ≡ take (n * 5) ps
front_rows ps zero h = refl
front_rows ps (suc n) h =
    let e : suc n * 5 ≡ n * 5 + 5 = omega arith in
    ap (flat_map (port_row ps)) (items_yes (λ _. true) n refl) ∙ rows_more (port_row ps) (items_below (λ _. true) n) n
    ∙ rw (e, front_rows ps n (omega arith)) (sym (take-add (n * 5) 5 ps))

all_rows : (ps : List ℤ) → length ps % port_width ≡ 0 → flat_map (port_row ps) (items_below (λ _. true) (port_count ps)) ≡ ps
all_rows ps e = front_rows ps (port_count ps) (omega arith) ∙ take_all (port_count ps * 5) ps (omega arith)

module _ (cs ps : List ℤ) (e : first_end_missing cs ps ≡ None) where
  stays : (k : ℕ) → k < port_count ps → end_missing cs ps k ≡ false
  unfolding first_end_missing
  stays k h = none_found (end_missing cs ps) 0 (port_count ps) e k (omega arith) (omega arith)

  pub none_dropped : dropped_items cs ps ≡ []
  none_dropped = none_pass (end_missing cs ps) (port_count ps) stays

  pub whole_back : length ps % port_width ≡ 0 → kept_rows cs ps ≡ ps
  whole_back whole =
      ap (flat_map (port_row ps)) (same_items (λ k. not (end_missing cs ps k)) (λ _. true) (port_count ps) (λ k h. ap not (stays k h))) ∙ all_rows ps whole

-- ---- the cleared scene

whole : (width limit n : ℕ) → n / width ≤ limit → n % width ≡ 0 → not_whole width limit n ≡ None
unfolding not_whole
whole width limit n h e = rw (le-ltb limit (n / width) h, eq-eqb (n % width) 0 e)

only_short : (enough : Bool) → (rules : ℕ) (cs ps fs : List ℤ)
    → Scene rules cs port_width (length ps) (first_out_of_range port_low port_high ps) fs true → first_end_missing cs ps ≡ None
    → liveness_lists rules cs ps fs enough ≡ refuse Fault.ShortSlice None (too_short enough)
unfolding liveness_lists scene_lists
only_short true rules cs ps fs s e =
    rw (
      s.lengths.known,
      whole component_width component_limit (length cs) s.lengths.components_few s.lengths.components_whole,
      whole port_width connection_limit (length ps) s.lengths.connections_few s.lengths.connections_whole,
      whole frontier_width frontier_limit (length fs) s.lengths.frontiers_few s.lengths.frontiers_whole,
      s.ranges.components,
      s.ranges.connections,
      s.ranges.frontiers,
      s.ascending,
      s.once,
      e,
    )
only_short false rules cs ps fs s e =
    rw (
      s.lengths.known,
      whole component_width component_limit (length cs) s.lengths.components_few s.lengths.components_whole,
      whole port_width connection_limit (length ps) s.lengths.connections_few s.lengths.connections_whole,
      whole frontier_width frontier_limit (length fs) s.lengths.frontiers_few s.lengths.frontiers_whole,
    )

module _ (rules : ℕ) (cs ps fs : List ℤ) (enough : Bool) (s : Scene rules cs port_width (length ps) (first_out_of_range port_low port_high ps) fs enough) where
  kept_scene : Scene rules cs port_width (length (kept_rows cs ps)) (first_out_of_range port_low port_high (kept_rows cs ps)) fs true
  kept_scene = record {
    lengths = record {
      known = s.lengths.known;
      components_few = s.lengths.components_few;
      components_whole = s.lengths.components_whole;
      connections_few = omega (arith, kept_few cs ps, s.lengths.connections_few);
      connections_whole = kept_whole cs ps;
      frontiers_few = s.lengths.frontiers_few;
      frontiers_whole = s.lengths.frontiers_whole;
      room = refl;
    };
    ranges = record {
      components = s.ranges.components;
      connections = kept_in_range cs ps s.ranges.connections;
      frontiers = s.ranges.frontiers;
    };
    ascending = s.ascending;
    once = s.once;
  }

  pub cleared_scene : ClearedScene rules cs (kept_rows cs ps) fs
  cleared_scene = record {
    accepted = λ t. only_short t rules cs (kept_rows cs ps) fs kept_scene (kept_no_missing cs ps);
    again_dropped = none_dropped cs (kept_rows cs ps) (kept_no_missing cs ps);
    again_kept = whole_back cs (kept_rows cs ps) (kept_no_missing cs ps) (kept_whole cs ps);
  }

-- so many rows at the front of a slice
pub front_is : (cs ps : List ℤ) (old new : List ℤ) (n : ℕ) → new ≡ laid (kept_rows cs ps) old → n ≡ length (kept_items cs ps)
    → take (n * port_width) new ≡ kept_rows cs ps
front_is cs ps old new n e c =
    let long : length (kept_rows cs ps) ≡ n * port_width = omega (arith, kept_long cs ps) in
    ap (take (n * port_width)) e ∙ take_at (kept_rows cs ps) (drop (length (kept_rows cs ps)) old) (n * port_width) long

-- ---- kept and dropped together

either : (b t : Bool) → as_nat (b && not t) + as_nat (b && t) ≡ as_nat b
either true true = refl
either true false = refl
either false t = refl

support_kept : (cs ps : List ℤ) (k : ℕ) → k < port_count ps → (port_connection ps k).transfer ≡ support_transfer → times k (kept_items cs ps) ≡ 1
support_kept cs ps k h e =
    times_once (λ j. not (end_missing cs ps j)) k (port_count ps) ∙ rw (lt-ltb k (port_count ps) h, eq-eqb (port_connection ps k).transfer support_transfer e)

pub partition : (cs ps : List ℤ) → Partition cs ps
partition cs ps =
    let missing = end_missing cs ps in
    let n = port_count ps in
    record {
      items = interleaved missing n;
      kept_once = λ k. times_once (λ j. not (missing j)) k n;
      dropped_once = λ k. times_once missing k n;
      once = λ k. ap₂ ◌+◌ (times_once (λ j. not (missing j)) k n) (times_once missing k n) ∙ either (ltb k n) (missing k);
      support_stays = support_kept cs ps;
      kept_count = kept_count cs ps;
      unchanged = unchanged cs ps;
    }

pub counts_sum : (cs ps : List ℤ) → length (kept_items cs ps) + length (dropped_items cs ps) ≡ port_count ps
counts_sum cs ps =
    let missing = end_missing cs ps in
    omega (
      arith,
      length-filter_both missing (λ k. not (missing k)) (λ k. refl) (range_with_len 0 (port_count ps)),
      length-range_with_len 0 (port_count ps),
    )

-- of a scene that is taken neither is more than a list may have
pub taken_few : (rules : ℕ) (cs ps fs : List ℤ) (kept dropped : ℕ) → clear_refusal rules cs ps fs kept dropped ≡ Ok tt
    → (length (kept_items cs ps) ≤ connection_limit) × (length (dropped_items cs ps) ≤ connection_limit)
taken_few rules cs ps fs kept dropped e =
    let found = first_out_of_range port_low port_high ps in
    let s = scene_accept rules cs port_width (length ps) found fs (clearing_room ps kept dropped) (sym (scene_only rules cs ps fs _) ∙ e) in
    (omega (arith, counts_sum cs ps, s.lengths.connections_few), omega (arith, counts_sum cs ps, s.lengths.connections_few))

-- ---- the first dropped item

pub first_dropped : (cs ps : List ℤ) (i : ℕ) → first_end_missing cs ps ≡ Some i → (rest : List ℕ) × (dropped_items cs ps ≡ i ∷ rest)
unfolding first_end_missing
first_dropped cs ps i e =
    let f = found_at (end_missing cs ps) 0 (port_count ps) i e in
    first_passing (end_missing cs ps) i (port_count ps) (omega (arith, f.below)) f.passes (λ k h. f.first k (omega arith) h)
