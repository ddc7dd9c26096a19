-- From the report of a held plot to the entry on lent lists.
--     pasted_more                     words behind words that were laid
--     sets_most                       how many rows there can be
--     setless, reported_refused       the answer and what is left beside a refusal
--     report_few, reported_ok         and of a plot that is reported
-- Assumes nothing.
use Rattle.std.specs.Prelude.{⊤, Option, Some, None, Result, Ok, Err}
use Rattle.lists.specs.declared.Fault.{Fault}
use Rattle.lists.specs.declared.Refusal.{Refusal}
use mathlib.Core.Path.{◌≡◌, refl, sym, ap, ◌∙◌, subst}
use mathlib.Core.Bool.{Bool, true, false, not, cond, ◌&&◌}
use mathlib.Core.List.{List, [], ◌∷◌, ◌++◌}
use Prim.Native.Nat.{ℕ, zero, suc, ◌+◌, ◌*◌, ◌/◌, ◌≤◌, ◌<◌}
use native.Mathlib.Omega.{arith}
use lib.ListN.{length, take, drop, length-append}
use lib.Seq.{paste, take_at, take-length, drop-append-add, drop-drop}
use lib.IntN.{ℤ}
use Rattle.sets.specs.Members.{word_count}
use Rattle.lists.specs.Limits.{component_limit}
use Rattle.lists.specs.Records.{component, component_count}
use Rattle.lists.specs.Slices.{laid}
use Rattle.checks.specs.Refusals.{refuse, ◌or_else◌, too_short, room_for, room_for_rows, packed}
use Rattle.checks.proofs.Accepted.{liveness_accept}
use Rattle.checks.proofs.Chain.{refused_not}
use Rattle.lists.proofs.Search.{both}
use Rattle.faces.specs.Ports.{ports_of}
use Rattle.faces.proofs.Sound.{ports_few}
use Rattle.signals.specs.Sources.{is_on_frontier}
use Rattle.signals.specs.Regions.{is_inferred}
use Rattle.assessment.specs.Verdicts.{is_required, status_of, port_rows, verdict_rows, row_if, kind_row, sources_at, source_rows_below, source_rows, input_rows}
use Rattle.signals.specs.Sources.{source_kind}
use Rattle.liveness.specs.Sets.{checked}
use Rattle.liveness.specs.Demand.{RegionsOfScene}
use Rattle.liveness.specs.declared.Analysis.{Analysis}
use Rattle.held.specs.Plot.{Plot, present, fault_at}
use Rattle.held.specs.Lent.{Lent, plot_in, lent_valid}
use Rattle.held.specs.Scene.{scene_components, scene_ports}
use Rattle.held_liveness.specs.Entry.{held_refusal, refusal_of, HeldReported}
use Rattle.held_liveness.proofs.FreshLaws.{accepted_parts, fresh_accepted}
use Rattle.capi.specs.Liveness.{set_count, sets_of}
use Rattle.capi.specs.Held.{held_lists_refusal, HeldByLists}
use Rattle.capi.proofs.LivenessLaws.{few_regions, WordsOfSet, set_words}

-- ---- words behind words

pub pasted_more : (front words old out out' : List ℕ) (n : ℕ) → n ≡ length front → out ≡ laid front old
    → out' ≡ paste out n words (length words) → out' ≡ laid (front ++ words) old
pasted_more front words old out out' n e f g =
    let rest = drop (length front) old in
    let before : take n out ≡ front = ap (take n) f ∙ take_at front rest n (sym e) in
    let behind : drop (n + length words) out ≡ drop (length (front ++ words)) old =
    ap (drop (n + length words)) f
    ∙ (ap (λ (m : ℕ). drop (m + length words) (front ++ rest)) e
    ∙ (drop-append-add front rest (length words)
    ∙ (drop-drop (length words) (length front) old ∙ ap (λ (m : ℕ). drop m old) (sym (length-append front words))))) in
    g ∙ (rw (before, take-length words, behind) refl)

-- ---- how many rows there can be

kind_most : (id : ℕ) (found : Option ℕ) → length (kind_row id found) ≤ 2
kind_most id (Some kind) = omega arith
kind_most id None = omega arith

test_most : (test : Bool) (id kind : ℕ) → length (row_if test id kind) ≤ 2
test_most true id kind = omega arith
test_most false id kind = omega arith

three_most : (test : Bool) (a b c : ℕ) → length (cond test (a ∷ b ∷ c ∷ []) []) ≤ 3
three_most true a b c = omega arith
three_most false a b c = omega arith

module _ (rules : ℕ) (cs ps fs : List ℤ) where
  sources_most : (n : ℕ) → length (source_rows_below rules cs ps fs n) ≤ 6 * n
  unfolding source_rows_below sources_at
  sources_most zero = omega arith
  sources_most (suc p) =
      let id = (component cs p).id in
      let one = kind_row id (source_kind (component cs p).kind) in
      let two = row_if (is_on_frontier cs fs p) id 2 in
      let three = row_if (is_inferred rules cs ps fs p) id 3 in
      omega (
        arith,
        length-append (source_rows_below rules cs ps fs p) (one ++ (two ++ three)),
        length-append one (two ++ three),
        length-append two three,
        sources_most p,
        kind_most id (source_kind (component cs p).kind),
        test_most (is_on_frontier cs fs p) id 2,
        test_most (is_inferred rules cs ps fs p) id 3,
      )

  ports_most : (p m : ℕ) → length (port_rows rules cs ps fs p m) ≤ 3 * m
  unfolding port_rows
  ports_most p zero = omega arith
  ports_most p (suc k) =
      let row = cond (is_required rules (component cs p) k) ((component cs p).id ∷ k ∷ status_of rules cs ps fs p k ∷ []) [] in
      omega (arith, length-append (port_rows rules cs ps fs p k) row, ports_most p k, three_most (is_required rules (component cs p) k) (component cs p).id k (status_of rules cs ps fs p k))

  inputs_most : (n : ℕ) → length (verdict_rows rules cs ps fs n) ≤ 21 * n
  unfolding verdict_rows
  inputs_most zero = omega arith
  inputs_most (suc p) =
      let c = component cs p in
      let m = length (ports_of rules c) in
      omega (arith, length-append (verdict_rows rules cs ps fs p) (port_rows rules cs ps fs p m), inputs_most p, ports_most p m, ports_few rules c.kind c.facing c.support c.conducts)

-- ---- the report

module _ (lent : Lent) (components : List ℤ) (regions sources inputs sets stack : List ℕ) where
  abbrev plot : Plot
  plot = plot_in lent

  abbrev refusal : Result ⊤ Refusal
  refusal = held_lists_refusal lent components regions sources inputs sets stack

  refused_by : (refused : Refusal) (r : ℕ) → refusal ≡ Err refused → r ≡ packed (Err refused)
      → HeldByLists lent components components regions regions sources sources inputs inputs sets sets stack stack r
  refused_by refused r e f = record {
    by = rw e record { answer = f; components_left = refl; regions_left = refl; sources_left = refl; inputs_left = refl; sets_left = refl; stack_left = refl };
    demand = λ q. absurd (refused_not (sym e ∙ q));
  }

  -- without room for the sets
  setless_err : (refused : Refusal) × (held_refusal lent false ≡ Err refused)
  unfolding held_refusal
  setless_err = go (lent_valid lent)
    where
      go : (b : Bool) → (refused : Refusal) × ((refuse Fault.StrangePlot None (fault_at 0 (not b)) or_else refuse Fault.ShortSlice None (too_short false)) ≡ Err refused)
      go true = (record { fault = Fault.ShortSlice; list = None; item = 0 }, refl)
      go false = (record { fault = Fault.StrangePlot; list = None; item = 0 }, refl)

  without : (t rest : Bool) → t ≡ false → held_refusal lent (t && rest) ≡ held_refusal lent false
  without t rest e = rw e

  pub setless : (r : ℕ) → room_for set_count word_count (length sets) ≡ false → r ≡ packed (held_refusal lent false)
      → HeldByLists lent components components regions regions sources sources inputs inputs sets sets stack stack r
  setless r none f =
      let (refused, e) = setless_err in
      refused_by refused r (without _ _ none ∙ e) (f ∙ ap packed e)

  module _ (roomy : room_for set_count word_count (length sets) ≡ true) where
    same : refusal ≡ refusal_of lent components regions sources inputs stack
    same = rw roomy

    module _ {components' : List ℤ} {regions' sources' inputs' stack' : List ℕ} {answer : Result Analysis Refusal}
        (h : HeldReported lent components components' regions regions' sources sources' inputs inputs' stack stack' answer) where
      pub reported_refused : (refused : Refusal) (r : ℕ) → answer ≡ Err refused → r ≡ packed (Err refused)
          → HeldByLists lent components components' regions regions' sources sources' inputs inputs' sets sets stack stack' r
      reported_refused refused r e f =
          let told : Err refused ≡ refusal_of lent components regions sources inputs stack = ap checked (sym e) ∙ h.by.answer in
          let a = rw (sym told) at h.components_left in
          let b = rw (sym told) at h.by.regions_left in
          let c = rw (sym told) at h.by.sources_left in
          let d = rw (sym told) at h.by.inputs_left in
          let s = rw (sym told) at h.by.stack_left in
          rw (a, b, c, d, s) (refused_by refused r (same ∙ sym told) f)

    module _ {components' : List ℤ} {regions' sources' inputs' stack' : List ℕ} {answer : Result Analysis Refusal} {a : Analysis}
        (given : HeldReported lent components components' regions regions' sources sources' inputs inputs' stack stack' answer) (is : answer ≡ Ok a) where
      h : HeldReported lent components components' regions regions' sources sources' inputs inputs' stack stack' (Ok a)
      h = subst (λ (x : Result Analysis Refusal). HeldReported lent components components' regions regions' sources sources' inputs inputs' stack stack' x) is given

      accepted : refusal_of lent components regions sources inputs stack ≡ Ok tt
      accepted = sym h.by.answer

      valid : lent_valid lent ≡ true
      valid = (accepted_parts lent _ accepted).0

      rows_room : room_for_rows (present plot.places) (length regions) (length sources) (length inputs) (length stack) ≡ true
      rows_room = (both (room_for (present plot.places) 8 (length components)) _ (accepted_parts lent _ accepted).1).1

      regions_few : a.regions < 65536
      regions_few =
          omega (
            arith,
            h.by.analysis.region_count_lem,
            few_regions plot.rules (scene_components plot) (scene_ports plot) plot.frontiers _ (fresh_accepted lent valid (length regions) (length sources) (length inputs) (length stack) rows_room),
          )

      components_few : component_count (scene_components plot) ≤ component_limit
      components_few =
          (liveness_accept plot.rules (scene_components plot) (scene_ports plot) plot.frontiers _ (fresh_accepted lent valid (length regions) (length sources) (length inputs) (length stack) rows_room)).components.few

      pub report_few : (a.regions < 65536) × ((a.sources < 65536) × (a.inputs < 65536))
      report_few = (
        regions_few,
        (
          omega (arith, h.by.analysis.source_count, components_few, sources_most plot.rules (scene_components plot) (scene_ports plot) plot.frontiers (component_count (scene_components plot))),
          omega (arith, h.by.analysis.input_count, components_few, inputs_most plot.rules (scene_components plot) (scene_ports plot) plot.frontiers (component_count (scene_components plot))),
        ),
      )

      pub reported_ok : (sets' : List ℕ) (r : ℕ)
          → WordsOfSet a.drive.words → WordsOfSet a.potential.words → WordsOfSet a.cyclic.words → WordsOfSet a.has_drive.words
          → sets' ≡ laid (a.drive.words ++ (a.potential.words ++ (a.cyclic.words ++ a.has_drive.words))) sets
          → r ≡ 65536 * a.regions + 4294967296 * a.sources + 281474976710656 * a.inputs
          → HeldByLists lent components components' regions regions' sources sources' inputs inputs' sets sets' stack stack' r
      reported_ok sets' r d p c f laid_is count =
          let f' = h.by.analysis in
          let words : (a.drive.words ++ (a.potential.words ++ (a.cyclic.words ++ a.has_drive.words))) ≡ sets_of plot.rules (scene_components plot) (scene_ports plot) plot.frontiers =
          rw (set_words d f'.drive_set, set_words p f'.potential_set, set_words c f'.cyclic_set, set_words f f'.has_drive_set) in
          let sources_are : a.sources ≡ length (source_rows plot.rules (scene_components plot) (scene_ports plot) plot.frontiers) / 2 = omega (arith, f'.source_count) in
          let inputs_are : a.inputs ≡ length (input_rows plot.rules (scene_components plot) (scene_ports plot) plot.frontiers) / 3 = omega (arith, f'.input_count) in
          let ok : refusal ≡ Ok tt = same ∙ accepted in
          let m = rw accepted at h.components_left in
          let n = rw accepted at h.by.regions_left in
          let o = rw accepted at h.by.sources_left in
          let q = rw accepted at h.by.inputs_left in
          let s = rw accepted at h.by.stack_left in
          record {
            by = rw ok record {
              answer = count ∙ (rw (f'.region_count_lem, sources_are, inputs_are) refl);
              components_left = m;
              regions_left = n;
              sources_left = o;
              inputs_left = q;
              sets_left = laid_is ∙ ap (λ (ws : List ℕ). laid ws sets) words;
              stack_left = s;
            };
            demand = λ taken. subst (λ (k : ℕ). RegionsOfScene (scene_components plot) (scene_ports plot) regions' k) (omega (arith, count, regions_few)) h.demand;
          }
