-- Demand 3 of the bytes that `dustroute_liveness` writes and of the count that it answers.
--     words_written      numbers that were written are the first of the words that are read
--     by_bytes           what was answered and left is so with demand 3
-- Assumes nothing.
use Rattle.std.specs.Prelude.{⊤, Result, Ok}
use Rattle.lists.specs.declared.Refusal.{Refusal}
use mathlib.Core.Path.{◌≡◌, sym, ap, ◌∙◌}
use mathlib.Core.Bool.{Bool, ◌&&◌}
use mathlib.Core.List.{List, [], ◌++◌, append-nil}
use Prim.Native.Nat.{ℕ, ◌/◌, ◌%◌, ◌^◌, ◌≤◌, ◌<◌}
use native.Mathlib.Omega.{arith}
use lib.ListN.{length, get_or, drop, length-append}
use lib.IntN.{ℤ}
use Rattle.sets.specs.Members.{word_count}
use Rattle.lists.specs.Limits.{component_limit}
use Rattle.lists.specs.Records.{component_count}
use Rattle.lists.specs.Slices.{left_of}
use Rattle.checks.specs.Refusals.{room_for, liveness_lists, liveness_room}
use Rattle.checks.proofs.Chain.{both_accept}
use Rattle.checks.proofs.Accepted.{liveness_accept}
use Rattle.signals.specs.Regions.{region_of_place, region_count, regions_of}
use Rattle.signals.proofs.Tabulated.{tab_length, tab_at}
use Rattle.assessment.specs.Verdicts.{source_rows, input_rows}
use Rattle.liveness.specs.Demand.{RegionsOfScene}
use Rattle.liveness.proofs.Answers.{scene_of_lem}
use Rattle.liveness.proofs.Demands.{demand_3, same_regions}
use Rattle.encoding.specs.Bytes.{number_bytes, numbers, word_at, words, bytes_of}
use Rattle.encoding.proofs.Writing.{length_bytes, word_written}
use Rattle.capi.specs.Liveness.{set_count, liveness_whole, liveness_bytes_refusal, liveness_number, LivenessWritten, LivenessByBytes}
use Rattle.capi.proofs.LivenessLaws.{few_regions}

words_written : (ns rest : List ℕ) (k : ℕ) → k < length ns → get_or ns k 0 < 2 ^ 63 → get_or (words (bytes_of ns ++ rest)) k 0 ≡ get_or ns k 0
words_written ns rest k h small =
    let there : k < length (bytes_of ns ++ rest) / number_bytes = omega (arith, h, length-append (bytes_of ns) rest, length_bytes ns) in
    tab_at (word_at (bytes_of ns ++ rest)) (length (bytes_of ns ++ rest) / number_bytes) k there ∙ word_written ns rest k h small

-- the count is sixteen bits of the answer
count_told : (regions sources inputs : ℕ) → regions ≤ component_limit → liveness_number (Ok tt) regions sources inputs / 65536 % 65536 ≡ regions
count_told regions sources inputs h = omega arith

module _ (rules : ℕ) (components ports frontiers regions regions' sources sources' inputs inputs' sets sets' stack stack' : List ℕ) (r : ℕ)
    (w : LivenessWritten rules components ports frontiers regions regions' sources sources' inputs inputs' sets sets' stack stack' r) where
  abbrev cs : List ℤ
  cs = numbers components

  abbrev ps : List ℤ
  ps = numbers ports

  abbrev fs : List ℤ
  fs = numbers frontiers

  abbrev enough : Bool
  enough =
      room_for set_count word_count (length sets / number_bytes)
      && liveness_room cs (length regions / number_bytes) (length sources / number_bytes) (length inputs / number_bytes) (length stack / number_bytes)

  module _ (e : liveness_bytes_refusal rules components ports frontiers (length regions) (length sources) (length inputs) (length sets) (length stack) ≡ Ok tt) where
    lists : liveness_lists rules cs ps fs enough ≡ Ok tt
    lists = (both_accept (liveness_whole rules components ports frontiers) (liveness_lists rules cs ps fs enough) e).1

    few : region_count cs ps ≤ component_limit
    few = few_regions rules cs ps fs enough lists

    of_list : RegionsOfScene cs ps (regions_of cs ps ++ []) (region_count cs ps)
    of_list = demand_3 cs ps (scene_of_lem (liveness_accept rules cs ps fs enough lists)) []

    written : regions' ≡ bytes_of (regions_of cs ps) ++ drop (length (bytes_of (regions_of cs ps))) regions
    written = w.regions_left ∙ ap (λ (c : Result ⊤ Refusal). left_of c (bytes_of (regions_of cs ps)) regions) e

    counted : r / 65536 % 65536 ≡ region_count cs ps
    counted =
        let sources = length (source_rows rules cs ps fs) / 2 in
        let inputs = length (input_rows rules cs ps fs) / 3 in
        let n = w.answer ∙ ap (λ (c : Result ⊤ Refusal). liveness_number c (region_count cs ps) sources inputs) e in
        ap (λ (m : ℕ). m / 65536 % 65536) n ∙ count_told (region_count cs ps) sources inputs few

    region_read : (v : ℕ) → v < component_count cs → get_or (regions_of cs ps ++ []) v 0 ≡ get_or (words regions') v 0
    region_read v h =
        let long = tab_length (region_of_place cs ps) (component_count cs) in
        let nil : regions_of cs ps ++ [] ≡ regions_of cs ps = append-nil (regions_of cs ps) in
        let below = rw nil at (of_list.below v h) in
        rw (nil, written) (sym (words_written (regions_of cs ps) _ v (omega (arith, long)) (omega (arith, below, few))))

  pub by_bytes : LivenessByBytes rules components ports frontiers regions regions' sources sources' inputs inputs' sets sets' stack stack' r
  by_bytes = record { by = w; demand = λ e. rw (counted e) (same_regions cs ps (region_count cs ps) (region_read e) (of_list e)) }
