-- From the liveness entry on lists of numbers to the entry by bytes.
--     short_refused                    without room for the sets a scene is refused
--     regions_there, ..-front          the rows of such a scene stand at the front of their slices
--     set_words                        the words of a set, by its members
--     regions_most, few_regions        and there are no more regions than components
--     refused_alive, accepted_alive    the answer and what is left, from the lists of numbers
--     whole_three, three_fit           lists of bytes that pass number 1, and its refusal as one number
--     ports_alive                      the answer and what is left, from port connections that were read
--     part_alive, decoded_alive        the same from the lists of bytes
-- Assumes nothing.
use Rattle.lists.specs.declared.Fault.{Fault}
use Rattle.lists.specs.declared.Section.{Section}
use Rattle.std.specs.Prelude.{Some, None}
use Rattle.std.specs.Prelude.{⊤, Result, Ok, Err}
use mathlib.Core.Path.{◌≡◌, refl, sym, ap, ◌∙◌}
use mathlib.Core.Bool.{Bool, false}
use mathlib.Core.List.{List, ◌++◌}
use Prim.Native.Nat.{ℕ, ◌+◌, ◌*◌, ◌/◌, ◌^◌, ◌≤◌, ◌<◌}
use native.Mathlib.Omega.{arith}
use lib.Dec.{lit≤}
use lib.ListN.{length, get_or, take, drop, length-append}
use lib.IntN.{ℤ}
use Rattle.sets.specs.Members.{word_count, words_of_set}
use Rattle.sets.proofs.Words.{true_not_false}
use Rattle.sets.proofs.Unique.{set_unique}
use Rattle.lists.specs.Limits.{component_limit, connection_limit, frontier_limit, component_width, port_width, frontier_width}
use Rattle.lists.specs.Records.{component_count}
use Rattle.checks.specs.Refusals.{refuse, ◌or_else◌, not_whole, strange_rules, liveness_lists, Small, packed}
use Rattle.lists.specs.Slices.{laid}
use Rattle.lists.specs.declared.Refusal.{Refusal}
use Rattle.checks.proofs.Chain.{both_accept}
use Rattle.checks.proofs.Accepts.{refuse_none, whole_few, whole_all}
use Rattle.checks.proofs.Small.{small_or_else, rules_small, whole_small}
use Rattle.checks.proofs.Accepted.{liveness_accept}
use Rattle.regions.proofs.Theorems.{region_laws}
use Rattle.signals.specs.Signals.{signals}
use Rattle.signals.specs.Regions.{region_count, region_of_place, regions_of}
use Rattle.assessment.specs.Verdicts.{source_rows, input_rows}
use Rattle.liveness.specs.Scene.{Scene}
use Rattle.liveness.specs.Sets.{SetWhere}
use Rattle.liveness.specs.Entry.{AnalyzedBy}
use Rattle.liveness.specs.declared.Analysis.{Analysis}
use Rattle.signals.proofs.Tabulated.{tab_length}
use Rattle.liveness.proofs.Answers.{scene_of_lem}
use Rattle.liveness.proofs.Demands.{signals_within}
use Rattle.encoding.specs.Bytes.{number_bytes, numbers, bytes_of}
use Rattle.capi.specs.Liveness.{liveness_whole, liveness_bytes_refusal, sets_of, LivenessLaid, LivenessWritten}
use Rattle.capi.specs.Written.{Written, LivenessByPlaces}
use Rattle.encoding.proofs.Laid.{laid_front}

-- ---- room

-- a scene whose lent slices are too short is refused
pub short_refused : (rules : ℕ) (cs ps fs : List ℤ) → (refusal : Refusal) × (liveness_lists rules cs ps fs false ≡ Err refusal)
short_refused rules cs ps fs = go (liveness_lists rules cs ps fs false) refl
  where
    go : (checked : Result ⊤ Refusal) → liveness_lists rules cs ps fs false ≡ checked
        → (refusal : Refusal) × (liveness_lists rules cs ps fs false ≡ Err refusal)
    go (Ok tt) e = absurd (true_not_false (sym (liveness_accept rules cs ps fs false e).scene.lengths.room))
    go (Err refusal) e = (refusal, e)

-- ---- an accepted scene

pub alive_as : {checks checks' : Result ⊤ Refusal} {rules : ℕ} {cs ps fs : List ℤ} {regions regions' sources sources' inputs inputs' sets sets' stack stack' : List ℕ} {r : ℕ}
    → checks ≡ checks' → LivenessLaid checks rules cs ps fs regions regions' sources sources' inputs inputs' sets sets' stack stack' r
    → LivenessLaid checks' rules cs ps fs regions regions' sources sources' inputs inputs' sets sets' stack stack' r
alive_as e l = rw e at l

-- an accepted scene has no more regions than components
pub regions_most : {cs ps : List ℤ} → Scene cs ps → region_count cs ps ≤ component_limit
regions_most {cs} {ps} scene =
    let laws = region_laws (component_count cs) (signals cs ps) (signals_within cs ps scene) in
    omega (arith, laws.few, scene.components.few)

pub few_regions : (rules : ℕ) (cs ps fs : List ℤ) (enough : Bool) → liveness_lists rules cs ps fs enough ≡ Ok tt → region_count cs ps ≤ component_limit
few_regions rules cs ps fs enough e =
    regions_most (scene_of_lem (liveness_accept rules cs ps fs enough e))

-- rows that were laid are there, and are what stands at the front
laid_there : (rows old new : List ℕ) (k : ℕ) → length rows ≡ k → new ≡ laid rows old → k ≤ length new
laid_there rows old new k l e = rw e (omega (arith, l, length-append rows (drop (length rows) old)))

laid_taken : (rows old new : List ℕ) (k : ℕ) → length rows ≡ k → new ≡ laid rows old → take k new ≡ rows
laid_taken rows old new k l e = rw e (laid_front rows old k l)

-- as many words as a set has, of 64 bits each
pub record WordsOfSet (words : List ℕ) : Type 0 where
  pub long : length words ≡ word_count
  pub fit : (i : ℕ) → get_or words i 0 < 2 ^ 64

pub set_words : {n : ℕ} {P : ℕ → Bool} {words : List ℕ} → WordsOfSet words → SetWhere n P words → words ≡ words_of_set word_count n P
set_words {n} {P} {words} w s = set_unique word_count words n P w.long w.fit s.member

module _ {rules : ℕ} {cs ps fs : List ℤ} {regions regions' sources sources' inputs inputs' stack stack' : List ℕ} {r : Analysis}
    (a : AnalyzedBy (Ok tt) rules cs ps fs regions regions' sources sources' inputs inputs' stack stack' (Ok r)) where
  pub regions_there : component_count cs ≤ length regions'
  regions_there = laid_there (regions_of cs ps) regions regions' (component_count cs) (tab_length (region_of_place cs ps) (component_count cs)) a.regions_left

  pub sources_there : r.sources * 2 ≤ length sources'
  sources_there = laid_there (source_rows rules cs ps fs) sources sources' (r.sources * 2) (sym a.analysis.source_count) a.sources_left

  pub inputs_there : r.inputs * 3 ≤ length inputs'
  inputs_there = laid_there (input_rows rules cs ps fs) inputs inputs' (r.inputs * 3) (sym a.analysis.input_count) a.inputs_left

  regions_front : take (component_count cs) regions' ≡ regions_of cs ps
  regions_front = laid_taken (regions_of cs ps) regions regions' (component_count cs) (tab_length (region_of_place cs ps) (component_count cs)) a.regions_left

  sources_front : take (r.sources * 2) sources' ≡ source_rows rules cs ps fs
  sources_front = laid_taken (source_rows rules cs ps fs) sources sources' (r.sources * 2) (sym a.analysis.source_count) a.sources_left

  inputs_front : take (r.inputs * 3) inputs' ≡ input_rows rules cs ps fs
  inputs_front = laid_taken (input_rows rules cs ps fs) inputs inputs' (r.inputs * 3) (sym a.analysis.input_count) a.inputs_left

  sets_are : WordsOfSet r.drive.words → WordsOfSet r.potential.words → WordsOfSet r.cyclic.words → WordsOfSet r.has_drive.words
      → (r.drive.words ++ (r.potential.words ++ (r.cyclic.words ++ r.has_drive.words))) ≡ sets_of rules cs ps fs
  sets_are d p c h = rw (set_words d a.analysis.drive_set, set_words p a.analysis.potential_set, set_words c a.analysis.cyclic_set, set_words h a.analysis.has_drive_set)

  numbers_are : (n : ℕ) → n ≡ 65536 * r.regions + 4294967296 * r.sources + 281474976710656 * r.inputs
      → n ≡ 65536 * region_count cs ps + 4294967296 * (length (source_rows rules cs ps fs) / 2) + 281474976710656 * (length (input_rows rules cs ps fs) / 3)
  numbers_are n e =
      let two : r.sources ≡ length (source_rows rules cs ps fs) / 2 = omega (arith, a.analysis.source_count) in
      let three : r.inputs ≡ length (input_rows rules cs ps fs) / 3 = omega (arith, a.analysis.input_count) in
      omega (arith, e, a.analysis.region_count_lem, two, three)

  pub accepted_alive : {checks : Result ⊤ Refusal} {out₁ out₁' out₂ out₂' out₃ out₃' out₄ out₄' work work' : List ℕ} {n : ℕ} → checks ≡ Ok tt
      → WordsOfSet r.drive.words → WordsOfSet r.potential.words → WordsOfSet r.cyclic.words → WordsOfSet r.has_drive.words
      → Written r (take (component_count cs) regions') (take (r.sources * 2) sources') (take (r.inputs * 3) inputs') out₁ out₁' out₂ out₂' out₃ out₃' out₄ out₄' work work' n
      → LivenessLaid checks rules cs ps fs out₁ out₁' out₂ out₂' out₃ out₃' out₄ out₄' work work' n
  accepted_alive {out₁ = out₁} {out₂ = out₂} {out₃ = out₃} {out₄ = out₄} {n = n} e d p c h w =
      alive_as (sym e) (record {
        answer = numbers_are n w.counts_are;
        regions_left = w.regions_are ∙ ap (λ (l : List ℕ). laid (bytes_of l) out₁) regions_front;
        sources_left = w.sources_are ∙ ap (λ (l : List ℕ). laid (bytes_of l) out₂) sources_front;
        inputs_left = w.inputs_are ∙ ap (λ (l : List ℕ). laid (bytes_of l) out₃) inputs_front;
        sets_left = w.sets_are ∙ ap (λ (l : List ℕ). laid (bytes_of l) out₄) (sets_are d p c h);
        stack_left = w.stack_is;
      })

-- ---- a refusal

pub refused_alive : (checks : Result ⊤ Refusal) (rules : ℕ) (cs ps fs : List ℤ) (regions sources inputs sets stack : List ℕ) (refusal : Refusal) (r : ℕ) → checks ≡ Err refusal
    → r ≡ packed (Err refusal) → LivenessLaid checks rules cs ps fs regions regions sources sources inputs inputs sets sets stack stack r
refused_alive checks rules cs ps fs regions sources inputs sets stack refusal r e f =
    alive_as (sym e) (record { answer = f; regions_left = refl; sources_left = refl; inputs_left = refl; sets_left = refl; stack_left = refl })

-- ---- port connections that were read

pub ports_alive : {rules : ℕ} {cs ps ps' fs : List ℤ} {regions regions' sources sources' inputs inputs' sets sets' stack stack' : List ℕ} {r : ℕ}
    → ps ≡ ps' → LivenessByPlaces rules cs ps fs regions regions' sources sources' inputs inputs' sets sets' stack stack' r
    → LivenessByPlaces rules cs ps' fs regions regions' sources sources' inputs inputs' sets sets' stack stack' r
ports_alive e l = rw e at l

-- ---- the bytes of the three lists

module _ (rules : ℕ) (components ports frontiers : List ℕ) where
  pub record WholeThree : Type 0 where
    pub components_few : length components / number_bytes ≤ component_limit * component_width
    pub ports_few : length ports / number_bytes ≤ connection_limit * port_width
    pub frontiers_few : length frontiers / number_bytes ≤ frontier_limit * frontier_width

  abbrev known : Result ⊤ Refusal
  known = refuse Fault.UnknownRules None (strange_rules rules)

  abbrev first : Result ⊤ Refusal
  first = refuse Fault.ListLength (Some Section.Components) (not_whole (number_bytes * component_width) component_limit (length components))

  abbrev second : Result ⊤ Refusal
  second = refuse Fault.ListLength (Some Section.Connections) (not_whole (number_bytes * port_width) connection_limit (length ports))

  abbrev third : Result ⊤ Refusal
  third = refuse Fault.ListLength (Some Section.Frontiers) (not_whole (number_bytes * frontier_width) frontier_limit (length frontiers))

  pub whole_three : liveness_whole rules components ports frontiers ≡ Ok tt → WholeThree
  whole_three e =
      let (zero, listed) = both_accept known (first or_else second or_else third) e in
      let (one, others) = both_accept first (second or_else third) listed in
      let (two, three) = both_accept second third others in
      let c = refuse_none Fault.ListLength (Some Section.Components) (not_whole (number_bytes * component_width) component_limit (length components)) one in
      let p = refuse_none Fault.ListLength (Some Section.Connections) (not_whole (number_bytes * port_width) connection_limit (length ports)) two in
      let f = refuse_none Fault.ListLength (Some Section.Frontiers) (not_whole (number_bytes * frontier_width) frontier_limit (length frontiers)) three in
      record {
        components_few = omega (arith, whole_few _ component_limit _ c, whole_all _ component_limit _ c);
        ports_few = omega (arith, whole_few _ connection_limit _ p, whole_all _ connection_limit _ p);
        frontiers_few = omega (arith, whole_few _ frontier_limit _ f, whole_all _ frontier_limit _ f);
      }

  pub three_fit : Small (liveness_whole rules components ports frontiers)
  three_fit =
      small_or_else known (first or_else second or_else third) (rules_small rules)
      (λ _. small_or_else first (second or_else third) (whole_small (Some Section.Components) (number_bytes * component_width) component_limit (length components) (lit≤ tt))
      (λ _. small_or_else second third (whole_small (Some Section.Connections) (number_bytes * port_width) connection_limit (length ports) (lit≤ tt))
      (λ _. whole_small (Some Section.Frontiers) (number_bytes * frontier_width) frontier_limit (length frontiers) (lit≤ tt))))

  module _ (regions regions' sources sources' inputs inputs' sets sets' stack stack' : List ℕ) (r : ℕ) where
    pub decoded_alive : (cs fs : List ℤ) → cs ≡ numbers components → fs ≡ numbers frontiers → liveness_whole rules components ports frontiers ≡ Ok tt
        → LivenessByPlaces rules cs (numbers ports) fs regions regions' sources sources' inputs inputs' sets sets' stack stack' r
        → LivenessWritten rules components ports frontiers regions regions' sources sources' inputs inputs' sets sets' stack stack' r
    decoded_alive cs fs ec ef e laid_so = rw e (rw (ec, ef) at laid_so)

  pub part_alive : (regions sources inputs sets stack : List ℕ) (refusal : Refusal) (r : ℕ) → liveness_whole rules components ports frontiers ≡ Err refusal → r ≡ packed (Err refusal)
      → LivenessWritten rules components ports frontiers regions regions sources sources inputs inputs sets sets stack stack r
  part_alive regions sources inputs sets stack refusal r e f =
      refused_alive (liveness_bytes_refusal rules components ports frontiers (length regions) (length sources) (length inputs) (length sets) (length stack))
      rules (numbers components) (numbers ports) (numbers frontiers) regions sources inputs sets stack refusal r (rw e) f
