-- What a host can rely on, besides the contract.
--     read_back                       numbers that were written as bytes are read as the same numbers
--     accepted_parts, refused_parts   the parts of an answer
--     liveness_accepted_parts         the parts of the liveness entry's answer
--     told_apart                      the sixteen lowest bits of an answer are 0 exactly where the scene is accepted
--     liveness_told_apart             the same of the liveness entry
-- Assumes nothing.
use Rattle.std.specs.Prelude.{⊤, Result, Ok, Err}
use mathlib.Core.Path.{◌≡◌, refl, sym, ◌∙◌}
use mathlib.Core.List.{List, [], ◌∷◌, append-nil, map, map-append}
use mathlib.Core.Logic.{◌↔◌}
use Prim.Native.Nat.{ℕ, zero, suc, ◌*◌, ◌/◌, ◌%◌, ◌^◌, ◌≤◌, ◌<◌}
use native.Mathlib.Omega.{arith}
use lib.ListN.{length, get_or, take}
use lib.Seq.{take-suc, take-length}
use lib.IntN.{pos, negsuc}
use Rattle.lists.specs.Limits.{component_limit}
use Rattle.checks.specs.Refusals.{Small, packed}
use Rattle.lists.specs.declared.Refusal.{Refusal}
use Rattle.lists.specs.Refusal.{fault_number, list_number}
use Rattle.checks.proofs.Small.{fault_within, list_few}
use Rattle.encoding.specs.Bytes.{number_bytes, little_endian, word_at, signed, first_numbers, numbers, bytes_of}
use Rattle.encoding.specs.Entry.{groups_refusal, groups_number, GroupsByBytes}
use Rattle.capi.specs.Liveness.{liveness_bytes_refusal, liveness_number, LivenessByBytes}
use Rattle.encoding.proofs.Reading.{signed_low}
use Rattle.encoding.proofs.Writing.{length_bytes, word_written}

-- ---- bytes

-- the highest byte is the last
least : signed (little_endian (0 ∷ 0 ∷ 0 ∷ 0 ∷ 0 ∷ 0 ∷ 0 ∷ 128 ∷ [])) ≡ negsuc 9223372036854775807
unfolding signed little_endian
least = refl

-- the odd tail is not read
minus_one : numbers (255 ∷ 255 ∷ 255 ∷ 255 ∷ 255 ∷ 255 ∷ 255 ∷ 255 ∷ 1 ∷ 2 ∷ 3 ∷ []) ≡ negsuc 0 ∷ []
unfolding first_numbers signed little_endian
minus_one = refl

module _ (ns : List ℕ) (small : (i : ℕ) → get_or ns i 0 < 2 ^ 63) where
  first_back : (k : ℕ) → k ≤ length ns → first_numbers (bytes_of ns) k ≡ map pos (take k ns)
  unfolding first_numbers
  first_back zero h = refl
  first_back (suc k) h =
      let word : word_at (bytes_of ns) k ≡ get_or ns k 0 = rw append-nil at (word_written ns [] k h (small k)) in
      rw (word, signed_low (get_or ns k 0) (small k), first_back k (omega arith), take-suc ns k 0 h) (sym (map-append pos (take k ns) (get_or ns k 0 ∷ [])))

  pub read_back : numbers (bytes_of ns) ≡ map pos ns
  read_back =
      let count : length (bytes_of ns) / number_bytes ≡ length ns = omega (arith, length_bytes ns) in
      rw count (first_back (length ns) (omega arith) ∙ rw take-length)

-- ---- the parts of an answer

pub record AcceptedParts (r nets fragments : ℕ) : Type 0 where
  pub accepted : r % 65536 ≡ 0
  pub nets_are : r / 65536 % 65536 ≡ nets
  pub fragments_are : r / 4294967296 ≡ fragments

pub accepted_parts : (nets fragments : ℕ) → nets ≤ component_limit → AcceptedParts (groups_number (Ok tt) nets fragments) nets fragments
accepted_parts nets fragments h = record { accepted = omega arith; nets_are = omega arith; fragments_are = omega arith }

pub record RefusedParts (r : ℕ) (refusal : Refusal) : Type 0 where
  pub number_is : r % 256 ≡ fault_number refusal.fault
  pub list_is : r / 256 % 256 ≡ list_number refusal.list
  pub item_is : r / 65536 ≡ refusal.item

pub refused_parts : (refusal : Refusal) (nets fragments : ℕ) → Small (Err refusal) → RefusedParts (groups_number (Err refusal) nets fragments) refusal
refused_parts refusal nets fragments small =
    let f = fault_within refusal.fault in
    let l = list_few refusal.list in
    record { number_is = omega (arith, f, l); list_is = omega (arith, f, l); item_is = omega (arith, f, l) }

pub record LivenessParts (r regions sources inputs : ℕ) : Type 0 where
  pub accepted : r % 65536 ≡ 0
  pub regions_are : r / 65536 % 65536 ≡ regions
  pub sources_are : r / 4294967296 % 65536 ≡ sources
  pub inputs_are : r / 281474976710656 ≡ inputs

pub liveness_accepted_parts : (regions sources inputs : ℕ) → regions ≤ component_limit → sources ≤ 2 * component_limit
    → LivenessParts (liveness_number (Ok tt) regions sources inputs) regions sources inputs
liveness_accepted_parts regions sources inputs h l =
    record { accepted = omega arith; regions_are = omega arith; sources_are = omega arith; inputs_are = omega arith }

-- ---- acceptance and refusal, told apart

-- a refusal has a number above 0
refused_odd : (refusal : Refusal) → packed (Err refusal) % 65536 ≡ 0 → ⊥
refused_odd refusal e = omega (arith, fault_within refusal.fault, list_few refusal.list)

told : (checked : Result ⊤ Refusal) (nets fragments : ℕ) → (groups_number checked nets fragments % 65536 ≡ 0) ↔ (checked ≡ Ok tt)
told (Ok tt) nets fragments = (λ _. refl, λ _. omega arith)
told (Err r) nets fragments = (λ e. absurd (refused_odd r e), λ e. cc)

pub told_apart : (rules : ℕ) (components connections nets nets' fragments fragments' : List ℕ) (r : ℕ) → GroupsByBytes rules components connections nets nets' fragments fragments' r
    → (r % 65536 ≡ 0) ↔ (groups_refusal rules components connections (length nets) (length fragments) ≡ Ok tt)
told_apart rules components connections nets nets' fragments fragments' r laid_so =
    rw laid_so.answer (told (groups_refusal rules components connections (length nets) (length fragments)) _ _)

-- ---- the liveness entry

liveness_told : (checked : Result ⊤ Refusal) (regions sources inputs : ℕ)
    → (liveness_number checked regions sources inputs % 65536 ≡ 0) ↔ (checked ≡ Ok tt)
liveness_told (Ok tt) regions sources inputs = (λ _. refl, λ _. omega arith)
liveness_told (Err r) regions sources inputs = (λ e. absurd (refused_odd r e), λ e. cc)

pub liveness_told_apart : (rules : ℕ) (components ports frontiers regions regions' sources sources' inputs inputs' sets sets' stack stack' : List ℕ) (r : ℕ)
    → LivenessByBytes rules components ports frontiers regions regions' sources sources' inputs inputs' sets sets' stack stack' r
    → (r % 65536 ≡ 0) ↔ (liveness_bytes_refusal rules components ports frontiers (length regions) (length sources) (length inputs) (length sets) (length stack) ≡ Ok tt)
liveness_told_apart rules components ports frontiers regions regions' sources sources' inputs inputs' sets sets' stack stack' r laid_so =
    rw laid_so.by.answer
    (liveness_told (liveness_bytes_refusal rules components ports frontiers (length regions) (length sources) (length inputs) (length sets) (length stack)) _ _ _)
