-- From the entry on lists of numbers to the entry by bytes.
--     refused_by, counted           the refusal and the counts of an answer
--     accepted_room                 an accepted scene has places in its slices, and no more components than the limit
--     rows_front, numbers_front     the rows of an accepted scene, and the numbers that were read, stand at the front of their slice
--     refused_laid, accepted_laid   the answer and what is left, from the lists of numbers
--     whole_lists, whole_fits       lists of bytes that pass numbers 11 and 1, and their refusal as one number
--     part_laid, decoded_laid       the answer and what is left, from the lists of bytes
-- Assumes nothing.
use Rattle.lists.specs.declared.Fault.{Fault}
use Rattle.lists.specs.declared.Section.{Section}
use Rattle.std.specs.Prelude.{Some, None}
use Rattle.std.specs.Prelude.{⊤, Result, Ok, Err}
use mathlib.Core.Path.{◌≡◌, refl, ap, ◌∙◌}
use mathlib.Core.Bool.{◌&&◌}
use mathlib.Core.List.{List, []}
use Prim.Native.Nat.{ℕ, ◌+◌, ◌*◌, ◌/◌, ◌≤◌}
use native.Mathlib.Omega.{arith}
use lib.Dec.{lit≤}
use lib.ListN.{length, take}
use lib.IntN.{ℤ}
use Rattle.lists.specs.Limits.{component_limit, connection_limit, component_width, connection_width}
use Rattle.lists.specs.Records.{component_count}
use Rattle.checks.specs.Refusals.{refuse, not_whole, room_for, strange_rules, grouping_refusal, Small, packed}
use Rattle.lists.specs.Slices.{laid}
use Rattle.lists.specs.declared.Refusal.{Refusal}
use Rattle.lists.proofs.Search.{both}
use Rattle.checks.proofs.Chain.{both_accept}
use Rattle.checks.proofs.Accepts.{refuse_none, whole_few, whole_all}
use Rattle.checks.proofs.Small.{small_or_else, strange_small, whole_small}
use Rattle.checks.proofs.Accepted.{grouping_accept, room_places}
use Rattle.lists.specs.Slices.{left_of}
use Rattle.circuit.specs.Topology.{answer_of, nets_of, fragments_of, net_count, fragment_count}
use Rattle.circuit.specs.declared.Counts.{Counts}
use Rattle.encoding.specs.Bytes.{number_bytes, numbers, bytes_of}
use Rattle.encoding.specs.Entry.{groups_whole, groups_refusal, GroupsLaid, GroupsByBytes}
use Rattle.encoding.proofs.Laid.{laid_front}
use Rattle.encoding.proofs.Reading.{length_numbers}

pub refused_by : (checked : Result ⊤ Refusal) (nets fragments : ℕ) (refusal : Refusal) → Err refusal ≡ answer_of checked nets fragments → checked ≡ Err refusal
refused_by (Ok tt) nets fragments refusal e = cc
refused_by (Err r) nets fragments refusal e = cc

pub record Counted (checked : Result ⊤ Refusal) (nets fragments : ℕ) (counts : Counts) : Type 0 where
  pub accepted : checked ≡ Ok tt
  pub nets_are : counts.nets ≡ nets
  pub fragments_are : counts.fragments ≡ fragments

same_counts : {a b : Counts} → ◌≡◌ {A = Result Counts Refusal} (Ok a) (Ok b) → a ≡ b
same_counts e = cc

pub counted : (checked : Result ⊤ Refusal) (nets fragments : ℕ) (counts : Counts) → Ok counts ≡ answer_of checked nets fragments → Counted checked nets fragments counts
counted (Ok tt) nets fragments counts e =
    let same = same_counts e in
    record { accepted = refl; nets_are = ap (λ (x : Counts). x.nets) same; fragments_are = ap (λ (x : Counts). x.fragments) same }
counted (Err r) nets fragments counts e = let z : ◌≡◌ {A = ℕ} 0 1 = cc in absurd (omega arith)

pub record Room (cs : List ℤ) (nets fragments : ℕ) : Type 0 where
  pub few : component_count cs ≤ component_limit
  pub net_places : component_count cs ≤ nets
  pub fragment_places : component_count cs ≤ fragments

pub accepted_room : (rules : ℕ) (cs ps : List ℤ) (nets fragments : ℕ) → grouping_refusal rules cs ps nets fragments ≡ Ok tt → Room cs nets fragments
accepted_room rules cs ps nets fragments e =
    let n = component_count cs in
    let scene = grouping_accept rules cs ps [] (room_for n 1 nets && room_for n 1 fragments) e in
    let tests = both (room_for n 1 nets) (room_for n 1 fragments) scene.scene.lengths.room in
    record {
      few = scene.components.few;
      net_places = room_places n nets tests.0;
      fragment_places = room_places n fragments tests.1;
    }

-- the rows of an accepted scene stand at the front
pub rows_front : (checked : Result ⊤ Refusal) (rows old new : List ℕ) (n : ℕ) → length rows ≡ n → checked ≡ Ok tt → new ≡ left_of checked rows old → take n new ≡ rows
rows_front checked rows old new n l e f = rw (f, e) (laid_front rows old n l)

module _ (checked : Result ⊤ Refusal) (cs ps : List ℤ) (nets fragments : List ℕ) where
  pub refused_laid : (refusal : Refusal) (r : ℕ) → checked ≡ Err refusal → r ≡ packed (Err refusal) → GroupsLaid checked cs ps nets nets fragments fragments r
  refused_laid refusal r e f = record { answer = rw e f; nets_left = rw e; fragments_left = rw e }

  pub accepted_laid : (nets' fragments' net-rows fragment-rows : List ℕ) (counts : Counts) (r : ℕ) → Counted checked (net_count cs ps) (fragment_count cs ps) counts
      → nets' ≡ laid (bytes_of net-rows) nets → net-rows ≡ nets_of cs ps
      → fragments' ≡ laid (bytes_of fragment-rows) fragments → fragment-rows ≡ fragments_of cs ps
      → r ≡ 65536 * counts.nets + 4294967296 * counts.fragments → GroupsLaid checked cs ps nets nets' fragments fragments' r
  accepted_laid nets' fragments' net-rows fragment-rows counts r c n ns f fs e =
      record {
        answer = rw c.accepted (e ∙ rw (c.nets_are, c.fragments_are));
        nets_left = rw c.accepted (n ∙ rw ns);
        fragments_left = rw c.accepted (f ∙ rw fs);
      }

-- ---- the bytes of both lists

module _ (rules : ℕ) (components connections : List ℕ) where
  pub record Whole : Type 0 where
    pub components_few : length components / number_bytes ≤ component_limit * component_width
    pub connections_few : length connections / number_bytes ≤ connection_limit * connection_width

  pub whole_lists : groups_whole rules components connections ≡ Ok tt → Whole
  whole_lists e =
      let (known, lists) = both_accept (refuse Fault.UnknownRules None (strange_rules rules)) _ e in
      let (first, second) = both_accept (refuse Fault.ListLength (Some Section.Components) (not_whole (number_bytes * component_width) component_limit (length components))) _ lists in
      let c = refuse_none Fault.ListLength (Some Section.Components) (not_whole (number_bytes * component_width) component_limit (length components)) first in
      let p = refuse_none Fault.ListLength (Some Section.Connections) (not_whole (number_bytes * connection_width) connection_limit (length connections)) second in
      record {
        components_few = omega (arith, whole_few _ component_limit _ c, whole_all _ component_limit _ c);
        connections_few = omega (arith, whole_few _ connection_limit _ p, whole_all _ connection_limit _ p);
      }

  pub whole_fits : Small (groups_whole rules components connections)
  whole_fits =
      small_or_else (refuse Fault.UnknownRules None (strange_rules rules)) _
      (strange_small rules)
      (λ _. small_or_else (refuse Fault.ListLength (Some Section.Components) (not_whole (number_bytes * component_width) component_limit (length components)))
      (refuse Fault.ListLength (Some Section.Connections) (not_whole (number_bytes * connection_width) connection_limit (length connections)))
      (whole_small (Some Section.Components) (number_bytes * component_width) component_limit (length components) (lit≤ tt))
      (λ _. whole_small (Some Section.Connections) (number_bytes * connection_width) connection_limit (length connections) (lit≤ tt)))

  module _ (nets nets' fragments fragments' : List ℕ) (r : ℕ) where
    pub decoded_laid : (cs ps : List ℤ) → cs ≡ numbers components → ps ≡ numbers connections → groups_whole rules components connections ≡ Ok tt
        → GroupsLaid (grouping_refusal rules cs ps (length nets / number_bytes) (length fragments / number_bytes)) cs ps nets nets' fragments fragments' r
        → GroupsByBytes rules components connections nets nets' fragments fragments' r
    decoded_laid cs ps ec ep e laid_so = rw e (rw (ec, ep) at laid_so)

  pub part_laid : (nets fragments : List ℕ) (refusal : Refusal) (r : ℕ) → groups_whole rules components connections ≡ Err refusal → r ≡ packed (Err refusal)
      → GroupsByBytes rules components connections nets nets fragments fragments r
  part_laid nets fragments refusal r e f =
      refused_laid (groups_refusal rules components connections (length nets) (length fragments)) (numbers components) (numbers connections) nets fragments refusal r (rw e) f

-- the numbers that were read stand at the front
pub numbers_front : (bytes : List ℕ) (old new : List ℤ) → new ≡ laid (numbers bytes) old → take (length bytes / number_bytes) new ≡ numbers bytes
numbers_front bytes old new e = rw e (laid_front (numbers bytes) old (length bytes / number_bytes) (length_numbers bytes (length bytes / number_bytes)))
