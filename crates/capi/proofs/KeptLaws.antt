-- The answer of the ports entry, case by case.
--     kept_accepted, refused_as     what it says of the checks
--     by_lists                      what is left, by the answer
-- Assumes nothing.
use Rattle.std.specs.Prelude.{⊤, Result, Ok, Err}
use mathlib.Core.Path.{◌≡◌, refl, ap, ◌∙◌}
use Prim.Native.Nat.{ℕ, ◌*◌, ◌/◌}
use native.Mathlib.Omega.{arith}
use lib.IntN.{ℤ, pos}
use lib.ListN.{length, take, drop, length-map}
use lib.Seq.{take_at}
use mathlib.Core.List.{List, [], ◌∷◌, ◌++◌, map}
use Rattle.lists.specs.declared.Refusal.{Refusal}
use Rattle.scene.specs.Answer.{answer_of}
use Rattle.scene.specs.Kept.{kept_rows, kept_count, sloped_rows, without_slopes}
use Rattle.scene.proofs.Slopes.{sloped_count, cut_map, cut_sloped}
use Rattle.lists.specs.Limits.{kept_width}
use Rattle.lists.specs.Slices.{left_of}
use Rattle.checks.specs.Refusals.{numbers_by, ports_refusal, packed, Small}
use Rattle.lists.specs.Refusal.{fault_number, list_number}
use Rattle.capi.specs.Kept.{ports_number, PortsByLists}

pub kept_accepted : (k : Result ⊤ Refusal) (count m : ℕ) → answer_of (Ok m) ≡ numbers_by k (count ∷ []) → (k ≡ Ok tt) × (m ≡ count)
kept_accepted (Ok tt) count m e = (refl, cc)
kept_accepted (Err r) count m e = cc

-- a refusal fits one number where that of the checks does, and is packed as that one
pub record RefusedAs (k : Result ⊤ Refusal) (x : Refusal) : Type 0 where
  pub small : Small k → Small (Err x)
  pub packs : (count : ℕ) → packed (Err x) ≡ ports_number k count

pub refused_as : (k : Result ⊤ Refusal) (count : ℕ) (x : Refusal) → answer_of (Err x) ≡ numbers_by k (count ∷ []) → RefusedAs k x
refused_as (Ok tt) count x e = cc
refused_as (Err y) count x e =
    let fault : fault_number x.fault ≡ fault_number y.fault = cc in
    let list : list_number x.list ≡ list_number y.list = cc in
    let item : x.item ≡ y.item = cc in
    record { small = λ s. rw item s; packs = λ count. rw (fault, list, item) }

-- what is left where the checks accept are the kept rows, without their slopes too
module _ (rules : ℕ) (cs ps ports : List ℤ) {ports' : List ℤ} {r : ℕ} (answer : r ≡ ports_number (ports_refusal rules cs ps (length ports)) (kept_count rules cs ps))
    (left : ports' ≡ left_of (ports_refusal rules cs ps (length ports)) (map pos (sloped_rows rules cs ps)) ports) where
  cut_left : ports_refusal rules cs ps (length ports) ≡ Ok tt → without_slopes (take (r / 65536 * kept_width) ports') ≡ map pos (kept_rows rules cs ps)
  cut_left e =
      let rows = map pos (sloped_rows rules cs ps) in
      let count : r ≡ 65536 * kept_count rules cs ps = rw e at answer in
      let laid : ports' ≡ rows ++ drop (length rows) ports = rw e at left in
      let long : length rows ≡ r / 65536 * kept_width = omega (arith, count, length-map (sloped_rows rules cs ps) pos, sloped_count rules cs ps) in
      ap (λ (l : List ℤ). without_slopes (take (r / 65536 * kept_width) l)) laid
      ∙ ap without_slopes (take_at rows (drop (length rows) ports) (r / 65536 * kept_width) long)
      ∙ cut_map pos (sloped_rows rules cs ps)
      ∙ ap (map pos) (cut_sloped rules cs ps)

  pub by_lists : PortsByLists rules cs ps ports ports' r
  by_lists = record { answer = answer; left = left; cut = cut_left }
