-- The table of ids of components that the checks accept.
--     counted, refused     how many components there are by what the checks answer
--     Tabled, tabled       what such components and the keys with their table are
--     is_place             a place that is found among them is a component's
-- Assumes nothing.
use Rattle.std.specs.Prelude.{⊤, Option, Some, None, Result, Ok, Err}
use Rattle.std.specs.Result.{result_ok}
use Rattle.lists.specs.declared.Refusal.{Refusal}
use mathlib.Core.Path.{◌≡◌, refl, sym, ap, ◌∙◌}
use mathlib.Core.Bool.{true}
use mathlib.Core.List.{List, []}
use Prim.Native.Nat.{ℕ, ◌≤◌}
use native.Mathlib.Omega.{arith}
use lib.ListN.{length, take}
use lib.IntN.{ℤ}
use lib.Seq.{length-take-le}
use Rattle.lists.specs.Limits.{component_limit}
use Rattle.lists.specs.Records.{component_count}
use Rattle.lists.specs.Ids.{IdTable, place_of}
use Rattle.lists.proofs.Table.{place_below_lem}
use Rattle.checks.specs.Refusals.{grouping_lists}
use Rattle.checks.proofs.Accepted.{GroupingScene, grouping_accept}
use Rattle.probe.specs.Places.{IsPlace, count_among}

-- the checks accept the components, and the keys begin with their table, of n ids
pub record Tabled (cs : List ℤ) (keys : List ℕ) (n : ℕ) : Type 0 where
  pub accepted : grouping_lists 1 cs [] [] true ≡ Ok tt
  pub scene : GroupingScene 1 cs [] [] true
  pub count : n ≡ component_count cs
  pub table : IdTable cs (take n keys)
  pub few : n ≤ length keys
  pub long : length (take n keys) ≡ n

is_ok : (r : Result ⊤ Refusal) {u : ⊤} → result_ok r ≡ Some u → r ≡ Ok tt
is_ok (Ok u) e = refl
is_ok (Err refusal) e = cc

pub counted : {r checked : Result ⊤ Refusal} {found : Option ⊤} {u : ⊤} (cs : List ℤ) → r ≡ checked → found ≡ result_ok r → found ≡ Some u
    → (r ≡ Ok tt) × (Some (component_count cs) ≡ count_among checked cs)
counted {r} cs a e f = let ok = is_ok r (sym e ∙ f) in (ok, rw (sym a ∙ ok))

pub refused : {r checked : Result ⊤ Refusal} {found : Option ⊤} (cs : List ℤ) → r ≡ checked → found ≡ result_ok r → found ≡ None
    → count_among checked cs ≡ None
refused {r} cs a e f = ap (λ (s : Result ⊤ Refusal). count_among s cs) (sym a) ∙ go r (sym e ∙ f)
  where
    go : (s : Result ⊤ Refusal) → result_ok s ≡ None → count_among s cs ≡ None
    go (Ok u) e = cc
    go (Err refusal) e = refl

among : (checked : Result ⊤ Refusal) (cs : List ℤ) (n : ℕ) → count_among checked cs ≡ Some n → (checked ≡ Ok tt) × (n ≡ component_count cs)
among (Ok u) cs n e = (refl, cc)
among (Err refusal) cs n e = cc

pub tabled : {cs : List ℤ} {keys : List ℕ} {r : Option ℕ} {n : ℕ} → r ≡ count_among (grouping_lists 1 cs [] [] true) cs
    → ((n : ℕ) → r ≡ Some n → IdTable cs (take n keys)) → length keys ≡ component_limit → r ≡ Some n → Tabled cs keys n
tabled {cs} {keys} {r} {n} count table room e =
    let a = among (grouping_lists 1 cs [] [] true) cs n (sym count ∙ e) in
    let scene = grouping_accept 1 cs [] [] true a.0 in
    let few : n ≤ length keys = omega (arith, scene.components.few, a.1) in
    record { accepted = a.0; scene = scene; count = a.1; table = table n e; few = few; long = length-take-le n keys few }

pub is_place : (cs : List ℤ) (id : ℕ) → component_count cs ≤ component_limit → (f : Option ℕ) → f ≡ place_of cs id → IsPlace f
is_place cs id few (Some k) e = omega (arith, place_below_lem cs id k (sym e))
is_place cs id few None e = tt
