-- From a way of members to the answer of the finder.
--     laid_more                            one id more at the front of the lent list
--     way_found                            what the search says, in the terms of the scene
--     way_members                          the way's numbers are members
--     finding_some, finding_none           the answer where there is a trail, and where there is none
-- Assumes nothing.
use Rattle.std.specs.Prelude.{Option, Some, None, MatchOption, Result, Ok, Err}
use Prim.Native.Nat.{ℕ, suc, ◌+◌, ◌≤◌, ◌<◌}
use mathlib.Core.Path.{◌≡◌, refl, sym, ap, ◌∙◌}
use mathlib.Core.Bool.{Bool, true, false≢true}
use mathlib.Core.List.{List, [], ◌∷◌, ◌++◌, map, map-append, append_assoc}
use native.Mathlib.Numerals.{add-one}
use native.Mathlib.Omega.{arith}
use borrow.Author.Tests.{eq-eqb, ne_eqb}
use lib.ListN.{length, get_or, set, take, drop, length-map, length-append}
use lib.Seq.{length-take-le, take-suc, drop-cons, set_at}
use lib.IntN.{ℤ}
use Rattle.tables.specs.Order.{All}
use Rattle.tables.specs.Laws.{all_at}
use Rattle.lists.specs.declared.Fault.{Fault}
use Rattle.lists.specs.declared.Refusal.{Refusal}
use Rattle.lists.specs.Records.{component, component_count}
use Rattle.lists.specs.Ids.{IdTable}
use Rattle.lists.specs.Slices.{laid}
use Rattle.lists.proofs.Search.{both}
use Rattle.lists.proofs.Table.{table_long}
use Rattle.checks.specs.Refusals.{refuse, too_short}
use Rattle.regions.specs.Graph.{marked}
use Rattle.signals.specs.Signals.{signals}
use Rattle.signals.specs.Sources.{is_drive}
use Rattle.signals.proofs.Within.{signals_within}
use Rattle.assessment.specs.Verdicts.{status_of}
use Rattle.liveness.specs.Scene.{Scene}
use Rattle.inputs.specs.Port.{drive_sources, immediate_sources}
use Rattle.inputs.proofs.Inputs.{flags_long}
use Rattle.inputs.proofs.Status.{marked_below}
use Rattle.graph.specs.Rows.{edges_of, Rows}
use Rattle.graph.proofs.Rows.{edges_are}
use Rattle.trail.specs.Trail.{onward, trail, BestTrail, NoTrail}
use Rattle.trail.specs.Scene.{id_of, FoundWay}
use Rattle.trail.specs.Entries.{status_refusal, FindingBy}
use Rattle.trail.proofs.Renamed.{renamed_best}
use Rattle.trail.proofs.Named.{naming, table_names, table_rises}
use Rattle.trail.proofs.Status.{status_trail}

-- ---- the lent list

laid_set : (l old : List ℕ) (v : ℕ) → length l < length old → set (laid l old) (length l) v ≡ laid (l ++ (v ∷ [])) old
laid_set l old v h =
    ap (λ (r : List ℕ). set (l ++ r) (length l) v) (drop-cons old (length l) 0 h)
    ∙ set_at l (get_or old (length l) 0) (drop (suc (length l)) old) v (length l) refl
    ∙ sym (append_assoc l (v ∷ []) (drop (length (l ++ (v ∷ []))) old) ∙ ap (λ (k : ℕ). l ++ (v ∷ drop k old)) more)
  where
    more : length (l ++ (v ∷ [])) ≡ suc (length l)
    more = omega (arith, length-append l (v ∷ []))

pub laid_more : (f : ℕ → ℕ) (way old : List ℕ) (i : ℕ) → i < length way → i < length old
    → set (laid (map f (take i way)) old) i (f (get_or way i 0)) ≡ laid (map f (take (i + 1) way)) old
laid_more f way old i h room =
    let long : length (map f (take i way)) ≡ i = length-map (take i way) f ∙ length-take-le i way (omega arith) in
    ap (λ (k : ℕ). set (laid (map f (take i way)) old) k (f (get_or way i 0))) (sym long)
    ∙ laid_set (map f (take i way)) old (f (get_or way i 0)) (omega (arith, long))
    ∙ ap (λ (l : List ℕ). laid l old)
    (sym (ap (map f) (ap (λ (k : ℕ). take k way) (add-one i) ∙ take-suc way i 0 h) ∙ map-append f (take i way) (get_or way i 0 ∷ [])))

-- ---- the search in the terms of the scene

module _ (cs ps fs : List ℤ) (p port : ℕ) {ends next : List ℕ} {drives feeds : List Bool} (way : List ℕ) (found : Option ℕ)
    (rows : Rows (component_count cs) (signals cs ps) ends next) (drives_are : drives ≡ drive_sources cs fs) (feeds_are : feeds ≡ immediate_sources cs ps p port) where
  pub way_found : MatchOption found (NoTrail (marked drives) (edges_of ends next) (marked feeds))
      (λ count. (count ≤ length ends) × BestTrail (marked drives) (edges_of ends next) (marked feeds) (take count way))
      → FoundWay cs ps fs p port way found
  way_found f = rw (← drives_are, ← feeds_are) (rw (edges_are rows.rows, rows.rows.nodes) at f)

-- ---- the numbers of a trail are members

module _ (cs ps fs : List ℤ) (scene : Scene cs ps) (feeds : ℕ → Bool) where
  onward_members : (x : ℕ) (l : List ℕ) → onward (signals cs ps) feeds x l ≡ true → All (λ a. a < component_count cs) l
  unfolding onward
  onward_members x [] h = tt
  onward_members x (y ∷ l) h = let w = both _ _ h in ((signals_within cs ps scene.ends x y w.0).1, onward_members y l w.1)

  trail_members : (l : List ℕ) → trail (marked (drive_sources cs fs)) (signals cs ps) feeds l ≡ true → All (λ a. a < component_count cs) l
  unfolding trail
  trail_members [] h = tt
  trail_members (x ∷ l) h =
      let w = both (marked (drive_sources cs fs) x) _ h in
      (omega (arith, marked_below (drive_sources cs fs) x w.0, flags_long cs (is_drive cs fs)), onward_members x l w.1)

  pub way_members : {keys l : List ℕ} → IdTable cs keys → BestTrail (marked (drive_sources cs fs)) (signals cs ps) feeds l
      → (i : ℕ) → i < length l → get_or l i 0 < length keys
  way_members {keys} {l} t b i h = omega (arith, all_at (λ a. a < component_count cs) l (trail_members l b.accepted) i h, table_long t)

-- ---- the answer

abbrev pub not_driven : Refusal
not_driven = record { fault = Fault.NotDriven; list = None; item = 0 }

-- the refusals of a port, by its status
status_none : (rules : ℕ) (cs ps fs : List ℤ) (p port : ℕ) → (status_of rules cs ps fs p port ≡ 0 → ⊥) → status_refusal rules cs ps fs port (Some p) ≡ Err not_driven
status_none rules cs ps fs p port no_zero = ap (λ (b : Bool). refuse Fault.NotDriven None (too_short b)) (ne_eqb (status_of rules cs ps fs p port) 0 no_zero)

pub status_some : (rules : ℕ) (cs ps fs : List ℤ) (p port : ℕ) → status_of rules cs ps fs p port ≡ 0 → status_refusal rules cs ps fs port (Some p) ≡ Ok tt
status_some rules cs ps fs p port zero_status = ap (λ (b : Bool). refuse Fault.NotDriven None (too_short b)) (eq-eqb (status_of rules cs ps fs p port) 0 zero_status)

module _ (rules : ℕ) {cs ps : List ℤ} (fs : List ℤ) {keys : List ℕ} (scene : Scene cs ps) (t : IdTable cs keys)
    (p port : ℕ) {id : ℕ} (is : (component cs p).id ≡ id) (way : List ℕ) where
  pub finding_none : FoundWay cs ps fs p port way None → {trail : List ℕ} {r : Result ℕ Refusal} → r ≡ Err not_driven
      → FindingBy (status_refusal rules cs ps fs port (Some p)) cs ps fs id port trail trail r
  finding_none none {trail} {r} e =
      let refusal = status_none rules cs ps fs p port (λ z. let l = (status_trail cs ps fs scene p port rules).0 z in false≢true (sym (none l.0) ∙ l.1)) in
      rw (e, refusal) (record { answer = refl; found = tt; unchanged = refl })

  pub finding_some : {count : ℕ} → FoundWay cs ps fs p port way (Some count) → count ≤ length way → {trail trail' : List ℕ}
      → trail' ≡ laid (map (id_of keys) (take count way)) trail → FindingBy (status_refusal rules cs ps fs port (Some p)) cs ps fs id port trail trail' (Ok count)
  finding_some {count} (few, best) room {trail} {trail'} left =
      let long : length (map (id_of keys) (take count way)) ≡ count = length-map (take count way) (id_of keys) ∙ length-take-le count way room in
      rw (status_some rules cs ps fs p port ((status_trail cs ps fs scene p port rules).1 (take count way, best.accepted)))
      (record {
        answer = refl;
        found = record {
          found = map (id_of keys) (take count way);
          best = renamed_best (naming cs ps fs scene (id_of keys) (table_names t scene.distinct) p port id is) (table_rises t scene.distinct) best;
          few = omega (arith, few, long);
          count_is = sym long;
          trail_left = left;
        };
        unchanged = tt;
      })
