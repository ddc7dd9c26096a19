-- Why a grouping connection is left out (added beside document 02, for the support line), one number to a connection: 0 kept; 1 the source
-- is no component; 2 the sink is none; 3 neither is; 4 the blocks do not touch as a step must; 5 nothing comes out of the source on that
-- side; 6 nothing goes into the sink on that side; 7 support. Where several hold the first in this order is given, 7 before 4.
--     reason_of          the number of a connection
--     SaysAt, ReasonSays what each number says of the scene; 0 exactly if the ports entry keeps the connection
--     ReasonsAnswered    what `reasons` answers and leaves
-- Assumes nothing: these are definitions.
use Rattle.std.specs.Prelude.{⊤, Option, Some, None, Result, Ok, Err}
use Rattle.std.specs.Prelude.{ℕ, ◌≤◌, ◌<◌, ◌≡◌, ◌↔◌, Bool, true, false, not, cond, ◌&&◌, List, [], ◌∷◌, eqb, length, get_or, ℤ}
use Rattle.lists.specs.declared.Refusal.{Refusal}
use Rattle.lists.specs.Records.{Component, Connection, component, connection, connection_count}
use Rattle.lists.specs.First.{is_found, tabulate}
use Rattle.lists.specs.Ids.{place_of}
use Rattle.lists.specs.Slices.{laid, left_of}
use Rattle.checks.specs.Refusals.{room_for, grouping_lists, numbers_by}
use Rattle.faces.specs.Ports.{NoFace, opposite, ports_of}
use Rattle.faces.specs.Step.{step_face}
use Rattle.faces.specs.Select.{support_kind, select_port}
use Rattle.scene.specs.Kept.{kept_row, kept_count}
use Rattle.scene.specs.Answer.{answer_of}
use Rattle.scene.specs.declared.connections.Link.{Link}
use Rattle.scene.specs.declared.reasons.Reason.{Reason}
use Rattle.scene.specs.declared.reasons.Reason.TheVariants.{NoSource, NoSink, NoEnds, Apart, NothingOut, NothingIn, Support}

-- ---- two components

-- they touch as a step must
abbrev pub touches : Component → Component → Bool
touches source sink = not (eqb (step_face source sink) NoFace)

-- a port of the source on the side of the step fits
abbrev pub comes_out : ℕ → ℕ → Component → Component → Bool
comes_out rules kind source sink = is_found (select_port (ports_of rules source) (step_face source sink) true kind)

-- a port of the sink on the side that faces it fits
abbrev pub goes_in : ℕ → ℕ → Component → Component → Bool
goes_in rules kind source sink = is_found (select_port (ports_of rules sink) (opposite (step_face source sink)) false kind)

abbrev pub is_support : ℕ → Bool
is_support kind = eqb kind support_kind

unfoldable pub reason_between : ℕ → Component → Component → ℕ → ℕ
reason_between rules source sink kind =
    cond (is_support kind) 7
    (cond (not (touches source sink)) 4
    (cond (not (comes_out rules kind source sink)) 5
    (cond (not (goes_in rules kind source sink)) 6 0)))

-- ---- a connection

-- given the list places of its source and its sink
abbrev pub reason_at : ℕ → List ℤ → ℕ → Option ℕ → Option ℕ → ℕ
reason_at rules cs kind (Some a) (Some b) = reason_between rules (component cs a) (component cs b) kind
reason_at rules cs kind None (Some b) = 1
reason_at rules cs kind (Some a) None = 2
reason_at rules cs kind None None = 3

abbrev pub reason_of : ℕ → List ℤ → Connection → ℕ
reason_of rules cs p = reason_at rules cs p.kind (place_of cs p.source) (place_of cs p.sink)

-- ---- what the numbers say

-- both ends are components, and these pass a test
abbrev pub both_ends : List ℤ → (Component → Component → Bool) → Option ℕ → Option ℕ → Bool
both_ends cs test (Some a) (Some b) = test (component cs a) (component cs b)
both_ends cs test (Some a) None = false
both_ends cs test None sink = false

-- r is each number exactly if what that says holds of the list places of a source and a sink and of the row that is kept
pub record SaysAt (rules : ℕ) (cs : List ℤ) (kind : ℕ) (source sink : Option ℕ) (row : List ℕ) (r : ℕ) : Type 0 where
  pub kept : (r ≡ 0) ↔ (row ≡ [] → ⊥)
  pub no_source : eqb r 1 ≡ (not (is_found source) && is_found sink)
  pub no_sink : eqb r 2 ≡ (is_found source && not (is_found sink))
  pub no_ends : eqb r 3 ≡ (not (is_found source) && not (is_found sink))
  pub apart : eqb r 4 ≡ both_ends cs (λ a b. not (is_support kind) && not (touches a b)) source sink
  pub nothing_out : eqb r 5 ≡ both_ends cs (λ a b. not (is_support kind) && (touches a b && not (comes_out rules kind a b))) source sink
  pub nothing_in : eqb r 6
      ≡ both_ends cs (λ a b. not (is_support kind) && (touches a b && (comes_out rules kind a b && not (goes_in rules kind a b)))) source sink
  pub support : eqb r 7 ≡ both_ends cs (λ a b. is_support kind) source sink
  -- and there is no other
  pub most : r ≤ 7

-- of connection k
abbrev pub ReasonSays : ℕ → List ℤ → List ℤ → ℕ → ℕ → Type 0
ReasonSays rules cs ps k r =
    let p = connection ps k in
    SaysAt rules cs p.kind (place_of cs p.source) (place_of cs p.sink) (kept_row rules cs ps k) r

-- ---- all connections of a scene

-- the numbers of connections 0, 1, .., one after the other
abbrev pub reasons_of : ℕ → List ℤ → List ℤ → List ℕ
reasons_of rules cs ps = tabulate (λ k. reason_of rules cs (connection ps k)) (connection_count ps)

-- the refusal of the ports entry, with a place to a connection in number 2
abbrev pub reasons_refusal : ℕ → List ℤ → List ℤ → ℕ → Result ⊤ Refusal
reasons_refusal rules cs ps reasons = grouping_lists rules cs ps [] (room_for (connection_count ps) 1 reasons)

-- number, list and item of a refusal, or 0 and how many connections are kept; and what is left
pub record ReasonsAnswered (rules : ℕ) (cs ps : List ℤ) (reasons reasons' : List ℕ) (r : Result ℕ Refusal) : Type 0 where
  pub answer : answer_of r ≡ numbers_by (reasons_refusal rules cs ps (length reasons)) (kept_count rules cs ps ∷ [])
  pub left : reasons' ≡ left_of (reasons_refusal rules cs ps (length reasons)) (reasons_of rules cs ps) reasons
  -- what each says, on the numbers that are left
  pub says : reasons_refusal rules cs ps (length reasons) ≡ Ok tt
      → (k : ℕ) → k < connection_count ps → ReasonSays rules cs ps k (get_or reasons' k 0)

-- ---- what the code hands on

abbrev pub reason_code : Reason → ℕ
reason_code NoSource = 1
reason_code NoSink = 2
reason_code NoEnds = 3
reason_code Apart = 4
reason_code NothingOut = 5
reason_code NothingIn = 6
reason_code Support = 7

-- of a link, or of why there is none
abbrev pub reason_by : Result Link Reason → ℕ
reason_by (Ok link) = 0
reason_by (Err reason) = reason_code reason

-- all numbers stand at the front, and r says how many connections are kept
pub record AllTold (rules : ℕ) (cs ps : List ℤ) (out out' : List ℕ) (r : ℕ) : Type 0 where
  pub numbers : out' ≡ laid (reasons_of rules cs ps) out
  pub count : r ≡ kept_count rules cs ps
