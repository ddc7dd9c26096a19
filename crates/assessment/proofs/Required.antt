-- The rows of a component's ports are those of its kind's required ports, which stand in a run.
--     required, Run, run_of     the required ports of each kind: `run_read`, `run_blank` by whether the facing is read
--     port_rows_lem                 the rows of all ports
--     row_of                    whether a port has a row
-- Assumes nothing.
use mathlib.Core.Path.{◌≡◌, refl, ap, ◌∙◌}
use mathlib.Core.Bool.{Bool, true, false, cond, not, ◌&&◌, ◌||◌}
use mathlib.Core.Logic.{◌⊎◌, inl, inr}
use mathlib.Core.List.{List, [], append-nil}
use Prim.Native.Nat.{ℕ, zero, suc, ◌+◌, ◌-◌, ◌≤◌, ◌<◌}
use native.Mathlib.Nat.{add-zero, add-suc}
use native.Mathlib.Omega.{arith}
use Rattle.std.proofs.lemmas.Grind.{common_steps}
use Rattle.std.proofs.lemmas.Bool.Decides.{nat_tests}
use lib.Dec.{eqb, leb, ltb}
use lib.ListN.{length}
use lib.IntN.{ℤ}
use borrow.Author.Tests.{not-true}
use Rattle.lists.specs.Records.{Component, component}
use Rattle.lists.specs.First.{all_from}
use Rattle.lists.specs.Rules.{blanks_unread}
use Rattle.lists.proofs.Search.{both, all_at}
use Rattle.faces.specs.Ports.{Port, NoFace, North, Input, Control, RedstoneSignal, opposite, face_or, four, neither, repeater_ports, support_down}
use Rattle.faces.specs.Ports.{ports_by_facing, piston_kind, turns, is_unread, blank_ports, ports_for, ports_of}
use Rattle.faces.proofs.Unread.{blank_for, facing_for}
use Rattle.faces.specs.Select.{port_at}
use Rattle.faces.proofs.Faces.{face_or_named, face_or_zero, face_or_above}
use Rattle.assessment.specs.Verdicts.{status_of, torch, is_device, is_required, port_rows}
use Rattle.assessment.specs.Rows.{device_rows, first_required, count_by_kind, required_count}

-- ---- repeaters

-- no port past the second is an Input
abbrev quiet : ℕ → Bool
quiet face = all_from (λ k. not (eqb (port_at (repeater_ports face) k).role Input)) 2 (length (repeater_ports face) - 2)

face_named : (face : ℕ) → (1 ≤ face_or North face) × (face_or North face < 7)
face_named zero = rw (face_or_zero North) (omega arith, omega arith)
face_named (suc n) = (grind (arith, common_steps, face_or_above North (suc n), face_or_named North (suc n)), grind (arith, common_steps, face_or_above North (suc n), face_or_named North (suc n)))

repeater_quiet : (face k : ℕ) → 1 ≤ face → face < 7 → 2 ≤ k → k < length (repeater_ports face) → eqb (port_at (repeater_ports face) k).role Input ≡ false
unfolding all_from repeater_ports neither opposite
repeater_quiet face k p q a b =
    not-true _ (all_at (λ k. not (eqb (port_at (repeater_ports face) k).role Input)) 2 (length (repeater_ports face) - 2)
    (all_at quiet 1 6 refl face p (omega arith)) k a (omega arith))

-- ---- the required ports of a kind

abbrev required : ℕ → List Port → ℕ → Bool
required kind ports k = is_device kind && (eqb (port_at ports k).role Input || (eqb kind torch && eqb (port_at ports k).role Control))

-- `count` of the ports from `first` on are required, and no other
record Run (kind : ℕ) (ports : List Port) (first count : ℕ) : Type 0 where
  fits : first + count ≤ length ports
  before : (k : ℕ) → k < first → required kind ports k ≡ false
  inside : (j : ℕ) → j < count → required kind ports (first + j) ≡ true
  after : (k : ℕ) → first + count ≤ k → k < length ports → required kind ports k ≡ false

-- of a device that is no torch, the Inputs are required
inputs : (d i t c : Bool) → d ≡ true → t ≡ false → (d && (i || (t && c))) ≡ i
inputs d i t c e f = grind (arith, common_steps)

abbrev is_input : ℕ → ℕ → Bool
is_input face k = eqb (port_at (repeater_ports face) k).role Input

output_first : (face : ℕ) → is_input face 0 ≡ false
unfolding repeater_ports
output_first face = refl

input_second : (face : ℕ) → is_input face 1 ≡ true
unfolding repeater_ports
input_second face = refl

repeater_two : (face : ℕ) → 2 ≤ length (repeater_ports face)
unfolding repeater_ports
repeater_two face = omega arith

repeater_run : (kind facing : ℕ) → is_device kind ≡ true → eqb kind torch ≡ false → Run kind (repeater_ports (face_or North facing)) 1 1
repeater_run kind facing d n =
    let face = face_or North facing in
    let named = face_named facing in
    let is : (k : ℕ) → required kind (repeater_ports face) k ≡ is_input face k =
    λ k. inputs (is_device kind) (is_input face k) (eqb kind torch) (eqb (port_at (repeater_ports face) k).role Control) d n in
    record {
      fits = repeater_two face;
      before = λ k h. let z : k ≡ 0 = omega arith in is k ∙ ap (is_input face) z ∙ output_first face;
      inside = λ j h. let z : 1 + j ≡ 1 = omega arith in is (1 + j) ∙ ap (is_input face) z ∙ input_second face;
      after = λ k a b. is k ∙ repeater_quiet face k named.0 named.1 a b;
    }

no_run : (kind : ℕ) (ports : List Port) → is_device kind ≡ false → Run kind ports 0 0
no_run kind ports e = record {
  fits = omega arith;
  before = λ k h. rw e;
  inside = λ j h. absurd (omega arith);
  after = λ k a b. rw e;
}

no_device : (kind : ℕ) → 9 ≤ kind → is_device kind ≡ false
no_device kind h =
    grind (arith, common_steps)

-- where the facing is read
run_read : (kind facing support conducts : ℕ) → Run kind (ports_by_facing kind facing support conducts) (first_required kind) (count_by_kind kind)
unfolding ports_by_facing first_required count_by_kind
run_read zero facing support conducts = no_run 0 _ refl
run_read (suc zero) facing support conducts = repeater_run 1 facing refl refl
run_read (suc (suc zero)) facing support conducts = repeater_run 2 facing refl refl
run_read (suc (suc (suc zero))) facing support conducts = record {
  fits = omega arith;
  before = λ k h. torch_dark k h;
  inside = λ j h. let z : j ≡ 0 = omega arith in rw z;
  after = λ k a b. absurd (omega arith);
}
  where
    torch_dark : (k : ℕ) → k < 4 → required 3 (ports_by_facing 3 facing support conducts) k ≡ false
    torch_dark k h = grind (arith, common_steps)
run_read (suc (suc (suc (suc zero)))) facing support conducts = no_run 4 _ refl
run_read (suc (suc (suc (suc (suc zero))))) facing support conducts = no_run 5 _ refl
run_read (suc (suc (suc (suc (suc (suc zero)))))) facing support conducts = no_run 6 _ refl
run_read (suc (suc (suc (suc (suc (suc (suc zero))))))) facing support conducts = no_run 7 _ refl
run_read (suc (suc (suc (suc (suc (suc (suc (suc zero)))))))) facing support conducts = record {
  fits = omega arith;
  before = λ k h. absurd (omega arith);
  inside = λ j h. piston_lit j h;
  after = λ k a b. let z : k ≡ 4 = omega arith in rw z;
}
  where
    piston_lit : (j : ℕ) → j < 4 → required 8 (ports_by_facing 8 facing support conducts) (0 + j) ≡ true
    piston_lit j h = grind (arith, common_steps)
run_read (suc (suc (suc (suc (suc (suc (suc (suc (suc kind))))))))) facing support conducts =
    let past = suc (suc (suc (suc (suc (suc (suc (suc (suc kind)))))))) in
    no_run past _ (no_device past (omega arith))

-- where it was left blank: a kind that turns
pub count_blank : ℕ → ℕ
count_blank kind = cond (not (eqb kind piston_kind)) 0 (count_by_kind kind)

blank_dark : (kind : ℕ) (k : ℕ) → k < 1 → required kind support_down k ≡ false
blank_dark kind k h = let z : k ≡ 0 = omega arith in rw z (dark (is_device kind) (eqb kind torch))
  where
    dark : (d t : Bool) → (d && (false || (t && false))) ≡ false
    dark d t = grind (arith, common_steps)

blank_one : (kind : ℕ) → Run kind support_down 1 0
blank_one kind = record {
  fits = omega arith;
  before = blank_dark kind;
  inside = λ j h. absurd (omega arith);
  after = λ k a b. absurd (omega arith);
}

blank_four : Run piston_kind (four Input RedstoneSignal) 0 4
blank_four = record {
  fits = omega arith;
  before = λ k h. absurd (omega arith);
  inside = lit;
  after = λ k a b. absurd (omega arith);
}
  where
    lit : (j : ℕ) → j < 4 → required piston_kind (four Input RedstoneSignal) (0 + j) ≡ true
    lit j h = grind (arith, common_steps)

run_blank : (kind : ℕ) → (kind ≡ 1) ⊎ ((kind ≡ 2) ⊎ (kind ≡ piston_kind)) → Run kind (blank_ports kind) (first_required kind) (count_blank kind)
unfolding first_required count_by_kind count_blank
run_blank kind (inl e) = rw e (blank_one 1)
run_blank kind (inr (inl e)) = rw e (blank_one 2)
run_blank kind (inr (inr e)) = rw e blank_four

turning : (rules kind facing : ℕ) → is_unread rules kind facing ≡ true → (kind ≡ 1) ⊎ ((kind ≡ 2) ⊎ (kind ≡ piston_kind))
turning rules kind facing e =
    kinds (both (eqb facing NoFace) (turns kind) (both (blanks_unread rules) (eqb facing NoFace && turns kind) e).1).1
  where
    kinds : turns kind ≡ true → (kind ≡ 1) ⊎ ((kind ≡ 2) ⊎ (kind ≡ piston_kind))
    kinds t = grind (arith, nat_tests, common_steps)

-- under each rules number
run_of : (rules kind facing support conducts : ℕ)
    → Run kind (ports_for rules kind facing support conducts) (first_required kind) (required_count rules kind facing)
unfolding required_count count_blank
run_of rules kind facing support conducts = go (is_unread rules kind facing) refl
  where
    go : (t : Bool) → is_unread rules kind facing ≡ t
        → Run kind (ports_for rules kind facing support conducts) (first_required kind) (required_count rules kind facing)
    go true e = rw (blank_for rules kind facing support conducts e, e) (run_blank kind (turning rules kind facing e))
    go false e = rw (facing_for rules kind facing support conducts e, e) (run_read kind facing support conducts)

-- ---- the rows of the ports

module _ (rules : ℕ) (cs ps fs : List ℤ) (p : ℕ) where
  abbrev rows : ℕ → List ℕ
  rows = port_rows rules cs ps fs p

  abbrev id : ℕ
  id = (component cs p).id

  rows_before : (n : ℕ) → ((k : ℕ) → k < n → is_required rules (component cs p) k ≡ false) → rows n ≡ []
  unfolding port_rows
  rows_before zero h = refl
  rows_before (suc n) h = rw (h n (omega arith), rows_before n (λ k l. h k (omega arith)))

  rows_inside : (first n : ℕ) → rows first ≡ [] → ((j : ℕ) → j < n → is_required rules (component cs p) (first + j) ≡ true)
      → rows (first + n) ≡ device_rows id first (status_of rules cs ps fs p) n
  unfolding port_rows device_rows
  rows_inside first zero e h = rw add-zero e
  rows_inside first (suc n) e h = rw (add-suc first n, h n (omega arith), rows_inside first n e (λ j l. h j (omega arith)))

  rows_after : (m n : ℕ) → ((k : ℕ) → m ≤ k → k < m + n → is_required rules (component cs p) k ≡ false) → rows (m + n) ≡ rows m
  unfolding port_rows
  rows_after m zero h = rw add-zero
  rows_after m (suc n) h = rw (add-suc m n, h (m + n) (omega arith) (omega arith), append-nil, rows_after m n (λ k a b. h k a (omega arith)))

  pub port_rows_lem : rows (length (ports_of rules (component cs p))) ≡ device_rows id (first_required (component cs p).kind) (status_of rules cs ps fs p) (required_count rules (component cs p).kind (component cs p).facing)
  port_rows_lem =
      let c = component cs p in
      let r = run_of rules c.kind c.facing c.support c.conducts in
      let first = first_required c.kind in
      let n = required_count rules c.kind c.facing in
      let rest : ℕ = length (ports_of rules c) - (first + n) in
      let all : length (ports_of rules c) ≡ (first + n) + rest = omega (arith, r.fits) in
      ap rows all
      ∙ rows_after (first + n) rest (λ k a b. r.after k a (omega arith))
      ∙ rows_inside first n (rows_before first r.before) r.inside

-- ---- the ports with a row, by their run

pub and_none : (t : Bool) → (t && false) ≡ false
and_none t = grind (arith, common_steps)

pub row_of : (rules : ℕ) (c : Component) (port : ℕ)
    → (leb (first_required c.kind) port && ltb port (first_required c.kind + required_count rules c.kind c.facing)) ≡ (ltb port (length (ports_of rules c)) && is_required rules c port)
row_of rules c port =
    let r = run_of rules c.kind c.facing c.support c.conducts in
    grind (arith, nat_tests, common_steps, r.fits, r.before port, r.inside (port - first_required c.kind), r.after port)
