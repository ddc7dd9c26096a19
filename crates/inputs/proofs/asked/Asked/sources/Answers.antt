-- `inputs::asked::Asked::sources` meets its contract: the sets of the port's slot where it has a row, else none.
-- Assumes nothing.
use Rattle.std.specs.Prelude.{Some}
use Rattle.std.proofs.Props.{props}
use Rattle.std.proofs.Math.Logic.{∥∥₁_elim}
use mathlib.Core.Path.{◌≡◌, sym, ◌∙◌}
use mathlib.Core.List.{List}
use Prim.Native.Nat.{ℕ, ◌<◌}
use native.Mathlib.Omega.{arith}
use lib.ListN.{length}
use lib.IntN.{ℤ}
use Rattle.lists.specs.Limits.{component_limit}
use Rattle.lists.specs.Ids.{smaller_ids}
use Rattle.lists.specs.Within.{Components}
use Rattle.inputs.specs.Query.{row_place}
use Rattle.inputs.specs.Inputs.{Ready}
use Rattle.inputs.proofs.Inputs.{row_found, row_id_small, row_member_small, row_slot, slot_asked}
use Rattle.inputs.proofs.Asking.{ready_labels, ready_nodes, port_sets, sets_at}
use Rattle.inputs.proofs.asked.Asked.sources.Goals as goal
use Rattle.inputs.proofs.asked.Asked.sources.Goals.{Start}

abbrev cs : Start → List ℤ
cs s = s.args.self.now.components.now

abbrev rules : Start → ℕ
rules s = s.args.self.now.rules

-- a scene that the tables are of
abbrev ReadyScene : Start → Type 0
ReadyScene s = let a = s.args.self.now in (ps fs : List ℤ) × Ready a.rules (cs s) ps fs a.fed.now a.labels.now a.upstream.now

within : (s : Start) → ReadyScene s → Components (cs s)
within s r = r.2.fed_scene.scene.components

pub member_of-requires : goal.member_of-requires
member_of-requires c =
    let s = (goal.at.member_of-requires c).Start in
    let row = row_found (rules s) (cs s) c.args.id c.args.port (sym (rw c.component_list.ensures at c.row_place.ensures) ∙ c.in-Some.is) in
    ∥∥₁_elim c.args.self.now.ready (hlevel props) (λ (r : ReadyScene s). row_id_small (within s r) row)

-- the member and the port that a row is found for
member_small : (s : Start) → ReadyScene s → {p m : ℕ} → row_place (rules s) (cs s) s.args.id s.args.port ≡ Some p → m ≡ smaller_ids (cs s) s.args.id
    → (m < component_limit) × (s.args.port < 256)
member_small s r e d = let row = row_found (rules s) (cs s) s.args.id s.args.port e in (omega (arith, row_member_small (within s r) row), row.port_small)

pub slot_sources-requires : goal.slot_sources-requires
slot_sources-requires c =
    let s = (goal.at.slot_sources-requires c).Start in
    let a = c.args.self.now in
    let row = row_found (rules s) (cs s) c.args.id c.args.port (sym (rw c.component_list.ensures at c.row_place.ensures) ∙ c.in-Some.is) in
    ∥∥₁_elim a.ready (hlevel props) (λ (r : ReadyScene s).
    let q = slot_asked (row_slot r.2.fed_scene row (c.member_of.ensures (cs s) a.table)) (length a.labels.now) (ready_nodes r.2) in record {
      ascending = (q.0.0, (q.0.1, q.1.0));
      indices = (ready_labels r.2, omega (arith, ready_nodes r.2, (within s r).few));
    })

pub returns-in-Some : goal.returns-in-Some
returns-in-Some c ps fs r =
    let a = c.args.self.now in
    let found = sym (rw c.component_list.ensures at c.row_place.ensures) ∙ c.in-Some.is in
    sets_at c.args.id found
    (port_sets r (row_slot r.fed_scene (row_found a.rules a.components.now c.args.id c.args.port found) (c.member_of.ensures a.components.now a.table))
    c.slot_sources.ensures)

pub returns-in-None : goal.returns-in-None
returns-in-None c ps fs r =
    sets_at c.args.id (sym (rw c.component_list.ensures at c.row_place.ensures) ∙ c.in-None.is)
    (c.none.ensures c.args.self.now.rules c.args.self.now.components.now ps fs c.args.port)

pub overflow_mul-member_of : goal.overflow_mul-member_of
overflow_mul-member_of c =
    let s = (goal.at.overflow_mul-member_of c).Start in
    let found = sym (rw c.component_list.ensures at c.row_place.ensures) ∙ c.in-Some.is in
    let member = c.member_of.ensures (cs s) c.args.self.now.table in
    ∥∥₁_elim c.args.self.now.ready (hlevel props) (λ (r : ReadyScene s). omega (arith, (member_small s r found member).0))

pub overflow_add-member_of : goal.overflow_add-member_of
overflow_add-member_of c =
    let s = (goal.at.overflow_add-member_of c).Start in
    let found = sym (rw c.component_list.ensures at c.row_place.ensures) ∙ c.in-Some.is in
    let member = c.member_of.ensures (cs s) c.args.self.now.table in
    ∥∥₁_elim c.args.self.now.ready (hlevel props) (λ (r : ReadyScene s).
    let m = member_small s r found member in omega (arith, m.0, m.1))
