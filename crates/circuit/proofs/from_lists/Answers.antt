-- `circuit::from_lists` meets its contract: the checks first, and where they accept the groups, by the places of ids that they left.
-- Assumes nothing.
use Rattle.std.specs.Prelude.{Result, Ok, Err}
use Rattle.std.proofs.Common.{rules}
use Rattle.lists.specs.declared.Refusal.{Refusal}
use mathlib.Core.Path.{◌≡◌, sym, ap₂, ◌∙◌}
use mathlib.Core.Bool.{Bool}
use mathlib.Core.List.{[], ◌∷◌}
use Prim.Native.Nat.{ℕ, ◌≤◌}
use native.Mathlib.Omega.{arith}
use lib.ListN.{length, take}
use lib.Seq.{length-take-le}
use Rattle.lists.specs.Records.{component_count}
use Rattle.checks.specs.Refusals.{room_for, room_for_groups, grouping_refusal}
use Rattle.lists.proofs.Search.{both}
use Rattle.checks.proofs.Accepted.{GroupingScene, grouping_accept, room_places}
use Rattle.circuit.specs.declared.Counts.{Counts}
use Rattle.circuit.proofs.from_lists.Goals as goal
use Rattle.circuit.proofs.from_lists.Goals.{After-grouping_lists}

same_counts : {r : Counts} {nets fragments : ℕ} → r.nets ≡ nets → r.fragments ≡ fragments → ◌≡◌ {A = Result Counts Refusal} (Ok r) (Ok (record { nets = nets; fragments = fragments }))
same_counts {r} e f = rw (← e, ← f)

-- the answer of the checks, by the definition
answer : (c : After-grouping_lists)
    →
    c.grouping_lists.result
    ≡ grouping_refusal c.args.rules c.args.components.now c.args.connections.now (length c.args.nets.now) (length c.args.fragments.now)
answer c =
    c.grouping_lists.ensures.answer
    ∙ rw c.room_for_groups-enough.ensures

abbrev enough : After-grouping_lists → Bool
enough c =
    room_for_groups (component_count c.args.components.now) (length c.args.nets.now) (length c.args.fragments.now)

-- an accepted scene
accepted : (c : After-grouping_lists) → c.grouping_lists.result ≡ Ok tt
    → grouping_refusal c.args.rules c.args.components.now c.args.connections.now (length c.args.nets.now) (length c.args.fragments.now) ≡ Ok tt
accepted c e = sym (answer c) ∙ e

scene : (c : After-grouping_lists) → c.grouping_lists.result ≡ Ok tt
    → GroupingScene c.args.rules c.args.components.now c.args.connections.now [] (enough c)
scene c e = grouping_accept _ _ _ _ _ (accepted c e)

room : (c : After-grouping_lists) → c.grouping_lists.result ≡ Ok tt
    → (component_count c.args.components.now ≤ length c.args.nets.now)
    × (component_count c.args.components.now ≤ length c.args.fragments.now)
room c e =
    let n = component_count c.args.components.now in
    let nets = length c.args.nets.now in
    let fragments = length c.args.fragments.now in
    let tests = both (room_for n 1 nets) (room_for n 1 fragments) (scene c e).scene.lengths.room in
    (room_places n nets tests.0, room_places n fragments tests.1)

-- the table of ids at the front of the keys
long : (c : After-grouping_lists) → c.grouping_lists.result ≡ Ok tt
    → let n = component_count c.args.components.now in
    (n ≤ length c.grouping_lists.new.keys) × (length (take n c.grouping_lists.new.keys) ≡ n)
long c e =
    let keys = c.grouping_lists.new.keys in
    let h : component_count c.args.components.now ≤ length keys =
    omega (arith, (scene c e).components.few, c.grouping_lists.auto.keys) in
    (h, length-take-le _ keys h)

pub slice_bounds-keys-end : goal.slice_bounds-keys-end
slice_bounds-keys-end c = (long (goal.at.slice_bounds-keys-end c).After-grouping_lists c.in_ok-grouping_lists.was).0

pub slice_bounds-group-end : goal.slice_bounds-group-end
slice_bounds-group-end c = sym (long (goal.at.slice_bounds-group-end c).After-grouping_lists c.in_ok-grouping_lists.was).1

pub invariant_of-accepted : goal.invariant_of-accepted
invariant_of-accepted c = record { within = (scene (goal.at.invariant_of-accepted c).After-grouping_lists c.in_ok-grouping_lists.was).connections }

pub group-requires : goal.group-requires
group-requires c =
    let now = (goal.at.group-requires c).After-grouping_lists in
    let n = (long now c.in_ok-grouping_lists.was).1 in
    let s = scene now c.in_ok-grouping_lists.was in
    let wide = room now c.in_ok-grouping_lists.was in
    let settled = c.grouping_lists.ensures.places c.in_ok-grouping_lists.was in record {
      places = (c.args.components.now, settled);
      keys_len_bound = (omega (arith, n, s.components.few), (omega (arith, n, wide), omega (arith, n, wide)));
    }

pub returns-in_err-grouping_lists : goal.returns-in_err-grouping_lists
returns-in_err-grouping_lists c =
    let e = sym (answer (goal.at.returns-in_err-grouping_lists c).After-grouping_lists) ∙ c.in_err-grouping_lists.was in
    let back : c.from_residual.result ≡ Err c.in_err-grouping_lists.field-0.0 = search rules in
    record { answer = rw (e, back); numbers = rw (e, back); nets_left = rw e; fragments_left = rw e }

pub shape_of-nets : goal.shape_of-nets
shape_of-nets c = c.group.auto.nets

pub shape_of-fragments : goal.shape_of-fragments
shape_of-fragments c = c.group.auto.fragments

pub returns : goal.returns
returns c =
    let settled = c.grouping_lists.ensures.places c.in_ok-grouping_lists.was in
    let g = c.group.ensures c.args.components.now settled in
    let e = accepted (goal.at.returns c).After-grouping_lists c.in_ok-grouping_lists.was in
    record {
      answer = rw e (same_counts g.net_count_lem g.fragment_count_lem);
      numbers = rw e (ap₂ (λ (nets fragments : ℕ). 0 ∷ nets ∷ fragments ∷ []) g.net_count_lem g.fragment_count_lem);
      nets_left = rw e g.nets_laid;
      fragments_left = rw e g.fragments_laid;
    }
