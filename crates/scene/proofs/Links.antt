-- What a connection's ports say of its ends.
--     between_none, between_some        the ports of a connection by the face of its step
--     chosen, picked                    each of the two was selected, so it is a port of its component, at that face, and fits
--     no_support                        and the kind is not Support
--     none_supported                    so Support has none
--     Linked, linked                    both ends are components, their ports are below seven, and the kind is not Support
-- Assumes nothing.
use Rattle.std.specs.Prelude.{Option, Some, None}
use mathlib.Core.Path.{◌≡◌, refl, sym, ap, ◌∙◌}
use mathlib.Core.Bool.{Bool, true, false, cond}
use mathlib.Core.List.{List}
use Prim.Native.Nat.{ℕ, ◌<◌}
use native.Mathlib.Omega.{arith}
use lib.Dec.{eqb}
use lib.ListN.{length}
use lib.IntN.{ℤ}
use borrow.Author.Tests.{eqb-true, ne_eqb}
use Rattle.lists.specs.First.{is_found}
use Rattle.lists.specs.Records.{Component, Connection, component}
use Rattle.lists.specs.Ids.{place_of, has_component}
use Rattle.lists.proofs.Search.{FoundAt, found_at, both}
use Rattle.faces.specs.Ports.{Port, NoFace, Down, Structural, opposite, ports_of}
use Rattle.faces.specs.Rows.{port_places}
use Rattle.faces.specs.Step.{step_face}
use Rattle.faces.specs.Select.{support_kind, fits, serves, port_at, select_port}
use Rattle.scene.specs.Kept.{both_ports, ports_between, link_between, link_of}
use Rattle.faces.proofs.Sound.{ports_few, structural_down}

-- ---- between two components

module _ (rules : ℕ) (source sink : Component) (kind : ℕ) where
  pub between_none : step_face source sink ≡ NoFace → ports_between rules source sink kind ≡ None
  unfolding ports_between
  between_none e = rw e

  pub between_some : (face facing : ℕ) → face ≡ step_face source sink → (face ≡ NoFace → ⊥) → facing ≡ opposite face
      → ports_between rules source sink kind ≡ both_ports (select_port (ports_of rules source) face true kind) (select_port (ports_of rules sink) facing false kind)
  unfolding ports_between
  between_some face facing e h d = rw (d, ← e, ne_eqb face NoFace h)

pub record Chosen (rules : ℕ) (source sink : Component) (kind i j : ℕ) : Type 0 where
  pub out : select_port (ports_of rules source) (step_face source sink) true kind ≡ Some i
  pub into : select_port (ports_of rules sink) (opposite (step_face source sink)) false kind ≡ Some j

both_chosen : (t : Bool) (f g : Option ℕ) (i j : ℕ) → cond t None (both_ports f g) ≡ Some (i, j) → (f ≡ Some i) × (g ≡ Some j)
both_chosen true f g i j e = cc
both_chosen false None g i j e = cc
both_chosen false (Some a) None i j e = cc
both_chosen false (Some a) (Some b) i j e =
    let p : ◌≡◌ {A = ℕ × ℕ} (a, b) (i, j) = cc in
    (ap (λ (q : ℕ × ℕ). Some q.0) p, ap (λ (q : ℕ × ℕ). Some q.1) p)

pub chosen : (rules : ℕ) (source sink : Component) (kind i j : ℕ) → ports_between rules source sink kind ≡ Some (i, j) → Chosen rules source sink kind i j
unfolding ports_between
chosen rules source sink kind i j e =
    let r = both_chosen (eqb (step_face source sink) NoFace) (select_port (ports_of rules source) (step_face source sink) true kind)
    (select_port (ports_of rules sink) (opposite (step_face source sink)) false kind) i j e in
    record { out = r.0; into = r.1 }

-- ---- the port that was selected

pub record Picked (rules : ℕ) (c : Component) (face : ℕ) (outgoing : Bool) (kind i : ℕ) : Type 0 where
  pub below : i < length (ports_of rules c)
  pub faces : (port_at (ports_of rules c) i).face ≡ face
  pub fit : fits (port_at (ports_of rules c) i) outgoing kind ≡ true

first_fitting : (ports : List Port) (face : ℕ) (outgoing : Bool) (kind i : ℕ) → select_port ports face outgoing kind ≡ Some i
    → FoundAt (λ k. serves (port_at ports k) face outgoing kind) 0 (length ports) i
unfolding select_port
first_fitting ports face outgoing kind i e = found_at (λ k. serves (port_at ports k) face outgoing kind) 0 (length ports) i e

pub picked : (rules : ℕ) (c : Component) (face : ℕ) (outgoing : Bool) (kind i : ℕ) → select_port (ports_of rules c) face outgoing kind ≡ Some i → Picked rules c face outgoing kind i
unfolding serves
picked rules c face outgoing kind i e =
    let f = first_fitting (ports_of rules c) face outgoing kind i e in
    let t = both (eqb (port_at (ports_of rules c) i).face face) (fits (port_at (ports_of rules c) i) outgoing kind) f.passes in
    record { below = omega (arith, f.below); faces = eqb-true _ face t.0; fit = t.1 }

picked_few : {rules : ℕ} {c : Component} {face : ℕ} {outgoing : Bool} {kind i : ℕ} → Picked rules c face outgoing kind i → i < port_places
picked_few {rules} {c} p = omega (arith, p.below, ports_few rules c.kind c.facing c.support c.conducts)

-- Support takes Structural ports, and these face Down
support_face : (rules : ℕ) (c : Component) (face : ℕ) (outgoing : Bool) (i : ℕ) → Picked rules c face outgoing support_kind i → face ≡ Down
support_face rules c face outgoing i p =
    sym p.faces ∙ structural_down rules c.kind c.facing c.support c.conducts i p.below (eqb-true _ Structural p.fit)

-- no two facing ports do
never_down : (face : ℕ) → face ≡ Down → opposite face ≡ Down → ⊥
unfolding opposite
never_down face p q = let e : ◌≡◌ {A = ℕ} 5 6 = rw p at q in omega arith

pub no_support : (rules : ℕ) (source sink : Component) (kind i j : ℕ) → Chosen rules source sink kind i j → kind ≡ support_kind → ⊥
no_support rules source sink kind i j h e =
    let out = rw e at h.out in
    let into = rw e at h.into in
    never_down (step_face source sink)
    (support_face rules source (step_face source sink) true i (picked rules source (step_face source sink) true support_kind i out))
    (support_face rules sink (opposite (step_face source sink)) false j (picked rules sink (opposite (step_face source sink)) false support_kind j into))

-- Support has no ports at all
pub none_supported : (rules : ℕ) (source sink : Component) (kind : ℕ) → kind ≡ support_kind → ports_between rules source sink kind ≡ None
none_supported rules source sink kind e = go (ports_between rules source sink kind) refl
  where
    go : (found : Option (ℕ × ℕ)) → ports_between rules source sink kind ≡ found → found ≡ None
    go None h = refl
    go (Some (i, j)) h = absurd (no_support rules source sink kind i j (chosen rules source sink kind i j h) e)

-- ---- a connection

pub record Linked (cs : List ℤ) (p : Connection) (i j : ℕ) : Type 0 where
  pub source : has_component cs p.source ≡ true
  pub sink : has_component cs p.sink ≡ true
  pub source_port_of : i < port_places
  pub sink_port_of : j < port_places
  pub unsupported : p.kind ≡ support_kind → ⊥

pub linked : (rules : ℕ) (cs : List ℤ) (p : Connection) (i j : ℕ) → link_of rules cs p ≡ Some (i, j) → Linked cs p i j
linked rules cs p i j e = go (place_of cs p.source) (place_of cs p.sink) refl refl e
  where
    go : (f g : Option ℕ) → place_of cs p.source ≡ f → place_of cs p.sink ≡ g → link_between rules cs p.kind f g ≡ Some (i, j) → Linked cs p i j
    go None g a b h = cc
    go (Some x) None a b h = cc
    go (Some x) (Some y) a b h =
        let from = component cs x in
        let to = component cs y in
        let c = chosen rules from to p.kind i j h in
        record {
          source = ap is_found a;
          sink = ap is_found b;
          source_port_of = picked_few (picked rules from (step_face from to) true p.kind i c.out);
          sink_port_of = picked_few (picked rules to (opposite (step_face from to)) false p.kind j c.into);
          unsupported = no_support rules from to p.kind i j c;
        }
