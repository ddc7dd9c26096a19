-- What becomes of connections at a device whose facing was left blank.
--     from_unread, into_unread     between two components: none leaves it, and none comes in save to a Piston
--     same_ports                   between others the ports are those of rules 1
--     unread_dropped, read_kept    what specs/Unread.antt states
-- Assumes nothing.
use Rattle.std.specs.Prelude.{Option, Some, None}
use mathlib.Core.Path.{◌≡◌, refl, sym, ap, ap₂, ◌∙◌}
use mathlib.Core.Bool.{Bool, true, false, cond}
use mathlib.Core.List.{List, ◌++◌}
use mathlib.Core.Logic.{◌⊎◌, ⊎_elim, inl}
use Prim.Native.Nat.{ℕ, zero, suc, ◌≤◌, ◌<◌}
use native.Mathlib.Omega.{arith}
use lib.Dec.{eqb}
use lib.ListN.{length}
use lib.IntN.{ℤ}
use borrow.Author.Tests.{eqb-true, eq-eqb}
use Rattle.lists.specs.Records.{Component, Connection, component, connection, connection_count}
use Rattle.lists.specs.Ids.{place_of}
use Rattle.faces.specs.Ports.{Port, NoFace, opposite, piston_kind, unread, blank_ports, ports_of}
use Rattle.faces.specs.Step.{step_face}
use Rattle.faces.specs.Select.{support_kind, select_port}
use Rattle.faces.proofs.Unread.{blank_for, facing_for, read_early, read_ports}
use Rattle.faces.proofs.Blank.{blank_out, blank_in, piston_in}
use Rattle.scene.specs.Kept.{both_ports, ports_between, link_between, link_of, row_by, rows_below, slope_along, sloped_by, sloped_below}
use Rattle.scene.specs.Unread.{Dropped, UnreadDropped, ReadKept}
use Rattle.scene.proofs.Links.{chosen, picked, none_supported}

-- ---- between two components

module _ (rules : ℕ) (source sink : Component) (kind : ℕ) where
  abbrev out : Option ℕ
  out = select_port (ports_of rules source) (step_face source sink) true kind

  abbrev into : Option ℕ
  into = select_port (ports_of rules sink) (opposite (step_face source sink)) false kind

  abbrev by_ends : Option ℕ → Option ℕ → Option (ℕ × ℕ)
  by_ends f g = cond (eqb (step_face source sink) NoFace) None (both_ports f g)

  none_out : (t : Bool) (g : Option ℕ) → cond t None (both_ports None g) ≡ None
  none_out true g = refl
  none_out false g = refl

  none_in : (t : Bool) (f : Option ℕ) → cond t None (both_ports f None) ≡ None
  none_in true f = refl
  none_in false None = refl
  none_in false (Some i) = refl

  unless_support : ((kind ≡ support_kind → ⊥) → ports_between rules source sink kind ≡ None) → ports_between rules source sink kind ≡ None
  unless_support other = go (eqb kind support_kind) refl
    where
      go : (t : Bool) → eqb kind support_kind ≡ t → ports_between rules source sink kind ≡ None
      go true e = none_supported rules source sink kind (eqb-true kind support_kind e)
      go false e = other (λ k. let z : ◌≡◌ {A = Bool} false true = sym e ∙ eq-eqb kind support_kind k in absurd (let n : ◌≡◌ {A = ℕ} 0 1 = cc in omega arith))

  pub from_unread : unread rules source ≡ true → ports_between rules source sink kind ≡ None
  unfolding ports_between
  from_unread u =
      unless_support (λ h.
      ap (λ (f : Option ℕ). by_ends f into) (blank_out rules source u (step_face source sink) kind h) ∙ none_out (eqb (step_face source sink) NoFace) into)

  pub into_unread : unread rules sink ≡ true → (sink.kind ≡ piston_kind → ⊥) → ports_between rules source sink kind ≡ None
  unfolding ports_between
  into_unread u p =
      unless_support (λ h.
      ap (λ (g : Option ℕ). by_ends out g) (blank_in rules sink u (opposite (step_face source sink)) kind p h) ∙ none_in (eqb (step_face source sink) NoFace) out)

  -- the ports of a component that is read are those of rules 1
  read_same : (c : Component) → unread rules c ≡ false → ports_of rules c ≡ ports_of 1 c
  read_same c u =
      facing_for rules c.kind c.facing c.support c.conducts u ∙ sym ((read_ports c).by_facing 1 (omega arith))

  pub same_ports : unread rules source ≡ false → (unread rules sink ≡ false) ⊎ (sink.kind ≡ piston_kind)
      → ports_between rules source sink kind ≡ ports_between 1 source sink kind
  unfolding ports_between
  same_ports u other =
      let facing = opposite (step_face source sink) in
      ap₂ by_ends
      (ap (λ (ports : List Port). select_port ports (step_face source sink) true kind) (read_same source u))
      (⊎_elim
      (λ (v : unread rules sink ≡ false). ap (λ (ports : List Port). select_port ports facing false kind) (read_same sink v))
      (λ (p : sink.kind ≡ piston_kind). piston_in rules sink p facing kind)
      other)

-- an unread Piston has four ports
unread_four : (rules : ℕ) (c : Component) → unread rules c ≡ true → c.kind ≡ piston_kind → length (ports_of rules c) ≡ 4
unread_four rules c u p = ap length (blank_for rules c.kind c.facing c.support c.conducts u ∙ ap blank_ports p)

-- ---- a connection

module _ (rules : ℕ) (cs ps : List ℤ) (k : ℕ) where
  abbrev p : Connection
  p = connection ps k

  dropped : link_of rules cs p ≡ None → Dropped rules cs ps k
  dropped e = record { kept = ap (row_by p) e; sloped = ap (λ (l : Option (ℕ × ℕ)). sloped_by p l (slope_along cs p)) e }

  link_from : (a : ℕ) (g : Option ℕ) → unread rules (component cs a) ≡ true → link_between rules cs p.kind (Some a) g ≡ None
  link_from a None u = refl
  link_from a (Some b) u = from_unread rules (component cs a) (component cs b) p.kind u

  link_into : (f : Option ℕ) (b : ℕ) → unread rules (component cs b) ≡ true → ((component cs b).kind ≡ piston_kind → ⊥)
      → link_between rules cs p.kind f (Some b) ≡ None
  link_into None b u h = refl
  link_into (Some a) b u h = into_unread rules (component cs a) (component cs b) p.kind u h

  link_sides : (f : Option ℕ) (b i j : ℕ) → unread rules (component cs b) ≡ true → (component cs b).kind ≡ piston_kind
      → link_between rules cs p.kind f (Some b) ≡ Some (i, j) → j < 4
  link_sides None b i j u h e = absurd (let n : ◌≡◌ {A = ℕ} 0 1 = cc in omega arith)
  link_sides (Some a) b i j u h e =
      let from = component cs a in
      let to = component cs b in
      let at = picked rules to (opposite (step_face from to)) false p.kind j (chosen rules from to p.kind i j e).into in
      omega (arith, at.below, unread_four rules to u h)

  pub unread_dropped : UnreadDropped rules cs ps k
  unread_dropped = record {
    from = λ a e u. dropped (ap (λ (f : Option ℕ). link_between rules cs p.kind f (place_of cs p.sink)) e ∙ link_from a (place_of cs p.sink) u);
    into = λ b e u h. dropped (ap (link_between rules cs p.kind (place_of cs p.source)) e ∙ link_into (place_of cs p.source) b u h);
    stays = λ a b d e u v.
        ap₂ (link_between rules cs p.kind) d e ∙ same_ports rules (component cs a) (component cs b) p.kind u v
        ∙ sym (ap₂ (link_between 1 cs p.kind) d e);
    sides = λ b i j e u h l.
        link_sides (place_of cs p.source) b i j u h (sym (ap (link_between rules cs p.kind (place_of cs p.source)) e) ∙ l);
  }

-- ---- under rules 1 and 2

module _ (rules : ℕ) (cs ps : List ℤ) (early : rules ≤ 2) where
  link_same : (q : Connection) → link_of rules cs q ≡ link_of 1 cs q
  link_same q = go (place_of cs q.source) (place_of cs q.sink)
    where
      go : (f g : Option ℕ) → link_between rules cs q.kind f g ≡ link_between 1 cs q.kind f g
      go None g = refl
      go (Some a) None = refl
      go (Some a) (Some b) =
          let from = component cs a in
          let to = component cs b in
          same_ports rules from to q.kind (read_early rules from early) (inl (read_early rules to early))

  kept_same : (k : ℕ) → rows_below rules cs ps k ≡ rows_below 1 cs ps k
  unfolding rows_below
  kept_same zero = refl
  kept_same (suc k) = ap₂ ◌++◌ (kept_same k) (ap (row_by (connection ps k)) (link_same (connection ps k)))

  sloped_same : (k : ℕ) → sloped_below rules cs ps k ≡ sloped_below 1 cs ps k
  unfolding sloped_below
  sloped_same zero = refl
  sloped_same (suc k) =
      let q = connection ps k in
      ap₂ ◌++◌ (sloped_same k) (ap (λ (l : Option (ℕ × ℕ)). sloped_by q l (slope_along cs q)) (link_same q))

pub read_kept : (rules : ℕ) (cs ps : List ℤ) → ReadKept rules cs ps
read_kept rules cs ps = record {
  kept = λ early. kept_same rules cs ps early (connection_count ps);
  sloped = λ early. sloped_same rules cs ps early (connection_count ps);
}
