-- Why a connection is left out.
--     support_out, apart_out, out_out, in_out, none_out     the number between two components, test by test
--     reason_says                                           what specs/Reasons.antt states of each connection
--     kept_long                                             how many numbers a connection gives the rows that are kept
-- Assumes nothing.
use Rattle.std.specs.Prelude.{Option, Some, None, ◌↔◌}
use mathlib.Core.Path.{◌≡◌, refl}
use mathlib.Core.Bool.{Bool, true, false, cond, not, ◌&&◌}
use mathlib.Core.List.{List, []}
use Prim.Native.Nat.{ℕ, ◌≤◌}
use native.Mathlib.Omega.{arith}
use lib.Dec.{eqb}
use lib.ListN.{length}
use lib.IntN.{ℤ}
use borrow.Author.Tests.{eqb-true, ne_eqb, eq-eqb}
use Rattle.lists.specs.First.{is_found}
use Rattle.lists.specs.Limits.{port_width}
use Rattle.lists.specs.Records.{Component, Connection, component, connection}
use Rattle.lists.specs.Ids.{place_of}
use Rattle.faces.specs.Ports.{NoFace, opposite, ports_of}
use Rattle.faces.specs.Step.{step_face}
use Rattle.faces.specs.Select.{support_kind, select_port}
use Rattle.scene.specs.Kept.{both_ports, ports_between, link_between, row_by, kept_row}
use Rattle.scene.specs.Reasons.{touches, comes_out, goes_in, is_support, reason_between, reason_at, reason_of, SaysAt, ReasonSays}
use Rattle.scene.proofs.Links.{none_supported}

-- ---- between two components

module _ (rules : ℕ) (source sink : Component) (kind : ℕ) where
  pub support_out : kind ≡ support_kind → reason_between rules source sink kind ≡ 7
  unfolding reason_between
  support_out e = rw (eq-eqb kind support_kind e)

  module _ (other : kind ≡ support_kind → ⊥) where
    pub apart_out : step_face source sink ≡ NoFace → reason_between rules source sink kind ≡ 4
    unfolding reason_between
    apart_out e = rw (ne_eqb kind support_kind other, e)

    module _ (face facing : ℕ) (along : face ≡ step_face source sink) (some : face ≡ NoFace → ⊥) (back : facing ≡ opposite face) where
      pub nothing_out : select_port (ports_of rules source) face true kind ≡ None → reason_between rules source sink kind ≡ 5
      unfolding reason_between
      nothing_out e = rw (ne_eqb kind support_kind other, ← along, ne_eqb face NoFace some, e)

      pub nothing_in : (i : ℕ) → select_port (ports_of rules source) face true kind ≡ Some i
          → select_port (ports_of rules sink) facing false kind ≡ None → reason_between rules source sink kind ≡ 6
      unfolding reason_between
      nothing_in i e f = rw (ne_eqb kind support_kind other, ← along, ne_eqb face NoFace some, e, ← back, f)

      pub none_out : (i j : ℕ) → select_port (ports_of rules source) face true kind ≡ Some i
          → select_port (ports_of rules sink) facing false kind ≡ Some j → reason_between rules source sink kind ≡ 0
      unfolding reason_between
      none_out i j e f = rw (ne_eqb kind support_kind other, ← along, ne_eqb face NoFace some, e, ← back, f)

-- ---- the tests, one after the other

-- what each number says of four tests
record Tests (s t o i : Bool) (r : ℕ) : Type 0 where
  apart : eqb r 4 ≡ (not s && not t)
  nothing_out : eqb r 5 ≡ (not s && (t && not o))
  nothing_in : eqb r 6 ≡ (not s && (t && (o && not i)))
  support : eqb r 7 ≡ s
  ended : r ≡ 1 → ⊥
  begun : r ≡ 2 → ⊥
  held : r ≡ 3 → ⊥
  most : r ≤ 7

tested : (s t o i : Bool) → Tests s t o i (cond s 7 (cond (not t) 4 (cond (not o) 5 (cond (not i) 6 0))))
tested true t o i = record { apart = refl; nothing_out = refl; nothing_in = refl; support = refl; ended = λ e. omega arith; begun = λ e. omega arith; held = λ e. omega arith; most = omega arith }
tested false false o i = record { apart = refl; nothing_out = refl; nothing_in = refl; support = refl; ended = λ e. omega arith; begun = λ e. omega arith; held = λ e. omega arith; most = omega arith }
tested false true false i = record { apart = refl; nothing_out = refl; nothing_in = refl; support = refl; ended = λ e. omega arith; begun = λ e. omega arith; held = λ e. omega arith; most = omega arith }
tested false true true false = record { apart = refl; nothing_out = refl; nothing_in = refl; support = refl; ended = λ e. omega arith; begun = λ e. omega arith; held = λ e. omega arith; most = omega arith }
tested false true true true = record { apart = refl; nothing_out = refl; nothing_in = refl; support = refl; ended = λ e. omega arith; begun = λ e. omega arith; held = λ e. omega arith; most = omega arith }

module _ (rules : ℕ) (source sink : Component) (kind : ℕ) where
  between_tested : Tests (is_support kind) (touches source sink) (comes_out rules kind source sink) (goes_in rules kind source sink)
      (reason_between rules source sink kind)
  unfolding reason_between
  between_tested = tested (is_support kind) (touches source sink) (comes_out rules kind source sink) (goes_in rules kind source sink)

-- ---- kept or not

-- a link and its number
abbrev Agree : Option (ℕ × ℕ) → ℕ → Type 0
Agree (Some link) r = r ≡ 0
Agree None r = r ≡ 0 → ⊥

cond_agree : (t : Bool) (f g : Option ℕ) → Agree (cond t None (both_ports f g)) (cond (not (not t)) 4 (cond (not (is_found f)) 5 (cond (not (is_found g)) 6 0)))
cond_agree true f g = λ e. omega arith
cond_agree false None g = λ e. omega arith
cond_agree false (Some i) None = λ e. omega arith
cond_agree false (Some i) (Some j) = refl

module _ (rules : ℕ) (source sink : Component) (kind : ℕ) where
  between_agree : Agree (ports_between rules source sink kind) (reason_between rules source sink kind)
  unfolding ports_between reason_between
  between_agree = go (eqb kind support_kind) refl
    where
      go : (s : Bool) → eqb kind support_kind ≡ s → Agree (ports_between rules source sink kind) (reason_between rules source sink kind)
      go true e =
          let k = eqb-true kind support_kind e in
          rw (none_supported rules source sink kind k, e) (λ (h : ◌≡◌ {A = ℕ} 7 0). let n : ⊥ = omega arith in n)
      go false e =
          rw e (cond_agree (eqb (step_face source sink) NoFace) (select_port (ports_of rules source) (step_face source sink) true kind)
          (select_port (ports_of rules sink) (opposite (step_face source sink)) false kind))

-- ---- a connection

kept_agree : (p : Connection) (link : Option (ℕ × ℕ)) (r : ℕ) → Agree link r → (r ≡ 0) ↔ (row_by p link ≡ [] → ⊥)
kept_agree p (Some (i, j)) r a = (λ e h. cc, λ h. a)
kept_agree p None r a = (λ e. absurd (a e), λ h. absurd (h refl))

module _ (rules : ℕ) (cs ps : List ℤ) (k : ℕ) where
  abbrev p : Connection
  p = connection ps k

  link_agree : (f g : Option ℕ) → Agree (link_between rules cs p.kind f g) (reason_at rules cs p.kind f g)
  link_agree (Some a) (Some b) = between_agree rules (component cs a) (component cs b) p.kind
  link_agree (Some a) None = λ e. omega arith
  link_agree None (Some b) = λ e. omega arith
  link_agree None None = λ e. omega arith

  pub reason_says : ReasonSays rules cs ps k (reason_of rules cs p)
  reason_says = go (place_of cs p.source) (place_of cs p.sink)
    where
      go : (f g : Option ℕ) → SaysAt rules cs p.kind f g (row_by p (link_between rules cs p.kind f g)) (reason_at rules cs p.kind f g)
      go (Some a) (Some b) =
          let t = between_tested rules (component cs a) (component cs b) p.kind in
          record {
            kept = kept_agree p _ _ (link_agree (Some a) (Some b));
            no_source = ne_eqb _ 1 t.ended;
            no_sink = ne_eqb _ 2 t.begun;
            no_ends = ne_eqb _ 3 t.held;
            apart = t.apart;
            nothing_out = t.nothing_out;
            nothing_in = t.nothing_in;
            support = t.support;
            most = t.most;
          }
      go (Some a) None = record { kept = kept_agree p None 2 (link_agree (Some a) None); no_source = refl; no_sink = refl; no_ends = refl; apart = refl; nothing_out = refl; nothing_in = refl; support = refl; most = omega arith }
      go None (Some b) = record { kept = kept_agree p None 1 (link_agree None (Some b)); no_source = refl; no_sink = refl; no_ends = refl; apart = refl; nothing_out = refl; nothing_in = refl; support = refl; most = omega arith }
      go None None = record { kept = kept_agree p None 3 (link_agree None None); no_source = refl; no_sink = refl; no_ends = refl; apart = refl; nothing_out = refl; nothing_in = refl; support = refl; most = omega arith }

  -- of a row of five, or none
  agree_long : (link : Option (ℕ × ℕ)) (r : ℕ) → Agree link r → length (row_by p link) ≡ cond (eqb r 0) port_width 0
  agree_long (Some (i, j)) r a = rw a
  agree_long None r a = rw (ne_eqb r 0 a)

  pub kept_long : length (kept_row rules cs ps k) ≡ cond (eqb (reason_of rules cs p) 0) port_width 0
  kept_long = agree_long _ _ (link_agree (place_of cs p.source) (place_of cs p.sink))
