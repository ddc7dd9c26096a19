-- Which ports a connection finds at a component whose facing was left blank.
--     blank_out        no connection goes out of one
--     blank_in         none comes in, save to a Piston
--     piston_in        which takes in what it takes in under rules 1, facing or not
-- Support is left out here: it finds Structural ports, but no two that face each other (crate scene).
-- Assumes nothing.
use Rattle.std.specs.Prelude.{Option, None}
use mathlib.Core.Path.{◌≡◌, refl, sym, ap, ◌∙◌}
use mathlib.Core.Bool.{Bool, true, false, cond, ◌&&◌}
use mathlib.Core.List.{List}
use Prim.Native.Nat.{ℕ, zero, suc, ◌<◌}
use native.Mathlib.Omega.{arith}
use lib.Dec.{eqb}
use lib.ListN.{length}
use borrow.Author.Tests.{ne_eqb}
use Rattle.std.proofs.Math.Bool.{and-false}
use Rattle.lists.specs.First.{first_from}
use Rattle.lists.specs.Records.{Component}
use Rattle.lists.proofs.Search.{first_nothing}
use Rattle.faces.specs.Ports.{Port, port, four, support_down, face_or, North, East, South, West, Down, Input, Output, Support, RedstoneSignal, Mechanical, Structural}
use Rattle.faces.specs.Ports.{piston_ports, ports_by_facing, piston_kind, is_unread, unread, blank_ports, ports_of}
use Rattle.faces.specs.Select.{control_kind, support_kind, fits, serves, port_at, select_port}
use Rattle.faces.proofs.Unread.{blank_for, facing_for}

-- ---- ports that do not fit

-- where no port of a list fits, none is found
none_fits : (ports : List Port) (face : ℕ) (outgoing : Bool) (kind : ℕ) → ((k : ℕ) → k < length ports → fits (port_at ports k) outgoing kind ≡ false)
    → select_port ports face outgoing kind ≡ None
unfolding serves select_port
none_fits ports face outgoing kind unfit =
    first_nothing (λ k. serves (port_at ports k) face outgoing kind) 0 (length ports)
    (λ k a b. ap (λ (t : Bool). eqb (port_at ports k).face face && t) (unfit k (omega arith)) ∙ and-false (eqb (port_at ports k).face face))

-- an Input gives nothing out
input_out : (face kind : ℕ) → fits (port Input face RedstoneSignal) true kind ≡ false
input_out face kind = go (eqb kind support_kind)
  where
    go : (t : Bool) → cond t false false ≡ false
    go true = refl
    go false = refl

-- a Support port neither gives nor takes
support_unfit : (face kind : ℕ) (outgoing : Bool) → (kind ≡ support_kind → ⊥) → fits (port Support face Structural) outgoing kind ≡ false
support_unfit face kind outgoing h = rw (ne_eqb kind support_kind h) (go outgoing (eqb kind control_kind))
  where
    go : (out control : Bool) → cond out false (cond control false false) ≡ false
    go true control = refl
    go false true = refl
    go false false = refl

-- ---- blank ports

inputs_out : (face kind : ℕ) → select_port (four Input RedstoneSignal) face true kind ≡ None
inputs_out face kind = none_fits (four Input RedstoneSignal) face true kind at
  where
    at : (k : ℕ) → k < 4 → fits (port_at (four Input RedstoneSignal) k) true kind ≡ false
    at zero h = input_out North kind
    at (suc zero) h = input_out East kind
    at (suc (suc zero)) h = input_out South kind
    at (suc (suc (suc zero))) h = input_out West kind
    at (suc (suc (suc (suc k)))) h = absurd (omega arith)

support_none : (face kind : ℕ) (outgoing : Bool) → (kind ≡ support_kind → ⊥) → select_port support_down face outgoing kind ≡ None
support_none face kind outgoing unsupported = none_fits support_down face outgoing kind at
  where
    at : (k : ℕ) → k < 1 → fits (port_at support_down k) outgoing kind ≡ false
    at zero h = support_unfit Down kind outgoing unsupported
    at (suc k) h = absurd (omega arith)

module _ (rules : ℕ) (c : Component) (u : unread rules c ≡ true) (face kind : ℕ) where
  blank : ports_of rules c ≡ blank_ports c.kind
  blank = blank_for rules c.kind c.facing c.support c.conducts u

  pub blank_out : (kind ≡ support_kind → ⊥) → select_port (ports_of rules c) face true kind ≡ None
  blank_out h = ap (λ (ports : List Port). select_port ports face true kind) blank ∙ go (eqb c.kind piston_kind)
    where
      go : (t : Bool) → select_port (cond t (four Input RedstoneSignal) support_down) face true kind ≡ None
      go true = inputs_out face kind
      go false = support_none face kind true h

  pub blank_in : (c.kind ≡ piston_kind → ⊥) → (kind ≡ support_kind → ⊥) → select_port (ports_of rules c) face false kind ≡ None
  blank_in p h =
      ap (λ (ports : List Port). select_port ports face false kind) (blank ∙ ap (λ (t : Bool). cond t (four Input RedstoneSignal) support_down) (ne_eqb c.kind piston_kind p))
      ∙ support_none face kind false h

-- ---- a Piston

-- its Output takes nothing in
output_in : (facing face kind : ℕ) → serves (port Output facing Mechanical) face false kind ≡ false
unfolding serves
output_in facing face kind =
    ap (λ (t : Bool). eqb facing face && t) (go (eqb kind support_kind) (eqb kind control_kind)) ∙ and-false (eqb facing face)
  where
    go : (support control : Bool) → cond support false (cond control false false) ≡ false
    go true control = refl
    go false true = refl
    go false false = refl

inputs_in : (facing face kind : ℕ) → select_port (piston_ports facing) face false kind ≡ select_port (four Input RedstoneSignal) face false kind
unfolding first_from select_port
inputs_in facing face kind = rw (output_in facing face kind)

module _ (rules : ℕ) (c : Component) (p : c.kind ≡ piston_kind) (face kind : ℕ) where
  with_facing : ports_by_facing c.kind c.facing c.support c.conducts ≡ piston_ports (face_or North c.facing)
  unfolding ports_by_facing
  with_facing = ap (λ (k : ℕ). ports_by_facing k c.facing c.support c.conducts) p

  abbrev found : List Port → Option ℕ
  found ports = select_port ports face false kind

  four_found : found (ports_of rules c) ≡ found (four Input RedstoneSignal)
  four_found = go (is_unread rules c.kind c.facing) refl
    where
      go : (t : Bool) → is_unread rules c.kind c.facing ≡ t → found (ports_of rules c) ≡ found (four Input RedstoneSignal)
      go true e = ap found (blank_for rules c.kind c.facing c.support c.conducts e ∙ ap blank_ports p)
      go false e =
          ap found (facing_for rules c.kind c.facing c.support c.conducts e ∙ with_facing)
          ∙ inputs_in (face_or North c.facing) face kind

pub piston_in : (rules : ℕ) (c : Component) → c.kind ≡ piston_kind → (face kind : ℕ)
    → select_port (ports_of rules c) face false kind ≡ select_port (ports_of 1 c) face false kind
piston_in rules c p face kind = four_found rules c p face kind ∙ sym (four_found 1 c p face kind)
