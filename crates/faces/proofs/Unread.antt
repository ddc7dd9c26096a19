-- The ports under each rules number, by whether the component is unread.
--     blank_for, facing_for        its ports if it is, and if it is not
--     each_ports                   what holds in both cases
--     unread_here, read_early      the test: it is passed, and under rules 1 and 2 by none
--     unread_ports, read_ports     what specs/Unread.antt states
--     early_listed                 under rules 1 and 2 the ports are those of the table in constants
-- Assumes nothing.
use mathlib.Core.Path.{◌≡◌, refl, ap, ◌∙◌}
use mathlib.Core.Bool.{Bool, true, false, cond}
use mathlib.Core.List.{List}
use mathlib.Core.Logic.{◌⊎◌, inl, inr}
use Prim.Native.Nat.{ℕ, ◌≤◌}
use native.Mathlib.Omega.{arith}
use lib.ListN.{length}
use borrow.Author.Tests.{le-leb, lt-leb}
use Rattle.lists.specs.Records.{Component}
use Rattle.faces.specs.Ports.{Port, NoFace, ports_by_facing, piston_kind, is_unread, unread, blank_ports, ports_for, ports_of}
use Rattle.faces.specs.Unread.{UnreadPorts, ReadPorts}
use Rattle.faces.proofs.Table.{table_entry}
use Rattle.faces.proofs.Computed.{Listed, all_listed}

module _ (rules kind facing support conducts : ℕ) where
  abbrev by_test : Bool → List Port
  by_test test = cond test (blank_ports kind) (ports_by_facing kind facing support conducts)

  pub blank_for : is_unread rules kind facing ≡ true → ports_for rules kind facing support conducts ≡ blank_ports kind
  unfolding ports_for
  blank_for e = ap by_test e

  pub facing_for : is_unread rules kind facing ≡ false → ports_for rules kind facing support conducts ≡ ports_by_facing kind facing support conducts
  unfolding ports_for
  facing_for e = ap by_test e

  pub each_ports : (P : List Port → Type 0) → P (blank_ports kind) → P (ports_by_facing kind facing support conducts)
      → P (ports_for rules kind facing support conducts)
  unfolding ports_for
  each_ports P blank read = go (is_unread rules kind facing)
    where
      go : (test : Bool) → P (by_test test)
      go true = blank
      go false = read

-- ---- the test

pub unread_here : (rules : ℕ) (c : Component) → 3 ≤ rules → c.facing ≡ NoFace → (c.kind ≡ 1) ⊎ ((c.kind ≡ 2) ⊎ (c.kind ≡ piston_kind)) → unread rules c ≡ true
unread_here rules c h e (inl k) = rw (le-leb 3 rules h, e, k)
unread_here rules c h e (inr (inl k)) = rw (le-leb 3 rules h, e, k)
unread_here rules c h e (inr (inr k)) = rw (le-leb 3 rules h, e, k)

pub read_early : (rules : ℕ) (c : Component) → rules ≤ 2 → unread rules c ≡ false
read_early rules c h = rw (lt-leb 3 rules (omega arith))

-- ---- the statements

module _ (rules : ℕ) (c : Component) (h : 3 ≤ rules) (e : c.facing ≡ NoFace) where
  blank : (c.kind ≡ 1) ⊎ ((c.kind ≡ 2) ⊎ (c.kind ≡ piston_kind)) → ports_of rules c ≡ blank_ports c.kind
  blank k = blank_for rules c.kind c.facing c.support c.conducts (unread_here rules c h e k)

  of_repeater : (c.kind ≡ 1) ⊎ (c.kind ≡ 2) → ports_of rules c ≡ blank_ports 1
  of_repeater (inl k) = blank (inl k) ∙ rw k refl
  of_repeater (inr k) = blank (inr (inl k)) ∙ rw k refl

  of_piston : c.kind ≡ piston_kind → ports_of rules c ≡ blank_ports piston_kind
  of_piston k = blank (inr (inr k)) ∙ ap blank_ports k

pub unread_ports : (rules : ℕ) (c : Component) → UnreadPorts rules c
unread_ports rules c = record {
  repeater = λ h e k. of_repeater rules c h e k;
  piston = λ h e k. of_piston rules c h e k;
  one = λ h e k. ap length (of_repeater rules c h e k);
  four_sides = λ h e k. ap length (of_piston rules c h e k);
  other = facing_for rules c.kind c.facing c.support c.conducts;
}

pub read_ports : (c : Component) → ReadPorts c
unfolding ports_for
read_ports c = record {
  by_facing = λ rules h. facing_for rules c.kind c.facing c.support c.conducts (read_early rules c h);
  same = refl;
}

pub early_listed : (rules : ℕ) (c : Component) → rules ≤ 2 → Listed (table_entry c.kind c.facing c.support c.conducts) (ports_of rules c)
early_listed rules c h = rw ((read_ports c).by_facing rules h) (all_listed c.kind c.facing c.support c.conducts)
