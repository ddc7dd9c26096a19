-- What a half had, the whole has: its components, and those of one net or fragment in one net or fragment.
--     record_component, record_connection     records that are the same have the same fields
--     part_keeps                              a valid plot that is part of a valid plot
--     join_keeps                              both halves of a join
-- Assumes nothing.
use Rattle.std.specs.Prelude.{None}
use Prim.Native.Nat.{ℕ, ◌*◌, ◌<◌}
use native.Mathlib.Nat.{add-zero}
use native.Mathlib.Omega.{arith}
use mathlib.Core.Path.{◌≡◌, sym, ap, ◌∙◌}
use mathlib.Core.List.{List, []}
use lib.ListN.{get_or}
use lib.IntN.{ℤ, nat_abs}
use Rattle.lists.specs.Limits.{component_width, connection_width}
use Rattle.lists.specs.Signed.{at}
use Rattle.lists.specs.Records.{Component, Connection, component, connection, component_count, connection_count}
use Rattle.lists.specs.Ids.{first_repeated}
use Rattle.circuit.specs.Topology.{net_kinds, fragment_kinds}
use Rattle.lists.proofs.Members.{ids_distinct}
use Rattle.joining.specs.Split.{records_of}
use Rattle.joining.specs.Merge.{Has}
use Rattle.joining.specs.Plot.{Plot, Valid, JoinOf}
use Rattle.joining.specs.Shares.{Kept}
use Rattle.joining.proofs.Splits.{field_at, has_place, place_has}
use Rattle.joining.proofs.Agrees.{place_own}
use Rattle.joining.proofs.Accepts.{scene}
use Rattle.joining.proofs.Carried.{PartOf, numbers_carried}

-- ---- a record and its fields

component_of : List ℤ → Component
component_of r = record {
  id = nat_abs (at r 0);
  x = at r 1;
  y = at r 2;
  z = at r 3;
  kind = nat_abs (at r 4);
  facing = nat_abs (at r 5);
  support = nat_abs (at r 6);
  conducts = nat_abs (at r 7);
}

record_component : (cs : List ℤ) (k : ℕ) → k < component_count cs → component_of (get_or (records_of component_width cs) k []) ≡ component cs k
unfolding component_of
record_component cs k h =
    let r = get_or (records_of component_width cs) k [] in
    let f0 : at r 0 ≡ at cs (k * component_width) = field_at component_width cs k 0 h (omega arith) ∙ rw (add-zero (k * component_width)) in
    let f1 = field_at component_width cs k 1 h (omega arith) in
    let f2 = field_at component_width cs k 2 h (omega arith) in
    let f3 = field_at component_width cs k 3 h (omega arith) in
    let f4 = field_at component_width cs k 4 h (omega arith) in
    let f5 = field_at component_width cs k 5 h (omega arith) in
    let f6 = field_at component_width cs k 6 h (omega arith) in
    let f7 = field_at component_width cs k 7 h (omega arith) in
    rw (f0, f1, f2, f3, f4, f5, f6, f7)

connection_of : List ℤ → Connection
connection_of r = record { source = nat_abs (at r 0); sink = nat_abs (at r 1); kind = nat_abs (at r 2) }

record_connection : (ps : List ℤ) (k : ℕ) → k < connection_count ps → connection_of (get_or (records_of connection_width ps) k []) ≡ connection ps k
unfolding connection_of
record_connection ps k h =
    let r = get_or (records_of connection_width ps) k [] in
    let f0 : at r 0 ≡ at ps (k * connection_width) = field_at connection_width ps k 0 h (omega arith) ∙ rw (add-zero (k * connection_width)) in
    let f1 = field_at connection_width ps k 1 h (omega arith) in
    let f2 = field_at connection_width ps k 2 h (omega arith) in
    rw (f0, f1, f2)

-- ---- a plot that is part of another

pub record Part (half whole : Plot) : Type 0 where
  pub components : (r : List ℤ) → Has component_width half.components r → Has component_width whole.components r
  pub connections : (r : List ℤ) → Has connection_width half.connections r → Has connection_width whole.connections r

pub join_first : {p q whole : Plot} → JoinOf p q whole → Part p whole
join_first j = record { components = j.components.of_first; connections = j.connections.of_first }

pub join_second : {p q whole : Plot} → JoinOf p q whole → Part q whole
join_second j = record { components = j.components.of_second; connections = j.connections.of_second }

module _ (half whole : Plot) (part : Part half whole) (once : first_repeated whole.components ≡ None) where
  -- the same component at a place of the whole
  component_stands : (v : ℕ) → v < component_count half.components
      → (w : ℕ) × (w < component_count whole.components) × (component whole.components w ≡ component half.components v)
  component_stands v h =
      let m = has_place component_width whole.components (part.components _ (place_has component_width half.components v h)) in
      (m.0, m.1, sym (record_component whole.components m.0 m.1) ∙ ap component_of m.2 ∙ record_component half.components v h)

  connection_stands : (k : ℕ) → k < connection_count half.connections
      → (j : ℕ) × (j < connection_count whole.connections) × (connection whole.connections j ≡ connection half.connections k)
  connection_stands k h =
      let m = has_place connection_width whole.connections (part.connections _ (place_has connection_width half.connections k h)) in
      (m.0, m.1, sym (record_connection whole.connections m.0 m.1) ∙ ap connection_of m.2 ∙ record_connection half.connections k h)

  part_of : PartOf half.components half.connections whole.components whole.connections
  part_of = record {
    ids = λ p h.
        let w = component_stands p h in
        (w.0, place_own whole.components once w.0 w.1 (component half.components p).id (ap (λ (c : Component). c.id) w.2));
    links = connection_stands;
  }

pub part_keeps : {rules : ℕ} (half whole : Plot) → Part half whole → Valid rules half → Valid rules whole → Kept half whole
part_keeps half whole part vh vw =
    let sh = scene vh in
    let sw = scene vw in
    let once = sw.scene.once in
    let numbers = numbers_carried half.components half.connections whole.components whole.connections (part_of half whole part once) in
    record {
      place = λ v h.
          let w = component_stands half whole part once v h in
          (w.0, record { in_half = h; in_whole = w.1; id = ap (λ (c : Component). c.id) w.2 });
      fields = λ v v' s.
          let w = component_stands half whole part once v s.in_half in
          let same = ids_distinct whole.components once v' w.0 s.in_whole w.1 (s.id ∙ sym (ap (λ (c : Component). c.id) w.2)) in
          ap (λ (k : ℕ). component whole.components k) same ∙ w.2;
      nets = λ v v' w w' s t.
          numbers net_kinds sh.components.few sw.components.few once v v' w w' s.in_half s.in_whole t.in_half t.in_whole s.id t.id;
      fragments = λ v v' w w' s t.
          numbers fragment_kinds sh.components.few sw.components.few once v v' w w' s.in_half s.in_whole t.in_half t.in_whole s.id t.id;
    }

-- both halves of a join
pub join_keeps : {rules : ℕ} (p q whole : Plot) → JoinOf p q whole → Valid rules p → Valid rules q → Valid rules whole → Kept p whole × Kept q whole
join_keeps p q whole j vp vq vw = (part_keeps p whole (join_first j) vp vw, part_keeps q whole (join_second j) vq vw)
