-- The port connections that are kept of an accepted scene are a list that the liveness entry takes: no more of them than connections, and
-- each field in its range.
-- Assumes nothing.
use Rattle.std.specs.Prelude.{Option, Some, None}
use mathlib.Core.Path.{◌≡◌, refl}
use mathlib.Core.Bool.{true}
use mathlib.Core.List.{List, map}
use Prim.Native.Nat.{ℕ, zero, suc, ◌+◌, ◌*◌, ◌≤◌, ◌<◌}
use native.Mathlib.Nat.{add-zero}
use native.Mathlib.Omega.{arith}
use lib.Dec.{eqb}
use lib.ListN.{length, get_or, length-append, length-map, get_or-map}
use lib.IntN.{ℤ, pos}
use borrow.Author.Tests.{le-leb, eqb-true}
use Rattle.lists.specs.Limits.{connection_limit, port_width}
use Rattle.lists.specs.Signed.{at, in_range}
use Rattle.lists.specs.First.{is_found}
use Rattle.lists.specs.Records.{Connection, component, connection, component_count, connection_count, natural_at, port_count, port_connection}
use Rattle.lists.specs.Ranges.{port_low, port_high}
use Rattle.lists.specs.Ids.{place_below, place_of, has_component}
use Rattle.lists.specs.Within.{Components, PortConnections}
use Rattle.lists.proofs.Search.{found_at, never}
use Rattle.lists.proofs.Fields.{first_most}
use Rattle.scene.specs.Kept.{link_of, row_by, rows_below, kept_rows, kept_count}
use Rattle.scene.proofs.KeptEnds.{KeptEnds, kept_ends}

-- ---- how many

row_few : (p : Connection) (l : Option (ℕ × ℕ)) → length (row_by p l) ≤ port_width
row_few p (Some (i, j)) = omega arith
row_few p None = omega arith

rows_few : (rules : ℕ) (cs ps : List ℤ) (k : ℕ) → length (rows_below rules cs ps k) ≤ k * port_width
unfolding rows_below
rows_few rules cs ps zero = omega arith
rows_few rules cs ps (suc k) =
    simp length-append (omega (arith, rows_few rules cs ps k, row_few (connection ps k) (link_of rules cs (connection ps k))))

pub kept_few : (rules : ℕ) (cs ps : List ℤ) → kept_count rules cs ps ≤ connection_count ps
kept_few rules cs ps = omega (arith, rows_few rules cs ps (connection_count ps))

-- ---- ranges

-- the id of a component is within its range
id_most : (cs : List ℤ) → Components cs → (id : ℕ) → has_component cs id ≡ true → id ≤ 4294967295
unfolding place_below
id_most cs w id h = go (place_of cs id) refl h
  where
    go : (f : Option ℕ) → place_of cs id ≡ f → is_found f ≡ true → id ≤ 4294967295
    go None e t = never t
    go (Some p) e t =
        let f = found_at (λ k. eqb (component cs k).id id) 0 (component_count cs) p e in
        let below : p < component_count cs = omega (arith, f.below) in
        omega (arith, eqb-true (component cs p).id id f.passes, first_most w p below (omega arith) 4294967295 refl refl)

in-range : (l : List ℕ) (j h : ℕ) → natural_at (map pos l) j ≤ h → in_range (pos 0) (pos h) (at (map pos l) j) ≡ true
in-range l j h p =
    let e : at (map pos l) j ≡ pos (get_or l j 0) = get_or-map pos l j 0 in
    let q : get_or l j 0 ≤ h = rw e at p in
    rw (e, le-leb 0 (get_or l j 0) (omega arith), le-leb (get_or l j 0) h q)

module _ (rules : ℕ) (cs ps : List ℤ) (w : Components cs) where
  fields : (k f : ℕ) → k < port_count (map pos (kept_rows rules cs ps)) → f < 5
      → in_range (at port_low f) (at port_high f) (at (map pos (kept_rows rules cs ps)) (k * 5 + f)) ≡ true
  fields k f h l = go f l (kept_ends rules cs ps k (omega (arith, length-map (kept_rows rules cs ps) pos)))
    where
      go : (f : ℕ) → f < 5 → KeptEnds cs (port_connection (map pos (kept_rows rules cs ps)) k)
          → in_range (at port_low f) (at port_high f) (at (map pos (kept_rows rules cs ps)) (k * 5 + f)) ≡ true
      go zero l e = rw add-zero (in-range (kept_rows rules cs ps) (k * 5) 4294967295 (id_most cs w _ e.source))
      go (suc zero) l e = in-range (kept_rows rules cs ps) (k * 5 + 1) 255 (omega (arith, e.source_port_of))
      go (suc (suc zero)) l e = in-range (kept_rows rules cs ps) (k * 5 + 2) 4294967295 (id_most cs w _ e.sink)
      go (suc (suc (suc zero))) l e = in-range (kept_rows rules cs ps) (k * 5 + 3) 255 (omega (arith, e.sink_port_of))
      go (suc (suc (suc (suc zero)))) l e = in-range (kept_rows rules cs ps) (k * 5 + 4) 6 (omega (arith, e.transfer))
      go (suc (suc (suc (suc (suc f))))) l e = absurd (omega arith)

  pub kept_within : connection_count ps ≤ connection_limit → PortConnections (map pos (kept_rows rules cs ps))
  kept_within few = record {
    few = omega (arith, kept_few rules cs ps, length-map (kept_rows rules cs ps) pos);
    field = fields;
  }
