-- What holds of the port connections that are kept, whatever the lists.
--     support_dropped              Support is always dropped
--     KeptEnds, kept_ends          both ends of each row are components, its ports are below seven, its transfer is no support
--     kept_whole                   they are whole rows
--     kept_no_missing              so refusal 7 does not arise of them
-- Assumes nothing.
use Rattle.std.specs.Prelude.{Option, Some}
use Rattle.std.specs.Prelude.{None}
use mathlib.Core.Path.{◌≡◌, refl, ap, ◌∙◌}
use mathlib.Core.Bool.{Bool, true, false}
use mathlib.Core.List.{List, [], ◌++◌, map, append-nil, map-append}
use Prim.Native.Nat.{ℕ, zero, suc, ◌+◌, ◌*◌, ◌/◌, ◌%◌, ◌<◌}
use native.Mathlib.Nat.{add-zero, zero-add}
use native.Mathlib.Omega.{arith}
use lib.Dec.{ltb}
use lib.ListN.{length, length-append, length-map, get_or-append}
use lib.Seq.{get_or-append-add}
use lib.IntN.{ℤ, pos}
use borrow.Author.Tests.{ltb-true, ltb-false, ne_eqb}
use Rattle.lists.specs.Limits.{port_width}
use Rattle.lists.specs.Signed.{at}
use Rattle.lists.specs.Records.{PortConnection, connection, connection_count, port_connection, port_count}
use Rattle.lists.specs.Ids.{has_component, support_transfer, end_missing, first_end_missing}
use Rattle.lists.proofs.Search.{first_nothing}
use Rattle.faces.specs.Rows.{port_places}
use Rattle.faces.specs.Select.{support_kind}
use Rattle.scene.specs.Kept.{link_of, row_by, kept_row, rows_below, kept_rows, kept_count}
use Rattle.faces.proofs.Transfers.{transfer_below}
use Rattle.scene.proofs.Links.{linked}

pub support_dropped : (rules : ℕ) (cs ps : List ℤ) (k : ℕ) → (connection ps k).kind ≡ support_kind → kept_row rules cs ps k ≡ []
support_dropped rules cs ps k e = go (link_of rules cs (connection ps k)) refl
  where
    go : (l : Option (ℕ × ℕ)) → link_of rules cs (connection ps k) ≡ l → row_by (connection ps k) l ≡ []
    go None h = refl
    go (Some (i, j)) h = absurd ((linked rules cs (connection ps k) i j h).unsupported e)

-- ---- a row

pub record KeptEnds (cs : List ℤ) (p : PortConnection) : Type 0 where
  pub source : has_component cs p.source ≡ true
  pub sink : has_component cs p.sink ≡ true
  pub source_port_of : p.source_port_of < port_places
  pub sink_port_of : p.sink_port_of < port_places
  pub transfer : p.transfer < support_transfer

-- ---- rows one after the other

-- two rows of the same numbers
same_row : (l m : List ℤ) (i j : ℕ) → ((f : ℕ) → f < 5 → at l (i * 5 + f) ≡ at m (j * 5 + f)) → port_connection l i ≡ port_connection m j
same_row l m i j e =
    let first : at l (i * 5) ≡ at m (j * 5) = rw (add-zero, add-zero) at (e 0 (omega arith)) in
    rw (first, e 1 (omega arith), e 2 (omega arith), e 3 (omega arith), e 4 (omega arith))

-- whole rows, each with its ends
record Each (cs rows : List ℤ) : Type 0 where
  whole : length rows % port_width ≡ 0
  each : (i : ℕ) → i < port_count rows → KeptEnds cs (port_connection rows i)

-- a row after them
module _ (cs rows row : List ℤ) (r : Each cs rows) (five : length row ≡ 5) (ends : KeptEnds cs (port_connection row 0)) where
  at_row : (i : ℕ) (t : Bool) → ltb i (length rows / 5) ≡ t → i < port_count (rows ++ row) → KeptEnds cs (port_connection (rows ++ row) i)
  at_row i true e h =
      let below = ltb-true i (length rows / 5) e in
      rw (same_row (rows ++ row) rows i i (λ f g. get_or-append rows row (pos 0) (i * 5 + f) (omega arith))) (r.each i below)
  at_row i false e h =
      let above = ltb-false i (length rows / 5) e in
      let long : length (rows ++ row) ≡ length rows + 5 = length-append rows row ∙ ap (λ (n : ℕ). length rows + n) five in
      let last : i * 5 ≡ length rows = omega (arith, r.whole) in
      rw (same_row (rows ++ row) row i 0 (λ f g. rw (last, zero-add) (get_or-append-add rows row f (pos 0)))) ends

  more : Each cs (rows ++ row)
  more = record {
    whole = omega (arith, length-append rows row, r.whole);
    each = λ i h. at_row i (ltb i (length rows / 5)) refl h;
  }

one_more : (rules : ℕ) (cs ps rows : List ℤ) (k : ℕ) → Each cs rows → (l : Option (ℕ × ℕ)) → link_of rules cs (connection ps k) ≡ l → Each cs (rows ++ map pos (row_by (connection ps k) l))
one_more rules cs ps rows k r None e = rw append-nil r
one_more rules cs ps rows k r (Some (i, j)) e =
    let p = connection ps k in
    let l = linked rules cs p i j e in
    more cs rows (map pos (row_by p (Some (i, j)))) r refl
    (record { source = l.source; sink = l.sink; source_port_of = l.source_port_of; sink_port_of = l.sink_port_of; transfer = transfer_below p.kind l.unsupported })

each_below : (rules : ℕ) (cs ps : List ℤ) (k : ℕ) → Each cs (map pos (rows_below rules cs ps k))
unfolding rows_below
each_below rules cs ps zero = record { whole = refl; each = λ i h. absurd (omega arith) }
each_below rules cs ps (suc k) = rw (map-append pos (rows_below rules cs ps k) (kept_row rules cs ps k)) (one_more rules cs ps _ k (each_below rules cs ps k) (link_of rules cs (connection ps k)) refl)

-- ---- all that is kept

module _ (rules : ℕ) (cs ps : List ℤ) where
  count_is : port_count (map pos (kept_rows rules cs ps)) ≡ kept_count rules cs ps
  count_is = ap (λ (n : ℕ). n / port_width) (length-map (kept_rows rules cs ps) pos)

  pub kept_ends : (i : ℕ) → i < kept_count rules cs ps → KeptEnds cs (port_connection (map pos (kept_rows rules cs ps)) i)
  kept_ends i h = (each_below rules cs ps (connection_count ps)).each i (rw count_is h)

  pub kept_whole : length (kept_rows rules cs ps) % port_width ≡ 0
  kept_whole = rw (length-map (kept_rows rules cs ps) pos) at (each_below rules cs ps (connection_count ps)).whole

  pub kept_no_missing : first_end_missing cs (map pos (kept_rows rules cs ps)) ≡ None
  unfolding first_end_missing
  kept_no_missing =
      let rows = map pos (kept_rows rules cs ps) in
      first_nothing (end_missing cs rows) 0 (port_count rows)
      (λ i a b.
      let ends = (each_below rules cs ps (connection_count ps)).each i (omega arith) in
      rw (ends.source, ends.sink, ne_eqb (port_connection rows i).transfer support_transfer (λ e. omega (arith, ends.transfer))))
