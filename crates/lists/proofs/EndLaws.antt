-- The ends of port connections.
--     none              the ends that a list has past its last
--     source_of, sink_of, sources_length, sinks_length     the lists of sources and sinks, by the list of ends
--     source_at         settled sources, by the connections' first fields
--     member_stands     a component has an id where the key at the id's member says so
--     member_past       and none where there is no key
-- Assumes nothing.
use Rattle.std.specs.Prelude.{Option, Some, None}
use mathlib.Core.Path.{◌≡◌, refl, sym, ap, ◌∙◌, subst}
use mathlib.Core.Bool.{Bool}
use mathlib.Core.Logic.{⊎_elim}
use mathlib.Core.List.{List}
use Prim.Native.Nat.{ℕ, ◌*◌, ◌/◌, ◌≤◌, ◌<◌}
use native.Mathlib.Nat.{add-zero}
use native.Mathlib.Omega.{arith}
use lib.Dec.{eqb, leb, ltb}
use lib.ListN.{length, get_or, get_or-map, length-map}
use lib.IntN.{ℤ}
use borrow.Author.Tests.{leb-true, leb-false, eq-eqb, ne_eqb, le-ltb}
use Rattle.tables.specs.Order.{LowerBound}
use Rattle.tables.specs.Laws.{same?}
use Rattle.tables.specs.Pairs.{span}
use Rattle.lists.specs.Limits.{port_width}
use Rattle.lists.specs.Records.{natural_at, port_count}
use Rattle.lists.specs.First.{first_from, is_found}
use Rattle.lists.specs.Ids.{has_component, IdTable, smaller_ids}
use Rattle.lists.specs.declared.ends.Ends.{Ends}
use Rattle.lists.specs.Ends.{SettledEnds, sources_of, sinks_of}
use Rattle.lists.proofs.Search.{found_at, none_found}
use Rattle.lists.proofs.Table.{place_found, place_none}
use Rattle.lists.proofs.Members.{smaller_at}

abbrev pub none : Ends
none = record { source = 0; sink = 0 }

pub source_of : (ends : List Ends) (k : ℕ) → get_or (sources_of ends) k 0 ≡ (get_or ends k none).source
source_of ends k = get_or-map (λ (e : Ends). e.source) ends k none

pub sink_of : (ends : List Ends) (k : ℕ) → get_or (sinks_of ends) k 0 ≡ (get_or ends k none).sink
sink_of ends k = get_or-map (λ (e : Ends). e.sink) ends k none

pub sources_length : (ends : List Ends) → length (sources_of ends) ≡ length ends
sources_length ends = length-map ends (λ (e : Ends). e.source)

pub sinks_length : (ends : List Ends) → length (sinks_of ends) ≡ length ends
sinks_length ends = length-map ends (λ (e : Ends). e.sink)

pub source_at : {cs ps : List ℤ} {sources sinks : List ℕ} → SettledEnds cs ps sources sinks → (k : ℕ) → k < port_count ps
    → get_or sources k 0 ≡ smaller_ids cs (natural_at ps (k * port_width))
source_at e k h = rw add-zero at (e.source_members.at k h)

-- ---- the member of an id

-- a list has a lower bound of each number
lower_bound : (keys : List ℕ) (v : ℕ) → (r : ℕ) × LowerBound keys v r
lower_bound keys v = go (first_from test 0 (length keys)) refl
  where
    test : ℕ → Bool
    test i = leb v (get_or keys i 0)

    go : (f : Option ℕ) → first_from test 0 (length keys) ≡ f → (r : ℕ) × LowerBound keys v r
    go (Some i) e =
        let f = found_at test 0 (length keys) i e in (
          i,
          record {
            within = omega (arith, f.below);
            before = λ o k l. leb-false v (get_or keys k 0) (f.first k (omega arith) l);
            from = λ o k l h. omega (arith, leb-true v (get_or keys i 0) f.passes, o.at i k l h);
          },
        )
    go None e = (
      length keys,
      record {
        within = omega arith;
        before = λ o k l. leb-false v (get_or keys k 0) (none_found test 0 (length keys) e k (omega arith) (omega arith));
        from = λ o k l h. absurd (omega arith);
      },
    )

module _ {cs : List ℤ} {keys : List ℕ} (t : IdTable cs keys) (m id : ℕ) (e : m ≡ smaller_ids cs id) where
  -- it is the lower bound of the id
  member_bound : LowerBound keys (id * span) m
  member_bound =
      let b = lower_bound keys (id * span) in
      subst (LowerBound keys (id * span)) (smaller_at t id b.1 ∙ sym e) b.1

  -- and the key there says whether a component has the id
  pub member_stands : m < length keys → eqb (get_or keys m 0 / span) id ≡ has_component cs id
  member_stands h =
      ⊎_elim
      (λ (same : get_or keys m 0 / span ≡ id). eq-eqb _ id same ∙ ap is_found (place_found cs t id member_bound h same))
      (λ differ. ne_eqb _ id differ ∙ ap is_found (place_none cs t id member_bound (λ _. differ)))
      (same? (get_or keys m 0 / span) id)

  -- past the table there is none
  pub member_past : length keys ≤ m → ltb m (length keys) ≡ has_component cs id
  member_past h = le-ltb _ _ h ∙ ap is_found (place_none cs t id member_bound (λ l. absurd (omega arith)))
