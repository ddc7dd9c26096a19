-- The rows of a device's ports, a port at a time, and the rows of a list of components, a component at a time.
--     ports_none, ports_more                 a port more
--     device_few, sources_few, kind_few, ..   how many rows a component has
--     rows_read, sources_read                the same rows by numbers that are equal
--     below_none, below_more, below_all      a component more
-- Assumes nothing.
use Rattle.std.specs.Prelude.{Option, Some, None}
use Rattle.std.specs.Option.{option_map}
use Rattle.std.specs.Bool.{then_some}
use Rattle.assessment.specs.declared.sources.SourceKind.{SourceKind}
use mathlib.Core.Path.{◌≡◌, refl, sym, ◌∙◌}
use mathlib.Core.Bool.{Bool, true, false, cond}
use mathlib.Core.List.{List, [], ◌∷◌, ◌++◌}
use Prim.Native.Nat.{ℕ, zero, suc, ◌+◌, ◌*◌, ◌≤◌, ◌<◌}
use native.Mathlib.Nat.{zero-add, add-mul, zero-mul, mul-suc}
use native.Mathlib.Numerals.{add-one}
use native.Mathlib.Omega.{arith}
use Rattle.std.proofs.lemmas.Grind.{common_steps}
use lib.ListN.{length, length-append}
use Rattle.lists.proofs.Search.{never}
use Rattle.signals.specs.Sources.{source_kind}
use Rattle.assessment.specs.Verdicts.{row_if, kind_row}
use Rattle.assessment.specs.Rows.{Put, Scanned, device_rows, first_required, count_by_kind, loses_input, required_count, rows_of, source_number, sources_of}
use Rattle.assessment.proofs.Written.{put_nothing, put_more}

-- ---- the ports of a device

-- the rows of the first k ports stand from place `at` on
pub record PortsPut (id first : ℕ) (status : ℕ → ℕ) (at : ℕ) (old new : List ℕ) (place k : ℕ) : Type 0 where
  pub put : Put (device_rows id first status k) at old new place
  pub long : length new ≡ length old
  pub full : place ≡ at + 3 * k

module _ (id first : ℕ) (status : ℕ → ℕ) (at : ℕ) (old : List ℕ) where
  pub ports_none : {k : ℕ} → k ≡ 0 → PortsPut id first status at old old at k
  unfolding device_rows
  ports_none e = rw e record { put = put_nothing old at; long = refl; full = omega arith }

  pub ports_more : {new newer : List ℕ} {place r k k' port v : ℕ} → at ≤ length old → PortsPut id first status at old new place k
      → port ≡ first + k → k' ≡ k + 1 → v ≡ status port
      → Put (id ∷ port ∷ v ∷ []) place new newer r → length newer ≡ length new → PortsPut id first status at old newer r k'
  unfolding device_rows
  ports_more {new} {newer} {place} {r} {k} {k'} {port} {v} h p i n e q same =
      rw (n, add-one k) record {
        put = put_more h p.put (rw (e, i) at q);
        long = same ∙ p.long;
        full = omega (arith, p.full, q.place);
      }

pub device_length : (id first : ℕ) (status : ℕ → ℕ) (k : ℕ) → length (device_rows id first status k) ≡ k * 3
unfolding device_rows
device_length id first status zero = refl
device_length id first status (suc k) = rw (length-append, device_length id first status k) (omega arith)

-- ---- how many rows

pub record Few (row : List ℕ) (width most : ℕ) : Type 0 where
  pub turns : ℕ
  pub whole : length row ≡ turns * width
  pub few : length row ≤ most

kind_most : (kind : ℕ) → count_by_kind kind ≤ 4
unfolding count_by_kind
kind_most kind = grind (arith, common_steps)

pub count_most : (rules kind facing : ℕ) → required_count rules kind facing ≤ 4
unfolding required_count
count_most rules kind facing = go (loses_input rules kind facing)
  where
    go : (t : Bool) → cond t 0 (count_by_kind kind) ≤ 4
    go true = omega arith
    go false = kind_most kind

pub first_most : (kind : ℕ) → first_required kind ≤ 4
unfolding first_required
first_most kind = grind (arith, common_steps)

pub device_few : (rules id kind facing first : ℕ) (status : ℕ → ℕ) → Few (device_rows id first status (required_count rules kind facing)) 3 12
device_few rules id kind facing first status =
    let n = required_count rules kind facing in
    let long = device_length id first status n in
    record { turns = n; whole = long; few = omega (arith, count_most rules kind facing) }

pub sources_few : (id : ℕ) (found : Option ℕ) (frontier inferred : Bool) → (inferred ≡ true → frontier ≡ false) → Few (sources_of id found frontier inferred) 2 4
sources_few id found true true alone = never (sym (alone refl))
sources_few id (Some k) true false alone = record { turns = 2; whole = refl; few = omega arith }
sources_few id (Some k) false true alone = record { turns = 2; whole = refl; few = omega arith }
sources_few id (Some k) false false alone = record { turns = 1; whole = refl; few = omega arith }
sources_few id None true false alone = record { turns = 1; whole = refl; few = omega arith }
sources_few id None false true alone = record { turns = 1; whole = refl; few = omega arith }
sources_few id None false false alone = record { turns = 0; whole = refl; few = omega arith }

pub kind_few : (id : ℕ) (found : Option ℕ) → length (kind_row id found) ≤ 2
kind_few id found = grind (arith, common_steps)

pub row_is : (test : Bool) (id : ℕ) (kind : SourceKind) → kind_row id (option_map source_number (then_some test kind)) ≡ row_if test id (source_number kind)
row_is test id kind = grind (arith, common_steps)

-- ---- numbers read from the list

pub rows_read : (rules id id' kind kind' facing facing' : ℕ) (status : ℕ → ℕ) → id ≡ id' → kind ≡ kind' → facing ≡ facing'
    → {at r : ℕ} {old new : List ℕ} → Put (rows_of rules id kind facing status) at old new r → Put (rows_of rules id' kind' facing' status) at old new r
rows_read rules id id' kind kind' facing facing' status e f g p = rw (← e, ← f, ← g) p

pub sources_read : (id id' kind kind' : ℕ) (frontier inferred : Bool) → id ≡ id' → kind ≡ kind'
    → {at r : ℕ} {old new : List ℕ} → Put (sources_of id (source_kind kind) frontier inferred) at old new r → Put (sources_of id' (source_kind kind') frontier inferred) at old new r
sources_read id id' kind kind' frontier inferred e f p = rw (← e, ← f) p

-- ---- one component after the other

-- the rows of the first p components stand at the front
pub record RowsPut (rows : ℕ → List ℕ) (width most n : ℕ) (old new : List ℕ) (at p : ℕ) : Type 0 where
  pub put : Put (rows p) 0 old new at
  pub long : length new ≡ length old
  pub turns : ℕ
  pub whole : length (rows p) ≡ turns * width
  pub few : length (rows p) ≤ most * p
  pub within : p ≤ n

module _ (rows row : ℕ → List ℕ) (width most n : ℕ) (old : List ℕ) where
  pub below_none : rows 0 ≡ [] → RowsPut rows width most n old old 0 0
  below_none e = record {
    put = rw e (put_nothing old 0);
    long = refl;
    turns = 0;
    whole = rw e (sym (zero-mul width));
    few = rw e (omega arith);
    within = omega arith;
  }

  pub below_more : {new newer : List ℕ} {at r p : ℕ} → ((k : ℕ) → rows (suc k) ≡ rows k ++ row k) → p < n → RowsPut rows width most n old new at p
      → Few (row p) width most → Put (row p) at new newer r → length newer ≡ length new → RowsPut rows width most n old newer r (p + 1)
  below_more {new} {newer} {at} {r} {p} step h i f q same =
      let long : length (rows p ++ row p) ≡ length (rows p) + length (row p) = length-append (rows p) (row p) in
      rw (add-one p) record {
        put = rw (step p) (put_more (omega arith) i.put q);
        long = same ∙ i.long;
        turns = i.turns + f.turns;
        whole = rw (step p, long, i.whole, f.whole) (sym (add-mul i.turns f.turns width));
        few = rw (step p, long, mul-suc most p) (omega (arith, i.few, f.few));
        within = omega arith;
      }

  pub below_all : {new : List ℕ} {at r p : ℕ} → n ≤ p → RowsPut rows width most n old new at p → r * width ≡ at → Scanned (rows n) width old new r
  below_all {new} {at} {r} {p} h i e =
      let all : n ≡ p = omega (arith, i.within) in
      rw all record {
        is = i.put.is ∙ rw zero-add;
        count = e ∙ i.put.place ∙ zero-add (length (rows p));
      }
