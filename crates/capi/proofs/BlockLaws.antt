-- The ports of a block as rows.
--     Rowed, none_rowed, one_rowed, all_rowed     rows written one after the other
--     rows_back                                   the rows of the places are those of the ports
--     alone                                       the checks of a plot of one block
-- Assumes nothing.
use Rattle.std.specs.Prelude.{⊤, Option, Some, None, Result, Ok, Err}
use mathlib.Core.Path.{◌≡◌, refl, sym, ap, ◌∙◌}
use mathlib.Core.Bool.{Bool}
use mathlib.Core.List.{List, [], ◌∷◌, ◌++◌, map, append_assoc, append-nil}
use Prim.Native.Nat.{ℕ, zero, suc, ◌+◌, ◌*◌}
use native.Mathlib.Numerals.{add-one}
use native.Mathlib.Omega.{arith}
use lib.ListN.{length, get_or, take, drop, replicate, length-append}
use lib.Seq.{drop-drop, take_at, drop_at}
use lib.IntN.{ℤ}
use borrow.Rule.Slice.PartMut.{put_mid}
use Rattle.std.specs.List.{flat_map}
use Rattle.lists.specs.declared.Fault.{Fault}
use Rattle.lists.specs.declared.Section.{Section}
use Rattle.lists.specs.declared.Refusal.{Refusal}
use Rattle.lists.specs.First.{first_from}
use Rattle.lists.specs.Ranges.{first_out_of_range, component_low, component_high}
use Rattle.lists.specs.Order.{first_not_ascending}
use Rattle.lists.specs.Ids.{place_below, first_repeated}
use Rattle.lists.specs.Slices.{laid}
use Rattle.checks.specs.Refusals.{refuse, ◌or_else◌, not_whole, strange_rules, too_short, scene_lists, grouping_lists}
use Rattle.faces.specs.Ports.{Port}
use Rattle.faces.specs.Rows.{row_of, unused_row, rows_of, places_of}
use Rattle.capi.specs.BlockPorts.{place_row, row_width, block_record}

-- ---- rows one after the other

unfoldable pub rows_to : List (Option Port) → ℕ → List ℕ
rows_to places zero = []
rows_to places (suc i) = rows_to places i ++ place_row (get_or places i None)

row_long : (place : Option Port) → length (place_row place) ≡ row_width
row_long (Some p) = refl
row_long None = refl

rows_long : (places : List (Option Port)) (i : ℕ) → length (rows_to places i) ≡ i * row_width
unfolding rows_to
rows_long places zero = refl
rows_long places (suc i) =
    omega (arith, length-append (rows_to places i) (place_row (get_or places i None)), rows_long places i, row_long (get_or places i None))

-- the rows of the places below i
pub record Rowed (places : List (Option Port)) (old out : List ℕ) (i : ℕ) : Type 0 where
  pub rows : out ≡ laid (rows_to places i) old

pub none_rowed : (places : List (Option Port)) (old : List ℕ) → Rowed places old old 0
unfolding rows_to
none_rowed places old = record { rows = refl }

put_row : (rows row old : List ℕ) (a : ℕ) → length rows ≡ a → length row ≡ row_width → put_mid a row_width (laid rows old) row ≡ laid (rows ++ row) old
put_row rows row old a e n =
    let front : take a (laid rows old) ≡ rows = take_at rows (drop (length rows) old) a e in
    let rest : drop a (laid rows old) ≡ drop (length rows) old = drop_at rows (drop (length rows) old) a e in
    rw (front, rest, drop-drop, length-append, append_assoc, n)

pub one_rowed : (places : List (Option Port)) (old out part : List ℕ) (i k : ℕ) → k ≡ row_width → Rowed places old out i
    → part ≡ place_row (get_or places i None) → Rowed places old (put_mid (i * row_width) k out part) (i + 1)
unfolding rows_to
one_rowed places old out part i k three h e =
    record {
      rows = rw (add-one i, three, e, h.rows)
          (put_row (rows_to places i) (place_row (get_or places i None)) old (i * row_width) (rows_long places i) (row_long _));
    }

later : (p : Option Port) (places : List (Option Port)) (i : ℕ) → rows_to (p ∷ places) (suc i) ≡ place_row p ++ rows_to places i
unfolding rows_to
later p places zero = sym (append-nil (place_row p))
later p places (suc i) =
    ap (λ (l : List ℕ). l ++ place_row (get_or places i None)) (later p places i)
    ∙ append_assoc (place_row p) (rows_to places i) (place_row (get_or places i None))

all_to : (places : List (Option Port)) → rows_to places (length places) ≡ flat_map place_row places
unfolding rows_to
all_to [] = refl
all_to (p ∷ places) = later p places (length places) ∙ ap (λ (l : List ℕ). place_row p ++ l) (all_to places)

pub all_rowed : (places : List (Option Port)) (old out : List ℕ) (i : ℕ) → length places ≡ i → Rowed places old out i → out ≡ laid (flat_map place_row places) old
all_rowed places old out i e h = h.rows ∙ ap (λ (l : List ℕ). laid l old) (ap (rows_to places) (sym e) ∙ all_to places)

-- ---- places and ports

unused : (n : ℕ) → flat_map place_row (replicate n None) ≡ flat_map (λ (row : List ℕ). row) (replicate n unused_row)
unused zero = refl
unused (suc n) = ap (λ (l : List ℕ). unused_row ++ l) (unused n)

rows_with : (ports : List Port) (n : ℕ)
    → flat_map place_row (map Some ports ++ replicate n None) ≡ flat_map (λ (row : List ℕ). row) (map row_of ports ++ replicate n unused_row)
rows_with [] n = unused n
rows_with (p ∷ ports) n = ap (λ (l : List ℕ). row_of p ++ l) (rows_with ports n)

pub rows_back : (ports : List Port) → flat_map place_row (places_of ports) ≡ flat_map (λ (row : List ℕ). row) (rows_of ports)
rows_back ports = rows_with ports _

-- ---- one block alone

abbrev passed : Result ⊤ Refusal
passed = Ok tt

chain : (a b c : Result ⊤ Refusal)
    → (a or_else passed or_else passed or_else passed or_else b or_else c or_else passed or_else passed or_else passed or_else passed) or_else passed
    ≡ a or_else b or_else c
chain (Err r) b c = refl
chain (Ok u) (Err r) c = refl
chain (Ok u) (Ok v) (Err r) = refl
chain (Ok u) (Ok v) (Ok w) = refl

pub alone : (rules : ℕ) (kind facing support conducts : ℤ) (enough : Bool) → let block = block_record kind facing support conducts in
    grouping_lists rules block [] [] enough
    ≡ refuse Fault.UnknownRules None (strange_rules rules) or_else refuse Fault.ShortSlice None (too_short enough)
    or_else refuse Fault.OutOfRange (Some Section.Components) (first_out_of_range component_low component_high block)
unfolding first_from first_out_of_range first_not_ascending place_below first_repeated not_whole scene_lists grouping_lists
alone rules kind facing support conducts enough =
    let block = block_record kind facing support conducts in
    chain (refuse Fault.UnknownRules None (strange_rules rules)) (refuse Fault.ShortSlice None (too_short enough))
    (refuse Fault.OutOfRange (Some Section.Components) (first_out_of_range component_low component_high block))
