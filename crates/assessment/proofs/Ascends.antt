-- The source rows ascend.
--     SmallKind, kind_small      a source kind of a block is 0 or 1
--     sources_ascend             by position, id and kind
-- Assumes nothing.
use Rattle.std.specs.Prelude.{Option, Some, None}
use mathlib.Core.Path.{◌≡◌, refl, sym, ap, subst, ◌∙◌}
use mathlib.Core.Bool.{Bool, true, false}
use mathlib.Core.Logic.{⊎_elim, inl, inr}
use mathlib.Core.List.{List, [], ◌∷◌, ◌++◌, append_assoc, append-nil}
use Prim.Native.Nat.{ℕ, zero, suc, ◌+◌, ◌*◌, ◌≤◌, ◌<◌}
use native.Mathlib.Omega.{arith}
use lib.IntN.{ℤ}
use Rattle.lists.specs.Limits.{component_width}
use Rattle.lists.specs.Signed.{at}
use Rattle.lists.specs.Records.{component, component_count}
use Rattle.lists.specs.Order.{record_before, first_not_ascending, component_order}
use Rattle.lists.proofs.Search.{never}
use Rattle.lists.proofs.Ordering.{then_step, ascending_at}
use Rattle.signals.specs.Sources.{source_kind, is_on_frontier}
use Rattle.signals.specs.Regions.{is_inferred}
use Rattle.assessment.specs.Verdicts.{row_if, kind_row, sources_at, source_rows_below, source_rows}
use Rattle.assessment.specs.Ascending.{MayFollow, Rises, none, row, SourcesAscend}

before_step : (fields : List ℕ) (list : List ℤ) (a b c : ℕ) → record_before fields list a b ≡ true → record_before fields list b c ≡ true
    → record_before fields list a c ≡ true
unfolding record_before
before_step [] list a b c e f = never e
before_step (x ∷ fields) list a b c e f =
    then_step (at list (a + x)) (at list (b + x)) (at list (c + x)) (record_before fields list a b) (record_before fields list b c)
    (record_before fields list a c) (before_step fields list a b c) e f

-- a source kind of a block is 0 or 1
abbrev pub SmallKind : Option ℕ → Type 0
SmallKind (Some kind) = kind < 2
SmallKind None = Unit

pub kind_small : (kind : ℕ) → SmallKind (source_kind kind)
unfolding source_kind
kind_small zero = tt
kind_small (suc zero) = tt
kind_small (suc (suc zero)) = tt
kind_small (suc (suc (suc zero))) = omega arith
kind_small (suc (suc (suc (suc zero)))) = omega arith
kind_small (suc (suc (suc (suc (suc zero))))) = omega arith
kind_small (suc (suc (suc (suc (suc (suc zero)))))) = omega arith
kind_small (suc (suc (suc (suc (suc (suc (suc zero))))))) = omega arith
kind_small (suc (suc (suc (suc (suc (suc (suc (suc kind)))))))) = tt

module _ (rules : ℕ) (cs ps fs : List ℤ) (ascending : first_not_ascending component_order component_width cs ≡ None) where
  -- rows that may stand behind every row that one of component q and the kind may follow
  Behind : ℕ → ℕ → List ℕ → Type 0
  Behind q kind rows = (last : Option (ℕ × ℕ)) → MayFollow cs last q kind → Rises cs last rows

  greater : (last : Option (ℕ × ℕ)) (q : ℕ) {kind kind' : ℕ} → kind ≤ kind' → MayFollow cs last q kind → MayFollow cs last q kind'
  greater None q h f = tt
  greater (Some (p, earlier)) q h f = ⊎_elim inl (λ e. inr (e.0, omega (arith, e.1))) f

  -- behind all rows of one component those of the next
  onward : (last : Option (ℕ × ℕ)) (q kind : ℕ) → suc q < component_count cs → MayFollow cs last q kind → MayFollow cs last (suc q) 0
  onward None q kind h f = tt
  onward (Some (p, earlier)) q kind h f =
      let next = ascending_at component_order component_width cs ascending q h in
      inl (⊎_elim
      (λ e. before_step component_order cs (p * component_width) (q * component_width) (suc q * component_width) e next)
      (λ e. subst (λ (x : ℕ). record_before component_order cs (x * component_width) (suc q * component_width) ≡ true) (sym e.0) next)
      f)

  module _ (q : ℕ) (h : q < component_count cs) where
    optional : (test : Bool) (kind : ℕ) (rows : List ℕ) → Behind q (suc kind) rows → Behind q kind (row_if test (component cs q).id kind ++ rows)
    unfolding Behind
    optional true kind rows rest last f = row q kind h f (rest (Some (q, kind)) (inr (refl, omega arith)))
    optional false kind rows rest last f = rest last (greater last q (omega arith) f)

    of_kind : (found : Option ℕ) → SmallKind found → (rows : List ℕ) → Behind q 2 rows → Behind q 0 (kind_row (component cs q).id found ++ rows)
    unfolding Behind
    of_kind (Some kind) small rows rest last f = row q kind h (greater last q (omega arith) f) (rest (Some (q, kind)) (inr (refl, small)))
    of_kind None small rows rest last f = rest last (greater last q (omega arith) f)

    rows_at : (rows : List ℕ) → Behind q 4 rows → Behind q 0 (sources_at rules cs ps fs q ++ rows)
    unfolding sources_at
    rows_at rows rest =
        let id = (component cs q).id in
        let kinds = kind_row id (source_kind (component cs q).kind) in
        let frontier = row_if (is_on_frontier cs fs q) id 2 in
        let inferred = row_if (is_inferred rules cs ps fs q) id 3 in
        subst (Behind q 0) (sym (append_assoc kinds (frontier ++ inferred) rows ∙ ap (λ (l : List ℕ). kinds ++ l) (append_assoc frontier inferred rows)))
        (of_kind (source_kind (component cs q).kind) (kind_small (component cs q).kind)
        (frontier ++ (inferred ++ rows)) (optional (is_on_frontier cs fs q) 2 (inferred ++ rows) (optional (is_inferred rules cs ps fs q) 3 rows rest)))

  -- ---- all rows, from the first on

  rows_from : ℕ → ℕ → List ℕ
  rows_from q zero = []
  rows_from q (suc k) = sources_at rules cs ps fs q ++ rows_from (suc q) k

  rows_same : (q k m : ℕ) → q + k ≡ m → source_rows_below rules cs ps fs q ++ rows_from q k ≡ source_rows_below rules cs ps fs m
  unfolding rows_from source_rows_below
  rows_same q zero m e = let same : q ≡ m = omega arith in append-nil (source_rows_below rules cs ps fs q) ∙ ap (source_rows_below rules cs ps fs) same
  rows_same q (suc k) m e =
      sym (append_assoc (source_rows_below rules cs ps fs q) (sources_at rules cs ps fs q) (rows_from (suc q) k)) ∙ rows_same (suc q) k m (omega arith)

  from_behind : (q k : ℕ) → q + k ≡ component_count cs → Behind q 0 (rows_from q k)
  unfolding rows_from Behind
  from_behind q zero e last f = none
  from_behind q (suc zero) e last f = rows_at q (omega arith) [] (λ l g. none) last f
  from_behind q (suc (suc k)) e last f =
      rows_at q (omega arith) (rows_from (suc q) (suc k)) (λ l g. from_behind (suc q) (suc k) (omega arith) l (onward l q 4 (omega arith) g)) last f

  all_rise : Rises cs None (source_rows rules cs ps fs)
  unfolding source_rows_below Behind
  all_rise = subst (Rises cs None) (rows_same 0 (component_count cs) (component_count cs) (omega arith)) (from_behind 0 (component_count cs) (omega arith) None tt)

pub sources_ascend : SourcesAscend
sources_ascend rules cs ps fs ascending = all_rise rules cs ps fs ascending
