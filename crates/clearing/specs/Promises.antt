-- What the request promises: the cleared scene is accepted, clearing it again drops nothing, and nothing is lost.
--     ClearedScene      of a cleared list
--     Partition         kept and dropped together are the given list, each item once, and what was not at fault is unchanged
-- The theorems are in proofs/Promises.antt; `Clears` promises `ClearedScene` of every call.
-- Assumes nothing: these are definitions.
use Rattle.std.specs.Prelude.{◌≡◌, None, ℕ, ◌+◌, ◌<◌, ◌∷◌, ◌++◌, ◌&&◌, suc, Bool, not, List, [], length, get_or, eqb, ltb, ℤ}
use Rattle.std.specs.List.{count_by}
use Rattle.sets.specs.Members.{as_nat}
use Rattle.lists.specs.declared.Fault.{Fault}
use Rattle.lists.specs.Records.{port_connection, port_count}
use Rattle.lists.specs.Ids.{support_transfer, end_missing}
use Rattle.checks.specs.Refusals.{refuse, too_short, liveness_lists}
use Rattle.clearing.specs.Parts.{kept_items, dropped_items, kept_rows}

pub record ClearedScene (rules : ℕ) (cs ps fs : List ℤ) : Type 0 where
  -- "the cleared scene is accepted": of the liveness entry's numbers only 2 is left, for slices that are lent to it too short
  pub accepted : (enough : Bool) → liveness_lists rules cs ps fs enough ≡ refuse Fault.ShortSlice None (too_short enough)
  -- "the tool run again drops nothing", and gives the same list
  pub again_dropped : dropped_items cs ps ≡ []
  pub again_kept : kept_rows cs ps ≡ ps

-- two lists that rise and hold together the items 0, 1, .., n - 1, each once
pub data Interleaved : List ℕ → List ℕ → ℕ → Type 0 where
  none : Interleaved [] [] 0
  left : {a b : List ℕ} {n : ℕ} → Interleaved a b n → Interleaved (a ++ (n ∷ [])) b (suc n)
  right : {a b : List ℕ} {n : ℕ} → Interleaved a b n → Interleaved a (b ++ (n ∷ [])) (suc n)

-- how often an item stands in a list
abbrev pub times : ℕ → List ℕ → ℕ
times k items = count_by (eqb k) items

pub record Partition (cs ps : List ℤ) : Type 0 where
  pub items : Interleaved (kept_items cs ps) (dropped_items cs ps) (port_count ps)
  -- each item stands in the list that it belongs to, once, and no other number stands in either
  pub kept_once : (k : ℕ) → times k (kept_items cs ps) ≡ as_nat (ltb k (port_count ps) && not (end_missing cs ps k))
  pub dropped_once : (k : ℕ) → times k (dropped_items cs ps) ≡ as_nat (ltb k (port_count ps) && end_missing cs ps k)
  -- so once in the two together, and a support connection in the kept one, whatever its ends
  pub once : (k : ℕ) → times k (kept_items cs ps) + times k (dropped_items cs ps) ≡ as_nat (ltb k (port_count ps))
  pub support_stays : (k : ℕ) → k < port_count ps → (port_connection ps k).transfer ≡ support_transfer → times k (kept_items cs ps) ≡ 1
  -- port connection i of the kept list is the one whose item is kept there, unchanged
  pub kept_count : port_count (kept_rows cs ps) ≡ length (kept_items cs ps)
  pub unchanged : (i : ℕ) → i < length (kept_items cs ps)
      → port_connection (kept_rows cs ps) i ≡ port_connection ps (get_or (kept_items cs ps) i 0)
