-- `lists::ids::used_earlier` meets its contract: the first place of the id is an earlier one or not.
-- Assumes nothing.
use Rattle.std.specs.Prelude.{Option, Some, None, MatchOption}
use Rattle.std.proofs.Common.{rules}
use mathlib.Core.Bool.{Bool, false}
use mathlib.Core.List.{List}
use lib.IntN.{ℤ}
use lib.Dec.{ltb}
use mathlib.Core.Path.{◌≡◌, sym, ap, ◌∙◌}
use Prim.Native.Nat.{ℕ, ◌<◌}
use Rattle.lists.specs.Records.{component, component_count}
use Rattle.lists.specs.Ids.{place_of, used_earlier}
use Rattle.lists.proofs.Table.{used_found, used_none}
use Rattle.lists.proofs.ids.used_earlier.Goals as goal
use Rattle.lists.proofs.ids.used_earlier.Goals.{After-place_of, Start}

-- what the lookup says of the id
looked : (c : After-place_of)
    → c.place_of.result ≡ place_of c.args.components.numbers.now (component c.args.components.numbers.now c.args.k).id
looked c =
    c.place_of.ensures c.args.components.numbers.now c.requires.1 ∙ ap (place_of c.args.components.numbers.now) c.id.ensures.0

-- what is said of a place, whatever the lookup gives
by_place : (cs : List ℤ) (k : ℕ) → k < component_count cs → (found : Option ℕ) → found ≡ place_of cs (component cs k).id → (r : Bool)
    → MatchOption found (r ≡ false) (λ p. r ≡ ltb p k) → r ≡ used_earlier cs k
by_place cs k h (Some p) e r is = is ∙ sym (used_found cs k h p (sym e))
by_place cs k h None e r is = is ∙ sym (used_none cs k h (sym e))

pub returns : goal.returns
returns c =
    by_place c.args.components.numbers.now c.args.k c.requires.0 c.place_of.result (looked (goal.at.returns c).After-place_of) c.is_some_and.result (search rules)
