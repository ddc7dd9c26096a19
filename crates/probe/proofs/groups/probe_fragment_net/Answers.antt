-- `probe::groups::probe_fragment_net` meets its contract: below the limit by what the set holds, and from there on it holds nothing.
-- Assumes nothing.
use borrow.Author.Rules.{rules}
use borrow.Author.Tests.{ltb-true, ltb-false}
use native.Mathlib.Omega.{arith}
use mathlib.Core.Path.{◌≡◌, refl, ap, ◌∙◌}
use mathlib.Core.Bool.{Bool, true, false, ◌&&◌}
use mathlib.Core.List.{List}
use Prim.Native.Nat.{ℕ, ◌<◌}
use lib.Dec.{ltb}
use lib.ListN.{length}
use mir.Val.{bool_byte}
use Rattle.sets.specs.Members.{word_count, member_of}
use Rattle.sets.proofs.Words.{member_past}
use Rattle.lists.specs.Limits.{component_limit}
use Rattle.probe.specs.Numbers.{as_number}
use Rattle.probe.proofs.groups.probe_fragment_net.Goals as goal

held : (words : List ℕ) (shares : ℕ → Bool) (net : ℕ) → length words ≡ word_count
    → ((k : ℕ) → k < component_limit → member_of words k ≡ shares k) → member_of words net ≡ (ltb net component_limit && shares net)
held words shares net long same = go (ltb net component_limit) refl
  where
    go : (t : Bool) → ltb net component_limit ≡ t → member_of words net ≡ (t && shares net)
    go true e = same net (ltb-true net component_limit e)
    go false e = member_past words net (let past = ltb-false net component_limit e in omega arith)

as_one : (b : Bool) → bool_byte b ≡ as_number b
as_one true = refl
as_one false = refl

pub returns : goal.returns
returns c =
    let found = c.fragment_nets in
    c.from.ensures
    ∙ as_one c.contains.result
    ∙ ap as_number (c.contains.ensures ∙ held found.result.words _ _ (search rules) found.ensures)
