-- Answers for the goals that the search leaves.
use Rattle.std.specs.Prelude.{None}
use mathlib.Core.Path.{◌≡◌, sym, ap, ◌∙◌}
use mathlib.Core.Logic.{⊎_elim}
use mathlib.Core.List.{List}
use Prim.Native.Nat.{ℕ, ◌+◌, ◌≤◌, ◌<◌}
use native.Mathlib.Nat.{eq-or-lt_of_le}
use native.Mathlib.Omega.{arith}
use lib.IntN.{ℤ}
use lib.ListN.{length, get_or, set}
use lib.Seq.{get_or-set_same, get_or-set_other}
use Rattle.tables.specs.Laws.{same?}
use Rattle.lists.specs.Records.{component_count}
use Rattle.lists.specs.Ids.{member_of, first_repeated}
use Rattle.lists.proofs.Table.{table_long}
use Rattle.lists.proofs.Members.{member_below, member_inj}
use Rattle.signals.proofs.stages.place_members.Goals as goal

-- a further member at its component's place
placed : (cs : List ℤ) (members : List ℕ) (m r : ℕ) → first_repeated cs ≡ None → r < component_count cs → member_of cs r ≡ m → r < length members
    → ((p : ℕ) → p < component_count cs → member_of cs p < m → get_or members p 0 ≡ member_of cs p)
    → (p : ℕ) → p < component_count cs → member_of cs p < m + 1 → get_or (set members r m) p 0 ≡ member_of cs p
placed cs members m r once below is room before p h l =
    ⊎_elim
    (λ (e : p ≡ r). ap (λ (q : ℕ). get_or (set members r m) q 0) e ∙ get_or-set_same members r m 0 room ∙ sym (ap (member_of cs) e ∙ is))
    (λ n. get_or-set_other members r p m 0 n ∙ before p h (⊎_elim
    (λ (e : member_of cs p ≡ m). absurd (n (member_inj cs once p r h below (e ∙ sym is))))
    (λ less. less)
    (eq-or-lt_of_le (let w : member_of cs p ≤ m = omega arith in w))))
    (same? p r)

-- there is room for the member of a turn
pub bounds-members-place_at : goal.bounds-members-place_at
bounds-members-place_at c =
    let (cs, t) = c.requires.0 in
    omega (arith, (c.place_at.ensures cs t).below, table_long t)

pub loop-m-preserved : goal.loop-m-preserved
loop-m-preserved c cs t once =
    let l = c.loop-m in
    let place = c.place_at.ensures cs t in
    placed cs l.members l.m c.place_at.result once place.below (place.member once) (omega (arith, place.below, table_long t)) (l.invariant cs t once)

pub returns : goal.returns
returns c cs t once =
    record {
      long = omega (arith, table_long t);
      at = λ p h. c.loop-m.invariant cs t once p h (omega (arith, member_below cs p h, table_long t));
    }
