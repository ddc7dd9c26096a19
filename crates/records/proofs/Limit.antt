-- A list of port connections over the limit: whatever its numbers are, the entry's answer is the same.
--     too_long         such a list is refused at the limit, also where it is not whole records
--     analyzed_over    so the answer of one such list is that of any other
-- Assumes nothing.
use Rattle.lists.specs.declared.Fault.{Fault}
use Rattle.lists.specs.declared.Section.{Section}
use Rattle.std.specs.Prelude.{⊤, Some, None, Result, Ok, Err, IfOk}
use mathlib.Core.Path.{◌≡◌, refl, sym, ◌∙◌, ap}
use mathlib.Core.Bool.{Bool}
use mathlib.Core.List.{List}
use mathlib.Core.Logic.{⊎_elim}
use Prim.Native.Nat.{ℕ, ◌*◌, ◌/◌, ◌%◌, ◌≤◌, ◌<◌}
use native.Mathlib.Omega.{arith}
use borrow.Author.Tests.{lt-ltb, le-ltb, ne_eqb}
use lib.ListN.{length}
use lib.IntN.{ℤ}
use Rattle.tables.specs.Laws.{order?}
use Rattle.lists.specs.Limits.{component_limit, connection_limit, component_width, port_width}
use Rattle.checks.specs.Refusals.{refuse, ◌or_else◌, not_whole, strange_rules, scene_lists, liveness_lists, liveness_room}
use Rattle.lists.specs.declared.Refusal.{Refusal}
use Rattle.liveness.specs.Sets.{checked}
use Rattle.liveness.specs.Entry.{AnalyzedBy, Analyzed}
use Rattle.liveness.specs.declared.Analysis.{Analysis}
use Rattle.checks.proofs.Chain.{refused_not}

pub too_long : (n : ℕ) → connection_limit * port_width < n → not_whole port_width connection_limit n ≡ Some connection_limit
unfolding not_whole
too_long n h =
    ⊎_elim
    (λ (few : n / port_width ≤ connection_limit). rw (le-ltb connection_limit (n / port_width) few, ne_eqb (n % port_width) 0 (λ e. omega arith)) (ap Some (omega arith)))
    (λ (many : connection_limit < n / port_width). rw (lt-ltb connection_limit (n / port_width) many) (ap Some (omega arith)))
    (order? (n / port_width) connection_limit)

-- number 11, or 1 of the components or else of the connections, at the limit
abbrev too_many : ℕ → List ℤ → Result ⊤ Refusal
too_many rules cs =
    refuse Fault.UnknownRules None (strange_rules rules) or_else refuse Fault.ListLength (Some Section.Components) (not_whole component_width component_limit (length cs)) or_else Err (record { fault = Fault.ListLength; list = Some Section.Connections; item = connection_limit })

refused_over : (a b : Result ⊤ Refusal) (last : Refusal) → (r : Refusal) × (a or_else b or_else Err last ≡ Err r)
refused_over (Err refusal) b last = (refusal, refl)
refused_over (Ok one) (Err refusal) last = (refusal, refl)
refused_over (Ok one) (Ok two) last = (last, refl)

-- and no later check is made
none_later : (a b : Result ⊤ Refusal) (last : Refusal) (later : Result ⊤ Refusal)
    → (a or_else b or_else Err last) or_else later ≡ a or_else b or_else Err last
none_later (Err refusal) b last later = refl
none_later (Ok one) (Err refusal) last later = refl
none_later (Ok one) (Ok two) last later = refl

lists_over : (rules : ℕ) (cs ps fs : List ℤ) (enough : Bool) → connection_limit * port_width < length ps → liveness_lists rules cs ps fs enough ≡ too_many rules cs
unfolding liveness_lists scene_lists
lists_over rules cs ps fs enough h = rw (too_long (length ps) h) (none_later (refuse Fault.UnknownRules None (strange_rules rules)) (refuse Fault.ListLength (Some Section.Components) (not_whole component_width component_limit (length cs))) _ _)

none_found : {refused : Refusal} (P : Analysis → Type 0) (r : Result Analysis Refusal) → checked r ≡ Err refused → IfOk r P
none_found P (Ok analysis) e = absurd (refused_not (sym e))
none_found P (Err refusal) e = tt

module _ {rules : ℕ} {cs ps ps' fs : List ℤ} {regions regions' sources sources' inputs inputs' stack stack' : List ℕ} where
  -- a refusal says nothing of the connections
  refused_any : {checks checks' : Result ⊤ Refusal} {refused : Refusal} (r : Result Analysis Refusal) → checks ≡ Err refused → checks' ≡ Err refused
      → AnalyzedBy checks rules cs ps fs regions regions' sources sources' inputs inputs' stack stack' r
      → AnalyzedBy checks' rules cs ps' fs regions regions' sources sources' inputs inputs' stack stack' r
  refused_any (Ok analysis) e f a = absurd (refused_not (sym (a.answer ∙ e)))
  refused_any (Err refusal) e f a =
      let b = rw e at a in
      rw f record {
        answer = b.answer;
        numbers = b.numbers;
        analysis = tt;
        regions_left = b.regions_left;
        sources_left = b.sources_left;
        inputs_left = b.inputs_left;
        stack_left = b.stack_left;
      }

  pub analyzed_over : {r : Result Analysis Refusal} → connection_limit * port_width < length ps → connection_limit * port_width < length ps'
      → Analyzed rules cs ps fs regions regions' sources sources' inputs inputs' stack stack' r → Analyzed rules cs ps' fs regions regions' sources sources' inputs inputs' stack stack' r
  analyzed_over {r} h h' a =
      let enough = liveness_room cs (length regions) (length sources) (length inputs) (length stack) in
      let (refused, e) = refused_over (refuse Fault.UnknownRules None (strange_rules rules)) (refuse Fault.ListLength (Some Section.Components) (not_whole component_width component_limit (length cs))) (record { fault = Fault.ListLength; list = Some Section.Connections; item = connection_limit }) in
      let was = lists_over rules cs ps fs enough h ∙ e in
      record {
        by = refused_any r was (lists_over rules cs ps' fs enough h' ∙ e) a.by;
        demand = none_found _ r (a.by.answer ∙ was);
        driven = none_found _ r (a.by.answer ∙ was);
        possible = none_found _ r (a.by.answer ∙ was);
      }
