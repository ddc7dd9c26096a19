-- The laws of a join: `joins`.
-- Assumes nothing.
use Rattle.std.specs.Prelude.{⊤, Result, Ok, Err, Option, Some, None}
use Prim.Native.Nat.{ℕ}
use mathlib.Core.Path.{◌≡◌, refl, sym, ap, ◌∙◌, subst}
use mathlib.Core.Bool.{Bool, true, false, cond}
use mathlib.Core.List.{List}
use lib.Dec.{eqb}
use borrow.Author.Tests.{eqb-true}
use Rattle.lists.specs.declared.Fault.{Fault}
use Rattle.lists.specs.declared.Refusal.{Refusal}
use Rattle.checks.specs.Refusals.{refuse}
use Rattle.checks.proofs.Chain.{both_accept, refused_not}
use Rattle.checks.proofs.Accepts.{refuse_none}
use Rattle.forms.specs.Sheet.{Parsed, Sheet, Faulty}
use Rattle.forms.specs.declared.Style.{Style}
use Rattle.sheet.specs.Entry.{style_of, rules_of, components_of, connections_of, frontiers_of, sheet_checked}
use Rattle.sheet.specs.Written.{fits}
use Rattle.joining.specs.Plot.{Plot, plot_of, Valid, refusal_of, joined, join_refusal}
use Rattle.joining.proofs.Laws.{join_accepted, join_self, join_none, none_join}
use Rattle.join.specs.Entry.{parsed_by, plot_said, plot_text, joined_text, first_checked, other_rules, both_checked, in_sheet, ◌or_next◌, join_checked}
use Rattle.join.specs.Laws.{Says, Joins}
use Rattle.join.specs.declared.JoinRefusal.{JoinRefusal}
use Rattle.join.proofs.Written.{valid_reads}

-- ---- an accepted join

in_accept : (n : ℕ) (c : Result ⊤ Refusal) → in_sheet n c ≡ Ok tt → c ≡ Ok tt
in_accept n (Ok tt) e = refl
in_accept n (Err r) e = cc

next_accept : (a b : Result ⊤ JoinRefusal) → a or_next b ≡ Ok tt → (a ≡ Ok tt) × (b ≡ Ok tt)
next_accept (Ok tt) b e = (refl, e)
next_accept (Err r) b e = cc

-- a sheet that was read
said : (p : Parsed) (a b c : ℕ) → sheet_checked p a b c ≡ Ok tt → p ≡ Sheet (style_of p) (rules_of p) (components_of p) (connections_of p) (frontiers_of p)
said (Sheet style rules cs ps fs) a b c e = refl
said (Faulty r) a b c e = absurd (refused_not e)

same_rules : (m n : ℕ) → other_rules m n ≡ None → m ≡ n
same_rules m n e = go (eqb m n) refl e
  where
    go : (t : Bool) → eqb m n ≡ t → ◌≡◌ {A = Option ℕ} (cond t None (Some 0)) None → m ≡ n
    go true f e = eqb-true m n f
    go false f e = cc

accept : (first second : List ℕ) (a b c room : ℕ) → join_checked (parsed_by first) (parsed_by second) a b c room ≡ Ok tt
    → Says first second (joined_text (parsed_by first) (parsed_by second))
accept first second a b c room e =
    let p = parsed_by first in
    let q = parsed_by second in
    let one = next_accept (in_sheet 1 (first_checked p a b c)) _ e in
    let two = next_accept (in_sheet 2 _) (in_sheet 0 (both_checked (rules_of p) (plot_said p) (rules_of q) (plot_said q) room)) one.1 in
    let mine = both_accept (sheet_checked p a b c) (refusal_of (rules_of p) (plot_said p)) (in_accept 1 _ one.0) in
    let theirs = both_accept _ (refusal_of (rules_of q) (plot_said q)) (in_accept 2 _ two.0) in
    let both = both_accept (refuse Fault.OtherRules None (other_rules (rules_of p) (rules_of q))) _ (in_accept 0 _ two.1) in
    let rest = both_accept (join_refusal (rules_of p) (plot_said p) (plot_said q)) (fits (joined_text p q) room) both.1 in
    let rules : rules_of p ≡ rules_of q = same_rules (rules_of p) (rules_of q) (refuse_none Fault.OtherRules None _ both.0) in
    let vp : Valid (rules_of p) (plot_said p) = record { accepted = mine.1 } in
    let vq : Valid (rules_of p) (plot_said q) = subst (λ (k : ℕ). Valid k (plot_said q)) (sym rules) (record { accepted = theirs.1 }) in
    let j = join_accepted (rules_of p) (plot_said p) (plot_said q) vp vq rest.0 in
    record {
      rules = rules_of p;
      one = plot_said p;
      one_style = style_of p;
      from_first = said p a b c mine.0;
      first_valid = vp;
      two = plot_said q;
      two_style = style_of q;
      from_second = subst (λ (k : ℕ). q ≡ Sheet (style_of q) k (components_of q) (connections_of q) (frontiers_of q)) (sym rules) (said q _ _ _ theirs.0);
      second_valid = vq;
      to = valid_reads j.valid;
      valid = j.valid;
      is = j.is;
      first_kept = j.first_kept;
      second_kept = j.second_kept;
    }

-- ---- with itself, and with the empty plot

written_as : {p q : Parsed} {style other : Style} {rules : ℕ} {one two whole : Plot}
    → p ≡ Sheet style rules one.components one.connections one.frontiers → q ≡ Sheet other rules two.components two.connections two.frontiers
    → joined one two ≡ whole → joined_text p q ≡ plot_text rules whole
written_as {q = q} {style} {other} {rules} {one} {two} e f g =
    ap (λ (u : Parsed). joined_text u q) e ∙ ap (λ (u : Parsed). joined_text (Sheet style rules one.components one.connections one.frontiers) u) f
    ∙ ap (plot_text rules) g

pub joins : Joins
joins = record {
  says = accept;
  self = λ text style rules cs ps fs e v. written_as e e (join_self (plot_of cs ps fs) v);
  none = λ text empty style other rules cs ps fs e v f.
      (written_as e f (join_none (plot_of cs ps fs) v), written_as f e (none_join (plot_of cs ps fs) v));
}
