-- The stages of a join, one after the other.
--     accepted, valid          a check that accepts
--     PlotFacts, plot_facts    what a valid plot is lent with
--     both_is                  what is asked of both, as the code asks it
--     lists_end, behind_end, sheets_end    what the later stages leave is what all do
--     behind                   what is left of a work list
-- Assumes nothing.
use Rattle.std.specs.Prelude.{⊤, Result, Ok, Err, None}
use Prim.Native.Nat.{ℕ, ◌-◌, ◌%◌}
use native.Mathlib.Omega.{arith}
use lib.Seq.{length-take-le}
use mathlib.Core.Path.{◌≡◌, refl, sym, ap, ◌∙◌, subst}
use mathlib.Core.Bool.{Bool, true, false}
use mathlib.Core.List.{List}
use lib.Dec.{eqb}
use lib.IntN.{ℤ, pos}
use lib.ListN.{length, replicate}
use borrow.Author.Tests.{eqb-true}
use Rattle.lists.specs.Limits.{frontier_width}
use Rattle.lists.specs.Within.{Components, Connections}
use Rattle.lists.specs.declared.Fault.{Fault}
use Rattle.lists.specs.declared.Refusal.{Refusal}
use Rattle.checks.specs.Refusals.{refuse, ◌or_else◌, grouping_lists}
use Rattle.forms.specs.Sheet.{Parsed}
use Rattle.sheet.specs.Entry.{rules_of, components_of, connections_of, frontiers_of, sheet_checked}
use Rattle.sheet.specs.Written.{fits, PrintedBy, list_by}
use Rattle.sheet.proofs.Fronts.{Front}
use Rattle.joining.specs.Plot.{Plot, plot_of, Valid, joined, conflict_of, too_many}
use Rattle.joining.proofs.Accepts.{scene, join_refusal_lem}
use Rattle.join.specs.Entry.{plot_said, plot_text, joined_text, other_rules, both_checked, in_sheet, join_checked, TextJoined}
use Rattle.join.specs.Texts.{lists_joined, behind_joined}
use Rattle.join.specs.declared.JoinRefusal.{JoinRefusal}

-- ---- a check that accepts

pub accepted : {A : Type 0} (n : ℕ) (c : Result A Refusal) {r : Result A JoinRefusal} {x : A} → r ≡ in_sheet n c → r ≡ Ok x → c ≡ Ok x
accepted {A} n (Ok y) {r} {x} e f = let g : ◌≡◌ {A = Result A JoinRefusal} (Ok y) (Ok x) = sym e ∙ f in cc
accepted n (Err r) e f = cc

pub valid : (n : ℕ) {rules : ℕ} {cs ps fs : List ℤ} {g : Result ⊤ Refusal} {r : Result ⊤ JoinRefusal} {x : ⊤}
    → g ≡ grouping_lists rules cs ps fs true → r ≡ in_sheet n g → r ≡ Ok x → Valid rules (plot_of cs ps fs)
valid n {g = g} a e f = record { accepted = sym a ∙ accepted n g e f }

-- ---- what a valid plot is lent with

pub record PlotFacts (cs ps fs : List ℤ) : Type 0 where
  pub components : Components cs
  pub connections : Connections ps
  pub whole : length fs % frontier_width ≡ 0

pub plot_facts : {rules : ℕ} {cs ps fs : List ℤ} → Valid rules (plot_of cs ps fs) → PlotFacts cs ps fs
plot_facts v = let s = scene v in record { components = s.components; connections = s.connections; whole = s.scene.lengths.frontiers_whole }

-- ---- what is asked of both

pub both_is : (rules : ℕ) (p : Plot) (other : ℕ) (q : Plot) (room : ℕ) → Valid rules p → Valid other q
    → (refuse Fault.OtherRules None (other_rules rules other) or_else (conflict_of p q or_else too_many (joined p q)) or_else fits (plot_text rules (joined p q)) room)
    ≡ both_checked rules p other q room
both_is rules p other q room vp vq = go (eqb rules other) refl
  where
    go : (t : Bool) → eqb rules other ≡ t
        → (refuse Fault.OtherRules None (other_rules rules other) or_else (conflict_of p q or_else too_many (joined p q)) or_else fits (plot_text rules (joined p q)) room)
        ≡ both_checked rules p other q room
    go true e =
        let v : Valid rules q = subst (λ (k : ℕ). Valid k q) (sym (eqb-true rules other e)) vq in
        ap (λ (c : Result ⊤ Refusal). refuse Fault.OtherRules None (other_rules rules other) or_else c or_else fits (plot_text rules (joined p q)) room)
        (sym (join_refusal_lem p q vp v))
    go false e = rw e refl

of_both : (checks : Result ⊤ Refusal) (text : List ℕ) {old new : List ℕ} {r : Result ℕ Refusal} {r' : Result ℕ JoinRefusal}
    → PrintedBy checks text old new r → r' ≡ in_sheet 0 r → TextJoined (in_sheet 0 checks) text old new r'
of_both (Ok tt) text w e = record { answer = e ∙ ap (in_sheet 0) w.answer; left = w.left }
of_both (Err x) text w e = record { answer = e ∙ ap (in_sheet 0) w.answer; left = w.left }

pub lists_end : (rules : ℕ) (p : Plot) (other : ℕ) (q : Plot) {old new : List ℕ} {r : Result ℕ Refusal} {r' : Result ℕ JoinRefusal} → Valid rules p → Valid other q
    → PrintedBy (refuse Fault.OtherRules None (other_rules rules other) or_else (conflict_of p q or_else too_many (joined p q)) or_else fits (plot_text rules (joined p q)) (length old))
    (plot_text rules (joined p q)) old new r
    → r' ≡ in_sheet 0 r → TextJoined (lists_joined rules p other q (length old)) (plot_text rules (joined p q)) old new r'
lists_end rules p other q {old} {new} {r} {r'} vp vq w e =
    let text = plot_text rules (joined p q) in
    let v = of_both _ text (subst (λ (c : Result ⊤ Refusal). PrintedBy c text old new r) (both_is rules p other q (length old) vp vq) w) e in
    rw vq.accepted v

-- ---- the second sheet

same_lists : (rules : ℕ) (p : Plot) (room : ℕ) {other other' : ℕ} {cs cs' ps ps' fs fs' : List ℤ} {old new : List ℕ} {r : Result ℕ JoinRefusal}
    → other ≡ other' → cs ≡ cs' → ps ≡ ps' → fs ≡ fs'
    → TextJoined (lists_joined rules p other (plot_of cs ps fs) room) (plot_text rules (joined p (plot_of cs ps fs))) old new r
    → TextJoined (lists_joined rules p other' (plot_of cs' ps' fs') room) (plot_text rules (joined p (plot_of cs' ps' fs'))) old new r
same_lists rules p room {other} {other'} {cs} {cs'} {ps} {ps'} {fs} {fs'} {old} {new} {r} e f g h t =
    subst (λ (z : List ℤ). TextJoined (lists_joined rules p other' (plot_of cs' ps' z) room) (plot_text rules (joined p (plot_of cs' ps' z))) old new r) h
    (subst (λ (z : List ℤ). TextJoined (lists_joined rules p other' (plot_of cs' z fs) room) (plot_text rules (joined p (plot_of cs' z fs))) old new r) g
    (subst (λ (z : List ℤ). TextJoined (lists_joined rules p other' (plot_of z ps fs) room) (plot_text rules (joined p (plot_of z ps fs))) old new r) f
    (subst (λ (k : ℕ). TextJoined (lists_joined rules p k (plot_of cs ps fs) room) (plot_text rules (joined p (plot_of cs ps fs))) old new r) e t)))

pub behind_end : (rules : ℕ) (p : Plot) (q : Parsed) (a b c room : ℕ) {other : ℕ} {cs ps fs : List ℤ} {old new : List ℕ} {r : Result ℕ JoinRefusal}
    → Valid rules p → sheet_checked q a b c ≡ Ok tt
    → other ≡ rules_of q → cs ≡ components_of q → ps ≡ connections_of q → fs ≡ frontiers_of q
    → TextJoined (lists_joined rules p other (plot_of cs ps fs) room) (plot_text rules (joined p (plot_of cs ps fs))) old new r
    → TextJoined (behind_joined rules p q a b c room) (plot_text rules (joined p (plot_said q))) old new r
behind_end rules p q a b c room vp good e f g h t = rw (vp.accepted, good) (same_lists rules p room e f g h t)

-- ---- the first sheet

same_first : (q : Parsed) (room : ℕ) {rules rules' a a' b b' c c' : ℕ} {cs cs' ps ps' fs fs' : List ℤ} {old new : List ℕ} {r : Result ℕ JoinRefusal}
    → rules ≡ rules' → cs ≡ cs' → ps ≡ ps' → fs ≡ fs' → a ≡ a' → b ≡ b' → c ≡ c'
    → TextJoined (behind_joined rules (plot_of cs ps fs) q a b c room) (plot_text rules (joined (plot_of cs ps fs) (plot_said q))) old new r
    → TextJoined (behind_joined rules' (plot_of cs' ps' fs') q a' b' c' room) (plot_text rules' (joined (plot_of cs' ps' fs') (plot_said q))) old new r
same_first q room e f g h i j k t = rw (e, f, g, h, i, j, k) at t

-- what is left behind a list that was read
pub behind : {list new : List ℤ} {n : ℕ} (old : List ℤ) → Front list new n → length new ≡ length old → length new - n ≡ length old - length list
behind {list} {new} {n} old f e =
    let l : length list ≡ n = sym (ap length f.is) ∙ length-take-le n new f.inside in
    omega arith

pub sheets_end : (p q : Parsed) (a b c room : ℕ) {rules x y z : ℕ} {cs ps fs : List ℤ} {old new : List ℕ} {r : Result ℕ JoinRefusal}
    → sheet_checked p a b c ≡ Ok tt
    → rules ≡ rules_of p → cs ≡ components_of p → ps ≡ connections_of p → fs ≡ frontiers_of p
    → x ≡ a - length (components_of p) → y ≡ b - length (connections_of p) → z ≡ c - length (frontiers_of p)
    → TextJoined (behind_joined rules (plot_of cs ps fs) q x y z room) (plot_text rules (joined (plot_of cs ps fs) (plot_said q))) old new r
    → TextJoined (join_checked p q a b c room) (joined_text p q) old new r
sheets_end p q a b c room good e f g h i j k t = rw good (same_first q room e f g h i j k t)

-- a work list that was cleared
pub cleared : {checks : Result ⊤ Refusal} {new : List ℤ} {n : ℕ} (old : List ℤ) → checks ≡ Ok tt → n ≡ length old → new ≡ replicate n (pos 0) → new ≡ list_by checks old
cleared old good e f = rw good (rw e at f)
