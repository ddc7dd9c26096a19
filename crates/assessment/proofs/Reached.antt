-- Marks of regions, carried along the edges, are what the components of the marked regions reach.
--     Exactly                          what is carried
--     drive_is, potential_is           carried from the drive sources, and from the inferred inputs too
-- Assumes nothing.
use Rattle.std.specs.Prelude.{None}
use mathlib.Core.Path.{◌≡◌, refl, sym, ap, ◌∙◌}
use mathlib.Core.Bool.{Bool, true, false, ◌&&◌, ◌||◌}
use mathlib.Core.List.{List}
use mathlib.Core.Logic.{◌↔◌, ⊎_elim}
use Prim.Native.Nat.{ℕ, ◌≤◌, ◌<◌}
use native.Mathlib.Omega.{arith}
use lib.Dec.{eqb}
use lib.ListN.{length, get_or}
use lib.Seq.{ext_get_or}
use lib.IntN.{ℤ}
use borrow.Author.Tests.{eqb-true, eq-eqb}
use Rattle.lists.specs.Limits.{component_limit}
use Rattle.lists.specs.Records.{component_count}
use Rattle.lists.specs.First.{is_found, some}
use Rattle.lists.specs.Ids.{member_of, first_end_missing}
use Rattle.lists.proofs.Search.{both}
use Rattle.lists.proofs.Members.{member_below}
use Rattle.regions.specs.Graph.{Edges, Reach, at, marked}
use Rattle.regions.specs.Kosaraju.{region_of, reached}
use Rattle.regions.specs.Theorems.{ReachLaws}
use Rattle.regions.proofs.Laws.Lists.{or_right}
use Rattle.regions.proofs.Laws.Walks.{Reach·trans}
use Rattle.regions.proofs.Theorems.{reach_laws}
use Rattle.signals.specs.Signals.{signals}
use Rattle.signals.specs.Sources.{is_drive}
use Rattle.signals.specs.Regions.{labels, region_of_place, holds_drive, is_inferred}
use Rattle.signals.specs.Drive.{members_where, drive, potential}
use Rattle.signals.specs.Flags.{Flags, Numbers}
use Rattle.signals.proofs.Tabulated.{first_cong, tabulated_at}
use Rattle.lists.proofs.Some.{some_at, some_found, and_true}
use Rattle.signals.proofs.Neighbours.{or_left, either}
use Rattle.signals.proofs.Tested.{same_truth}
use Rattle.signals.proofs.Within.{signals_within, scene_regions, label_under}

-- what holds at some place by the one test or at some by the other
some_or : (P Q t : ℕ → Bool) (n : ℕ) → some (λ p. (P p || Q p) && t p) n ≡ (some (λ p. P p && t p) n || some (λ p. Q p && t p) n)
some_or P Q t n =
    let one : ℕ → Bool = λ p. P p && t p in
    let other : ℕ → Bool = λ p. Q p && t p in
    let any : ℕ → Bool = λ p. (P p || Q p) && t p in
    same_truth (some any n) (some one n || some other n)
    (λ e.
    let (p, h, q) = some_found any n e in
    let (x, y) = both (P p || Q p) (t p) q in
    ⊎_elim
    (λ a. or_left (some other n) (some_at one n p h (and_true (P p) (t p) a y)))
    (λ a. or_right (some one n) (some_at other n p h (and_true (Q p) (t p) a y)))
    (either (P p) (Q p) x))
    (λ e.
    ⊎_elim
    (λ a.
    let (p, h, q) = some_found one n a in
    let (x, y) = both (P p) (t p) q in
    some_at any n p h (and_true (P p || Q p) (t p) (or_left (Q p) x) y))
    (λ a.
    let (p, h, q) = some_found other n a in
    let (x, y) = both (Q p) (t p) q in
    some_at any n p h (and_true (P p || Q p) (t p) (or_right (P p) x) y))
    (either (some one n) (some other n) e))

-- a region has a mark at the end exactly if a node of a region that had one reaches its nodes
pub record Exactly (n : ℕ) (edge : Edges) (before after : ℕ → Bool) : Type 0 where
  pub exactly : (b : ℕ) → b < n
      → (after (at (region_of n edge) b) ≡ true) ↔ ((s : ℕ) × (s < n) × (before (at (region_of n edge) s) ≡ true) × Reach edge s b)

module _ (cs ps : List ℤ) (few : component_count cs ≤ component_limit) (ends : first_end_missing cs ps ≡ None) where
  n : ℕ
  n = component_count cs

  -- the region holds a component of which P holds
  holds : (ℕ → Bool) → ℕ → Bool
  holds P r = some (λ p. P p && eqb (region_of_place cs ps p) r) n

  module _ (P : ℕ → Bool) {marks : List Bool} (flags : Flags component_limit (holds P) marks) {after : ℕ → Bool}
      (carried : Exactly (component_count cs) (signals cs ps) (marked marks) after) where
    walked : ReachLaws n (signals cs ps) (members_where cs P)
    unfolding n
    walked = reach_laws (component_count cs) (signals cs ps) (signals_within cs ps ends) (members_where cs P)

    starts : (m : ℕ) → m < n → marked (members_where cs P) m ≡ some (λ p. P p && eqb (member_of cs p) m) n
    unfolding n members_where
    starts m h = tabulated_at (λ j. some (λ p. P p && eqb (member_of cs p) j) (component_count cs)) false (component_count cs) m h

    marks_at : (m : ℕ) → m < n → marked marks (at (labels cs ps) m) ≡ holds P (at (labels cs ps) m)
    unfolding n
    marks_at m h = flags.at (at (labels cs ps) m) (let l = label_under cs ps ends m h in omega arith)

    -- a component of a marked region starts a walk to each node of the region
    from_region : (b s : ℕ) → s < n → marked marks (at (labels cs ps) s) ≡ true → Reach (signals cs ps) s b
        → marked (reached n (signals cs ps) (members_where cs P)) b ≡ true
    unfolding n holds
    from_region b s h m r =
        let (p, l, e) = some_found (λ p. P p && eqb (region_of_place cs ps p) (at (labels cs ps) s)) (component_count cs) (sym (marks_at s h) ∙ m) in
        let (x, y) = both (P p) (eqb (region_of_place cs ps p) (at (labels cs ps) s)) e in
        let o = member_of cs p in
        let below = member_below cs p l in
        let same = ((scene_regions cs ps ends).same o s below h).0 (eqb-true (region_of_place cs ps p) (at (labels cs ps) s) y) in
        let start : marked (members_where cs P) o ≡ true =
        starts o below ∙ some_at (λ q. P q && eqb (member_of cs q) o) (component_count cs) p l (and_true (P p) (eqb (member_of cs p) o) x (eq-eqb (member_of cs p) o refl)) in
        (walked.exactly b).1 (o, below, start, Reach·trans same.0 r)

    -- the region of a start is marked
    of_start : (s : ℕ) → s < n → marked (members_where cs P) s ≡ true → marked marks (at (labels cs ps) s) ≡ true
    unfolding n holds
    of_start s h m =
        let (p, l, e) = some_found (λ p. P p && eqb (member_of cs p) s) (component_count cs) (sym (starts s h) ∙ m) in
        let (x, y) = both (P p) (eqb (member_of cs p) s) e in
        let same = ap (at (labels cs ps)) (eqb-true (member_of cs p) s y) in
        marks_at s h ∙ some_at (λ q. P q && eqb (region_of_place cs ps q) (at (labels cs ps) s)) (component_count cs) p l
        (and_true (P p) (eqb (region_of_place cs ps p) (at (labels cs ps) s)) x (eq-eqb (region_of_place cs ps p) (at (labels cs ps) s) same))

    carried_at : (b : ℕ) → b < n → after (at (labels cs ps) b) ≡ marked (reached n (signals cs ps) (members_where cs P)) b
    unfolding n
    carried_at b h =
        same_truth (after (at (labels cs ps) b)) (marked (reached (component_count cs) (signals cs ps) (members_where cs P)) b)
        (λ e. let (s, l, m, r) = (carried.exactly b h).0 e in from_region b s l m r)
        (λ e. let (s, l, m, r) = (walked.exactly b).0 e in (carried.exactly b h).1 (s, l, of_start s l m, r))

    reached_is : {out : List Bool} → length out ≡ n → Flags n (λ m. after (at (labels cs ps) m)) out
        → out ≡ reached n (signals cs ps) (members_where cs P)
    reached_is {out} long f =
        ext_get_or false out (reached n (signals cs ps) (members_where cs P)) (long ∙ sym walked.long) (λ b h.
        f.at b (omega arith) ∙ carried_at b (omega arith))

  module _ (fs : List ℤ) {marks out : List Bool} {after : ℕ → Bool} (carried : Exactly (component_count cs) (signals cs ps) (marked marks) after)
      (long : length out ≡ component_count cs) (f : Flags (component_count cs) (λ m. after (at (labels cs ps) m)) out) where
    pub drive_is : Flags component_limit (holds_drive cs ps fs) marks → out ≡ drive cs ps fs
    unfolding drive holds_drive n holds
    drive_is flags = reached_is (is_drive cs fs) flags carried long f

    module _ {driven inferred : List Bool} {regions : List ℕ} (rules : ℕ) (numbers : Numbers (component_count cs) (region_of_place cs ps) regions)
        (regions-driven : Flags component_limit (holds_drive cs ps fs) driven) (inputs : Flags (component_count cs) (is_inferred rules cs ps fs) inferred)
        (joined : Flags component_limit (λ r. marked driven r || some (λ p. marked inferred p && eqb (get_or regions p 0) r) (component_count cs)) marks) where
      either_at : Flags component_limit (holds (λ p. is_drive cs fs p || is_inferred rules cs ps fs p)) marks
      unfolding n holds holds_drive
      either_at = record {
        long = joined.long;
        at = λ r h.
            joined.at r h
            ∙ ap (λ t. t || some (λ p. marked inferred p && eqb (get_or regions p 0) r) (component_count cs)) (regions-driven.at r h)
            ∙ ap (λ t. some (λ p. is_drive cs fs p && eqb (region_of_place cs ps p) r) (component_count cs) || t)
            (ap is_found (first_cong _ (λ p. is_inferred rules cs ps fs p && eqb (region_of_place cs ps p) r) 0 (component_count cs) (λ p a b.
            rw (inputs.at p (omega arith), numbers.at p (omega arith)))))
            ∙ sym (some_or (is_drive cs fs) (is_inferred rules cs ps fs) (λ p. eqb (region_of_place cs ps p) r) (component_count cs));
      }

      pub potential_is : out ≡ potential rules cs ps fs
      unfolding potential n holds
      potential_is = reached_is (λ p. is_drive cs fs p || is_inferred rules cs ps fs p) either_at carried long f
