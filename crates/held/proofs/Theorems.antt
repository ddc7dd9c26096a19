-- What specs/Laws.antt states.
--     decides, is_eighteen, unchanged, counted, fifteen, recent, seated_there
-- Assumes nothing.
use Rattle.std.specs.Prelude.{⊤, Option, Some, None, Result, Ok, Err}
use Rattle.lists.specs.declared.Fault.{Fault}
use Rattle.lists.specs.Refusal.{fault_number}
use Rattle.lists.specs.declared.Section.{Section}
use Rattle.lists.specs.declared.Refusal.{Refusal}
use mathlib.Core.Path.{◌≡◌, refl, sym, ap, ◌∙◌, subst}
use mathlib.Core.Bool.{Bool, true, false, not, cond}
use mathlib.Core.List.{List, [], ◌∷◌, ◌++◌}
use Prim.Native.Nat.{ℕ, suc, ◌+◌, ◌≤◌, ◌<◌}
use native.Mathlib.Omega.{arith}
use lib.ListN.{length, set, length-set, length-append}
use lib.Dec.{eqb, ltb}
use lib.IntN.{ℤ}
use borrow.Author.Tests.{ltb-false}
use Rattle.tables.specs.Order.{member, All}
use Rattle.lists.specs.Limits.{component_limit}
use Rattle.lists.specs.First.{is_found}
use Rattle.lists.proofs.Search.{never}
use Rattle.checks.specs.Refusals.{refuse, ◌or_else◌}
use Rattle.held.specs.Tests.{distinct}
use Rattle.held.specs.Plot.{Record, Place, free, taken, Plot, at, blocks, present, id_of, place_of, is_present, fault_at, block_fits, opening, opened, placing, placed, seat_of, seated, still_free, breaking, broken, broken_at, is_held, joined}
use Rattle.held.specs.Left.{Click, place, break, connect, checks_of, effect_of, left_if, left_by, run, Leavable, is_free, valid, answer_of}
use Rattle.held.specs.Laws.{Decides, eighteen, Eighteen, Unchanged, one_if, places_by, breaks_by, placings, breakings, Counted, Fifteen, freed_at, freed_by, freed_in, most_recent, Recent, Seated}
use Rattle.held.proofs.Lists.{true_not_false, or_neither, member_head, distinct_head}
use Rattle.held.proofs.Places.{taken_below, place_found, count_set_taken, count_set_free, count_snoc, count_most}
use Rattle.held.proofs.Sound.{SoundFreed, Sound, sound_of_valid, valid_of_sound}
use Rattle.held.proofs.Kept.{opened_sound, left_sound, run_sound, breaking_accepts, seat_free, seat_changed}
use Rattle.held.proofs.Reached.{reached}

-- ---- number 18

pub leavable_sound : {plot : Plot} → Leavable plot → Sound plot
leavable_sound {plot} l = subst (λ (p : Plot). Sound p) l.leaves (run_sound (opened l.rules l.frontiers) l.clicks (opened_sound l.rules l.frontiers l.accepted))

pub decides : (plot : Plot) → Decides plot
decides plot = (λ l. valid_of_sound plot (leavable_sound l), λ v. reached plot (sound_of_valid plot v))

run_one : (plot : Plot) (clicks : List Click) (click : Click) → run plot (clicks ++ (click ∷ [])) ≡ left_by (run plot clicks) click
unfolding run
run_one plot [] click = refl
run_one plot (c ∷ clicks) click = run_one (left_by plot c) clicks click

-- one click more
pub left_again : {plot : Plot} → Leavable plot → (click : Click) → Leavable (left_by plot click)
left_again {plot} l click =
    record {
      rules = l.rules;
      frontiers = l.frontiers;
      clicks = l.clicks ++ (click ∷ []);
      accepted = l.accepted;
      leaves = run_one (opened l.rules l.frontiers) l.clicks click ∙ ap (λ (p : Plot). left_by p click) l.leaves;
    }

module _ (plot : Plot) (click : Click) where
  answer_valid : valid plot ≡ true → answer_of plot click ≡ checks_of plot click
  unfolding answer_of
  answer_valid e = rw e

  answer_not : valid plot ≡ false → answer_of plot click ≡ Err eighteen
  unfolding answer_of
  answer_not e = rw e

  pub is_eighteen : Eighteen plot click
  is_eighteen =
      record {
        not_left = λ n. answer_not (none n (valid plot) refl);
        left = λ l. answer_valid ((decides plot).0 l);
        again = λ l. subst (λ (c : Result ⊤ Refusal). Leavable (left_if c (effect_of plot click) plot)) (sym (answer_valid ((decides plot).0 l))) (left_again l click);
      }
    where
      none : (Leavable plot → ⊥) → (b : Bool) → valid plot ≡ b → valid plot ≡ false
      none n true e = absurd (n ((decides plot).1 e))
      none n false e = e

  pub unchanged : Unchanged plot click
  unchanged refusal e = ap (λ (c : Result ⊤ Refusal). left_if c (effect_of plot click) plot) e

-- ---- counts

-- a block more, a block less
place_count : (freed : List ℕ) (ps : List Place) (r : Record) → SoundFreed ps freed → present (seated freed ps r) ≡ suc (present ps)
unfolding seated
place_count [] ps r s = count_snoc ps r
place_count (k ∷ freed) ps r s = count_set_taken ps k r (s.used k (member_head k freed)) (s.frees k (member_head k freed))

click_count : (plot : Plot) (click : Click) → Sound plot → places_by plot click + present plot.places ≡ breaks_by plot click + present (left_by plot click).places
click_count plot (place block) s = go (placing plot block) refl
  where
    go : (c : Result ⊤ Refusal) → placing plot block ≡ c → one_if c + present plot.places ≡ 0 + present (left_if c (placed plot block) plot).places
    go (Ok tt) e = omega (arith, place_count plot.freed plot.places block s.freed_sound)
    go (Err r) e = refl
click_count plot (break id) s = go (breaking plot id) refl
  where
    less : (f : Option ℕ) → place_of plot.places id ≡ f → is_found f ≡ true → 0 + present plot.places ≡ 1 + present (broken_at plot id f).places
    less (Some k) q h =
        let here = place_found plot.places id k q in
        omega (arith, count_set_free plot.places k here.block here.here)
    less None q h = never h

    go : (c : Result ⊤ Refusal) → breaking plot id ≡ c → 0 + present plot.places ≡ one_if c + present (left_if c (broken plot id) plot).places
    go (Ok tt) e = less (place_of plot.places id) refl (breaking_accepts plot id e)
    go (Err r) e = refl
click_count plot (connect connection) s = go (checks_of plot (connect connection)) (is_held plot connection)
  where
    go : (c : Result ⊤ Refusal) (b : Bool) → 0 + present plot.places ≡ 0 + present (left_if c (cond b plot (joined plot connection)) plot).places
    go (Ok tt) true = refl
    go (Ok tt) false = refl
    go (Err r) b = refl

counts : (plot : Plot) (clicks : List Click) → Sound plot → placings plot clicks + present plot.places ≡ breakings plot clicks + present (run plot clicks).places
unfolding placings breakings run
counts plot [] s = refl
counts plot (click ∷ clicks) s =
    let one = click_count plot click s in
    let rest = counts (left_by plot click) clicks (left_sound plot click s) in
    omega (arith, one, rest)

pub counted : (rules : ℕ) (frontiers : List ℤ) (clicks : List Click) → opening rules frontiers true ≡ Ok tt → Counted rules frontiers clicks
unfolding blocks
counted rules frontiers clicks e = omega (arith, counts (opened rules frontiers) clicks (opened_sound rules frontiers e))

-- ---- where a placed block goes

pub seated_there : (plot : Plot) (block : Record) → Leavable plot → Seated plot block
seated_there plot block l =
    let s = leavable_sound l in
    let c = seat_changed plot.freed plot.places block s.freed_sound in
    record { was_free = seat_free plot.freed plot.places s.freed_sound; here = c.here; other = c.other }

-- the stack holds what was freed and is free still, in the order of the history
data Follows : List ℕ → List ℕ → Type 0 where
  none : Follows [] []
  skip : {q : ℕ} {history freed : List ℕ} → member q freed ≡ false → Follows history freed → Follows (q ∷ history) freed
  same : {k : ℕ} {history freed : List ℕ} → Follows history freed → Follows (k ∷ history) (k ∷ freed)

not_in_tail : (q k : ℕ) (freed : List ℕ) → member q (k ∷ freed) ≡ false → member q freed ≡ false
unfolding member
not_in_tail q k freed m = (or_neither (eqb q k) (member q freed) m).1

-- the top of the stack is used
follows_pop : {history : List ℕ} (k : ℕ) (freed : List ℕ) → distinct eqb (k ∷ freed) ≡ true → Follows history (k ∷ freed) → Follows history freed
follows_pop k freed d (skip {q} m f) = skip (not_in_tail q k freed m) (follows_pop k freed d f)
follows_pop k freed d (same f) = skip (distinct_head k freed d) f

-- what the clicks freed, on the way
record Trail (plot : Plot) (history : List ℕ) : Type 0 where
  follows : Follows history plot.freed
  used : All (λ k. k < length plot.places) history

all_more : (m n : ℕ) → m ≤ n → (xs : List ℕ) → All (λ k. k < m) xs → All (λ k. k < n) xs
all_more m n h [] a = tt
all_more m n h (x ∷ xs) a = (omega (arith, a.0), all_more m n h xs a.1)

seated_long : (freed : List ℕ) (ps : List Place) (r : Record) → length ps ≤ length (seated freed ps r)
unfolding seated
seated_long [] ps r = omega (arith, length-append ps (taken r ∷ []))
seated_long (k ∷ freed) ps r = omega (arith, length-set ps k (taken r))

place_follows : {history : List ℕ} (freed : List ℕ) → distinct eqb freed ≡ true → Follows history freed → Follows history (still_free freed)
unfolding still_free
place_follows [] d f = f
place_follows (k ∷ freed) d f = follows_pop k freed d f

click_trail : (plot : Plot) (click : Click) (history : List ℕ) → Sound plot → Trail plot history → Trail (left_by plot click) (freed_by plot click ++ history)
click_trail plot (place block) history s t = go (placing plot block)
  where
    go : (c : Result ⊤ Refusal) → Trail (left_if c (placed plot block) plot) history
    go (Ok tt) =
        record {
          follows = place_follows plot.freed s.freed_sound.once t.follows;
          used = all_more (length plot.places) (length (seated plot.freed plot.places block)) (seated_long plot.freed plot.places block) history t.used;
        }
    go (Err r) = t
click_trail plot (break id) history s t = go (breaking plot id) (place_of plot.places id) refl
  where
    go : (c : Result ⊤ Refusal) (f : Option ℕ) → place_of plot.places id ≡ f → Trail (left_if c (broken_at plot id f) plot) (freed_at c f ++ history)
    go (Ok tt) (Some k) q =
        let here = place_found plot.places id k q in
        let long : length (set plot.places k free) ≡ length plot.places = length-set plot.places k free in
        record {
          follows = same t.follows;
          used = (omega (arith, long, taken_below plot.places k here.block here.here), all_more (length plot.places) (length (set plot.places k free)) (omega arith) history t.used);
        }
    go (Ok tt) None q = t
    go (Err r) f q = t
click_trail plot (connect connection) history s t = go (checks_of plot (connect connection)) (is_held plot connection)
  where
    go : (c : Result ⊤ Refusal) (b : Bool) → Trail (left_if c (cond b plot (joined plot connection)) plot) history
    go (Ok tt) true = t
    go (Ok tt) false = record { follows = t.follows; used = t.used }
    go (Err r) b = t

run_trail : (plot : Plot) (clicks : List Click) (history : List ℕ) → Sound plot → Trail plot history → Trail (run plot clicks) (freed_in plot clicks history)
unfolding run freed_in
run_trail plot [] history s t = t
run_trail plot (click ∷ clicks) history s t =
    run_trail (left_by plot click) clicks (freed_by plot click ++ history) (left_sound plot click s) (click_trail plot click history s t)

-- the top of the stack is the first of the history that is free
top_recent : (ps : List Place) (freed history : List ℕ) → Follows history freed → ((k : ℕ) → member k freed ≡ true → at ps k ≡ free)
    → ((k : ℕ) → k < length ps → member k freed ≡ false → is_free (at ps k) ≡ false) → All (λ k. k < length ps) history → seat_of freed ps ≡ most_recent history ps
unfolding most_recent
top_recent ps freed history none frees takes used = refl
top_recent ps freed history (skip {q} {history = rest} m f) frees takes used =
    rw (takes q used.0 m) (top_recent ps freed rest f frees takes used.1)
top_recent ps freed history (same {k} {freed = rest} f) frees takes used = rw (frees k (member_head k rest))

pub recent : (rules : ℕ) (frontiers : List ℤ) (clicks : List Click) → opening rules frontiers true ≡ Ok tt → Recent rules frontiers clicks
recent rules frontiers clicks e =
    let start = opened_sound rules frontiers e in
    let s = run_sound (opened rules frontiers) clicks start in
    let t = run_trail (opened rules frontiers) clicks [] start (record { follows = none; used = tt }) in
    top_recent (run (opened rules frontiers) clicks).places (run (opened rules frontiers) clicks).freed (freed_in (opened rules frontiers) clicks [])
    t.follows s.freed_sound.frees (takes (run (opened rules frontiers) clicks) s) t.used
  where
    takes : (plot : Plot) → Sound plot → (k : ℕ) → k < length plot.places → member k plot.freed ≡ false → is_free (at plot.places k) ≡ false
    takes plot s k h m = go (at plot.places k) refl
      where
        go : (p : Place) → at plot.places k ≡ p → is_free (at plot.places k) ≡ false
        go free q = true_not_false (sym (s.freed_sound.all k h q) ∙ m)
        go (taken r) q = rw q

-- ---- 15

number_of : Result ⊤ Refusal → ℕ
number_of (Ok tt) = 0
number_of (Err r) = fault_number r.fault

pub fifteen : (plot : Plot) (block : Record) → Fifteen plot block
unfolding answer_of placing number_of
fifteen plot block item e = go (valid plot) refl (block_fits block) (is_present plot.places (id_of block)) (ltb (present plot.places) component_limit) refl (ap number_of e)
  where
    go : (v : Bool) → valid plot ≡ v → (f p l : Bool) → ltb (present plot.places) component_limit ≡ l
        → number_of (refuse Fault.StrangePlot None (fault_at 0 (not v)) or_else (refuse Fault.OutOfRange (Some Section.Components) (fault_at 0 (not f)) or_else refuse Fault.PresentId None (fault_at 0 p) or_else refuse Fault.FullPlot None (fault_at 0 (not l)))) ≡ 15
        → present plot.places ≡ component_limit
    go false v f p l q n = absurd (omega arith)
    go true v false p l q n = absurd (omega arith)
    go true v true true l q n = absurd (omega arith)
    go true v true false true q n = absurd (omega arith)
    go true v true false false q n =
        omega (arith, ltb-false (present plot.places) component_limit q, count_most plot.places, (sound_of_valid plot v).places_sound.few)
