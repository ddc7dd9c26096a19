-- Writers at a position, whatever room there is.
--     sum_fits, sum_past              whether there is room
--     printed_end, printed_inside     where a text ends that had room
--     printed_then, printed_none      what two wrote, one behind the other; nothing
--     Going, goes_on, goes_done       a text written a piece at a time
-- Assumes nothing.
use mathlib.Core.Path.{◌≡◌, refl, sym, ap, ◌∙◌}
use mathlib.Core.Logic.{⊎_elim}
use mathlib.Core.List.{List, [], ◌++◌, append_assoc, append-nil}
use Prim.Native.Nat.{ℕ, ◌+◌, ◌≤◌, ◌<◌}
use native.Mathlib.Omega.{arith}
use Rattle.std.specs.Prelude.{min}
use Rattle.std.proofs.Math.Nat.{min-eq_left, min-eq_right, min-le_left}
use lib.ListN.{length, take, drop, length-append, take-append-drop}
use lib.Seq.{length-take-le, take_at, drop_at, drop-drop}
use Rattle.tables.specs.Laws.{order?}
use Rattle.blocks.specs.Printed.{greatest, Printed}

-- ---- whether there is room

-- a sum that stays at the greatest position is within a buffer, or it is not
pub sum_fits : {sum n room : ℕ} → n ≡ min sum greatest → room < greatest → n ≤ room → sum ≤ room
sum_fits {sum} {n} {room} e h l =
    ⊎_elim
    (λ (f : sum ≤ greatest). omega (arith, e, l, min-eq_left f))
    (λ (f : greatest < sum).
    let last : min sum greatest ≡ greatest = min-eq_right (omega (arith, f)) in absurd (omega (arith, e, h, l, last)))
    (order? sum greatest)

pub sum_past : {sum n room : ℕ} → n ≡ min sum greatest → room < n → room < sum
sum_past {sum} e h = omega (arith, e, h, min-le_left sum greatest)

module _ {at : ℕ} {s a b : List ℕ} {n : ℕ} (p : Printed at s a b n) (h : at + length s ≤ length a) where
  pub printed_end : n ≡ at + length s
  printed_end = p.count ∙ min-eq_left (omega (arith, h, p.short))

  pub printed_inside : n ≤ length b
  printed_inside = omega (arith, printed_end, h, p.long)

  whole : b ≡ (take at a ++ s) ++ drop (at + length s) a
  whole = p.bytes h ∙ sym (append_assoc (take at a) s _)

  ahead : length (take at a ++ s) ≡ n
  ahead = rw (length-append, length-take-le at a (omega (arith, h))) (sym printed_end)

  -- what stands before its end, and behind
  before_end : take n b ≡ take at a ++ s
  before_end = ap (take n) whole ∙ take_at (take at a ++ s) _ n ahead

  behind_end : (k : ℕ) → drop (n + k) b ≡ drop (at + (length s + k)) a
  behind_end k =
      sym (drop-drop k n b) ∙ ap (drop k) (ap (drop n) whole ∙ drop_at (take at a ++ s) _ n ahead) ∙ drop-drop k (at + length s) a
      ∙ ap (λ (m : ℕ). drop m a) (omega arith)

-- ---- one behind the other

pub printed_then : {at : ℕ} {s a b t c : List ℕ} {n m : ℕ} → Printed at s a b n → Printed n t b c m → Printed at (s ++ t) a c m
printed_then {at} {s} {a} {b} {t} {c} {n} {m} p q =
    let both : length (s ++ t) ≡ length s + length t = length-append s t in
    record {
      short = p.short;
      long = q.long ∙ p.long;
      count =
          ⊎_elim
          (λ (l : at + length s ≤ greatest). q.count ∙ ap (λ (k : ℕ). min k greatest) (omega (arith, p.count, min-eq_left l, both)))
          (λ (l : greatest < at + length s).
          let last : min (at + length s) greatest ≡ greatest = min-eq_right (omega (arith, l)) in
          q.count ∙ min-eq_right (omega (arith, p.count, last)) ∙ sym (min-eq_right (omega (arith, l, both))))
          (order? (at + length s) greatest);
      bytes = λ h.
          let first : at + length s ≤ length a = omega (arith, h, both) in
          let second : n + length t ≤ length b = omega (arith, h, both, printed_end p first, p.long) in
          q.bytes second ∙ rw (before_end p first, behind_end p first (length t), both) (simp append_assoc);
    }

pub printed_none : (at : ℕ) (a : List ℕ) → length a < greatest → at ≤ greatest → Printed at [] a a at
printed_none at a h l =
    let same : at + 0 ≡ at = omega arith in
    record { short = h; long = refl; count = rw same (sym (min-eq_left l)); bytes = λ e. rw same (sym (take-append-drop at a)) }

-- ---- a text written a piece at a time

-- `whole` is to stand from `at` on in what was `old`; `rest` of it is still to be written, from p on
pub record Going (whole : List ℕ) (at : ℕ) (old rest new : List ℕ) (p : ℕ) : Type 0 where
  pub done : List ℕ
  pub printed : Printed at done old new p
  pub all : done ++ rest ≡ whole

module _ {whole : List ℕ} {at p : ℕ} {old new : List ℕ} where
  -- t is written, and u is left
  pub goes_on : (t u : List ℕ) {rest newer : List ℕ} {q : ℕ} → rest ≡ t ++ u → Going whole at old rest new p → Printed p t new newer q
      → Going whole at old u newer q
  goes_on t u e g w = record {
    done = g.done ++ t;
    printed = printed_then g.printed w;
    all = append_assoc g.done t u ∙ ap (λ (r : List ℕ). g.done ++ r) (sym e) ∙ g.all;
  }

  pub goes_done : {rest : List ℕ} → rest ≡ [] → Going whole at old rest new p → Printed at whole old new p
  goes_done {rest} e g =
      let same : g.done ≡ whole = sym (append-nil g.done) ∙ ap (λ (r : List ℕ). g.done ++ r) (sym e) ∙ g.all in
      rw (← same) g.printed
