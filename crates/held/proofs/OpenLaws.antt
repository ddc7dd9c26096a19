-- Opening, in the slices.
--     fill_more, fill_all       a list that is filled with zeros from the front
--     opened-layout             what the slices hold afterwards
-- Assumes nothing.
use Rattle.std.specs.Prelude.{Some, None, Ok}
use Rattle.lists.specs.declared.Fault.{Fault}
use Rattle.lists.specs.declared.Section.{Section}
use Rattle.checks.specs.Refusals.{strange_rules}
use mathlib.Core.Path.{◌≡◌, refl, sym, ap, ◌∙◌, subst}
use mathlib.Core.Bool.{Bool, true, false, not}
use mathlib.Core.List.{List, [], ◌∷◌, ◌++◌, append-nil}
use Prim.Native.Nat.{ℕ, zero, suc, ◌+◌, ◌*◌, ◌-◌, ◌/◌, ◌≤◌, ◌<◌}
use native.Mathlib.Numerals.{add-one}
use native.Mathlib.Omega.{arith}
use lib.ListN.{length, set, take, drop, replicate, drop_of_length-le, length-replicate}
use lib.Seq.{paste, take-length}
use lib.IntN.{ℤ, pos}
use Rattle.lists.specs.Limits.{frontier_limit, frontier_width}
use Rattle.lists.specs.Ranges.{first_out_of_range, frontier_low, frontier_high}
use Rattle.checks.specs.Refusals.{refuse, ◌or_else◌, not_whole, too_short}
use Rattle.checks.proofs.Chain.{both_accept}
use Rattle.checks.proofs.Accepts.{refuse_none, whole_few, whole_all, short_none}
use Rattle.held.specs.Plot.{fault_at, opening, opened}
use Rattle.held.specs.Lent.{padded, laid_state}
use Rattle.held.proofs.WriteLaws.{drop_replicate}

fill_suc : (n : ℕ) (d : List ℕ) → n < length d → set (replicate n 0 ++ drop n d) n 0 ≡ replicate (suc n) 0 ++ drop (suc n) d
fill_suc n [] l = absurd (omega arith)
fill_suc zero (x ∷ d) l = refl
fill_suc (suc n) (x ∷ d) l = ap (λ (t : List ℕ). 0 ∷ t) (fill_suc n d (omega arith))

pub fill_more : (n : ℕ) (d : List ℕ) → n < length d → set (replicate n 0 ++ drop n d) n 0 ≡ replicate (n + 1) 0 ++ drop (n + 1) d
fill_more n d l = subst (λ (k : ℕ). set (replicate n 0 ++ drop n d) n 0 ≡ replicate k 0 ++ drop k d) (sym (add-one n)) (fill_suc n d l)

pub fill_all : (n : ℕ) (d : List ℕ) → n ≤ length d → length d ≤ n → replicate n 0 ++ drop n d ≡ replicate (length d) 0
fill_all n d le ge =
    let e : n ≡ length d = omega arith in
    ap (λ (t : List ℕ). replicate n 0 ++ t) (drop_of_length-le d ge) ∙ (append-nil (replicate n 0) ∙ ap (λ (k : ℕ). replicate k 0) e)

-- a list overwritten with zeros
pub all_zero : (list : List ℤ) → paste list 0 (replicate (length list) (pos 0)) (length list) ≡ replicate (length list) (pos 0)
all_zero list =
    let n : ℕ = length list in
    let whole : take n (replicate n (pos 0)) ≡ replicate n (pos 0) = subst (λ (k : ℕ). take k (replicate n (pos 0)) ≡ replicate n (pos 0)) (length-replicate n (pos 0)) (take-length (replicate n (pos 0))) in
    let past : length list ≤ 0 + n = omega arith in
    let rest : drop (0 + n) list ≡ [] = drop_of_length-le list past in
    rw (whole, rest) (append-nil (replicate n (pos 0)))

-- numbers at the front of zeros
pub front_zero : (n : ℕ) (given : List ℤ) → length given ≤ n → paste (replicate n (pos 0)) 0 given (length given) ≡ padded n given
front_zero n given h =
    let rest : drop (0 + length given) (replicate n (pos 0)) ≡ replicate (n - length given) (pos 0) =
    ap (λ (k : ℕ). drop k (replicate n (pos 0))) zero_plus ∙ drop_replicate (length given) n (pos 0) in
    rw (take-length given, rest)
  where
    zero_plus : 0 + length given ≡ length given
    zero_plus = omega arith

pub state_zero : (n rules : ℕ) (given : List ℤ) → 5 ≤ n → set (set (replicate n 0) 0 rules) 4 (length given / frontier_width) ≡ laid_state n (opened rules given)
unfolding laid_state
state_zero n rules given h =
    let size : n ≡ suc (suc (suc (suc (suc (n - 5))))) = omega arith in
    ap (λ (k : ℕ). set (set (replicate k 0) 0 rules) 4 (length given / frontier_width)) size

pub nothing_laid : (n : ℕ) → replicate n (pos 0) ≡ padded n []
nothing_laid n = let e : n ≡ n - 0 = omega arith in ap (λ (k : ℕ). replicate k (pos 0)) e

-- a fault is the lack of room
pub short_is : (enough : Bool) → fault_at 0 (not enough) ≡ too_short enough
short_is true = refl
short_is false = refl

-- ---- what an accepted opening says

pub opening_parts : (rules : ℕ) (given : List ℤ) (enough : Bool) → opening rules given enough ≡ Ok tt → (enough ≡ true) × (length given ≤ frontier_limit * frontier_width)
unfolding opening
opening_parts rules given enough e =
    let first = both_accept (refuse Fault.UnknownRules None (strange_rules rules)) _ e in
    let second = both_accept (refuse Fault.ListLength (Some Section.Frontiers) (not_whole frontier_width frontier_limit (length given))) (refuse Fault.ShortSlice None (too_short enough) or_else refuse Fault.OutOfRange (Some Section.Frontiers) (first_out_of_range frontier_low frontier_high given)) first.1 in
    let third = both_accept (refuse Fault.ShortSlice None (too_short enough)) (refuse Fault.OutOfRange (Some Section.Frontiers) (first_out_of_range frontier_low frontier_high given)) second.1 in
    let whole = refuse_none Fault.ListLength (Some Section.Frontiers) (not_whole frontier_width frontier_limit (length given)) second.0 in (
      short_none enough (refuse_none Fault.ShortSlice None (too_short enough) third.0),
      omega (arith, whole_few frontier_width frontier_limit (length given) whole, whole_all frontier_width frontier_limit (length given) whole),
    )
