-- Answers for the goals that the search leaves.
use native.Mathlib.Omega.{arith}
use mathlib.Core.Path.{◌≡◌, sym, subst}
use Prim.Native.Nat.{ℕ, ◌*◌}
use native.Mathlib.Nat.{add-zero}
use lib.Dec.{T}
use lib.IntN.{ℤ}
use lib.Signed.{non_neg}
use Rattle.lists.specs.Signed.{at}
use Rattle.held.proofs.DropLaws.{KeptSo, kept_start, still_at, kept_more, kept_done}
use Rattle.held.proofs.writes.drop_connections.Goals as goal

pub loop-k-init : goal.loop-k-init
loop-k-init c = kept_start c.args.list.now c.args.id

pub keep_one-count-requires-clause-within : goal.keep_one-count-requires-clause-within
keep_one-count-requires-clause-within c = (omega (arith, c.requires.within, c.loop-k.invariant.long), c.loop-k.invariant.few)

pub keep_one-count-requires-clause-natural : goal.keep_one-count-requires-clause-natural
keep_one-count-requires-clause-natural c =
    let l = c.loop-k in
    let start = c.args.list.now in
    let first : at l.list (l.k * 5) ≡ at start (l.k * 5) =
    subst (λ (i : ℕ). at l.list i ≡ at start i) (add-zero (l.k * 5)) (still_at start l.list c.args.id l.k l.count l.invariant 0) in (
      subst (λ (z : ℤ). T (non_neg z)) (sym first) (c.requires.natural.source l.k c.loop-k-test.true),
      subst (λ (z : ℤ). T (non_neg z)) (sym (still_at start l.list c.args.id l.k l.count l.invariant 2)) (c.requires.natural.sink l.k c.loop-k-test.true),
    )

pub loop-k-preserved : goal.loop-k-preserved
loop-k-preserved c =
    kept_more c.args.list.now c.loop-k.list _ c.args.id c.loop-k.k c.loop-k.count _ (omega (arith, c.requires.within)) c.loop-k.invariant
    c.keep_one-count.ensures

pub overflow_mul-count : goal.overflow_mul-count
overflow_mul-count c = omega (arith, c.loop-k.invariant.few, c.requires.within)

pub put_zeros-requires : goal.put_zeros-requires
put_zeros-requires c = omega (arith, c.loop-k.invariant.few, c.loop-k.invariant.long, c.requires.within)

pub returns : goal.returns
returns c =
    let l = c.loop-k in
    let all : l.k ≡ c.args.n = omega arith in
    let kept = subst (λ (k : ℕ). KeptSo c.args.list.now l.list c.args.id k l.count) all l.invariant in
    kept_done c.args.list.now l.list _ c.args.id c.args.n l.count c.requires.within kept c.put_zeros.ensures
