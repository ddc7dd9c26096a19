-- Answers for the goals that the search leaves. Assumes nothing.
use Rattle.std.proofs.Common.{rules, ◌≡◌, length, get_or, pos, sym, ap, ◌∙◌, subst}
use mir.Val.{SFits}
use mir.Syntax.{w64}
use mir.Facts.{to_z-of_z}
use Rattle.std.proofs.lemmas.List.{length_push}
use Rattle.std.proofs.lemmas.Slice.Zip.{zip_turn, zip_end}
use Rattle.replay.proofs.Counting.{counted_more, counted_all}
use Rattle.replay.proofs.compare.differences.Goals as goal

pub loop-number-preserved : goal.loop-number-preserved
loop-number-preserved g c =
    let xs = c.args.recorded.now in
    let ys = c.args.answered.now in
    let l = c.loop-number in
    let turn = zip_turn xs ys l.yielded _ _ c.next.new.self _ (search rules) (search rules) l.yielded_by _ c.in-Some.is c.next.ensures.steps in
    let x = c.in-Some.number.now in
    let y = c.in-Some.answer.now in
    let there : SFits w64 (get_or xs (length l.yielded) (pos 0)) = search rules in
    let fits : SFits w64 x = subst (SFits w64) (sym (turn.2 (pos 0))) there in
    let same : c.is_recorded.result ≡ g.T.Answered.same x y = c.is_recorded.ensures ∙ ap (λ z. g.T.Answered.same z y) (to_z-of_z fits) in (
      (tt, tt),
      tt,
      counted_more g.T.Answered.same xs ys x y c.is_recorded.result c.from-count.result _ l.invariant.2 turn same c.from-count.ensures (length_push _ _),
    )

pub returns : goal.returns
returns g c =
    let xs = c.args.recorded.now in
    let ys = c.args.answered.now in
    let l = c.loop-number in
    let end = zip_end xs ys l.yielded _ _ c.next.new.self _ (search rules) (search rules) l.yielded_by c.in-None.is c.next.ensures.steps in
    rw c.abs_diff.ensures (counted_all g.T.Answered.same xs ys l.invariant.2 end)
