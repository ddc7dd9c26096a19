-- Answers for the goals that the search leaves.
use Rattle.std.proofs.Common.{rules, arith, ◌≡◌, length, get_or, bit_and, Fits, w64, ap₂, ◌∙◌}
use Rattle.std.proofs.lemmas.Slice.Zip.{zip_turn, zip_end}
use Rattle.sets.specs.Members.{word_count}
use Rattle.sets.proofs.Words.{apart_all, shared_at}
use Rattle.sets.proofs.ComponentSet.disjoint.Goals as goal

pub returns-then-mine-theirs-ne0 : goal.returns-then-mine-theirs-ne0
returns-then-mine-theirs-ne0 c =
    let us = c.args.self.words in
    let vs = c.args.other.words in
    let i = length c.loop-mine.yielded in
    let turn = zip_turn us vs c.loop-mine.yielded _ _ c.next.new.self _ (search rules) (search rules) c.loop-mine.yielded_by _ c.in-Some.is c.next.ensures.steps in
    let u : Fits w64 (get_or us i 0) = search rules in
    let v : Fits w64 (get_or vs i 0) = search rules in
    shared_at us vs i u.fits v.fits (λ e. c.if-mine-theirs-ne0.true (ap₂ bit_and (turn.2 0) (turn.3 0) ∙ e))

pub returns : goal.returns
returns c =
    let us = c.args.self.words in
    let vs = c.args.other.words in
    let len-us : length us ≡ word_count = search rules in
    let len-vs : length vs ≡ word_count = search rules in
    let end = zip_end us vs c.loop-mine.yielded _ _ c.next.new.self _ (search rules) (search rules) c.loop-mine.yielded_by c.in-None.is c.next.ensures.steps in
    apart_all us vs (length c.loop-mine.yielded) (omega arith) c.loop-mine.invariant
