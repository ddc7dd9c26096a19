-- The answer for the goal that the search leaves: one read more. Assumes nothing.
use Rattle.std.proofs.Common.{rules, length, take, ◌-◌, sym, subst}
use Rattle.std.specs.Io.KnownBytes.{Consumes}
use Rattle.plotreport.proofs.Fed.{front_more, consumed_more}
use Rattle.plotreport.proofs.input.read_front.Goals as goal

pub loop-n-preserved : goal.loop-n-preserved
loop-n-preserved g c =
    let l = c.loop-n in
    let m = c.in_ok-more.more in
    let front = front_more l.n m (length l.out - l.n) l.out c.read.new.buf l.invariant.inside c.in_ok-more.ensures.bound.0 in
    record {
      inside = search rules;
      bytes = subst
          (Consumes (g.R.Read.remaining c.args.input.now) (g.R.Read.remaining c.read.new.self))
          (sym front)
          (consumed_more _ _ _ (take l.n l.out) (take m c.read.new.buf) l.invariant.bytes c.in_ok-more.ensures.bytes.0);
    }
