-- Answers for the goals that the search leaves.
use native.Mathlib.Omega.{arith}
use mathlib.Core.Path.{◌≡◌, sym, subst, ◌∙◌}
use Prim.Native.Nat.{ℕ}
use Rattle.lists.specs.Records.{port_count}
use Rattle.held.specs.Inspected.{KeysBelow}
use Rattle.held.proofs.Lists.{true_not_false}
use Rattle.held.proofs.Loops.{keys_start, keys_more, no_key}
use Rattle.held.proofs.connections.connection_keys.Goals as goal

pub loop-k-init : goal.loop-k-init
loop-k-init c cs t = keys_start cs c.args.ports.numbers.now c.args.keys.now

pub loop-k-preserved : goal.loop-k-preserved
loop-k-preserved c cs t =
    keys_more cs c.args.ports.numbers.now c.loop-k.keys c.loop-k.k _ (omega (arith, c.loop-k-test.true, c.count-k-end.ensures.0, c.loop-k.auto.keys, c.requires.1))
    (sym c.in-Some.is ∙ c.key_if.ensures cs t) (c.loop-k.invariant cs t)

pub returns-in-None : goal.returns-in-None
returns-in-None c cs t = record {
  all = λ e. true_not_false (sym e);
  some = λ e. (c.loop-k.k, omega (arith, c.loop-k-test.true, c.count-k-end.ensures.0), no_key _ _ (sym c.in-None.is ∙ c.key_if.ensures cs t));
}

pub returns : goal.returns
returns c cs t = record {
  all = λ e.
      let whole : c.loop-k.k ≡ port_count c.args.ports.numbers.now = omega (arith, c.loop-k-test.false, c.loop-k.auto.k-end, c.count-k-end.ensures.0) in
      subst (λ (n : ℕ). KeysBelow cs c.args.ports.numbers.now c.loop-k.keys n) whole (c.loop-k.invariant cs t);
  some = λ e. true_not_false e;
}
