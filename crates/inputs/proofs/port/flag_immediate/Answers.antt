-- Answers for the goals that the search leaves.
use mathlib.Core.Path.{◌≡◌, refl, sym, subst, ◌∙◌}
use mathlib.Core.Bool.{true}
use native.Mathlib.Omega.{arith}
use Prim.Native.Nat.{ℕ, ◌<◌}
use lib.ListN.{length, get_or, length-set}
use Rattle.lists.specs.Ends.{sources_of}
use Rattle.lists.specs.Records.{port_count}
use Rattle.lists.proofs.EndLaws.{none, source_of}
use Rattle.signals.specs.Flags.{GatheredBy}
use Rattle.signals.proofs.Marks.{by_none}
use Rattle.inputs.specs.Port.{feeds_id}
use Rattle.inputs.proofs.Sources.{by_set, by_pass, source_low, immediate_are}
use Rattle.inputs.proofs.port.flag_immediate.Goals as goal
use Rattle.inputs.proofs.port.flag_immediate.Goals.{After-feeds, then-feeds, else-feeds}

-- the source of a connection that feeds the port has a flag
low : (c : After-feeds) → c.feeds.result ≡ true → (get_or c.args.plot.now.ends.now c.loop-k.k none).source < length c.loop-k.starts
low c e =
    let p = c.args.plot.now in
    let here : c.loop-k.k < port_count p.ports.now = omega (arith, c.loop-k-test.true, rw c.port_list-ports.ensures at c.count-k-end.ensures.0) in
    let asked = sym (rw c.port_list-ports.ensures at c.feeds.ensures) ∙ e in
    let flagged : get_or (sources_of p.ends.now) c.loop-k.k 0 < length c.loop-k.starts =
    omega (arith, source_low p.accepted c.args.id c.args.port c.loop-k.k here asked, c.loop-k.invariant.0, c.fill.auto.self, c.requires) in
    rw (source_of p.ends.now c.loop-k.k) at flagged

pub loop-k-init : goal.loop-k-init
loop-k-init c =
    let p = c.args.plot.now in (
      refl,
      rw (c.fill.ensures.after (λ y e. e))
          (by_none (λ j. get_or (sources_of p.ends.now) j 0) (feeds_id p.ports.now c.args.id c.args.port) (length c.args.starts.now)),
    )

pub bounds-starts-plot : goal.bounds-starts-plot
bounds-starts-plot c = low (goal.at.bounds-starts-plot c).After-feeds c.if-feeds.true

pub loop-k-preserved : goal.loop-k-preserved
loop-k-preserved c =
    let p = c.args.plot.now in
    let index : ℕ → ℕ = λ j. get_or (sources_of p.ends.now) j 0 in
    let test = feeds_id p.ports.now c.args.id c.args.port in
    let k = c.loop-k.k in
    let inv = c.loop-k.invariant in
    let asked = rw c.port_list-ports.ensures at c.feeds.ensures in
    let i = (get_or p.ends.now k none).source in
    elim c.if-feeds.branch [
      | then-feeds w ↦
          rw w.starts-is (
            length-set c.loop-k.starts i true ∙ inv.0,
            by_set index test k inv.1 i (sym (source_of p.ends.now k)) (sym asked ∙ w.if-feeds.true)
                (low (goal.at.loop-k-preserved c).After-feeds w.if-feeds.true),
          )
      | else-feeds w ↦ rw w.starts-is (inv.0, by_pass index test k inv.1 (sym asked ∙ w.if-feeds.false))
    ]

pub returns : goal.returns
returns c p is =
    let plot = c.args.plot.now in
    let all : c.loop-k.k ≡ port_count plot.ports.now =
    omega (arith, c.loop-k-test.false, c.loop-k.auto.k-end, rw c.port_list-ports.ensures at c.count-k-end.ensures.0) in
    immediate_are plot.accepted c.args.id c.args.port p is (c.loop-k.invariant.0 ∙ c.fill.auto.self ∙ c.requires)
    (subst (λ (k : ℕ). GatheredBy k (λ j. get_or (sources_of plot.ends.now) j 0) (feeds_id plot.ports.now c.args.id c.args.port) c.loop-k.starts) all c.loop-k.invariant.1)
