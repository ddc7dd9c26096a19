-- Answers for the goals that the search leaves.
use Prim.Native.Nat.{◌*◌, ◌+◌}
use borrow.Author.Rules.{rules}
use mathlib.Core.Path.{◌≡◌, sym, ap, ◌∙◌}
use Rattle.std.specs.Prelude.{Some, None}
use Rattle.lists.specs.Ids.{has_component, smaller_ids}
use Rattle.held.specs.Inspected.{way_of}
use Rattle.held.proofs.Loops.{some_key, no_key}
use Rattle.held.proofs.connections.key_if.Goals as goal

pub returns-in_err-source : goal.returns-in_err-source
returns-in_err-source c cs t =
    let back : c.from_residual.result ≡ None = search rules in
    let none = no_key _ _ (sym c.in_err-source.was ∙ c.member_if.ensures.member cs t) in
    let source = ap (has_component cs) (sym c.source.ensures.0) ∙ none in
    rw (back, source)

pub returns-in_err-sink : goal.returns-in_err-sink
returns-in_err-sink c cs t =
    let back : c.from_residual-in_err-sink.result ≡ None = search rules in
    let one = (some_key _ _ _ (sym c.in_ok-source.was ∙ c.member_if.ensures.member cs t)).0 in
    let none = no_key _ _ (sym c.in_err-sink.was ∙ c.member_if-2.ensures.member cs t) in
    let source = ap (has_component cs) (sym c.source.ensures.0) ∙ one in
    let sink = ap (has_component cs) (sym c.sink.ensures.0) ∙ none in
    rw (back, source, sink)

pub returns : goal.returns
returns c cs t =
    let one = some_key _ _ _ (sym c.in_ok-source.was ∙ c.member_if.ensures.member cs t) in
    let two = some_key _ _ _ (sym c.in_ok-sink.was ∙ c.member_if-2.ensures.member cs t) in
    let source = ap (has_component cs) (sym c.source.ensures.0) ∙ one.0 in
    let sink = ap (has_component cs) (sym c.sink.ensures.0) ∙ two.0 in
    let a = one.1 ∙ ap (smaller_ids cs) c.source.ensures.0 in
    let b = two.1 ∙ ap (smaller_ids cs) c.sink.ensures.0 in
    let way = c.way_of-way.ensures.value ∙ (λ i. way_of (c.natural_at-source_port.ensures i) (c.sink_port.ensures.0 i) (c.transfer.ensures i)) in
    rw (source, sink) (λ i. Some ((way i * 1024 + a i) * 1024 + b i))
