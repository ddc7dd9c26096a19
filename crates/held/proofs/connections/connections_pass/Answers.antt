-- Answers for the goals that the search leaves.
use native.Mathlib.Omega.{arith}
use mathlib.Core.Path.{sym, ap, ◌∙◌}
use lib.Seq.{length-take-le}
use Rattle.lists.specs.Limits.{connection_limit}
use Rattle.lists.specs.First.{is_found}
use Rattle.lists.specs.Records.{port_count}
use Rattle.lists.specs.Ranges.{port_low, port_high}
use Rattle.lists.proofs.Fields.{within}
use Rattle.held.specs.Inspected.{connections_pass}
use Rattle.lists.proofs.Table.{table_long}
use Rattle.held.proofs.KeyLaws.{differ_by, all_ends, some_end}
use Rattle.held.proofs.ValidLaws.{none_of}
use Rattle.held.proofs.connections.connections_pass.Goals as goal

pub returns-then-is_some : goal.returns-then-is_some
unfolding connections_pass
returns-then-is_some c cs t once = let f = sym (c.is_some.ensures ∙ ap is_found c.first_outside.ensures) ∙ c.if-is_some.true in rw f

pub invariant_of-connection_keys : goal.invariant_of-connection_keys
invariant_of-connection_keys c =
    let none = none_of _ (sym (c.is_some.ensures ∙ ap is_found c.first_outside.ensures) ∙ c.if-is_some.false) in
    record { within = within connection_limit port_low port_high c.args.ports.now c.requires.1 none }

pub returns-then-not-connection_keys : goal.returns-then-not-connection_keys
unfolding connections_pass
returns-then-not-connection_keys c cs t once =
    let f = sym (c.is_some.ensures ∙ ap is_found c.first_outside.ensures) ∙ c.if-is_some.false in
    let some = (c.connection_keys.ensures cs t).some c.if-not-connection_keys.true in
    let no = some_end cs c.args.ports.now (port_count c.args.ports.now) some.0 some.1 some.2 in
    rw (f, no)

pub returns : goal.returns
unfolding connections_pass
returns c cs t once =
    let f = sym (c.is_some.ensures ∙ ap is_found c.first_outside.ensures) ∙ c.if-is_some.false in
    let none = none_of _ f in
    let keys = (c.connection_keys.ensures cs t).all c.if-not-connection_keys.false in
    let yes = all_ends cs c.args.ports.now (port_count c.args.ports.now) keys.ends in
    rw (f, yes)
    (differ_by cs c.args.ports.now c.connection_keys.new.keys (within connection_limit port_low port_high c.args.ports.now c.requires.1 none) once
    (omega (arith, table_long t, c.requires.0)) keys (c.connection_keys.auto.keys ∙ length-take-le _ _ c.requires.1) c.all_differ.result c.all_differ.ensures)
