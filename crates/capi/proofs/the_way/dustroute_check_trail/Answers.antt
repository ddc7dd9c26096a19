-- `capi::the_way::dustroute_check_trail` meets its contract. Assumes nothing.
use Rattle.std.specs.Prelude.{⊤, ℕ, ◌*◌, Result, Ok, Err}
use Rattle.lists.specs.declared.Refusal.{Refusal}
use mathlib.Core.Path.{sym, ap, subst}
use mir.Facts.{to_z-of_z}
use Rattle.lists.specs.Rules.{rules_of}
use Rattle.checks.specs.Refusals.{Small}
use Rattle.capi.proofs.WaySmall.{check_small}
use Rattle.capi.proofs.the_way.dustroute_check_trail.Goals as goal

pub pack_refusal-requires : goal.pack_refusal-requires
pack_refusal-requires c =
    let a = c.args in
    let refused = (rw (to_z-of_z c.ranges.rules, c.in-Err.is) at c.check_trail.ensures).by.answer in
    subst (λ (x : Result ⊤ Refusal). Small x) (sym refused) (check_small (rules_of a.rules) a.components.now a.ports.now a.frontiers.now a.id a.port)

pub returns-in-Err : goal.returns-in-Err
returns-in-Err c = record { found = Err c.in-Err.refusal; checking = rw (to_z-of_z c.ranges.rules, c.in-Err.is) at c.check_trail.ensures; answer = c.pack_refusal.ensures }

pub returns-in-Ok : goal.returns-in-Ok
returns-in-Ok c = record { found = Ok c.in-Ok.yes; checking = rw (to_z-of_z c.ranges.rules, c.in-Ok.is) at c.check_trail.ensures; answer = ap (λ (b : ℕ). 65536 * b) c.from.ensures }
