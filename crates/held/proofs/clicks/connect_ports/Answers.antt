-- Answers for the goals that the search leaves.
use borrow.Author.Rules.{rules}
use mathlib.Core.Path.{◌≡◌, sym, ap, ◌∙◌}
use mathlib.Core.Bool.{Bool, true, false}
use mathlib.Core.List.{List}
use Prim.Native.Nat.{◌*◌, ◌+◌, ◌≤◌, ◌<◌}
use native.Mathlib.Omega.{arith}
use lib.ListN.{length, set}
use lib.Seq.{paste}
use lib.IntN.{ℤ}
use Rattle.std.specs.Prelude.{Ok, Err}
use Rattle.lists.specs.Limits.{connection_limit}
use Rattle.lists.specs.Limits.{port_width}
use Rattle.lists.specs.First.{tabulate}
use Rattle.held.specs.Tests.{any, same_numbers}
use Rattle.held.specs.Lent.{record_at}
use Rattle.held.specs.Plot.{is_held}
use Rattle.held.specs.Left.{connect, effect_of}
use Rattle.held.specs.Lent.{Lent, layout, plot_in, lent_if, lent_answer, lent_valid, held_in}
use Rattle.held.specs.Lent.{lent_of}
use Rattle.held.proofs.Kept.{Connecting, connecting_accepts}
use Rattle.held.proofs.LentLaws.{passes}
use Rattle.held.proofs.EntryLaws.{accepted_parts}
use Rattle.held.proofs.ConnectLaws.{numbers_long, held_is, held_count, kept_layout, joined_layout}
use Rattle.held.proofs.clicks.connect_ports.Goals as goal
use Rattle.held.proofs.clicks.connect_ports.Goals.{After-refuse_connecting}

module _ (c : After-refuse_connecting) where
  abbrev lent : Lent
  lent = lent_of c.args.state.now c.args.frontiers.now c.args.places.now c.args.connections.now

  abbrev numbers : List ℤ
  numbers = c.args.numbers.now

  module _ (was : c.refuse_connecting.result ≡ Ok tt) where
    accepted : lent_answer lent (connect numbers) ≡ Ok tt
    accepted = sym c.refuse_connecting.ensures ∙ was

    valid_is : lent_valid lent ≡ true
    valid_is = (accepted_parts lent (connect numbers) accepted).0

    says : Connecting (plot_in lent) numbers
    says = connecting_accepts (plot_in lent) numbers (accepted_parts lent (connect numbers) accepted).1

    long : length numbers ≡ 5
    long = numbers_long lent numbers valid_is says.fit

    held_room : held_in lent.state * 5 ≤ length lent.connections
    held_room = omega (arith, (passes lent valid_is).held_few, (passes lent valid_is).room.connections_room)

    held_by : (r b : Bool) → r ≡ any (same_numbers numbers) (tabulate (record_at port_width lent.connections) (held_in lent.state)) → r ≡ b → is_held (plot_in lent) numbers ≡ b
    held_by r b e f = held_is lent numbers valid_is ∙ (sym e ∙ f)

    -- a new connection has room
    room : is_held (plot_in lent) numbers ≡ false → held_in lent.state < connection_limit
    room new = omega (arith, says.room new, held_count lent numbers valid_is)

    leaves : (l : Lent) → l ≡ layout lent (effect_of (plot_in lent) (connect numbers)) → l ≡ lent_if (lent_answer lent (connect numbers)) (layout lent (effect_of (plot_in lent) (connect numbers))) lent
    leaves l e = e ∙ ap (λ r. lent_if r (layout lent (effect_of (plot_in lent) (connect numbers))) lent) (sym accepted)

pub returns-in_err-refuse_connecting : goal.returns-in_err-refuse_connecting
returns-in_err-refuse_connecting c =
    let p = (goal.at.returns-in_err-refuse_connecting c).After-refuse_connecting in
    let told = sym c.refuse_connecting.ensures ∙ c.in_err-refuse_connecting.was in
    let back : c.from_residual.result ≡ Err c.in_err-refuse_connecting.field-0.0 = search rules in
    rw back (record {
      answer = sym told;
      left = ap (λ r. lent_if r (layout (lent p) (effect_of (plot_in (lent p)) (connect (numbers p)))) (lent p)) (sym told);
    })

pub bounds-state-3 : goal.bounds-state-3
bounds-state-3 c =
    let p = (goal.at.bounds-state-3 c).After-refuse_connecting in
    omega (arith, (passes (lent p) (valid_is p c.in_ok-refuse_connecting.was)).room.state_room)

pub is_held-requires : goal.is_held-requires
is_held-requires c =
    let p = (goal.at.is_held-requires c).After-refuse_connecting in
    (long p c.in_ok-refuse_connecting.was, held_room p c.in_ok-refuse_connecting.was)

pub returns-then-is_held : goal.returns-then-is_held
returns-then-is_held c =
    let p = (goal.at.returns-then-is_held c).After-refuse_connecting in
    let was = c.in_ok-refuse_connecting.was in
    let here = held_by p was c.is_held.result true c.is_held.ensures c.if-is_held.true in
    record { answer = sym (accepted p was); left = leaves p was (lent p) (kept_layout (lent p) (numbers p) (valid_is p was) here) }

pub overflow_mul-held : goal.overflow_mul-held
overflow_mul-held c =
    let p = (goal.at.overflow_mul-held c).After-refuse_connecting in
    let was = c.in_ok-refuse_connecting.was in
    omega (arith, room p was (held_by p was c.is_held.result false c.is_held.ensures c.if-is_held.false))

pub put_numbers-requires : goal.put_numbers-requires
put_numbers-requires c =
    let p = (goal.at.put_numbers-requires c).After-refuse_connecting in
    let was = c.in_ok-refuse_connecting.was in
    omega (arith, room p was (held_by p was c.is_held.result false c.is_held.ensures c.if-is_held.false), long p was, (passes (lent p) (valid_is p was)).room.connections_room)

pub overflow_add-state : goal.overflow_add-state
overflow_add-state c =
    let p = (goal.at.overflow_add-state c).After-refuse_connecting in
    let was = c.in_ok-refuse_connecting.was in
    omega (arith, room p was (held_by p was c.is_held.result false c.is_held.ensures c.if-is_held.false))

pub bounds-state-3-2 : goal.bounds-state-3-2
bounds-state-3-2 c =
    let p = (goal.at.bounds-state-3-2 c).After-refuse_connecting in
    omega (arith, (passes (lent p) (valid_is p c.in_ok-refuse_connecting.was)).room.state_room)

pub returns : goal.returns
returns c =
    let p = (goal.at.returns c).After-refuse_connecting in
    let was = c.in_ok-refuse_connecting.was in
    let l = lent p in
    let new = held_by p was c.is_held.result false c.is_held.ensures c.if-is_held.false in
    let wrote : c.put_numbers.new.list ≡ paste l.connections (held_in l.state * 5) (numbers p) 5 =
    c.put_numbers.ensures ∙ ap (paste l.connections (held_in l.state * 5) (numbers p)) (long p was) in
    record {
      answer = sym (accepted p was);
      left = leaves p was _
          ((λ i. lent_of (set l.state 3 (held_in l.state + 1)) l.frontiers l.places (wrote i))
          ∙ joined_layout l (numbers p) (valid_is p was) new (says p was).fit (room p was new));
    }
