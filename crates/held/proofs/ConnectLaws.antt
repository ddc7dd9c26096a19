-- Connecting, in the slices.
--     source_is, sink_is, held_is        what the checks look for
--     joined_layout, kept_layout         what the slices hold afterwards
--     connect_18 and so on               the answer
-- Assumes nothing.
use Rattle.std.specs.Prelude.{Some, None, Ok, Err}
use Rattle.lists.specs.declared.Fault.{Fault}
use Rattle.lists.specs.declared.Section.{Section}
use mathlib.Core.Path.{◌≡◌, refl, sym, ap, ap₂, ◌∙◌}
use mathlib.Core.Bool.{Bool, true, false, cond}
use mathlib.Core.List.{List}
use Prim.Native.Nat.{ℕ, ◌+◌, ◌≤◌, ◌<◌}
use native.Mathlib.Omega.{arith}
use lib.ListN.{length, set}
use lib.Dec.{ltb}
use lib.IntN.{ℤ}
use borrow.Author.Tests.{lt-ltb, le-ltb}
use Rattle.lists.specs.Limits.{connection_limit, port_width}
use Rattle.lists.specs.First.{tabulate}
use Rattle.held.specs.Tests.{any, same_numbers}
use Rattle.held.specs.Plot.{Record, source_of, sink_of, is_present, is_held, connection_fits, connecting, connected, joined}
use Rattle.held.specs.Left.{connect}
use Rattle.held.specs.Lent.{Lent, record_at, held_in, plot_in, laid_state, laid_connections, laid_frontiers, laid_places, layout, lent_valid, lent_answer}
use Rattle.held.specs.Writes.{joined_connections}
use Rattle.held.proofs.Sound.{sound_of_valid}
use Rattle.held.proofs.Reached.{length_tabulate}
use Rattle.held.proofs.LentLaws.{passes, lent_back}
use Rattle.held.proofs.Shown.{fits_long, held_long}
use Rattle.held.proofs.WriteLaws.{join_state, join_connections}
use Rattle.held.proofs.EntryLaws.{refusal}
use Rattle.held.proofs.BreakLaws.{connections_shown}

module _ (lent : Lent) (numbers : Record) (v : lent_valid lent ≡ true) (f : connection_fits numbers ≡ true) where
  pub numbers_long : length numbers ≡ port_width
  numbers_long = fits_long _ _ numbers f

module _ (lent : Lent) (numbers : Record) (v : lent_valid lent ≡ true) where
  pub held_is : is_held (plot_in lent) numbers ≡ any (same_numbers numbers) (tabulate (record_at port_width lent.connections) (held_in lent.state))
  held_is = ap (any (same_numbers numbers)) (connections_shown lent v)

  pub held_count : length (plot_in lent).connections ≡ held_in lent.state
  held_count = ap length (connections_shown lent v) ∙ length_tabulate (record_at port_width lent.connections) (held_in lent.state)

  -- ---- the slices afterwards

  pub kept_layout : is_held (plot_in lent) numbers ≡ true → lent ≡ layout lent (connected (plot_in lent) numbers)
  kept_layout h = lent_back lent (passes lent v) ∙ ap (λ (b : Bool). layout lent (cond b (plot_in lent) (joined (plot_in lent) numbers))) (sym h)

  pub joined_layout : is_held (plot_in lent) numbers ≡ false → connection_fits numbers ≡ true → held_in lent.state < connection_limit
      → record { state = set lent.state 3 (held_in lent.state + 1); frontiers = lent.frontiers; places = lent.places; connections = joined_connections lent.connections (held_in lent.state) numbers }
      ≡ layout lent (connected (plot_in lent) numbers)
  unfolding laid_frontiers laid_places
  joined_layout new f room =
      let p = passes lent v in
      let s = sound_of_valid (plot_in lent) p.is_valid in
      let plot = plot_in lent in
      let state_now : lent.state ≡ laid_state (length lent.state) plot = ap (λ (l : Lent). l.state) (lent_back lent p) in
      let connections-now : lent.connections ≡ laid_connections (length lent.connections) plot = ap (λ (l : Lent). l.connections) (lent_back lent p) in
      let state_is : set lent.state 3 (held_in lent.state + 1) ≡ laid_state (length lent.state) (joined plot numbers) =
      ap₂ (λ (l : List ℕ) (n : ℕ). set l 3 (n + 1)) state_now (sym held_count) ∙ join_state plot.rules plot.frontiers plot.places plot.freed (length lent.state) plot.connections numbers in
      let connections_are : joined_connections lent.connections (held_in lent.state) numbers ≡ laid_connections (length lent.connections) (joined plot numbers) =
      ap₂ (λ (l : List ℤ) (n : ℕ). joined_connections l n numbers) connections-now (sym held_count)
      ∙ join_connections plot.rules plot.frontiers plot.places plot.freed (length lent.connections) plot.connections numbers
      (held_long plot.connections s.connections_sound.fit) (fits_long _ _ numbers f) p.room.connections_room (omega (arith, held_count)) in
      (λ i. record {
        state = state_is i;
        frontiers = ap (λ (l : Lent). l.frontiers) (lent_back lent p) i;
        places = ap (λ (l : Lent). l.places) (lent_back lent p) i;
        connections = connections_are i;
      }) ∙ ap (λ (b : Bool). layout lent (cond b (plot_in lent) (joined (plot_in lent) numbers))) (sym new)

-- ---- the answer

module _ (lent : Lent) (numbers : Record) where
  pub connect_18 : lent_valid lent ≡ false → lent_answer lent (connect numbers) ≡ refusal Fault.StrangePlot None
  unfolding lent_answer
  connect_18 v = rw v

  pub connect_3 : lent_valid lent ≡ true → connection_fits numbers ≡ false → lent_answer lent (connect numbers) ≡ refusal Fault.OutOfRange (Some Section.Connections)
  unfolding lent_answer connecting
  connect_3 v f = rw (v, f)

  pub connect_source : lent_valid lent ≡ true → connection_fits numbers ≡ true → is_present (plot_in lent).places (source_of numbers) ≡ false → lent_answer lent (connect numbers) ≡ refusal Fault.AbsentId None
  unfolding lent_answer connecting
  connect_source v f a = rw (v, f, a)

  pub connect_sink : lent_valid lent ≡ true → connection_fits numbers ≡ true → is_present (plot_in lent).places (source_of numbers) ≡ true → is_present (plot_in lent).places (sink_of numbers) ≡ false
      → lent_answer lent (connect numbers) ≡ refusal Fault.AbsentId None
  unfolding lent_answer connecting
  connect_sink v f a b = rw (v, f, a, b)

  pub connect_held : lent_valid lent ≡ true → connection_fits numbers ≡ true → is_present (plot_in lent).places (source_of numbers) ≡ true → is_present (plot_in lent).places (sink_of numbers) ≡ true
      → is_held (plot_in lent) numbers ≡ true → lent_answer lent (connect numbers) ≡ Ok tt
  unfolding lent_answer connecting
  connect_held v f a b h = rw (v, f, a, b, h)

  pub connect_1 : (v : lent_valid lent ≡ true) → connection_fits numbers ≡ true → is_present (plot_in lent).places (source_of numbers) ≡ true → is_present (plot_in lent).places (sink_of numbers) ≡ true
      → is_held (plot_in lent) numbers ≡ false → connection_limit ≤ held_in lent.state → lent_answer lent (connect numbers) ≡ Err (record { fault = Fault.ListLength; list = Some Section.Connections; item = connection_limit })
  unfolding lent_answer connecting
  connect_1 v f a b h full =
      let none : ltb (length (plot_in lent).connections) connection_limit ≡ false = le-ltb (length (plot_in lent).connections) connection_limit (omega (arith, held_count lent numbers v)) in
      rw (v, f, a, b, h, none)

  pub connect_0 : (v : lent_valid lent ≡ true) → connection_fits numbers ≡ true → is_present (plot_in lent).places (source_of numbers) ≡ true → is_present (plot_in lent).places (sink_of numbers) ≡ true
      → is_held (plot_in lent) numbers ≡ false → held_in lent.state < connection_limit → lent_answer lent (connect numbers) ≡ Ok tt
  unfolding lent_answer connecting
  connect_0 v f a b h room =
      let some : ltb (length (plot_in lent).connections) connection_limit ≡ true = lt-ltb (length (plot_in lent).connections) connection_limit (omega (arith, held_count lent numbers v)) in
      rw (v, f, a, b, h, some)

  -- where there is room the connection is taken, held or not
  pub connect_room : (v : lent_valid lent ≡ true) → connection_fits numbers ≡ true → is_present (plot_in lent).places (source_of numbers) ≡ true → is_present (plot_in lent).places (sink_of numbers) ≡ true
      → held_in lent.state < connection_limit → lent_answer lent (connect numbers) ≡ Ok tt
  connect_room v f a b room = go (is_held (plot_in lent) numbers) refl
    where
      go : (h : Bool) → is_held (plot_in lent) numbers ≡ h → lent_answer lent (connect numbers) ≡ Ok tt
      go true h = connect_held v f a b h
      go false h = connect_0 v f a b h room
