-- `faces::ports::repeater_ports` meets its contract, at each facing.
-- Assumes nothing.
use mathlib.Core.Logic.{⊎_elim}
use Rattle.faces.specs.Ports.{opposite, neither, repeater_ports}
use Rattle.faces.proofs.ports.repeater_ports.Goals as goal

pub returns-in-North : goal.returns-in-North
unfolding opposite neither repeater_ports
returns-in-North c =
    rw (c.place-output.ensures, c.place-input.ensures, c.opposite.ensures, c.place-east.ensures, c.place-west.ensures)
    (⊎_elim (λ e. rw e) (λ e. rw e) c.in-North.is)

pub returns-in-East : goal.returns-in-East
unfolding opposite neither repeater_ports
returns-in-East c =
    rw (c.place-output.ensures, c.place-input.ensures, c.opposite.ensures, c.place-north.ensures, c.place-south.ensures)
    (⊎_elim (λ e. rw e) (λ e. rw e) c.in-East.is)

pub returns-in-Up : goal.returns-in-Up
unfolding opposite neither repeater_ports
returns-in-Up c =
    rw (c.place-output.ensures, c.place-input.ensures, c.opposite.ensures, c.place-north.ensures, c.place-east.ensures, c.place-south.ensures, c.place-west.ensures)
    (⊎_elim (λ e. rw e) (λ e. rw e) c.in-Up.is)
