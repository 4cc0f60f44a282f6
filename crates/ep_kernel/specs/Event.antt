-- What an event leaves beside the parts, before the dead go and before what it raised climbs.
use Rattle.std.specs.Prelude.{◌≡◌, ℕ}
use Rattle.ep_alarms.specs.Changes.{CallsTables}
use Rattle.ep_base.specs.declared.call.Call.{Call}
use Rattle.ep_base.specs.declared.call.Event.{Event}
use Rattle.ep_calls.specs.Clock.{ClockStays}
use Rattle.ep_calls.specs.Parts.{Parts}
use Rattle.ep_calls.specs.declared.outcome.Outcome.{Outcome}
use Rattle.ep_choice.specs.Lost.{NotesLost}
use Rattle.ep_kernel.specs.Stands.{HasRoom}
use Rattle.ep_kernel.specs.Turns.{HopesGo, Turns}
use Rattle.ep_kernel.specs.Wait.{ReportsInOrder}
use Rattle.ep_kernel.specs.declared.beside.Beside.{Beside}
use Rattle.ep_ready.specs.ReadyLists.{Lists, Same}

-- from parts p and beside b to parts q and beside c, whatever is answered
pub record LeavesBeside (event : Event) (p : Parts) (b : Beside) (q : Parts) (c : Beside) : Type 0 where
  pub hopes : HopesGo event p q c.asked.hopes
  pub room : HasRoom q.interest c
  pub lost : NotesLost p q b.choice.lost.reached c.choice.lost.reached

-- want of memory leaves the parts, the lists and what is lost
pub record StaysBeside (p : Parts) (b : Beside) (q : Parts) (c : Beside) : Type 0 where
  pub parts : q ≡ p
  pub lists : Same b.lists c.lists
  pub lost : c.choice.lost.reached ≡ b.choice.lost.reached

-- event n takes lists l to lists m, and a wait reports in the order of l
pub record TurnsInOrder (n caller : ℕ) (event : Event) (outcome : Outcome) (p : Parts) (l : Lists) (q : Parts) (m : Lists) : Type 0 where
  pub turns : Turns event outcome.picked p l q m
  pub order : ReportsInOrder l n caller event outcome p q m

-- what a call does to the tables and the clock, as the alarms follow it
pub record CallMoves (pid : ℕ) (call : Call) (outcome : Outcome) (p q : Parts) : Type 0 where
  pub tables : CallsTables pid call outcome.answer p q
  pub clock : ClockStays outcome.raising p.clock q.clock
