-- What holds of the ready lists and of the hopes alike, and what happens to both.
use Rattle.std.specs.Prelude.{◌≡◌, ◌<◌, ◌≤◌, ℕ}
use Rattle.ep_base.specs.declared.mask.Mask.{Mask}
use Rattle.ep_calls.specs.declared.control.Named.{Named}
use Rattle.ep_choice.specs.Room.{HasRoomFor as CanChoose, Widens as WidensChoice}
use Rattle.ep_kernel.specs.declared.beside.Beside.{Beside}
use Rattle.ep_ready.specs.ReadyLists.{Lists}

-- this holds of the lists and of the hopes
pub record Both (P : Lists → Type 0) (b : Beside) : Type 0 where
  pub lists : P b.lists
  pub hopes : P b.asked.hopes

-- this happens to the lists and to the hopes
pub record Alike (R : Lists → Lists → Type 0) (old new : Beside) : Type 0 where
  pub lists : R old.lists new.lists
  pub hopes : R old.asked.hopes new.asked.hopes

-- all but the lists and the hopes stays
abbrev pub KeepsRest : Beside → Beside → Type 0
KeepsRest old new = new ≡ record old { lists = new.lists; asked = record old.asked { hopes = new.asked.hopes } }

-- this happens to the lists and to the hopes, and nothing else does
pub record Each (R : Lists → Lists → Type 0) (old new : Beside) : Type 0 where
  pub alike : Alike R old new
  pub rest : KeepsRest old new

-- no less room for what is noted, and what is lost stays
pub record Widens (old new : Beside) : Type 0 where
  pub reached : old.reached.room ≤ new.reached.room
  pub choice : WidensChoice old.choice new.choice

-- room for what is noted of a registration of these two with a mask, under a key
pub record HasRoomFor (b : Beside) (named : Named) (mask : Mask) (key : ℕ) : Type 0 where
  pub ready : named.instance.0 < b.asked.ready.room
  pub idle : named.instance.0 < b.asked.idle.room
  pub reached : named.instance.0 < b.reached.room
  pub choice : CanChoose b.choice named mask key
