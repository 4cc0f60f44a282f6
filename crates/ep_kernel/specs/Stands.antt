-- How what stands beside the parts fits them.
use Rattle.ep_calls.specs.Parts.{Parts}
use Rattle.ep_choice.specs.Room.{HaveRoom, Suits}
use Rattle.ep_climb.specs.Reach.{AreRoomy}
use Rattle.ep_interest.specs.Registrations.{Registrations}
use Rattle.ep_kernel.specs.Beside.{Both}
use Rattle.ep_kernel.specs.Listed.{HavePlaces, HopesFor, IsListed}
use Rattle.ep_kernel.specs.declared.beside.Beside.{Beside}

-- there is room for what an event notes of the registrations, and for going on from what is lost
pub record HasRoom (r : Registrations) (b : Beside) : Type 0 where
  pub reached : AreRoomy r b.reached
  pub choice : Suits r b.choice
  pub lost : HaveRoom b.choice.lost.reached b.reached

-- each registration has its places and its room
pub record FitsBeside (p : Parts) (b : Beside) : Type 0 where
  pub places : Both (HavePlaces p.interest) b
  pub room : HasRoom p.interest b

-- between two events, too, the lists and the hopes have what is reportable
pub record StandsBeside (p : Parts) (b : Beside) : Type 0 where
  pub listed : IsListed p b.lists
  pub hopes : HopesFor p b.asked.hopes
  pub room : HasRoom p.interest b
