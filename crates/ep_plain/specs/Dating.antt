-- The dates of registrations, and the walks that the end of an event goes along.
use Rattle.std.specs.Prelude.{◌≡◌, ◌<◌, ◌≤◌, List, [], Option, ℕ}
use Rattle.ep_rings.specs.PlacedRows.{no_rows}
use Rattle.ep_base.specs.declared.ids.DescId.{DescId}
use Rattle.ep_base.specs.declared.mask.Mask.{Mask}
use Rattle.ep_calls.specs.declared.control.Named.{Named}
use Rattle.ep_choice.specs.Room.{HasRoomFor as CanChoose, HaveRoom, Suits, Widens}
use Rattle.ep_climb.specs.Reach.{AreRoomy}
use Rattle.ep_dates.specs.Dates.{HasRoom, Widens as WidensDates}
use Rattle.ep_dates.specs.Kept.{AreKept}
use Rattle.ep_dates.specs.Pick.{AreFlaggable}
use Rattle.ep_dates.specs.Touched.{Touched}
use Rattle.ep_interest.specs.Registrations.{Registrations}
use Rattle.ep_plain.specs.declared.dating.Dating.{Dating}

-- the dates are those of these registrations, each walk has room for them, and none is flagged
pub record Fits (r : Registrations) (d : Dating) : Type 0 where
  pub kept : AreKept r d.dates
  pub reached : AreRoomy r d.reached
  pub gone : AreRoomy r d.gone
  pub flags : AreFlaggable r d.flags
  pub unflagged : d.flags.reached ≡ []
  pub choice : Suits r d.choice
  pub lost : HaveRoom d.choice.lost.reached d.reached

-- more room, and no other date
pub record Grows (old new : Dating) : Type 0 where
  pub dates : WidensDates old.dates new.dates
  pub reached : old.reached.room ≤ new.reached.room
  pub gone : old.gone.room ≤ new.gone.room
  pub flags : old.flags.room ≤ new.flags.room
  pub flagged : new.flags.reached ≡ old.flags.reached
  pub choice : Widens old.choice new.choice

-- there is room for a registration of these two, with a number, with a mask and under a key
pub record HasRoomFor (d : Dating) (number : ℕ) (named : Named) (mask : Mask) (key : ℕ) : Type 0 where
  pub dates : HasRoom d.dates number named.instance.0 key
  pub reached : named.instance.0 < d.reached.room
  pub gone : named.instance.0 < d.gone.room
  pub flags : key < d.flags.room
  pub choice : CanChoose d.choice named mask key

-- without a registration
pub record IsNew (d : Dating) : Type 0 where
  pub since : d.dates.since ≡ []
  pub rows : d.dates.rows ≡ no_rows
  pub flags : d.flags.reached ≡ []
  pub lost : d.choice.lost.reached ≡ []

-- what an event touched, if it reported these and was a call on that description
abbrev pub touched_in : Dating → Option DescId → List ℕ → Touched
touched_in d called reported = record { altered = d.altered; reached = d.reached.reached; reported = reported; called = called; gone = d.gone.reached }
