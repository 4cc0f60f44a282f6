-- What follows the change of an event: its spread, and its rest.
use Rattle.std.specs.Prelude.{◌≡◌, Bool, map, ℕ}
use Rattle.ep_calls.specs.Burial.{Burial}
use Rattle.ep_calls.specs.Climb.{Rises}
use Rattle.ep_calls.specs.Ids.{KeepsIds}
use Rattle.ep_calls.specs.Parts.{AreCoherent, Parts}
use Rattle.ep_calls.specs.Raising.{IsRaising, Stirs}
use Rattle.ep_calls.specs.declared.raising.Raising.{Raising}
use Rattle.ep_interest.specs.Registrations.{IsSound, Registrations, settled}
use Rattle.ep_machine.specs.Marks.{marked_by}
use Rattle.ep_table.specs.Value.{Sound as SoundTables}

-- in event n what it raised is noted, and the dead go
pub record Leaves (n : ℕ) (raising : Raising) (mid : Parts) (noted : Registrations) (buried : Parts) : Type 0 where
  pub coherent : AreCoherent mid
  pub tables : SoundTables mid.tables
  pub raises : IsRaising raising mid.tables
  pub stirs : Stirs raising mid.tables mid.clock n mid.interest noted
  pub keys : noted.keys ≡ mid.interest.keys
  pub burial : Burial n mid.tables noted buried.tables buried.interest
  pub ids : KeepsIds noted buried.interest
  pub was : IsSound mid.interest
  pub then_sound : IsSound noted
  pub left : IsSound buried.interest
  pub parked : buried.parked ≡ mid.parked
  pub clock : buried.clock ≡ mid.clock
  pub coherent_buried : AreCoherent buried
  pub tables_buried : SoundTables buried.tables

-- the spread: then what was raised climbs
pub record Spreads (n : ℕ) (raising : Raising) (mid left : Parts) : Type 0 where
  pub noted : Registrations
  pub buried : Parts
  pub leaves : Leaves n raising mid noted buried
  pub rises : Rises n buried.tables buried.interest left.interest
  pub keys : left.interest.keys ≡ buried.interest.keys
  pub sound : IsSound left.interest
  pub others : left ≡ record buried { interest = left.interest }

-- the rest: the instances that a test names by their keys get a mark, and what was passed on is forgotten
pub record RestsBy (test : ℕ → Bool) (left new : Parts) : Type 0 where
  pub marks : new.parked ≡ marked_by test left.clock left.parked
  pub entries : new.interest.entries ≡ map settled left.interest.entries
  pub keys : new.interest.keys ≡ left.interest.keys
  pub added : new.interest.added ≡ left.interest.added
  pub others : new ≡ record left { interest = new.interest; parked = new.parked }
