-- What contracts see of the parts of a kernel, and what holds of them between calls.
use Rattle.std.specs.Prelude.{◌≡◌, ◌≤◌, ◌∷◌, All, List, [], true, ℕ}
use Rattle.ep_base.specs.Limits.{Limits}
use Rattle.ep_interest.specs.Registrations.{Registrations}
use Rattle.ep_interest.specs.declared.entry.Entry.{Entry}
use Rattle.ep_machine.specs.Files.{object_of, opening_files}
use Rattle.ep_view.specs.AtRest.{can_be_watched}
use Rattle.ep_machine.specs.State.{Waiter}
use Rattle.ep_machine.specs.Timer.{last_moment}
use Rattle.ep_nest.specs.declared.link.Link.{Link}
use Rattle.ep_calls.specs.Climb.{AreNested}
use Rattle.ep_calls.specs.Stands.{AreHeld, AreLinked, ArePlaced, number_at}
use Rattle.ep_table.specs.Value.{Gains, Seen}

pub record Parts : Type 0 where
  pub tables : Seen
  pub interest : Registrations
  pub graph : List Link
  pub parked : List Waiter
  pub clock : ℕ

-- each registration watches what can be watched
abbrev pub AreWatched : Seen → Registrations → Type 0
AreWatched v r = All (λ (x : Entry). can_be_watched (object_of v.files (number_at v.keys x.desc)) ≡ true) r.entries

-- what holds between calls
pub record AreCoherent (p : Parts) : Type 0 where
  pub linked : AreLinked p.tables p.interest
  pub watched : AreWatched p.tables p.interest
  pub nested : AreNested p.tables p.interest p.graph
  pub placed : ArePlaced p.tables p.parked
  pub held : AreHeld p.tables p.parked
  pub clock : p.clock ≤ last_moment

-- the parts at the start: process 1, and nothing registered, linked or parked
pub record AreOpening (within : Limits) (p : Parts) : Type 0 where
  pub limits : p.tables.limits ≡ within
  pub files : p.tables.files ≡ opening_files
  pub keys : Gains [] p.tables.keys 0
  pub holds : p.tables.holds ≡ 0 ∷ []
  pub dying : p.tables.dying ≡ []
  pub interest : p.interest ≡ record { entries = []; keys = []; added = 0; next = 0 }
  pub graph : p.graph ≡ []
  pub parked : p.parked ≡ []
  pub clock : p.clock ≡ 0
