-- What holds of the kernel with ready lists between two events, and what the spread of an event does to its lists.
use Rattle.std.specs.Prelude.{[], ◌+◌, List, length, ℕ, ◌≡◌}
use Rattle.ep_alarms.specs.Alarms.{AreSet}
use Rattle.ep_base.specs.declared.record.Record.{Record}
use Rattle.ep_calls.specs.Ends.{Spreads}
use Rattle.ep_calls.specs.Keeps.{Keeps}
use Rattle.ep_calls.specs.Parts.{Parts}
use Rattle.ep_calls.specs.declared.raising.Raising.{Raising}
use Rattle.ep_climb.specs.Reach.{AreReached}
use Rattle.ep_interest.specs.Registrations.{Registrations}
use Rattle.ep_kernel.specs.Beside.{Alike}
use Rattle.ep_kernel.specs.Listed.{AreFair, HopesFor, IsListed, lists_of}
use Rattle.ep_kernel.specs.Places.{LosesDying}
use Rattle.ep_kernel.specs.Push.{Gains, comes_in}
use Rattle.ep_kernel.specs.ReadyBook.{ReadyBook}
use Rattle.ep_kernel.specs.Stands.{HasRoom}
use Rattle.ep_kernel.specs.declared.beside.Beside.{Beside}
use Rattle.ep_kernel.specs.declared.ready.ReadyKernel.TheInside.{Inside}
use Rattle.ep_ready.specs.ReadyLists.{Lists}
use Rattle.ep_records.specs.Past.{whole}

-- the history leads to a state for which the parts stand, each reportable registration stands on its list, and the
-- lists are in a fair order
pub record Runs (past : List Record) (p : Parts) (l : Lists) : Type 0 where
  pub keeps : Keeps past p
  pub listed : IsListed p l
  pub fair : AreFair keeps.state p l

abbrev pub book_of : Inside → ReadyBook
book_of k = record {
  book = record {
    limits = k.parts.tables.limits;
    past = whole k.history;
    taken = k.history.taken;
    capacity = length (whole k.history) + k.history.room;
  };
  lists = lists_of k.parts k.beside.lists;
}

-- the same, each timer has its moment, what is reportable is among the hopes, there is room, and nothing is lost
pub record IsRunning (k : Inside) : Type 0 where
  pub runs : Runs (whole k.history) k.parts k.beside.lists
  pub set : AreSet k.parts.tables k.parts.clock k.alarms
  pub hopes : HopesFor k.parts k.beside.asked.hopes
  pub room : HasRoom k.parts.interest k.beside
  pub unlost : k.beside.choice.lost.reached ≡ []

-- what the spread of event n does to lists: they lose the places that go with the dead, and what passes something on
-- comes to the end of its list
pub record ListsSpread (n : ℕ) (mid : Parts) (noted : Registrations) (buried : Parts) (l m : Lists) : Type 0 where
  pub between : Lists
  pub loses : LosesDying mid.tables noted l between
  pub gains : Gains (comes_in n buried) between m

-- the spread of event n, with the lists, the hopes and the instances that IN reached
pub record SpreadsWith (n : ℕ) (raising : Raising) (mid : Parts) (b : Beside) (left : Parts) (c : Beside) : Type 0 where
  pub spreads : Spreads n raising mid left
  pub beside : Alike (ListsSpread n mid spreads.noted spreads.buried) b c
  pub reached : AreReached n spreads.buried.tables spreads.buried.interest c.reached.reached
