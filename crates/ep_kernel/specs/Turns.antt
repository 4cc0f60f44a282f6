-- What the change of an event does to the lists, before the dead go and before what it raised climbs.
use Rattle.std.specs.Prelude.{◌≡◌, ◌⊎◌, ◌++◌, Bool, List, None, Some, false, filter, true, ℕ}
use Rattle.ep_base.specs.declared.call.Call.TheVariants.{EpollCtl}
use Rattle.ep_base.specs.declared.call.Event.{Event}
use Rattle.ep_base.specs.declared.call.Event.TheVariants.{Call as CallOf}
use Rattle.ep_calls.specs.Ids.{HadOrAdds}
use Rattle.ep_calls.specs.Parts.{Parts}
use Rattle.ep_calls.specs.Stands.{number_at}
use Rattle.ep_interest.specs.Registrations.{entry_under, number_under}
use Rattle.ep_interest.specs.declared.entry.Entry.{Entry}
use Rattle.ep_kernel.specs.Listed.{HavePlaces, MayStand, key_shows}
use Rattle.ep_machine.specs.Files.{named_by}
use Rattle.ep_machine.specs.Lists.{is_among}
use Rattle.ep_machine.specs.Watches.{is_del}
use Rattle.ep_rings.specs.KeyWalk.{entry_id}
use Rattle.ep_ready.specs.ReadyLists.{Lists, list_at, stands}

-- what an epoll_ctl added or modified stands on its list, where it is reportable
abbrev pub AlteredStand : Event → Parts → Parts → Lists → Type 0
AlteredStand (CallOf pid (EpollCtl epfd op fd mask tag)) p q m = (k : ℕ) (x : Entry) → entry_under q.interest (entry_id k) ≡ Some x
    → is_del op ≡ false
    → number_at p.tables.keys x.instance ≡ named_by p.tables.files pid.0 epfd.0
    → x.fd ≡ fd
    → number_at p.tables.keys x.desc ≡ named_by p.tables.files pid.0 fd.0
    → key_shows q k ≡ true → stands m (entry_id k) ≡ true
AlteredStand event p q m = Unit {0}

-- an epoll_ctl added or modified the registration under this key, and left it reportable
abbrev pub IsAlteredKey : Event → Parts → Parts → ℕ → Type 0
IsAlteredKey (CallOf pid (EpollCtl epfd op fd mask tag)) p q k = (x : Entry) → entry_under q.interest (entry_id k) ≡ Some x
    → (is_del op ≡ false)
    × (number_at q.tables.keys x.instance ≡ named_by p.tables.files pid.0 epfd.0)
    × (x.fd ≡ fd)
    × (number_at q.tables.keys x.desc ≡ named_by p.tables.files pid.0 fd.0)
    × (key_shows q k ≡ true)
IsAlteredKey event p q k = ⊥

-- from parts p to parts q with hopes h: what was reportable and has its registration still, stands there, and so does
-- what was added or modified and is reportable
pub record HopesGo (event : Event) (p q : Parts) (h : Lists) : Type 0 where
  pub stays : (k : ℕ) (x : Entry) → entry_under p.interest (entry_id k) ≡ Some x → key_shows p k ≡ true
      → number_under q.interest (entry_id k) ≡ Some x.number → stands h (entry_id k) ≡ true
  pub altered : AlteredStand event p q h
  pub places : HavePlaces q.interest h

-- from parts p and lists l to parts q and lists m, where the registrations of these numbers are reported
pub record Turns (event : Event) (picked : List ℕ) (p : Parts) (l : Lists) (q : Parts) (m : Lists) : Type 0 where
  pub keeps : ℕ → Bool  -- by key: what stays where it stands
  pub more : ℕ → List ℕ  -- what comes behind
  pub lists : (i : ℕ) → list_at m i ≡ filter keeps (list_at l i) ++ more i
  -- what comes behind stood on that list, or was added or modified and is reportable
  pub comes : (i k : ℕ) → is_among (more i) k ≡ true → (is_among (list_at l i) k ≡ true) ⊎ IsAlteredKey event p q k
  -- what is reported does not stay where it stood
  pub unpicked : (i k : ℕ) (x : Entry) → is_among (list_at l i) k ≡ true → entry_under p.interest (entry_id k) ≡ Some x → keeps k ≡ true
      → is_among picked x.number ≡ false
  -- what leaves though it is reportable is reported, or gone
  pub leaves : (i k : ℕ) (x : Entry) → is_among (list_at l i) k ≡ true → entry_under p.interest (entry_id k) ≡ Some x → keeps k ≡ false
      → key_shows p k ≡ true → (is_among picked x.number ≡ true) ⊎ (number_under q.interest (entry_id k) ≡ None)
  -- what is reportable again after its report stands
  pub again : (k : ℕ) (x : Entry) → entry_under q.interest (entry_id k) ≡ Some x → is_among picked x.number ≡ true → key_shows q k ≡ true
      → stands m (entry_id k) ≡ true
  pub altered : AlteredStand event p q m
  pub ids : HadOrAdds p.interest q.interest
  pub places : HavePlaces q.interest m
  pub sound : MayStand q.interest m
