-- How ready lists fit the registrations.
use Rattle.std.specs.Option.{option_map}
use Rattle.std.specs.Prelude.{◌≡◌, ◌&&◌, ◌||◌, Bool, List, [], ◌∷◌, None, Option, Some, false, map, not, suc, true, unwrap_or, ℕ}
use Rattle.ep_base.specs.declared.ids.EntryId.{EntryId}
use Rattle.ep_calls.specs.Parts.{Parts}
use Rattle.ep_calls.specs.Readiness.{entry_shows, readiness}
use Rattle.ep_calls.specs.Stands.{number_at}
use Rattle.ep_interest.specs.Registrations.{Registrations, entry_under, number_under}
use Rattle.ep_interest.specs.declared.entry.Entry.{Entry}
use Rattle.ep_kernel.specs.ReadyBook.{InstanceList}
use Rattle.ep_machine.specs.Bits.{ET, has_bit}
use Rattle.ep_machine.specs.State.{State}
use Rattle.ep_order.specs.Order.{IsFairOrder}
use Rattle.ep_order.specs.Pick.{turns_of}
use Rattle.ep_rings.specs.KeyWalk.{entry_id}
use Rattle.ep_ready.specs.ReadyLists.{Lists, instance_at, list_at, stands}

-- what may stand on a list: it is armed, and an edge-triggered one is fresh
abbrev pub may_stand : Entry → Bool
may_stand x = x.armed && (not (has_bit x.mask.0 ET) || x.fresh)

-- each registration has a place of its instance, and nothing else has one
abbrev pub HavePlaces : Registrations → Lists → Type 0
HavePlaces r l = (id : EntryId) → instance_at l id ≡ option_map (λ x. x.instance.0) (entry_under r id)

-- what stands on a list may
abbrev pub MayStand : Registrations → Lists → Type 0
MayStand r l = (id : EntryId) (x : Entry) → entry_under r id ≡ Some x → stands l id ≡ true → may_stand x ≡ true

abbrev pub shows_found : Parts → Option Entry → Bool
shows_found p None = false
shows_found p (Some x) = entry_shows (readiness p.tables p.clock p.interest) p.tables p.clock x

-- whether the registration under a key is reportable
abbrev pub key_shows : Parts → ℕ → Bool
key_shows p k = shows_found p (entry_under p.interest (entry_id k))

-- what is reportable stands on its list
abbrev pub HasReportables : Parts → Lists → Type 0
HasReportables p l = (k : ℕ) → key_shows p k ≡ true → stands l (entry_id k) ≡ true

-- the hopes: what is reportable stands on the list of its instance, in any order, and so may what is reportable no more
pub record HopesFor (p : Parts) (l : Lists) : Type 0 where
  pub places : HavePlaces p.interest l
  pub complete : HasReportables p l

-- between two events
pub record IsListed (p : Parts) (l : Lists) : Type 0 where
  pub places : HavePlaces p.interest l
  pub sound : MayStand p.interest l
  pub complete : HasReportables p l

-- the list of an instance's key by the numbers of its registrations
abbrev pub order_at : Registrations → Lists → ℕ → List ℕ
order_at r l i = map (λ k. unwrap_or (number_under r (entry_id k)) 0) (list_at l i)

-- at a state of the machine: whoever stands before a reportable one was not reported since that one came to be
-- reportable
abbrev pub AreFair : State → Parts → Lists → Type 0
AreFair s p l = (i : ℕ) → IsFairOrder (turns_of s (number_at p.tables.keys (record { 0 = i }))) (order_at p.interest l i)

-- the list of instance d in front, if it is not empty
abbrev pub with_first : ℕ → List ℕ → List InstanceList → List InstanceList
with_first d [] xs = xs
with_first d (k ∷ ks) xs = record { instance = d; registrations = k ∷ ks } ∷ xs

-- the lists under keys, by the numbers of their instances
abbrev pub lists_under : (ℕ → List ℕ) → List (Option ℕ) → List InstanceList
lists_under order [] = []
lists_under order (None ∷ keys) = lists_under (λ i. order (suc i)) keys
lists_under order (Some d ∷ keys) = with_first d (order 0) (lists_under (λ i. order (suc i)) keys)

abbrev pub lists_of : Parts → Lists → List InstanceList
lists_of p l = lists_under (order_at p.interest l) p.tables.keys
