-- Links under tickets, which rise in the order in which they were made.
use Rattle.ep_machine.specs.Lists.{are_distinct}
use Rattle.ep_nest.specs.Adjacent.{GainsTurn, turns_at}
use Rattle.ep_nest.specs.Links.{entries, is_of, starts_at}
use Rattle.ep_nest.specs.declared.link.Link.{Link}
use Rattle.ep_nest.specs.declared.link.Way.{Way}
use Rattle.ep_nest.specs.declared.link.Way.TheVariants.{Down, Up}
use Rattle.std.specs.List.{AllByRecursion}
use Rattle.std.specs.List.Sorted.{IsStrictlySortedBy}
use Rattle.std.specs.Map.{keys_of, lookup, values_of}
use Rattle.std.specs.Ordering.{nat_cmp}
use Rattle.std.specs.Prelude.{List, None, Option, Some, [], filter, if◌then◌else◌, nat_eq, true, ℕ, ◌++◌, ◌∷◌, ◌≡◌, ◌≤◌}

-- tickets rise, and none is above the last
pub record AreNumbered (turns : List (ℕ × Link)) (last : ℕ) : Type 0 where
  pub rise : IsStrictlySortedBy nat_cmp (keys_of turns)
  pub within : AllByRecursion (λ ticket. ticket ≤ last) (keys_of turns)

-- the ticket of a registration's link
abbrev pub ticket_of : ℕ → List (ℕ × Link) → Option ℕ
ticket_of entry [] = None
ticket_of entry (t ∷ ts) = if is_of entry t.1 then Some t.0 else ticket_of entry ts

-- the turns whose links start at an instance
abbrev pub turns_from : Way → ℕ → List (ℕ × Link) → List (ℕ × Link)
turns_from way k turns = filter (λ t. starts_at way k t.1) turns

-- each instance has the turns of its links
abbrev pub ArePlaced : Way → List (ℕ × Link) → List (List (ℕ × Link)) → Type 0
ArePlaced way turns tss = (k : ℕ) → turns_at tss k ≡ turns_from way k turns

pub record IsStored (turns : List (ℕ × Link)) (tickets : List (ℕ × ℕ)) (lower upper : List (List (ℕ × Link))) (last : ℕ) : Type 0 where
  pub numbered : AreNumbered turns last
  pub distinct : are_distinct (entries (values_of turns)) ≡ true
  pub ticketed : (entry : ℕ) → lookup (nat_eq entry) tickets ≡ ticket_of entry turns
  pub down : ArePlaced Down turns lower
  pub up : ArePlaced Up turns upper

-- the inner instance has one link more, and so have all
pub record AddsAbove (old new : List (List (ℕ × Link))) (turns turns' : List (ℕ × Link)) (ticket : ℕ) (link : Link) : Type 0 where
  pub above : GainsTurn old new link.inner.0 ticket link
  pub all : turns' ≡ turns ++ (ticket, link) ∷ []
  pub rise : IsStrictlySortedBy nat_cmp (keys_of turns')
