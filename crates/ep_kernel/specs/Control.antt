-- What an epoll_ctl leaves of the place of its registration.
use Rattle.std.specs.Prelude.{◌≡◌, ◌==◌, Bool, MatchBool, MatchOption, Option, false, true}
use Rattle.ep_base.specs.declared.ids.EntryId.{EntryId}
use Rattle.ep_calls.specs.declared.raising.Raising.{Raising}
use Rattle.ep_calls.specs.declared.raising.Raising.TheVariants.{Instance}
use Rattle.ep_interest.specs.declared.entry.Entry.{Entry}
use Rattle.ep_kernel.specs.Push.{Gains}
use Rattle.ep_ready.specs.ReadyLists.{Lists, LosesPlace}

abbrev pub is_at_instance : Raising → Bool
is_at_instance (Instance desc) = true
is_at_instance raising = false

-- it goes with the registration; one that is left comes to the end of its list where IN is raised at its instance
abbrev pub Settles : EntryId → Option Entry → Raising → Lists → Lists → Type 0
Settles id entry raising old new =
    MatchOption entry (LosesPlace old new id) (λ x. MatchBool (is_at_instance raising) (Gains (λ k. k == id.0) old new) (new ≡ old))
