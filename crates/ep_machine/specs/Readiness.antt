-- What holds at descriptions, and which registrations and instances that makes reportable and ready.
use Rattle.std.specs.List.{list_any}
use Rattle.std.specs.Prelude.{Bool, List, None, Option, Some, false, filter, nat_lt, not, suc, true, zero, ℕ, ◌&&◌, ◌==◌, ◌||◌}
use Rattle.ep_base.specs.declared.object.End.{End}
use Rattle.ep_machine.specs.Bits.{ET, IN, asked, has_bit, when}
use Rattle.ep_base.specs.declared.counts.Counts.{Counts}
use Rattle.ep_machine.specs.Counts.{arrived_since, every_shown_bit}
use Rattle.ep_machine.specs.Files.{object_of, side_of}
use Rattle.ep_machine.specs.Objects.{Object, instance, object_present}
use Rattle.ep_machine.specs.State.{State, Watch, counts_of}

-- where `is_ready` says which instances are ready
abbrev pub present_of : (ℕ → Bool) → ℕ → Option Object → End → ℕ → ℕ
present_of is_ready d None e now = 0
present_of is_ready d (Some instance) e now = when (is_ready d) IN
present_of is_ready d (Some x) e now = object_present x e now

abbrev pub present_by : (ℕ → Bool) → State → ℕ → ℕ
present_by is_ready s d = present_of is_ready d (object_of s.files d) (side_of s.files d) s.now

abbrev pub shown_by : (ℕ → Bool) → State → Watch → ℕ
shown_by is_ready s x = when x.armed (asked x.mask (present_by is_ready s x.target))

abbrev pub is_fresh_since : Option Counts → ℕ → Counts → Bool
is_fresh_since None bits c = true
is_fresh_since (Some old) bits c = arrived_since bits old c

-- some bit that it asks for arrived since its last report
abbrev pub is_fresh : State → Watch → Bool
is_fresh s x = is_fresh_since x.seen (asked x.mask every_shown_bit) (counts_of s x.target)

abbrev pub is_reportable_by : (ℕ → Bool) → State → Watch → Bool
is_reportable_by is_ready s x = nat_lt 0 (shown_by is_ready s x) && (not (has_bit x.mask ET) || is_fresh s x)

-- looking down through at most so many instances
abbrev pub is_ready_within : ℕ → State → ℕ → Bool
is_ready_within zero s e = false
is_ready_within (suc levels) s e = list_any (λ x. x.instance == e && is_reportable_by (is_ready_within levels s) s x) s.watches

-- some registration of it is reportable; the longest chain of instances has five
unfoldable pub is_ready : State → ℕ → Bool
is_ready s e = is_ready_within 5 s e

abbrev pub present : State → ℕ → ℕ
present s d = present_by (is_ready s) s d

abbrev pub shown : State → Watch → ℕ
shown s x = shown_by (is_ready s) s x

abbrev pub is_reportable : State → Watch → Bool
is_reportable s x = is_reportable_by (is_ready s) s x

abbrev pub reportables : State → ℕ → List Watch
reportables s e = filter (λ x. x.instance == e && is_reportable s x) s.watches
