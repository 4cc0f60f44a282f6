use Rattle.std.proofs.Common.{filter, map, ◌≡◌}
use Rattle.std.specs.List.{list_any}
use Rattle.ep_interest.specs.Exclusive.{is_exclusive}
use Rattle.ep_interest.specs.Registrations.{is_of}
use Rattle.ep_interest.proofs.interest.Interest.has_exclusive.Given as goal

-- there is one among those that are left if there is one at all
abbrev pub invariant-loop-registration : goal.invariant-loop-registration
invariant-loop-registration g l = list_any is_exclusive (map (λ p. p.1) l.registration-iterator) ≡ list_any is_exclusive (filter (is_of l.fn.instance) l.self.entries)
