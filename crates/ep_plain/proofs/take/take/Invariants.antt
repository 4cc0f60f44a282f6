use Rattle.std.proofs.Common.{◌≡◌, ◌++◌, drop, map}
use Rattle.std.specs.List.{filter_map}
use Rattle.ep_calls.specs.Wait.{AreKeyed}
use Rattle.ep_interest.specs.Registrations.{numbered}
use Rattle.ep_plain.specs.Choose.{reportables_at}
use Rattle.ep_plain.proofs.take.take.Given as goal

abbrev pub invariant-loop-pick : goal.invariant-loop-pick
invariant-loop-pick l =
    let found = reportables_at l.parts.tables l.parts.clock l.parts.interest l.fn.instance in
    record {
      told : map (λ x. x.entry) l.chosen.items ++ filter_map (numbered found) (drop l.pick-index l.picks) ≡ filter_map (numbered found) l.picks;
      keyed : AreKeyed l.parts.tables l.parts.clock l.parts.interest l.chosen.items;
    }
