use Rattle.std.proofs.Common.{◌≡◌}
use Rattle.ep_interest.specs.Registrations.{freshened_on}
use Rattle.ep_interest.proofs.InTurnLemmas.{Goes}
use Rattle.ep_interest.proofs.interest.freshen_each.Given as goal

abbrev pub invariant-loop-id : goal.invariant-loop-id
invariant-loop-id g l = record {
  goes : Goes (freshened_on l.desc l.bits) l.fn.watchers l.id-iterator l.fn.slots.slots l.slots.slots;
  next : l.slots.vacant_key ≡ l.fn.slots.vacant_key;
}
