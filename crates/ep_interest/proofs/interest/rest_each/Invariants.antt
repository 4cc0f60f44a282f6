use Rattle.std.proofs.Common.{◌≡◌, drop}
use Rattle.ep_interest.specs.InTurn.{changed_at}
use Rattle.ep_interest.specs.Registrations.{settled}
use Rattle.ep_interest.proofs.interest.rest_each.Given as goal

abbrev pub invariant-loop-id : goal.invariant-loop-id
invariant-loop-id g l = record {
  slots : changed_at settled (drop l.id-index l.ids) l.slots.slots ≡ changed_at settled l.ids l.fn.slots.slots;
  next : l.slots.vacant_key ≡ l.fn.slots.vacant_key;
}
