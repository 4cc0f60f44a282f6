use Rattle.std.proofs.Common.{length, vec_capacity, ◌≡◌, ◌≤◌}
use Rattle.ep_interest.specs.Exclusive.{kept_passing}
use Rattle.ep_interest.specs.Passes.{ArePassing}
use Rattle.ep_interest.proofs.InTurnLemmas.{Goes}
use Rattle.ep_interest.proofs.stop.stop_each.Given as goal

abbrev pub invariant-loop-id : goal.invariant-loop-id
invariant-loop-id g l = record {
  goes : Goes (kept_passing l.desc l.fn.keep) l.fn.watchers l.id-iterator l.fn.slots.slots l.slots.slots;
  passing : ArePassing l.slots.slots l.passes.keys.items;
  next : l.slots.vacant_key ≡ l.fn.slots.vacant_key;
  room : length l.slots.slots ≤ vec_capacity l.passes.keys;
}
