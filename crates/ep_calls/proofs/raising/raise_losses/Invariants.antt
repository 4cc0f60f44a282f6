use Rattle.std.proofs.Common.{◌≡◌, take}
use Rattle.ep_calls.specs.Raising.{raised_where}
use Rattle.ep_calls.proofs.raising.raise_losses.Given as goal

abbrev pub invariant-loop-loss : goal.invariant-loop-loss
invariant-loop-loss l = record {
  entries : l.interest.entries ≡ raised_where l.step (take l.loss-index l.losses) l.fn.interest.entries;
  keys : l.interest.keys ≡ l.fn.interest.keys;
  added : l.interest.added ≡ l.fn.interest.added;
}
