use Rattle.std.proofs.Common.{◌≡◌, drop}
use Rattle.ep_text.specs.Keys.{is_among}
use Rattle.ep_text.proofs.keys.is_among.Given as goal

abbrev pub invariant-loop-key : goal.invariant-loop-key
invariant-loop-key l = is_among (drop l.key-index l.keys) l.name ≡ is_among l.keys l.name
