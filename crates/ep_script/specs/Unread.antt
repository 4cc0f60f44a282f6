-- The bytes that were read and not yet used.
use Rattle.std.specs.Prelude.{List, drop, take, ℕ, ◌-◌}
use Rattle.ep_script.specs.declared.chunk.Input.{Input}

abbrev pub unread : Input → List ℕ
unread input = take (input.end - input.start) (drop input.start input.chunk.items)
