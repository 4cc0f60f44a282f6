-- What a walk down the graph has reached.
use Rattle.ep_machine.specs.Lists.{is_among}
use Rattle.ep_nest.specs.Chains.{IsAbove}
use Rattle.ep_nest.specs.Links.{edges}
use Rattle.ep_nest.specs.declared.link.Link.{Link}
use Rattle.std.specs.Prelude.{List, true, ℕ, ◌≡◌, ◌↔◌}

-- exactly to these a chain of the links leads down
abbrev pub AreBeneath : List Link → ℕ → List ℕ → Type 0
AreBeneath ls outer ks = (x : ℕ) → (is_among ks x ≡ true) ↔ IsAbove (edges ls) outer x
