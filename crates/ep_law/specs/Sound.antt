-- What holds in each state of a run.
use Rattle.std.specs.List.{IsDistinct}
use Rattle.std.specs.Prelude.{All, map, nat_eq, ◌≤◌}
use Rattle.ep_machine.specs.State.{State}

pub record Sound (s : State) : Type 0 where
  pub numbers : IsDistinct nat_eq (map (λ x. x.number) s.watches)
  pub positive : All (λ x. 1 ≤ x.number) s.watches
  pub below : All (λ x. x.number ≤ s.added) s.watches
  pub fair : All (λ x. x.rep ≤ x.from) s.watches
  pub past : All (λ x. x.from ≤ s.n) s.watches
