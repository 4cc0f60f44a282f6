use Rattle.std.proofs.Common.{List, ap, map, nat_eq, subst, sym, ◌∙◌, ℕ}
use Rattle.std.specs.List.{IsDistinct}
use Rattle.ep_machine.specs.State.{Waiter as Parked}
use Rattle.ep_park.proofs.ViewLemmas.{callers}
use Rattle.ep_park.proofs.park.Park.known.Goals as goal

pub returns : goal.returns
returns g c =
    subst (λ (ks : List ℕ). IsDistinct nat_eq ks)
    (sym (callers c.self.inside.queue) ∙ ap (map (λ (w : Parked). w.caller)) c.self.view_is)
    c.len-count.ensures.unique
