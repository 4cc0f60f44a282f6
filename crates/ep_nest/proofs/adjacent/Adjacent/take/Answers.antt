use Rattle.ep_nest.proofs.AdjacentLemmas.{map_less, none_less}
use Rattle.ep_nest.proofs.adjacent.Adjacent.take.Goals as goal
use Rattle.ep_nest.proofs.adjacent.Adjacent.take.Goals.{in-Some, in_default}

pub returns : goal.returns
returns g c =
    let maps = c.self.inside.maps.items in
    let i = c.args.instance.0 in
    elim c.match-get_mut.branch [
      | in-Some w ↦ λ k. rw (w.self-inside-is, ← c.self.view_is) (
          map_less maps i w.in-Some.map.now w.remove.new.self w.in-Some.ensures.item.3.0 w.in-Some.ensures.value c.args.ticket w.remove.ensures.entries k
          )
      | in_default w ↦ λ k. rw (w.self-inside-is, ← c.self.view_is) (none_less maps i c.args.ticket w.in_default.ensures.item.3 k)
    ]
