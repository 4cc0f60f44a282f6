use Rattle.std.proofs.Common.{◌<◌, Contains}
use Rattle.ep_climb.proofs.WalkLemmas.{Reaching}
use Rattle.ep_climb.specs.Reach.{are_outer}
use Rattle.ep_nest.specs.Links.{starting_at}
use Rattle.ep_nest.specs.declared.link.Link.{Link}
use Rattle.ep_nest.specs.declared.link.Way.TheVariants.{Up}
use Rattle.ep_climb.proofs.ascending.cross_each.Given as goal

abbrev pub invariant-loop-link : goal.invariant-loop-link
invariant-loop-link l = record {
  reaching : Reaching (are_outer l.along (starting_at Up l.fn.inner.0 l.graph)) (are_outer l.along l.link-iterator) l.fn.reached l.reached;
  home : (x : Link) → Contains l.link-iterator x → x.outer.0 < l.fn.reached.room;
}
