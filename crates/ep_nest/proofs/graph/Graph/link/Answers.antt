use Rattle.std.proofs.Common.{List, ap, arith, length, subst, sym, ℕ, ◌+◌, ◌<◌, ◌∙◌, ◌∷◌}
use Rattle.ep_machine.specs.Watches.{is_legal}
use Rattle.ep_nest.proofs.DepthLemmas.{deep_grown}
use Rattle.ep_nest.proofs.KeptLemmas.{kept_grown, kept_pushed, legal_pushed, places_pushed}
use Rattle.ep_nest.specs.Graph.{IsGraph, IsKept}
use Rattle.ep_nest.specs.Lengths.{HasPlaces}
use Rattle.ep_nest.specs.Links.{edges}
use Rattle.ep_nest.specs.Traversal.{HasPlace}
use Rattle.ep_nest.specs.declared.link.Link.{Link}
use Rattle.ep_nest.proofs.graph.Graph.link.Goals as goal

pub invariant_of-self : goal.invariant_of-self
invariant_of-self g c = record {
  kept = kept_grown c.self.inside.links c.self.inside.walk c.make_room.new.self c.self.invariant.kept c.make_room.ensures.grown;
  deep = c.self.invariant.deep;
}

pub invariant_of-self-in_err-make_room-2 : goal.invariant_of-self-in_err-make_room-2
invariant_of-self-in_err-make_room-2 g c = record {
  kept = kept_grown c.self.inside.links c.self.inside.walk c.make_room.new.self c.self.invariant.kept c.make_room.ensures.grown;
  deep = deep_grown c.self.inside.links c.self.inside.depths c.make_room-2.new.self c.make_room-2.ensures.below c.make_room-2.ensures.above c.self.invariant.deep;
}

pub invariant_of-self-in_err-push : goal.invariant_of-self-in_err-push
invariant_of-self-in_err-push g c =
    subst (λ (ls : List Link). IsGraph ls c.make_room.new.self c.make_room-2.new.self) (sym c.in_err-push.ensures.kept) (record {
      kept = kept_grown c.self.inside.links c.self.inside.walk c.make_room.new.self c.self.invariant.kept c.make_room.ensures.grown;
      deep = deep_grown c.self.inside.links c.self.inside.depths c.make_room-2.new.self c.make_room-2.ensures.below c.make_room-2.ensures.above c.self.invariant.deep;
    })

pub note-requires-clause-last : goal.note-requires-clause-last
note-requires-clause-last g c = (
  c.self.inside.links,
  c.in_ok-push.ensures.pushed,
  deep_grown c.self.inside.links c.self.inside.depths c.make_room-2.new.self c.make_room-2.ensures.below c.make_room-2.ensures.above c.self.invariant.deep,
)

pub note-requires-clause-legal : goal.note-requires-clause-legal
note-requires-clause-legal g c =
    let l : Link = record { outer = c.args.outer; inner = c.args.inner; entry = c.args.entry } in
    let legal = ap (λ (ls : List Link). is_legal ((c.args.outer.0, c.args.inner.0) ∷ edges ls)) c.self.view_is ∙ c.requires.legal in
    ap (λ (ls : List Link). is_legal (edges ls)) c.in_ok-push.ensures.pushed ∙ legal_pushed c.self.inside.links l legal

pub note-requires-clause-below : goal.note-requires-clause-below
note-requires-clause-below g c =
    let ls = c.self.inside.links in
    let l : Link = record { outer = c.args.outer; inner = c.args.inner; entry = c.args.entry } in
    let room = length c.make_room-2.new.self.below.items in
    let deep = deep_grown ls c.self.inside.depths c.make_room-2.new.self c.make_room-2.ensures.below c.make_room-2.ensures.above c.self.invariant.deep in
    let key : c.max-key.result < room = omega (arith, c.in_ok-make_room-2.ensures.placed_below, c.make_room-2.new.self.below.ok.0) in
    subst (λ (ls : List Link). HasPlaces (edges ls) room) (sym c.in_ok-push.ensures.pushed)
    (places_pushed ls l room deep.places_below (omega (arith, c.max-key.ensures, key)) (omega (arith, c.max-key.ensures, key)))

pub note-requires-clause-above : goal.note-requires-clause-above
note-requires-clause-above g c =
    let ls = c.self.inside.links in
    let l : Link = record { outer = c.args.outer; inner = c.args.inner; entry = c.args.entry } in
    let room = length c.make_room-2.new.self.above.items in
    let deep = deep_grown ls c.self.inside.depths c.make_room-2.new.self c.make_room-2.ensures.below c.make_room-2.ensures.above c.self.invariant.deep in
    let key : c.max-key.result < room = omega (arith, c.in_ok-make_room-2.ensures.placed_above, c.make_room-2.new.self.above.ok.0) in
    subst (λ (ls : List Link). HasPlaces (edges ls) room) (sym c.in_ok-push.ensures.pushed)
    (places_pushed ls l room deep.places_above (omega (arith, c.max-key.ensures, key)) (omega (arith, c.max-key.ensures, key)))

pub invariant_of-self-2 : goal.invariant_of-self-2
invariant_of-self-2 g c =
    let ls = c.self.inside.links in
    let l : Link = record { outer = c.args.outer; inner = c.args.inner; entry = c.args.entry } in
    let kept = kept_grown ls c.self.inside.walk c.make_room.new.self c.self.invariant.kept c.make_room.ensures.grown in
    let legal = ap (λ (ls : List Link). is_legal ((c.args.outer.0, c.args.inner.0) ∷ edges ls)) c.self.view_is ∙ c.requires.legal in
    let place = subst (λ (n : ℕ). HasPlace c.make_room.new.self c.max-key.result (n + 1)) c.len-many.ensures.len c.in_ok-make_room.ensures.room in
    record {
      kept = subst (λ (ls : List Link). IsKept ls c.make_room.new.self) (sym c.in_ok-push.ensures.pushed)
          (kept_pushed ls l c.max-key.result c.make_room.new.self kept place (omega (arith, c.max-key.ensures)) (omega (arith, c.max-key.ensures)) legal);
      deep = c.note.ensures;
    }
