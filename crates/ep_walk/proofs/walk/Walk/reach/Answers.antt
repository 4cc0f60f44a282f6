use Rattle.std.proofs.Common.{◌<◌, ◌++◌, ◌∷◌, [], ◌∙◌, List, false, length, rules, set, subst, sym, true, vec_capacity, ℕ}
use Rattle.std.proofs.lemmas.List.{get_or_read}
use Rattle.ep_walk.specs.Walk.{IsWalk, Walk}
use Rattle.ep_walk.proofs.WalkLemmas.{room_to_reach, walk_reached}
use Rattle.ep_walk.proofs.walk.Walk.reach.Goals as goal

pub push_reserved-requires : goal.push_reserved-requires
push_reserved-requires g c =
    let marks = c.self.inside.marks.items in let i = c.args.instance in
    let within : i < length marks = subst (λ (w : Walk). i < w.room) (sym c.self.view_is) c.requires.room in
    let room = room_to_reach marks c.self.inside.reached.items (vec_capacity c.self.inside.reached) c.self.invariant i within (sym (get_or_read marks i c.index.result.now within c.index.ensures false) ∙ c.if-index.false) in
    search (rules, room)

pub invariant_of-self : goal.invariant_of-self
invariant_of-self g c =
    let marks = c.self.inside.marks.items in let i = c.args.instance in
    let within : i < length marks = subst (λ (w : Walk). i < w.room) (sym c.self.view_is) c.requires.room in
    let walk = walk_reached marks c.self.inside.reached.items (vec_capacity c.self.inside.reached) c.self.invariant i within (sym (get_or_read marks i c.index.result.now within c.index.ensures false) ∙ c.if-index.false) in
    let all = subst (λ (n : ℕ). IsWalk (set marks i true) (c.self.inside.reached.items ++ i ∷ []) n) (sym c.push_reserved.ensures.capacity) walk in
    subst (λ (ks : List ℕ). IsWalk (set marks i true) ks (vec_capacity c.push_reserved.new.self)) (sym c.push_reserved.ensures.items) all
