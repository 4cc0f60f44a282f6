use Rattle.std.proofs.Common.{◌≡◌, ◌++◌, ◌∷◌, [], ◌∙◌, List, ap, length-set, rules, subst, sym, vec_capacity, ℕ}
use Rattle.std.specs.Option.{option_to_list}
use Rattle.ep_walk.specs.Walk.{IsWalk}
use Rattle.ep_walk.proofs.WalkLemmas.{last_within, walk_popped}
use Rattle.ep_walk.proofs.walk.clear_marks.Goals as goal

pub index_mut-requires : goal.index_mut-requires
index_mut-requires g c =
    let left = c.pop.new.self.items in let i = c.in-Some.instance in
    let items : c.loop-instance.reached.items ≡ left ++ i ∷ [] = c.pop.ensures.items ∙ ap (λ o. left ++ option_to_list o) c.in-Some.is in
    let sound = subst (λ (ks : List ℕ). IsWalk c.loop-instance.marks.items ks (vec_capacity c.loop-instance.reached)) items c.loop-instance.invariant.sound in
    let within = last_within c.loop-instance.marks.items left i (vec_capacity c.loop-instance.reached) sound in
    search (rules, within)

pub loop-instance-preserved : goal.loop-instance-preserved
loop-instance-preserved g c =
    let left = c.pop.new.self.items in let i = c.in-Some.instance in let marks = c.loop-instance.marks.items in
    let items : c.loop-instance.reached.items ≡ left ++ i ∷ [] = c.pop.ensures.items ∙ ap (λ o. left ++ option_to_list o) c.in-Some.is in
    let sound = subst (λ (ks : List ℕ). IsWalk marks ks (vec_capacity c.loop-instance.reached)) items c.loop-instance.invariant.sound in
    let popped = walk_popped marks left i (vec_capacity c.loop-instance.reached) sound (vec_capacity c.loop-instance.reached) c.loop-instance.invariant.sound.room in
    record {
      sound = subst (IsWalk (Rattle.std.proofs.Common.set marks i Rattle.std.proofs.Common.false) left) (sym c.pop.ensures.capacity) popped;
      len = length-set marks i Rattle.std.proofs.Common.false ∙ c.loop-instance.invariant.len;
    }
