use Rattle.std.proofs.Common.{Bool, List, [], ap, arith, length, subst, sym, take, take_all, vec_capacity, vec_len, ℕ, ◌+◌, ◌++◌, ◌∙◌, ◌∷◌}
use Rattle.std.proofs.lemmas.List.{get_or-map, length-map, take_more, with_items_is}
use Rattle.ep_base.specs.declared.ids.DescId.{DescId}
use Rattle.ep_nest.proofs.LevelLemmas.{none_reached, reached_more}
use Rattle.ep_nest.proofs.NoteLemmas.{none_noted}
use Rattle.ep_nest.specs.Lengths.{HasPlaces, NextLevel}
use Rattle.ep_nest.specs.Links.{along, edges, keys}
use Rattle.ep_nest.specs.Marks.{AreNoted}
use Rattle.std.specs.Vec.{with_items}
use Rattle.ep_nest.proofs.longest.go_on.Goals as goal

pub loop-done-init : goal.loop-done-init
loop-done-init g c =
    let ls = c.args.links.now in
    let old = c.requires.room in
    let table = c.args.walk.now.marks in
    let cleared = c.unmark.new.marks in
    let stays = c.unmark.ensures.room ∙ ap (λ (ms : List Bool). length ms) c.deref_mut.ensures.value in
    let is = with_items_is table cleared (omega (arith, stays, table.ok.0)) in
    let long = ap (λ (ms : List Bool). length ms) is ∙ stays in
    let wide = ap (λ v. vec_capacity v) c.swap.ensures.x_after in
    let deep = c.clear.ensures.capacity ∙ ap (λ v. vec_capacity v) c.swap.ensures.y_after in
    record {
      reached = subst (λ (ds : List DescId). NextLevel (along c.args.way ls) [] (keys ds)) (sym c.clear.ensures.items) (none_reached c.args.way ls);
      level = ap (λ v. v.items) c.swap.ensures.x_after;
      within = omega arith;
      noted = subst (λ (ds : List DescId). AreNoted (with_items table cleared).items (keys ds)) (sym c.clear.ensures.items) (subst (λ (ms : List Bool). AreNoted ms []) (sym is) (none_noted cleared c.unmark.ensures.clear));
      room = record {
        marks = subst (HasPlaces (edges ls)) (sym long) old.marks;
        gathered = old.gathered;
        reached = omega (arith, long, deep, old.level);
        level = omega (arith, long, wide, old.reached);
      };
    }

pub loop-done-preserved : goal.loop-done-preserved
loop-done-preserved g c =
    let way = c.args.way in
    let ls = c.args.links.now in
    let before = c.loop-done.walk in
    let ks = keys before.level.items in
    let i = c.loop-done.done in
    let d = c.index-start.result.now in
    let same = c.reach_ends.ensures.level in
    let long = length-map before.level.items (λ (d : DescId). d.0) in
    let count = before.level.ok.0 in
    let test = c.loop-done-test.true in
    let len = c.len.ensures in
    let at = get_or-map (λ (d : DescId). d.0) before.level.items i d d.0 (omega (arith, count, test, len)) ∙ sym (ap (λ (d : DescId). d.0) c.index-start.ensures) in
    let more = ap (λ v. take (i + 1) (keys v.items)) same ∙ (take_more ks i d.0 (omega (arith, long, count, test, len)) ∙ ap (λ (k : ℕ). take i ks ++ k ∷ []) at) in
    let end = c.reach_ends.new.walk.reached.items in
    record {
      reached =
          subst (λ (level : List ℕ). NextLevel (along way ls) level (keys end)) (sym more)
          (reached_more way ls (take i ks) (keys before.reached.items) (keys end) d.0 c.loop-done.invariant.reached c.reach_ends.ensures.exact);
      level = ap (λ v. v.items) same ∙ c.loop-done.invariant.level;
      within = let wide = ap (λ v. vec_len v) same in omega (arith, wide, test, len);
      noted = c.reach_ends.ensures.noted;
      room = c.reach_ends.ensures.room;
    }

pub returns-clause-exact : goal.returns-clause-exact
returns-clause-exact g c =
    let level = c.loop-done.walk.level in
    let ks = keys level.items in
    let i = c.loop-done.done in
    let long = length-map level.items (λ (d : DescId). d.0) in
    let all = take_all i ks (omega (arith, long, level.ok.0, c.loop-done-test.false, c.len.ensures)) ∙ ap (λ (ds : List DescId). keys ds) c.loop-done.invariant.level in
    subst (λ (level : List ℕ). NextLevel (along c.args.way c.args.links.now) level (keys c.loop-done.walk.reached.items)) all c.loop-done.invariant.reached
