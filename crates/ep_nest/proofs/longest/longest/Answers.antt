use Rattle.std.proofs.Common.{List, ap, arith, refl, subst, suc, sym, vec_len, ℕ, ◌+◌, ◌∙◌, ◌≡◌, ◌||◌}
use Rattle.std.proofs.lemmas.Bool.{eqb-true}
use Rattle.std.proofs.lemmas.List.{length-map, nil_from_length}
use Rattle.ep_facts.proofs.NatFacts.{above_none}
use Rattle.ep_base.specs.declared.ids.DescId.{DescId}
use Rattle.ep_machine.specs.Lists.{is_among}
use Rattle.ep_nest.proofs.LevelLemmas.{AreEnds, ended, first_ends, longest_of_all, next_ends, one_ends, short_along}
use Rattle.ep_nest.specs.Chains.{LeadsBy}
use Rattle.ep_nest.specs.Lengths.{IsLongest}
use Rattle.ep_nest.specs.Links.{along, ends, keys, starting_at}
use Rattle.ep_nest.proofs.longest.longest.Goals as goal
use Rattle.ep_nest.proofs.longest.longest.Goals.{then-loop-length-test+else-not-is_empty, else-loop-length-test}

pub loop-length-init : goal.loop-length-init
loop-length-init g c =
    let way = c.args.way in
    let ls = c.args.links.now in
    let x = c.args.start.0 in
    record {
      ends =
          first_ends way ls x (keys c.reach_ends.new.walk.reached.items)
          (λ z. c.reach_ends.ensures.exact z ∙ ap (λ (ds : List DescId). is_among (ends way (starting_at way x ls)) z || is_among (keys ds) z) c.clear.ensures.items);
      chain = (x, refl);
      few = omega arith;
      noted = c.reach_ends.ensures.noted;
      room = c.reach_ends.ensures.room;
    }

pub loop-length-preserved : goal.loop-length-preserved
loop-length-preserved g c =
    let es = along c.args.way c.args.links.now in
    let x = c.args.start.0 in
    let n = c.loop-length.length in
    let more : suc n ≡ n + 1 = omega arith in
    let before = c.loop-length.walk.reached in
    let end = c.go_on.new.walk.reached.items in
    let long = length-map before.items (λ (d : DescId). d.0) in
    let some = above_none (vec_len before) (sym c.is_empty.ensures ∙ c.if-not-is_empty.true) in
    record {
      ends = subst (λ (m : ℕ). AreEnds es x (suc m) (keys end)) more (next_ends es x (suc n) (keys before.items) (keys end) c.loop-length.invariant.ends c.go_on.ensures.exact);
      chain =
          subst (λ (m : ℕ). (y : ℕ) × LeadsBy es m x y) more (one_ends es x (suc n) (keys before.items) (omega (arith, long, before.ok.0, some)) c.loop-length.invariant.ends);
      few = omega (arith, c.loop-length-test.true);
      noted = c.go_on.ensures.noted;
      room = c.go_on.ensures.room;
    }

pub returns-clause-longest : goal.returns-clause-longest
returns-clause-longest g c =
    let es = along c.args.way c.args.links.now in
    let x = c.args.start.0 in
    let n = c.loop-length.length in
    let reached = c.loop-length.walk.reached in
    let before = c.loop-length.invariant in
    elim c.loop-length-test.branch [
      | then-loop-length-test+else-not-is_empty w ↦
          let count = eqb-true (vec_len reached) 0 (sym w.is_empty.ensures ∙ w.if-not-is_empty.false) in
          let none = nil_from_length reached.items (omega (arith, count, reached.ok.0)) in
          ended es x n (subst (λ (ds : List DescId). AreEnds es x (suc n) (keys ds)) none before.ends) before.chain
      | else-loop-length-test w ↦
          let four : n ≡ 4 = omega (arith, w.loop-length-test.false, before.few) in
          subst (IsLongest es x) (sym four)
          (longest_of_all es x (short_along c.args.way c.args.links.now c.requires.short) (subst (λ (m : ℕ). (y : ℕ) × LeadsBy es m x y) four before.chain))
    ]
