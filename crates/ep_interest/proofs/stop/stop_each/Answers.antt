use Rattle.std.proofs.Common.{List, ◌∙◌, ◌∷◌, refl, subst}
use Rattle.ep_base.specs.declared.ids.EntryId.{EntryId}
use Rattle.ep_interest.specs.Exclusive.{kept_passing}
use Rattle.ep_interest.proofs.InTurnLemmas.{Goes, goes_begins, goes_after}
use Rattle.ep_interest.proofs.stop.stop_each.Given.{Over}
use Rattle.ep_interest.proofs.stop.stop_each.Goals as goal
use Rattle.ep_interest.proofs.stop.stop_each.Goals.{In-Some}

pub loop-id-init : goal.loop-id-init
loop-id-init g c = record { goes = goes_begins (kept_passing c.args.desc c.args.keep.now) c.args.watchers c.into_iter-id-iterator.result c.args.slots.now.slots c.requires.held c.into_iter-id-iterator.ensures.into_iter_gives; passing = c.requires.passing; next = refl; room = c.requires.room }

-- what is left begins with this key
here : (g : Over) (c : In-Some g) → Goes (kept_passing c.args.desc c.args.keep.now) c.args.watchers (c.in-Some.id ∷ c.next.new.self) c.args.slots.now.slots c.loop-id.slots.slots
here g c = subst (λ (left : List EntryId). Goes (kept_passing c.args.desc c.args.keep.now) c.args.watchers left c.args.slots.now.slots c.loop-id.slots.slots) c.in-Some.ensures.steps c.loop-id.invariant.goes

pub stop_one-requires-clause-held : goal.stop_one-requires-clause-held
stop_one-requires-clause-held g c = (here g (goal.at.stop_one-requires-clause-held g c).In-Some).held.0

pub loop-id-preserved : goal.loop-id-preserved
loop-id-preserved g c =
    let h = here g (goal.at.loop-id-preserved g c).In-Some in
    record {
      goes = goes_after (kept_passing c.args.desc c.args.keep.now) c.args.watchers c.args.slots.now.slots c.in-Some.id c.next.new.self c.loop-id.slots.slots c.stop_one.new.slots.slots h c.stop_one.ensures.slots;
      passing = c.stop_one.ensures.passing;
      next = c.stop_one.ensures.next ∙ c.loop-id.invariant.next;
      room = c.stop_one.ensures.room;
    }
