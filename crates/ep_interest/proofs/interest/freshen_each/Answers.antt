use Rattle.std.proofs.Common.{List, ◌∷◌, refl, subst}
use Rattle.ep_base.specs.declared.ids.EntryId.{EntryId}
use Rattle.ep_interest.specs.Registrations.{freshened_on}
use Rattle.ep_interest.proofs.InTurnLemmas.{Goes, goes_begins, goes_on}
use Rattle.ep_interest.proofs.interest.freshen_each.Given.{Over}
use Rattle.ep_interest.proofs.interest.freshen_each.Goals as goal
use Rattle.ep_interest.proofs.interest.freshen_each.Goals.{In-Some}

pub loop-id-init : goal.loop-id-init
loop-id-init g c = record {
  goes = goes_begins (freshened_on c.args.desc c.args.bits) c.args.watchers c.into_iter-id-iterator.result c.args.slots.now.slots c.requires c.into_iter-id-iterator.ensures.into_iter_gives;
  next = refl;
}

-- what is left begins with this key
here : (g : Over) (c : In-Some g) → Goes (freshened_on c.args.desc c.args.bits) c.args.watchers (c.in-Some.id ∷ c.next.new.self) c.args.slots.now.slots c.loop-id.slots.slots
here g c = subst (λ (left : List EntryId). Goes (freshened_on c.args.desc c.args.bits) c.args.watchers left c.args.slots.now.slots c.loop-id.slots.slots) c.in-Some.ensures.steps c.loop-id.invariant.goes

pub index_mut-requires : goal.index_mut-requires
index_mut-requires g c = (here g (goal.at.index_mut-requires g c).In-Some).held.0

pub loop-id-preserved : goal.loop-id-preserved
loop-id-preserved g c = record {
  goes = goes_on (freshened_on c.args.desc c.args.bits) c.args.watchers c.args.slots.now.slots c.in-Some.id c.next.new.self c.loop-id.slots.slots c.index_mut.result.now c.refresh.new.entry (here g (goal.at.loop-id-preserved g c).In-Some) c.index_mut.ensures.value c.refresh.ensures;
  next = c.loop-id.invariant.next;
}
