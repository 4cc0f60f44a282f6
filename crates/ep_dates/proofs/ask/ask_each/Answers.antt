use Rattle.std.proofs.Common.{◌≡◌, List, arith, subst, take, take_all}
use Rattle.ep_base.specs.declared.ids.EntryId.{EntryId}
use Rattle.ep_dates.proofs.EachLemmas.{asks_more, asks_none}
use Rattle.ep_dates.proofs.TurnLemmas.{turned_still}
use Rattle.ep_dates.specs.Ask.{Asks, shows_over}
use Rattle.ep_interest.specs.Passes.{has_id}
use Rattle.ep_dates.proofs.ask.ask_each.Goals as goal

pub loop-id-init : goal.loop-id-init
loop-id-init c = asks_none c.args.question.comes c.args.question.event c.args.parts.now c.args.dates.now c.requires.kept

pub ask-requires-clause-kept : goal.ask-requires-clause-kept
ask-requires-clause-kept c = c.loop-id.invariant.kept

pub ask-requires-clause-turned : goal.ask-requires-clause-turned
ask-requires-clause-turned c =
    turned_still c.args.question.comes c.args.question.event c.args.parts.now.interest (shows_over c.args.parts.now) (has_id (take c.loop-id.id-index c.args.ids.now)) c.args.dates.now c.loop-id.dates c.requires.turned c.loop-id.invariant

pub loop-id-preserved : goal.loop-id-preserved
loop-id-preserved c =
    asks_more c.args.question.comes c.args.question.event c.args.parts.now c.args.ids.now c.loop-id.id-index (record { 0 = 0 }) c.args.dates.now c.loop-id.dates c.ask.new.dates c.loop-id-test.true c.loop-id.invariant c.ask.ensures

pub returns : goal.returns
returns c =
    let all = c.args.ids.now in
    let whole : take c.loop-id.id-index all ≡ all = take_all c.loop-id.id-index all (omega (arith, c.loop-id-test.false)) in
    subst (λ (ids : List EntryId). Asks c.args.question.comes c.args.question.event c.args.parts.now (has_id ids) c.args.dates.now c.loop-id.dates) whole c.loop-id.invariant
