use Rattle.std.proofs.Common.{◌≡◌, ◌<◌, ◌∙◌, [], arith, ap, false, get_or, length, subst, sym}
use Rattle.std.proofs.lemmas.Bool.{false≢true}
use Rattle.std.proofs.lemmas.Option.{get_or_from_slice_get}
use Rattle.ep_calls.specs.Climb.{AreNested}
use Rattle.ep_calls.specs.Parts.{Parts}
use Rattle.ep_climb.proofs.LinkLemmas.{no_links}
use Rattle.ep_dates.proofs.AskLemmas.{shows_rises}
use Rattle.ep_dates.proofs.FlatLemmas.{flat_settled, flat_watched}
use Rattle.ep_dates.proofs.RoundLemmas.{among_at, few_turned, round_ends, round_settled, round_turns, round_watched, watched_ends}
use Rattle.ep_dates.proofs.TurnLemmas.{turned_still, turns_none}
use Rattle.ep_dates.proofs.TurnedLemmas.{instances_still}
use Rattle.ep_dates.specs.Ask.{shows_over}
use Rattle.ep_machine.specs.Lists.{is_among}
use Rattle.ep_walk.specs.Walk.{Walk}
use Rattle.ep_dates.proofs.ask.ask_turned.Goals as goal

-- no instance watches another
flat : (c : goal.Then-not-has_links) → AreNested c.args.parts.now.tables c.args.parts.now.interest []
flat c =
    let k = c.parts.inside in
    let none : k.graph ≡ [] = no_links k.graph (sym c.has_links.ensures ∙ c.if-not-has_links.true) in
    subst (λ (q : Parts). AreNested q.tables q.interest []) c.parts.view_is (subst (AreNested k.tables k.interest) none c.parts.invariant.nested)

pub returns-then-not-has_links-clause-asks : goal.returns-then-not-has_links-clause-asks
returns-then-not-has_links-clause-asks c =
    turns_none c.args.question.comes c.args.question.event c.args.parts.now.interest (shows_over c.args.parts.now) (shows_rises c.args.parts.now) (λ k. false) c.args.dates.now c.requires.kept (λ id x at h. absurd (false≢true h))

pub returns-then-not-has_links-clause-settled : goal.returns-then-not-has_links-clause-settled
returns-then-not-has_links-clause-settled c = flat_settled c.args.parts.now (flat c) c.args.dates.now c.requires.instances c.args.question.comes c.args.from

pub returns-then-not-has_links-clause-watched : goal.returns-then-not-has_links-clause-watched
returns-then-not-has_links-clause-watched c = λ h. flat_watched c.args.parts.now (flat c) c.args.dates.now c.requires.instances c.args.question.comes

pub loop-index-init : goal.loop-index-init
loop-index-init c = record {
  turns = turns_none c.args.question.comes c.args.question.event c.args.parts.now.interest (shows_over c.args.parts.now) (shows_rises c.args.parts.now) (λ k. false) c.args.dates.now c.requires.kept (λ id x at h. absurd (false≢true h));
  once = c.known.ensures.turned;
  settled = λ asked h. h;
  watched = λ h. h;
}

pub ask_turned_watchers-requires-clause-kept : goal.ask_turned_watchers-requires-clause-kept
ask_turned_watchers-requires-clause-kept c = c.loop-index.invariant.turns.kept

pub ask_turned_watchers-requires-clause-turned : goal.ask_turned_watchers-requires-clause-turned
ask_turned_watchers-requires-clause-turned c =
    turned_still c.args.question.comes c.args.question.event c.args.parts.now.interest (shows_over c.args.parts.now) (λ k. false) c.args.dates.now c.loop-index.dates c.requires.turned c.loop-index.invariant.turns

pub ask_turned_watchers-requires-clause-nested : goal.ask_turned_watchers-requires-clause-nested
ask_turned_watchers-requires-clause-nested c =
    let ks = c.loop-index.dates.turned.reached in
    let desc = c.turned_at.result.0 in
    let lt : c.loop-index.index < length ks = omega (arith, c.loop-index-test.true, c.turned_count.ensures) in
    let here : get_or ks c.loop-index.index 0 ≡ desc = get_or_from_slice_get ks c.loop-index.index desc 0 c.turned_at.ensures in
    instances_still c.args.parts.now c.requires.homes c.args.question.comes c.args.question.event (λ k. false) c.args.dates.now c.loop-index.dates c.requires.kept c.loop-index.invariant.turns c.requires.instances desc
    (ap (is_among ks) (sym here) ∙ among_at ks c.loop-index.index lt)

pub ask_turned_watchers-requires-clause-ready : goal.ask_turned_watchers-requires-clause-ready
ask_turned_watchers-requires-clause-ready c =
    let ks = c.loop-index.dates.turned.reached in
    let desc = c.turned_at.result.0 in
    let lt : c.loop-index.index < length ks = omega (arith, c.loop-index-test.true, c.turned_count.ensures) in
    let here : get_or ks c.loop-index.index 0 ≡ desc = get_or_from_slice_get ks c.loop-index.index desc 0 c.turned_at.ensures in
    let turned = turned_still c.args.question.comes c.args.question.event c.args.parts.now.interest (shows_over c.args.parts.now) (λ k. false) c.args.dates.now c.loop-index.dates c.requires.turned c.loop-index.invariant.turns in
    (turned desc (ap (is_among ks) (sym here) ∙ among_at ks c.loop-index.index lt)).0

pub loop-index-smaller : goal.loop-index-smaller
loop-index-smaller c =
    let turned = turned_still c.args.question.comes c.args.question.event c.args.parts.now.interest (shows_over c.args.parts.now) (λ k. false) c.args.dates.now c.loop-index.dates c.requires.turned c.loop-index.invariant.turns in
    let few = few_turned c.args.question.comes c.loop-index.dates turned c.loop-index.invariant.once in
    let room = ap (λ (w : Walk). w.room) c.ask_turned_watchers.ensures.turned in
    omega (arith, few, room, c.loop-index-test.true, c.turned_count.ensures)

pub loop-index-preserved : goal.loop-index-preserved
loop-index-preserved c =
    let turned = turned_still c.args.question.comes c.args.question.event c.args.parts.now.interest (shows_over c.args.parts.now) (λ k. false) c.args.dates.now c.loop-index.dates c.requires.turned c.loop-index.invariant.turns in
    let desc = c.turned_at.result.0 in
    let lt : c.loop-index.index < length c.loop-index.dates.turned.reached = omega (arith, c.loop-index-test.true, c.turned_count.ensures) in
    let here : get_or c.loop-index.dates.turned.reached c.loop-index.index 0 ≡ desc = get_or_from_slice_get c.loop-index.dates.turned.reached c.loop-index.index desc 0 c.turned_at.ensures in
    record {
      turns = round_turns c.args.question.comes c.args.question.event c.args.parts.now c.args.dates.now c.loop-index.dates c.ask_turned_watchers.new.dates desc c.loop-index.invariant.turns c.ask_turned_watchers.ensures;
      once = c.known-in-loop-index.ensures.turned;
      settled = λ asked h. round_settled c.args.question.comes c.args.question.event c.args.parts.now c.loop-index.dates c.ask_turned_watchers.new.dates c.loop-index.index desc asked c.ask_turned_watchers.ensures lt here (c.loop-index.invariant.settled asked h);
      watched = λ h. round_watched c.args.question.comes c.args.question.event c.args.parts.now c.loop-index.dates c.ask_turned_watchers.new.dates c.loop-index.index desc c.ask_turned_watchers.ensures turned lt here (c.loop-index.invariant.watched h);
    }

pub returns-clause-asks : goal.returns-clause-asks
returns-clause-asks c = c.loop-index.invariant.turns

pub returns-clause-settled : goal.returns-clause-settled
returns-clause-settled c = λ asked h.
    round_ends c.args.question.comes c.args.question.event c.args.parts.now c.loop-index.dates c.loop-index.index asked (omega (arith, c.loop-index-test.false, c.turned_count.ensures)) (c.loop-index.invariant.settled asked h)

pub returns-clause-watched : goal.returns-clause-watched
returns-clause-watched c = λ h.
    watched_ends c.args.question.comes c.args.question.event c.args.parts.now c.loop-index.dates c.loop-index.index (omega (arith, c.loop-index-test.false, c.turned_count.ensures)) (c.loop-index.invariant.watched h)
