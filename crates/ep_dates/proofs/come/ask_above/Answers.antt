use Rattle.std.proofs.Common.{◌≡◌, ◌<◌, List, arith, get_or, length, subst, take, take_all, ℕ}
use Rattle.std.proofs.lemmas.Option.{get_or_from_slice_get}
use Rattle.ep_dates.proofs.EachLemmas.{above_more, above_none}
use Rattle.ep_dates.proofs.TurnLemmas.{turned_still}
use Rattle.ep_dates.specs.Ask.{Asks, shows_over}
use Rattle.ep_dates.specs.Touched.{watches_fresh}
use Rattle.ep_dates.proofs.come.ask_above.Goals as goal

pub loop-index-init : goal.loop-index-init
loop-index-init c = above_none c.args.question.comes c.args.question.event c.args.parts.now c.args.dates.now c.args.dates.now.turned.reached c.requires.kept

pub ask_on-requires-clause-kept : goal.ask_on-requires-clause-kept
ask_on-requires-clause-kept c = c.loop-index.invariant.kept

pub ask_on-requires-clause-turned : goal.ask_on-requires-clause-turned
ask_on-requires-clause-turned c =
    let p = c.args.parts.now in
    turned_still c.args.question.comes c.args.question.event p.interest (shows_over p) (watches_fresh p.interest c.args.dates.now.turned.reached (take c.loop-index.index c.args.instances.now.reached)) c.args.dates.now c.loop-index.dates c.requires.turned c.loop-index.invariant

pub loop-index-preserved : goal.loop-index-preserved
loop-index-preserved c =
    let ks = c.args.instances.now.reached in
    let lt : c.loop-index.index < length ks = omega (arith, c.loop-index-test.true, c.count-index-end.ensures) in
    let here : get_or ks c.loop-index.index 0 ≡ c.at.result = get_or_from_slice_get ks c.loop-index.index c.at.result 0 c.at.ensures in
    above_more c.args.question.comes c.args.question.event c.args.parts.now ks c.loop-index.index c.at.result c.args.dates.now c.loop-index.dates c.ask_on.new.dates lt here c.loop-index.invariant c.ask_on.ensures

pub returns : goal.returns
returns c =
    let ks = c.args.instances.now.reached in
    let whole : take c.loop-index.index ks ≡ ks = take_all c.loop-index.index ks (omega (arith, c.loop-index-test.false, c.count-index-end.ensures)) in
    subst (λ (l : List ℕ). Asks c.args.question.comes c.args.question.event c.args.parts.now (watches_fresh c.args.parts.now.interest c.args.dates.now.turned.reached l) c.args.dates.now c.loop-index.dates) whole c.loop-index.invariant
