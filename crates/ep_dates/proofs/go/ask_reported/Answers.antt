use Rattle.std.proofs.Common.{◌≡◌, ◌==◌, ◌∙◌, List, ap, arith, false, subst, take, take_all, ℕ}
use Rattle.std.proofs.lemmas.List.{get_or_default}
use Rattle.ep_base.specs.declared.ids.EntryId.{EntryId}
use Rattle.ep_dates.proofs.GoLemmas.{reported_more, reported_none}
use Rattle.ep_dates.proofs.TurnLemmas.{turned_still}
use Rattle.ep_dates.specs.Ask.{Asks, shows_over}
use Rattle.ep_dates.specs.Dates.{id_at}
use Rattle.ep_dates.specs.Touched.{has_number}
use Rattle.ep_dates.proofs.go.ask_reported.Goals as goal

pub loop-number-init : goal.loop-number-init
loop-number-init c = reported_none c.args.event c.args.parts.now c.args.dates.now c.requires.kept

pub ask-requires-clause-kept : goal.ask-requires-clause-kept
ask-requires-clause-kept c = c.loop-number.invariant.kept

pub ask-requires-clause-turned : goal.ask-requires-clause-turned
ask-requires-clause-turned c =
    let p = c.args.parts.now in
    turned_still false c.args.event p.interest (shows_over p) (has_number p.interest (take c.loop-number.number-index c.args.reported.now)) c.args.dates.now c.loop-number.dates c.requires.turned c.loop-number.invariant

pub loop-number-preserved : goal.loop-number-preserved
loop-number-preserved c =
    let p = c.args.parts.now in
    let ks = c.args.reported.now in
    let it = c.number-item.is ∙ get_or_default ks c.loop-number.number-index c.number-item.result 0 c.loop-number-test.true in
    reported_more c.args.event p ks c.loop-number.number-index c.args.dates.now c.loop-number.dates c.ask.new.dates c.loop-number-test.true c.loop-number.invariant
    (subst (λ (id : EntryId). Asks false c.args.event p (λ k. k == id.0) c.loop-number.dates c.ask.new.dates) (c.id.ensures ∙ ap (id_at c.loop-number.dates.ids) it) c.ask.ensures)

pub returns : goal.returns
returns c =
    let all = c.args.reported.now in
    let whole : take c.loop-number.number-index all ≡ all = take_all c.loop-number.number-index all (omega (arith, c.loop-number-test.false)) in
    subst (λ (l : List ℕ). Asks false c.args.event c.args.parts.now (has_number c.args.parts.now.interest l) c.args.dates.now c.loop-number.dates) whole c.loop-number.invariant
