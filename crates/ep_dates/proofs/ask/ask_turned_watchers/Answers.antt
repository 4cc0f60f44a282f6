use Rattle.std.proofs.Common.{◌≡◌, ◌∙◌, ◌++◌, ◌∷◌, [], List, ap, append-nil, append_assoc, filter, refl, subst, sym, ℕ}
use Rattle.ep_base.specs.declared.ids.EntryId.{EntryId}
use Rattle.ep_calls.specs.Climb.{is_nested_key}
use Rattle.ep_calls.specs.Parts.{Parts}
use Rattle.ep_dates.proofs.AskLemmas.{shows_rises}
use Rattle.ep_dates.proofs.EachLemmas.{asks_next, asks_none, watchers_listed}
use Rattle.ep_dates.proofs.TurnLemmas.{turned_still, turns_less}
use Rattle.ep_dates.proofs.TurnedLemmas.{listed_on, next_listed}
use Rattle.ep_dates.specs.Ask.{shows_over, watches}
use Rattle.ep_dates.specs.Dates.{is_ready}
use Rattle.ep_interest.specs.Passes.{has_id}
use Rattle.ep_interest.specs.Registrations.{IsSound, ids, is_on}
use Rattle.ep_law.specs.Laws.{Member}
use Rattle.ep_dates.proofs.ask.ask_turned_watchers.Goals as goal

pub loop-id-init : goal.loop-id-init
loop-id-init c = record { whole = refl; asked = asks_none c.args.question.comes c.args.question.event c.args.parts.now c.args.dates.now c.requires.kept }

pub ask_on_turned-requires-clause-kept : goal.ask_on_turned-requires-clause-kept
ask_on_turned-requires-clause-kept c = c.loop-id.invariant.asked.kept

pub ask_on_turned-requires-clause-turned : goal.ask_on_turned-requires-clause-turned
ask_on_turned-requires-clause-turned c =
    turned_still c.args.question.comes c.args.question.event c.args.parts.now.interest (shows_over c.args.parts.now) (has_id c.loop-id.yielded) c.args.dates.now c.loop-id.dates c.requires.turned c.loop-id.invariant.asked

pub ask_on_turned-requires-clause-there : goal.ask_on_turned-requires-clause-there
ask_on_turned-requires-clause-there c = λ x at.
    let p = c.args.parts.now in
    let listed : List EntryId = ids p.interest (filter (is_on c.args.instance) p.interest.entries) in
    let seen : c.watchers-id-items.result ≡ listed = c.watchers-id-items.ensures.exact ∙ ap (λ (q : Parts). ids q.interest (filter (is_on c.args.instance) q.interest.entries)) c.parts.view_is in
    let all : c.loop-id.yielded ++ c.in-Some.id ∷ c.next.new.self ≡ listed =
    ap (λ (ids : List EntryId). c.loop-id.yielded ++ ids) (sym c.in-Some.ensures.steps) ∙ (c.loop-id.invariant.whole ∙ (c.into_iter-id-iterator.ensures.into_iter_gives ∙ seen)) in
    let there : Member c.in-Some.id listed = subst (Member c.in-Some.id) all (next_listed c.loop-id.yielded c.in-Some.id c.next.new.self) in
    let on : x.desc.0 ≡ c.args.instance.0 = listed_on p.interest (subst (λ (q : Parts). IsSound q.interest) c.parts.view_is c.known.ensures) c.args.instance c.in-Some.id x there at in
    (ap (λ (k : ℕ). is_nested_key p.tables (record { 0 = k })) on ∙ c.requires.nested, ap (is_ready c.loop-id.dates) on ∙ c.loop-id.invariant.asked.rises c.args.instance.0 c.requires.ready)

pub loop-id-preserved : goal.loop-id-preserved
loop-id-preserved c = record {
  whole = append_assoc c.loop-id.yielded (c.in-Some.id ∷ []) c.next.new.self ∙ (ap (λ (ids : List EntryId). c.loop-id.yielded ++ ids) (sym c.in-Some.ensures.steps) ∙ c.loop-id.invariant.whole);
  asked = asks_next c.args.question.comes c.args.question.event c.args.parts.now c.loop-id.yielded c.in-Some.id c.args.dates.now c.loop-id.dates c.ask_on_turned.new.dates c.loop-id.invariant.asked c.ask_on_turned.ensures;
}

pub returns : goal.returns
returns c =
    let p = c.args.parts.now in
    let listed : List EntryId = ids p.interest (filter (is_on c.args.instance) p.interest.entries) in
    let whole : c.loop-id.yielded ≡ c.into_iter-id-iterator.result =
    sym (append-nil c.loop-id.yielded) ∙ (ap (λ (ids : List EntryId). c.loop-id.yielded ++ ids) (sym c.in-None.ensures.steps.0) ∙ c.loop-id.invariant.whole) in
    let seen : c.watchers-id-items.result ≡ listed = c.watchers-id-items.ensures.exact ∙ ap (λ (q : Parts). ids q.interest (filter (is_on c.args.instance) q.interest.entries)) c.parts.view_is in
    let all : c.loop-id.yielded ≡ listed = whole ∙ (c.into_iter-id-iterator.ensures.into_iter_gives ∙ seen) in
    turns_less c.args.question.comes c.args.question.event p.interest (shows_over p) (shows_rises p) (has_id c.loop-id.yielded) (watches p.interest c.args.instance.0) c.args.dates.now c.loop-id.dates
    (λ k h. ap (λ (ids : List EntryId). has_id ids k) all ∙ watchers_listed p.interest (subst (λ (q : Parts). IsSound q.interest) c.parts.view_is c.known.ensures) c.args.instance k h)
    c.loop-id.invariant.asked
