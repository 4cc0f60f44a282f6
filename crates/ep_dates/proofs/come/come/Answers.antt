use Rattle.std.proofs.Common.{◌≡◌, ◌||◌, ◌∙◌, [], Bool, ap, drop, false, subst, sym, true, ℕ}
use Rattle.std.proofs.lemmas.Bool.{false≢true}
use Rattle.ep_calls.specs.Parts.{Parts}
use Rattle.ep_dates.proofs.ComeLemmas.{above_settled, both_stages, both_ways, stage_settled}
use Rattle.ep_dates.proofs.TurnedLemmas.{instances_still, kept_forgot, no_instances}
use Rattle.ep_dates.specs.Ask.{AreSettled, Asks, shows_over}
use Rattle.ep_dates.specs.Dates.{Dates, forgot}
use Rattle.ep_dates.specs.Kept.{AreKept}
use Rattle.ep_dates.specs.Touched.{is_it, watches_any, watches_fresh}
use Rattle.ep_interest.specs.Passes.{has_id, passes_on}
use Rattle.ep_interest.specs.Registrations.{entry_under}
use Rattle.ep_dates.proofs.come.come.Goals as goal

-- what is asked first
abbrev direct : (c : goal.After-ask_turned-2) → ℕ → Bool
direct c k = is_it c.args.touched.now.altered k || has_id c.passing.result.now k

first : (c : goal.After-ask_turned-2) → Asks true c.args.event c.args.parts.now (direct c) c.forget.new.self c.ask_each.new.dates
first c =
    both_stages true c.args.event c.args.parts.now (is_it c.args.touched.now.altered) (has_id c.passing.result.now) c.forget.new.self c.ask_altered.new.dates c.ask_each.new.dates c.ask_altered.ensures c.ask_each.ensures

pub returns-clause-comes : goal.returns-clause-comes
returns-clause-comes c =
    let p = c.args.parts.now in
    both_ways true c.args.event p (direct c) (watches_fresh p.interest c.ask_turned.new.dates.turned.reached c.args.touched.now.reached.now.reached) (forgot c.args.dates.now) c.forget.new.self c.ask_each.new.dates c.ask_turned.new.dates c.ask_above.new.dates
    c.ask_turned-2.new.dates c.forget.ensures (first c) c.ask_turned.ensures.asks c.ask_above.ensures c.ask_turned-2.ensures.asks

pub returns-clause-settled : goal.returns-clause-settled
returns-clause-settled c =
    let p = c.args.parts.now in
    let n = c.args.event in
    let ks = c.args.touched.now.reached.now.reached in
    let d = c.ask_turned.new.dates in
    let e = c.ask_above.new.dates in
    let all : ℕ → Bool = λ k. direct c k || watches_any p.interest ks k in
    let asked = stage_settled true n p (direct c) c.forget.new.self c.ask_each.new.dates (first c) (ap (λ (d : Dates). d.turned.reached) c.forget.ensures) in
    let settled = c.ask_turned.ensures.settled (direct c) asked in
    let watched = c.ask_turned.ensures.watched (λ id x at h. absurd (false≢true h)) in
    let above = above_settled true n p (direct c) ks d e c.ask_above.ensures settled watched in
    let ready : AreSettled true p.interest (shows_over p) e (drop c.turned_count-turned.result e.turned.reached) all =
    subst (λ (i : ℕ). AreSettled true p.interest (shows_over p) e (drop i e.turned.reached) all) (sym c.turned_count-turned.ensures) above in
    λ id x at h. c.ask_turned-2.ensures.settled all ready id x at
    (ap (λ (b : Bool). (is_it c.args.touched.now.altered id.0 || b) || watches_any p.interest ks id.0) (c.passing.ensures.exact id ∙ ap (λ (q : Parts). passes_on (entry_under q.interest id)) c.parts.view_is) ∙ h)

-- what is noted are instances, first of what is asked first, then of what is above
pub ask_turned-requires-clause-instances : goal.ask_turned-requires-clause-instances
ask_turned-requires-clause-instances c =
    let p = c.args.parts.now in
    let none : c.forget.new.self.turned.reached ≡ [] = ap (λ (d : Dates). d.turned.reached) c.forget.ensures in
    let kept = subst (AreKept p.interest) (sym c.forget.ensures) (kept_forgot p.interest c.args.dates.now c.requires.kept) in
    let begun = instances_still p c.requires.homes true c.args.event (is_it c.args.touched.now.altered) c.forget.new.self c.ask_altered.new.dates kept c.ask_altered.ensures (no_instances p c.requires.homes c.forget.new.self none) in
    instances_still p c.requires.homes true c.args.event (has_id c.passing.result.now) c.ask_altered.new.dates c.ask_each.new.dates c.ask_altered.ensures.kept c.ask_each.ensures begun

pub ask_turned-requires-2-clause-instances : goal.ask_turned-requires-2-clause-instances
ask_turned-requires-2-clause-instances c =
    let p = c.args.parts.now in
    let none : c.forget.new.self.turned.reached ≡ [] = ap (λ (d : Dates). d.turned.reached) c.forget.ensures in
    let kept = subst (AreKept p.interest) (sym c.forget.ensures) (kept_forgot p.interest c.args.dates.now c.requires.kept) in
    let begun = instances_still p c.requires.homes true c.args.event (is_it c.args.touched.now.altered) c.forget.new.self c.ask_altered.new.dates kept c.ask_altered.ensures (no_instances p c.requires.homes c.forget.new.self none) in
    let passed = instances_still p c.requires.homes true c.args.event (has_id c.passing.result.now) c.ask_altered.new.dates c.ask_each.new.dates c.ask_altered.ensures.kept c.ask_each.ensures begun in
    let turned = instances_still p c.requires.homes true c.args.event (λ k. false) c.ask_each.new.dates c.ask_turned.new.dates c.ask_each.ensures.kept c.ask_turned.ensures.asks passed in
    let above : ℕ → Bool = watches_fresh p.interest c.ask_turned.new.dates.turned.reached c.args.touched.now.reached.now.reached in
    instances_still p c.requires.homes true c.args.event above c.ask_turned.new.dates c.ask_above.new.dates c.ask_turned.ensures.asks.kept c.ask_above.ensures turned
