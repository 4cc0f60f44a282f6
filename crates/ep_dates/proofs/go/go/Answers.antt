use Rattle.std.proofs.Common.{◌≡◌, ◌||◌, ◌∙◌, Bool, Some, [], ap, false, refl, subst, sym, true, ℕ}
use Rattle.std.proofs.lemmas.Bool.{or_parts}
use Rattle.ep_base.specs.declared.ids.EntryId.{EntryId}
use Rattle.ep_dates.proofs.ComeLemmas.{both_stages, whole_way}
use Rattle.ep_dates.proofs.GoLemmas.{all_settled, none_above}
use Rattle.ep_dates.proofs.TurnedLemmas.{instances_still, kept_forgot, no_instances}
use Rattle.ep_dates.specs.Ask.{Asks, shows_by, shows_over}
use Rattle.ep_dates.specs.Dates.{Dates, forgot, is_dated}
use Rattle.ep_dates.specs.Kept.{AreKept}
use Rattle.ep_dates.specs.Touched.{has_number, is_it, may_go, touched_of, watches_fresh, watches_maybe}
use Rattle.ep_interest.specs.Registrations.{entry_under}
use Rattle.ep_interest.specs.declared.entry.Entry.{Entry}
use Rattle.ep_machine.specs.Lists.{is_among}
use Rattle.ep_dates.proofs.go.go.Goals as goal

-- what is asked, in its stages
abbrev asked : (c : goal.After-ask_turned) → ℕ → Bool
asked c k =
    let r = c.args.parts.now.interest in
    is_it c.args.touched.now.altered k || has_number r c.args.touched.now.reported.now k || watches_maybe r c.args.touched.now.called k || watches_fresh r c.ask_called.new.dates.turned.reached c.args.touched.now.gone.now.reached k

stages : (c : goal.After-ask_turned) → Asks false c.args.event c.args.parts.now (asked c) c.forget.new.self c.ask_above.new.dates
stages c =
    let p = c.args.parts.now in
    let n = c.args.event in
    let altered : ℕ → Bool = is_it c.args.touched.now.altered in
    let reported : ℕ → Bool = has_number p.interest c.args.touched.now.reported.now in
    let called : ℕ → Bool = watches_maybe p.interest c.args.touched.now.called in
    let above : ℕ → Bool = watches_fresh p.interest c.ask_called.new.dates.turned.reached c.args.touched.now.gone.now.reached in
    let two = both_stages false n p altered reported c.forget.new.self c.ask_altered.new.dates c.ask_reported.new.dates c.ask_altered.ensures c.ask_reported.ensures in
    let three = both_stages false n p (λ k. altered k || reported k) called c.forget.new.self c.ask_reported.new.dates c.ask_called.new.dates two c.ask_called.ensures in
    both_stages false n p (λ k. (altered k || reported k) || called k) above c.forget.new.self c.ask_called.new.dates c.ask_above.new.dates three c.ask_above.ensures

pub returns-clause-goes : goal.returns-clause-goes
returns-clause-goes c =
    whole_way false c.args.event c.args.parts.now (asked c) (forgot c.args.dates.now) c.forget.new.self c.ask_above.new.dates c.ask_turned.new.dates c.forget.ensures (stages c) c.ask_turned.ensures.asks

-- what may go was asked, or is on an instance that is noted
spared : (c : goal.After-ask_turned) → (id : EntryId) (x : Entry) → entry_under c.args.parts.now.interest id ≡ Some x → asked c id.0 ≡ false → is_among c.ask_above.new.dates.turned.reached x.desc.0 ≡ false
    → may_go c.args.parts.now.interest (touched_of c.args.touched.now) id.0 ≡ false
spared c id x at unasked absent =
    let r = c.args.parts.now.interest in
    let gone = c.args.touched.now.gone.now.reached in
    let noted = c.ask_called.new.dates.turned.reached in
    let direct : Bool = is_it c.args.touched.now.altered id.0 || has_number r c.args.touched.now.reported.now id.0 || watches_maybe r c.args.touched.now.called id.0 in
    let parts = or_parts direct (watches_fresh r noted gone id.0) unasked in
    let any = none_above c.args.event c.args.parts.now noted gone c.ask_called.new.dates c.ask_above.new.dates (watches_fresh r noted gone) c.ask_above.ensures refl id x at parts.1 absent in
    λ i. parts.0 i || any i

pub returns-clause-settled : goal.returns-clause-settled
returns-clause-settled c =
    let p = c.args.parts.now in
    let none : c.forget.new.self.turned.reached ≡ [] = ap (λ (d : Dates). d.turned.reached) c.forget.ensures in
    c.ask_turned.ensures.settled (λ k. true)
    (all_settled c.args.event p (asked c) c.forget.new.self c.ask_above.new.dates (stages c) none (λ id x at unasked absent dated.
    ap (λ (d : Dates). shows_by (shows_over p) d x) c.forget.ensures ∙ c.requires.others id x at (spared c id x at unasked absent) (ap (λ (d : Dates). is_dated d x) (sym c.forget.ensures) ∙ dated)))

-- what is noted are instances
pub ask_turned-requires-clause-instances : goal.ask_turned-requires-clause-instances
ask_turned-requires-clause-instances c =
    let p = c.args.parts.now in
    let none : c.forget.new.self.turned.reached ≡ [] = ap (λ (d : Dates). d.turned.reached) c.forget.ensures in
    let kept = subst (AreKept p.interest) (sym c.forget.ensures) (kept_forgot p.interest c.args.dates.now c.requires.kept) in
    let altered = instances_still p c.requires.homes false c.args.event (is_it c.args.touched.now.altered) c.forget.new.self c.ask_altered.new.dates kept c.ask_altered.ensures (no_instances p c.requires.homes c.forget.new.self none) in
    let reported = instances_still p c.requires.homes false c.args.event (has_number p.interest c.args.touched.now.reported.now) c.ask_altered.new.dates c.ask_reported.new.dates c.ask_altered.ensures.kept c.ask_reported.ensures altered in
    let called = instances_still p c.requires.homes false c.args.event (watches_maybe p.interest c.args.touched.now.called) c.ask_reported.new.dates c.ask_called.new.dates c.ask_reported.ensures.kept c.ask_called.ensures reported in
    let above : ℕ → Bool = watches_fresh p.interest c.ask_called.new.dates.turned.reached c.args.touched.now.gone.now.reached in
    instances_still p c.requires.homes false c.args.event above c.ask_called.new.dates c.ask_above.new.dates c.ask_called.ensures.kept c.ask_above.ensures called
