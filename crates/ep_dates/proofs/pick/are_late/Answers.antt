use Rattle.std.proofs.Common.{◌≡◌, ◌≤◌, ◌∙◌, None, Some, ap, leb, option_copied, subst, sym, ℕ}
use Rattle.std.proofs.lemmas.Bool.{false≢true, leb-true}
use Rattle.ep_dates.proofs.PickLemmas.{dated_is, first_dated, first_late, first_there, is_none_some, undated_is}
use Rattle.ep_dates.specs.Order.{date_found, date_under}
use Rattle.ep_dates.specs.Pick.{IsFirstLeft}
use Rattle.ep_interest.specs.Registrations.{entry_under}
use Rattle.ep_rings.specs.PlacedRows.{keys_at}
use Rattle.ep_dates.proofs.pick.are_late.Goals as goal

pub returns-in_default-get-clause-late : goal.returns-in_default-get-clause-late
returns-in_default-get-clause-late c t =
    let r = c.args.interest.now in
    let d = c.args.dates.now in
    let first : IsFirstLeft (keys_at d.rows c.args.instance.0) c.args.flags.now.reached c.in-Some.id.0 = c.in-Some.ensures.some in
    let there = c.requires.kept.only c.args.instance.0 c.in-Some.id.0 (first_there r c.known.ensures d c.requires.kept c.args.instance.0 c.args.flags.now.reached c.in-Some.id.0 first) in
    let none : entry_under r c.in-Some.id ≡ None = sym c.get.ensures ∙ ap option_copied c.in_default-get.is in
    absurd (is_none_some there.0 (sym none ∙ there.1))

pub returns-in_default-since-clause-late : goal.returns-in_default-since-clause-late
returns-in_default-since-clause-late c t =
    let r = c.args.interest.now in
    let d = c.args.dates.now in
    let x = c.in-Some-get.entry.now in
    let some : entry_under r c.in-Some.id ≡ Some x = sym c.get.ensures ∙ ap option_copied c.in-Some-get.is in
    let dated = first_dated r c.known.ensures d c.requires.kept c.args.instance.0 c.args.flags.now.reached c.in-Some.id x c.in-Some.ensures.some some in
    absurd (false≢true (sym (undated_is d x.number (sym c.since.ensures ∙ c.in_default-since.is)) ∙ dated))

pub returns-clause-late : goal.returns-clause-late
returns-clause-late c t =
    let r = c.args.interest.now in
    let d = c.args.dates.now in
    let x = c.in-Some-get.entry.now in
    let first : IsFirstLeft (keys_at d.rows c.args.instance.0) c.args.flags.now.reached c.in-Some.id.0 = c.in-Some.ensures.some in
    let some : entry_under r c.in-Some.id ≡ Some x = sym c.get.ensures ∙ ap option_copied c.in-Some-get.is in
    let date : date_under r d c.in-Some.id.0 ≡ c.in-Some-since.since = ap (date_found d) some ∙ dated_is d x.number c.in-Some-since.since (sym c.since.ensures ∙ c.in-Some-since.is) in
    first_late r c.known.ensures d c.requires.kept c.args.instance.0 c.args.flags.now.reached c.requires.order.0 c.requires.order.1 c.in-Some.id.0 c.args.latest first (subst (λ (n : ℕ). c.args.latest ≤ n) (sym date) (leb-true c.args.latest c.in-Some-since.since (sym (λ i. leb (c.latest.view_is i) (c.since-2.view_is i)) ∙ t)))
