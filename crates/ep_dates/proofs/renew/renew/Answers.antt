use Rattle.std.proofs.Common.{◌≡◌, ◌∙◌, [], ◌∷◌, Some, ap, arith, nat_lt, option_copied, subst, sym, true, ℕ}
use Rattle.std.proofs.lemmas.Bool.Decides.{nat_tests}
use Rattle.ep_calls.specs.Parts.{Parts}
use Rattle.ep_dates.proofs.RenewLemmas.{renews_one}
use Rattle.ep_dates.specs.Dates.{event_at, id_at, is_dated}
use Rattle.ep_dates.specs.Renew.{Renews}
use Rattle.ep_interest.specs.Registrations.{IsSound, entry_under}
use Rattle.ep_interest.specs.declared.entry.Entry.{Entry}
use Rattle.ep_dates.proofs.renew.renew.Goals as goal

pub returns : goal.returns
returns c =
    let p = c.args.parts.now in
    let x = c.in-Some.entry.now in
    let d = c.args.dates.now in
    let id = c.id-id.result in
    let at : entry_under p.interest id ≡ Some x = subst (λ (q : Parts). entry_under q.interest id ≡ Some x) c.parts.view_is (sym c.get.ensures ∙ ap option_copied c.in-Some.is) in
    let number : x.number ≡ c.args.number = sym (ap (λ (e : Entry). e.number) c.entry.view_is) ∙ (c.if-entry-number.false ∙ c.number.view_is) in
    let dated : is_dated d x ≡ true = ap (λ (k : ℕ). nat_lt 0 (event_at d.since k)) number ∙ (sym c.is_dated.ensures ∙ c.if-not-is_dated.false) in
    let key : id_at d.ids x.number ≡ id = ap (id_at d.ids) number ∙ sym c.id-id.ensures in
    let up : nat_lt 0 c.args.event ≡ true = let positive = c.requires.event in grind (arith, nat_tests, positive) in
    subst (Renews c.args.event p.interest (c.args.number ∷ []) d) (sym c.renew.ensures)
    (renews_one c.args.event p.interest (subst (λ (q : Parts). IsSound q.interest) c.parts.view_is c.known.ensures) up d c.requires.kept id x at dated key c.args.number number)
