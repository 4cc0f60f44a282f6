use Rattle.std.proofs.Common.{◌≡◌, ◌==◌, ◌∙◌, Some, ap, option_copied, subst, sym}
use Rattle.ep_dates.proofs.DropLemmas.{drops_one}
use Rattle.ep_dates.specs.Drop.{Drops}
use Rattle.ep_interest.specs.Registrations.{entry_under}
use Rattle.ep_dates.proofs.drop.drop_one.Goals as goal

pub returns : goal.returns
returns c =
    let r = c.args.interest.now in
    let x = c.in-Some.entry.now in
    let at : entry_under r c.args.id ≡ Some x = sym c.get.ensures ∙ ap option_copied c.in-Some.is in
    subst (Drops r (λ k. k == c.args.id.0) c.args.dates.now) (sym c.end.ensures) (drops_one r c.known.ensures c.args.dates.now c.requires c.args.id x at)
