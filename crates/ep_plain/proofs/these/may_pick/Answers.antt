use Rattle.std.proofs.Common.{◌≡◌, ◌∙◌, ℕ, SFits, ap, rules, subst, sym, true, w32}
use Rattle.std.proofs.lemmas.Int.{to_z-of_z}
use Rattle.ep_calls.specs.Parts.{Parts}
use Rattle.ep_dates.specs.Pick.{IsPick}
use Rattle.ep_interest.specs.Registrations.{IsSound}
use Rattle.ep_machine.specs.Watches.{number_in}
use Rattle.ep_plain.proofs.AllowLemmas.{allowed}
use Rattle.ep_plain.proofs.these.may_pick.Goals as goal

pub returns-clause-picks : goal.returns-clause-picks
returns-clause-picks c s steady legal stands dated =
    let p = c.args.parts.now in
    let d = c.args.dating.now.dates in
    let instance = c.args.instance in
    let picks = c.args.picks.now in
    let fits : SFits w32 c.args.max = search rules in
    let most : c.most.result ≡ number_in c.args.max = c.most.ensures ∙ ap number_in (to_z-of_z w32 c.args.max fits) in
    let sound = subst (λ (q : Parts). IsSound q.interest) c.parts.view_is c.known-2.ensures in
    let forth : c.is_pick.result ≡ true → IsPick p.interest d instance.0 (number_in c.args.max) picks = λ t. subst (λ (q : Parts). IsPick q.interest d instance.0 (number_in c.args.max) picks) c.parts.view_is (subst (λ (n : ℕ). IsPick c.parts.inside.interest d instance.0 n picks) most (c.is_pick.ensures.pick t)) in
    let back : IsPick p.interest d instance.0 (number_in c.args.max) picks → c.is_pick.result ≡ true = λ pick. c.is_pick.ensures.all (subst (λ (n : ℕ). IsPick c.parts.inside.interest d instance.0 n picks) (sym most) (subst (λ (q : Parts). IsPick q.interest d instance.0 (number_in c.args.max) picks) (sym c.parts.view_is) pick)) in
    allowed p d s instance steady stands dated c.known.ensures.coherent.linked c.known.ensures.sound c.requires.lives sound c.requires.fits.kept (c.known-3.ensures.rows instance.0) (number_in c.args.max) picks c.is_pick.result forth back
