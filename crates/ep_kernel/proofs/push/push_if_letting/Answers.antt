use Rattle.std.proofs.Common.{◌∙◌, ℕ, Bool, refl, sym}
use Rattle.ep_interest.specs.Registrations.{entry_under, lets_in}
use Rattle.ep_kernel.proofs.BesideLemmas.{both_map, each_map, each_start}
use Rattle.ep_kernel.proofs.PushLemmas.{gains_if, gains_not, placed}
use Rattle.ep_kernel.proofs.push.push_if_letting.Goals as goal
use Rattle.ep_rings.specs.KeyWalk.{entry_id}

pub join-requires : goal.join-requires
join-requires c = both_map (λ l have. placed c.args.interest.now l c.args.id lets_in refl have (sym c.lets_by.ensures ∙ c.if-lets_by.true)) c.requires

pub returns-then-lets_by : goal.returns-then-lets_by
returns-then-lets_by c =
    let q : ℕ → Bool = λ k. lets_in (entry_under c.args.interest.now (entry_id k)) in
    each_map (λ l m. gains_if q c.args.id l m (sym c.lets_by.ensures ∙ c.if-lets_by.true)) c.join.ensures

pub returns-else-lets_by : goal.returns-else-lets_by
returns-else-lets_by c =
    let q : ℕ → Bool = λ k. lets_in (entry_under c.args.interest.now (entry_id k)) in
    each_start (λ l. gains_not q c.args.id l (sym c.lets_by.ensures ∙ c.if-lets_by.false))
