use Rattle.std.proofs.Common.{◌∙◌, ℕ, Bool, refl, sym}
use Rattle.ep_interest.specs.Registrations.{entry_under}
use Rattle.ep_kernel.proofs.BesideLemmas.{both_map, each_map, each_start}
use Rattle.ep_kernel.proofs.PushLemmas.{gains_if, gains_not, placed}
use Rattle.ep_kernel.specs.Push.{passes_found}
use Rattle.ep_kernel.proofs.push.push_if_passing.Goals as goal
use Rattle.ep_rings.specs.KeyWalk.{entry_id}

pub join-requires : goal.join-requires
join-requires c = both_map (λ l have. placed c.args.interest.now l c.args.id passes_found refl have (sym c.passes.ensures ∙ c.if-passes.true)) c.requires

pub returns-then-passes : goal.returns-then-passes
returns-then-passes c =
    let q : ℕ → Bool = λ k. passes_found (entry_under c.args.interest.now (entry_id k)) in
    each_map (λ l m. gains_if q c.args.id l m (sym c.passes.ensures ∙ c.if-passes.true)) c.join.ensures

pub returns-else-passes : goal.returns-else-passes
returns-else-passes c =
    let q : ℕ → Bool = λ k. passes_found (entry_under c.args.interest.now (entry_id k)) in
    each_start (λ l. gains_not q c.args.id l (sym c.passes.ensures ∙ c.if-passes.false))
