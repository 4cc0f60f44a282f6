use Rattle.std.proofs.Common.{◌≡◌, ◌&&◌, ◌∙◌, ℕ, Bool, List, ap, arith, subst, take, take_all}
use Rattle.ep_base.specs.declared.ids.EntryId.{EntryId}
use Rattle.ep_interest.specs.Passes.{has_id}
use Rattle.ep_interest.specs.Registrations.{entry_under}
use Rattle.ep_kernel.specs.Beside.{Each}
use Rattle.ep_kernel.specs.Push.{Gains, passes_found}
use Rattle.ep_kernel.proofs.BesideLemmas.{both_then, each_map, each_start, each_then}
use Rattle.ep_kernel.proofs.PushLemmas.{gains_next, gains_none, gains_same, have_still, passing_only}
use Rattle.ep_kernel.proofs.push.push_passing.Goals as goal
use Rattle.ep_rings.specs.KeyWalk.{entry_id}

abbrev first : EntryId
first = record { 0 = 0 }

pub loop-id-init : goal.loop-id-init
loop-id-init c = each_start gains_none

pub push_if_passing-requires : goal.push_if_passing-requires
push_if_passing-requires c = both_then (have_still c.args.interest.now _) c.requires c.loop-id.invariant.alike

pub loop-id-preserved : goal.loop-id-preserved
loop-id-preserved c =
    let q : ℕ → Bool = λ k. passes_found (entry_under c.args.interest.now (entry_id k)) in
    each_then (λ l m n. gains_next q c.passing-id-items.result.now c.loop-id.id-index first l m n c.loop-id-test.true) c.loop-id.invariant c.push_if_passing.ensures

pub returns : goal.returns
returns c =
    let all = c.passing-id-items.result.now in
    let q : ℕ → Bool = λ k. passes_found (entry_under c.args.interest.now (entry_id k)) in
    let whole : take c.loop-id.id-index all ≡ all = take_all c.loop-id.id-index all (omega (arith, c.loop-id-test.false)) in
    let only : (k : ℕ) → (has_id all k && q k) ≡ q k = λ k. ap (λ (b : Bool). b && q k) (c.passing-id-items.ensures.exact (entry_id k)) ∙ passing_only (entry_under c.args.interest.now (entry_id k)) in
    each_map (λ l m. gains_same (λ k. has_id all k && q k) q l m only)
    (subst (λ (ids : List EntryId). Each (Gains (λ k. has_id ids k && q k)) c.args.beside.now c.loop-id.beside) whole c.loop-id.invariant)
