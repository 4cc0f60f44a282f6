use Rattle.std.proofs.Common.{ℕ, Bool, List, ap, subst, sym}
use Rattle.std.specs.List.{list_any}
use Rattle.ep_climb.specs.Reach.{AreLive}
use Rattle.ep_interest.specs.Registrations.{entry_under}
use Rattle.ep_kernel.specs.Beside.{Each}
use Rattle.ep_kernel.specs.Push.{Gains, comes_on, passes_found}
use Rattle.ep_kernel.specs.declared.beside.Beside.{Beside}
use Rattle.ep_kernel.proofs.BesideLemmas.{both_then, each_then}
use Rattle.ep_kernel.proofs.ComesLemmas.{gains_in}
use Rattle.ep_kernel.proofs.PushLemmas.{have_still}
use Rattle.ep_kernel.proofs.push.push.Goals as goal
use Rattle.ep_kernel.proofs.push.push.Goals.{After-push_passing}
use Rattle.ep_rings.specs.KeyWalk.{entry_id}

passed : (c : After-push_passing) → Each (Gains (λ k. passes_found (entry_under c.args.parts.now.interest (entry_id k)))) c.args.beside.now c.push_passing.new.beside
passed c = rw (← c.parts.view_is) c.push_passing.ensures

pub push_nested-requires-clause-places : goal.push_nested-requires-clause-places
push_nested-requires-clause-places c = both_then (have_still c.args.parts.now.interest _) c.requires.places (passed (goal.at.push_nested-requires-clause-places c).After-push_passing).alike

pub push_nested-requires-clause-live : goal.push_nested-requires-clause-live
push_nested-requires-clause-live c = subst (λ (b : Beside). AreLive c.args.parts.now.tables b.reached.reached) (sym c.push_passing.ensures.rest) c.requires.live

pub returns : goal.returns
returns c = λ n exact.
    let p = c.args.parts.now in
    let nested : List ℕ → ℕ → Bool = λ ks k. list_any (λ i. comes_on p (record { 0 = i }) k) ks in
    each_then (gains_in n p c.known.ensures.coherent (rw (← c.parts.view_is) c.known-2.ensures) c.args.beside.now.reached.reached exact) (passed (goal.at.returns c).After-push_passing)
    (subst (λ (ks : List ℕ). Each (Gains (nested ks)) c.push_passing.new.beside c.push_nested.new.beside) (ap (λ (b : Beside). b.reached.reached) c.push_passing.ensures.rest) c.push_nested.ensures)
