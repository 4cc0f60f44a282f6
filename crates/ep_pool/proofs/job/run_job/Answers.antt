use Rattle.std.proofs.Common.{rules, ◌≡◌, ◌++◌, ◌∷◌, ◌∙◌, ℕ, [], List, ap, arith, length, length-append, subst, sym}
use Rattle.std.specs.Vec.Iter.{into_iter_items}
use Rattle.std.proofs.lemmas.List.{append_assoc}
use Rattle.ep_pool.specs.Steps.{StepAdds}
use Rattle.ep_pool.specs.declared.job.Step.{Step}
use Rattle.ep_pool.proofs.StepLemmas.{steps_push}
use Rattle.ep_shared.specs.Sessions.{caller_of, records_of}
use Rattle.ep_pool.proofs.job.run_job.Goals as goal

pub loop-step-preserved : goal.loop-step-preserved
loop-step-preserved g c =
    let job = c.args.job in
    let inv = c.loop-step.invariant in
    let mid = c.loop-step.session in
    let made = c.make_step.ensures.made c.if-not-make_step.false in
    record {
      parts = inv.parts ∙ (ap (λ (ss : List Step). c.loop-step.yielded ++ ss) c.in-Some.ensures.steps.0 ∙ sym (append_assoc c.loop-step.yielded (c.in-Some.step ∷ []) (into_iter_items c.next.new.self)));
      count = omega (arith, length-append c.loop-step.yielded (c.in-Some.step ∷ []), inv.count);
      caller = c.make_step.ensures.caller ∙ inv.caller;
      adds = steps_push (caller_of job.session) (records_of job.session) (records_of mid) (records_of c.make_step.new.session) c.loop-step.yielded c.in-Some.step inv.adds
          (subst (λ (n : ℕ). StepAdds n (records_of mid) (records_of c.make_step.new.session) c.in-Some.step) inv.caller made);
    }
