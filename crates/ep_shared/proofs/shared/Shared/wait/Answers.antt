use Rattle.std.proofs.Common.{rules, ℕ, SFits, inl, inr, subst, w32}
use Rattle.std.proofs.lemmas.Int.{to_z-of_z}
use Rattle.ep_shared.specs.Sessions.{records_of}
use Rattle.ep_shared.specs.Told.{ResumeAdds}
use Rattle.ep_shared.proofs.shared.Shared.wait.Goals as goal

pub returns-in-Parked-clause-adds : goal.returns-in-Parked-clause-adds
returns-in-Parked-clause-adds g c =
    let max : SFits w32 c.args.asked.max = search rules in
    let mid = records_of c.act-answer.new.session in
    inr (record {
      mid = mid;
      parks = rw (to_z-of_z w32 c.args.asked.max max) at c.in-Parked.ensures.adds;
      resumes = subst (λ (n : ℕ). ResumeAdds n c.resume_wait.result mid (records_of c.resume_wait.new.session)) c.act-answer.ensures.caller c.resume_wait.ensures.adds;
      ended = c.resume_wait.ensures.ends;
    })

pub returns-in_default-clause-adds : goal.returns-in_default-clause-adds
returns-in_default-clause-adds g c =
    let max : SFits w32 c.args.asked.max = search rules in
    inl (rw (to_z-of_z w32 c.args.asked.max max) at c.act-answer.ensures.adds)
