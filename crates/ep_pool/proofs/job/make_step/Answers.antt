use Rattle.std.proofs.Common.{rules, ◌≡◌, ◌∙◌, Bool, SFits, false, not, sym, true, w32}
use Rattle.std.proofs.lemmas.Int.{to_z-of_z}
use Rattle.ep_facts.proofs.BoolFacts.{from_not}
use Rattle.ep_calls.specs.Acts.{is_no_memory as wants_memory}
use Rattle.ep_pool.specs.Steps.{Makes}
use Rattle.ep_shared.specs.Sessions.{caller_of, records_of}
use Rattle.ep_pool.proofs.job.make_step.Goals as goal
use Rattle.ep_pool.proofs.job.make_step.Goals.{in-Call, in-Wait, in-Tick}

pub returns-clause-made : goal.returns-clause-made
returns-clause-made g c goes =
    let answer = c.match-step.answer in
    let makes : Makes (caller_of c.args.session.now) (records_of c.args.session.now) (records_of c.match-step.session) c.args.step answer = elim c.match-step.branch [
      | in-Call w ↦ rw (w.session-is, w.answer-is, w.in-Call.is) w.call-answer.ensures.adds
      | in-Wait w ↦
          (let x = w.in-Wait in
          let max_fits : SFits w32 x.max = search rules in
          let adds = rw (to_z-of_z w32 x.max max_fits) at w.wait-answer.ensures.adds in
          rw (w.session-is, w.answer-is, x.is) adds)
      | in-Tick w ↦ rw (w.session-is, w.answer-is, w.in-Tick.is) w.tick-answer.ensures.adds
    ] in
    record { answer = answer; real = sym c.is_no_memory.ensures ∙ from_not c.is_no_memory.result goes; makes = makes }
