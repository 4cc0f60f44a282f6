use Rattle.ep_alarms.proofs.ChangesLemmas.{nowhere_leaves}
use Rattle.std.proofs.Common.{◌≡◌, ◌∙◌, ℤ, Some, true, SFits, ap, find, refl, rules, subst, sym, w32}
use Rattle.std.proofs.lemmas.Int.{to_z-of_z}
use Rattle.ep_facts.proofs.BoolFacts.{from_not}
use Rattle.ep_base.specs.declared.answer.Answer.TheVariants.{Refused, Still}
use Rattle.ep_base.specs.declared.call.Event.TheVariants.{Resume}
use Rattle.ep_base.specs.declared.errno.Errno.TheVariants.{Einval}
use Rattle.ep_calls.proofs.OutcomeLemmas.{goes_told}
use Rattle.ep_calls.proofs.ParkLemmas.{found_all}
use Rattle.ep_calls.proofs.ResumeLemmas.{goes_still, goes_unparked}
use Rattle.ep_calls.proofs.WaitLemmas.{asked_some, resume_does}
use Rattle.ep_calls.specs.Parts.{Parts}
use Rattle.ep_calls.specs.Stands.{IsPlaced}
use Rattle.ep_calls.specs.Wait.{IsPick}
use Rattle.ep_interest.specs.Registrations.{IsSound}
use Rattle.ep_kernel.proofs.EventLemmas.{leaves_all, leaves_reported, leaves_stay, stays_by, turns_refused}
use Rattle.ep_kernel.proofs.PickLemmas.{does_from, found_is_pick, same_found}
use Rattle.ep_kernel.proofs.ReportsFirstLemmas.{first_reported, still_reports, waits_at_parked}
use Rattle.ep_kernel.proofs.WaitTurnsLemmas.{refused_turns, wait_turns}
use Rattle.ep_kernel.proofs.wait.resume.Goals as goal
use Rattle.ep_nest.proofs.AdjacentLemmas.{on_err}
use Rattle.ep_calls.proofs.LastLemmas.{resume_last}
use Rattle.ep_kernel.specs.Listed.{AreFair}
use Rattle.ep_kernel.specs.Take.{SetsList, key_stays, taken}
use Rattle.ep_machine.specs.Refusal.{refusals}
use Rattle.ep_machine.specs.State.{State}
use Rattle.ep_machine.specs.Step.{change}
use Rattle.ep_machine.specs.Waits.{is_positive, resume}
use Rattle.ep_machine.specs.Watches.{number_in}
use Rattle.ep_park.specs.Waiters.{is_caller, parked}
use Rattle.ep_ready.specs.ReadyLists.{list_at}

pub returns-in_default-clause-ok : goal.returns-in_default-clause-ok
returns-in_default-clause-ok c =
    let k = c.parts.inside in
    let p : Parts = record { tables = k.tables; interest = k.interest; graph = k.graph; parked = k.waiters; clock = k.clock } in
    let o = c.refused.ensures in
    let caller = c.args.caller.0 in
    let fair : State → Type 0 = λ s. AreFair s p c.args.beside.now.lists in
    rw (← c.parts.view_is) (resume_does fair c.args.step caller c.refused.result p p o.raising refl refl refl (λ s at sound quiet legal stands u.
    goes_told (refusals p.tables.limits s caller Resume) (resume s caller) s c.refused.result.answer (Refused Einval) c.refused.result.picked p o.answer o.picked
    (goes_unparked p.graph p.tables p.interest p.parked p.clock caller p.tables.limits s stands (sym c.in_default.ensures))))

pub returns-then-not-waiter-clause-ok : goal.returns-then-not-waiter-clause-ok
returns-then-not-waiter-clause-ok c =
    let k = c.parts.inside in
    let p : Parts = record { tables = k.tables; interest = k.interest; graph = k.graph; parked = k.waiters; clock = k.clock } in
    let o = c.settled.ensures in
    let caller = c.args.caller.0 in
    let fair : State → Type 0 = λ s. AreFair s p c.args.beside.now.lists in
    rw (← c.parts.view_is) (resume_does fair c.args.step caller c.settled.result p p o.raising refl refl refl (λ s at sound quiet legal stands u.
    goes_told (refusals p.tables.limits s caller Resume) (resume s caller) s c.settled.result.answer Still c.settled.result.picked p o.answer o.picked
    (goes_still p.graph p.tables p.interest p.parked p.clock caller p.tables.limits s stands c.in-Some.waiter (sym c.in-Some.ensures) (from_not c.in-Some.waiter.marked c.if-not-waiter.true))))

pub most-requires : goal.most-requires
most-requires c =
    let w = c.in-Some.waiter in
    let k = c.parts.inside in
    let fits : SFits w32 w.max = search rules in
    let placed = found_all (IsPlaced k.tables.keys) c.args.caller.0 k.waiters (parked c.args.caller.0 w) (sym c.in-Some.ensures) c.parts.invariant.placed in
    subst (λ (z : ℤ). is_positive z ≡ true) (sym (to_z-of_z w32 w.max fits)) (asked_some w.max placed.most)

pub returns-clause-ok : goal.returns-clause-ok
returns-clause-ok c =
    let k = c.parts.inside in
    let w = c.in-Some.waiter in
    let p = c.args.parts.now in
    let l = c.args.beside.now.lists in
    let i = w.instance in
    let caller = c.args.caller.0 in
    let walked = c.in_ok-walked.walked in
    let chosen = c.deref.result.now in
    let fits : SFits w32 w.max = search rules in
    let finds = same_found p (list_at l i.0) c.most.result (number_in w.max) walked c.choose.new.chosen.items chosen c.in_ok-walked.ensures.found (c.most.ensures ∙ ap number_in (to_z-of_z w32 w.max fits)) c.deref.ensures.value in
    let sound = subst (λ (q : Parts). IsSound q.interest) c.parts.view_is c.known-2.ensures in
    let lives = subst (λ (q : Parts). IsPlaced q.tables.keys (parked caller w)) c.parts.view_is
    (found_all (IsPlaced k.tables.keys) caller k.waiters (parked caller w) (sym c.in-Some.ensures) c.parts.invariant.placed) in
    does_from (λ s. AreFair s p l) (IsPick p.tables i (number_in w.max) chosen) c.args.step (λ s. refusals p.tables.limits s caller Resume) (λ s picked. change p.tables.limits s caller Resume picked) c.in_ok-outcome.outcome p c.resume_with.new.self
    c.in_ok-outcome.ensures.ok (found_is_pick p l i (number_in w.max) walked chosen c.args.step c.known.ensures.coherent c.known.ensures.sound sound c.known-3.ensures c.requires.stands.listed lives.instance finds)

pub returns-in_default-clause-lists : goal.returns-in_default-clause-lists
returns-in_default-clause-lists c = turns_refused c.args.step c.args.caller.0 Resume c.refused.result c.args.parts.now c.args.beside.now.lists Einval c.requires.stands.listed c.refused.ensures.answer c.refused.ensures.picked

pub returns-then-not-waiter-clause-lists : goal.returns-then-not-waiter-clause-lists
returns-then-not-waiter-clause-lists c =
    let p = c.args.parts.now in
    let l = c.args.beside.now.lists in
    record { turns = refused_turns Resume c.settled.result.picked p l c.requires.stands.listed c.settled.ensures.picked; order = still_reports l c.args.step c.args.caller.0 Resume c.settled.result p p l c.settled.ensures.answer }

pub returns-clause-lists : goal.returns-clause-lists
returns-clause-lists c =
    let k = c.parts.inside in
    let w = c.in-Some.waiter in
    let p = c.args.parts.now in
    let q = c.resume_with.new.self in
    let l = c.args.beside.now.lists in
    let m = c.take.new.lists in
    let i = w.instance in
    let caller = c.args.caller.0 in
    let walked = c.in_ok-walked.walked in
    let chosen = c.deref.result.now in
    let found = c.in_ok-walked.ensures.found in
    let all = c.choose.new.chosen.items in
    let fits : SFits w32 w.max = search rules in
    let finds = same_found p (list_at l i.0) c.most.result (number_in w.max) walked all chosen found (c.most.ensures ∙ ap number_in (to_z-of_z w32 w.max fits)) c.deref.ensures.value in
    let sound = subst (λ (r : Parts). IsSound r.interest) c.parts.view_is c.known-2.ensures in
    let lives = subst (λ (r : Parts). IsPlaced r.tables.keys (parked caller w)) c.parts.view_is
    (found_all (IsPlaced k.tables.keys) caller k.waiters (parked caller w) (sym c.in-Some.ensures) c.parts.invariant.placed) in
    let waits = subst (λ (r : Parts). find (is_caller caller) r.parked ≡ Some (parked caller w)) c.parts.view_is (sym c.in-Some.ensures) in
    let takes = subst (λ (r : Parts). SetsList l m i.0 (taken (key_stays c.args.step r.interest) walked (list_at l i.0))) c.parts-2.view_is c.take.ensures in
    record {
      turns = wait_turns p q l m i.0 c.args.step c.most.result walked chosen c.in_ok-outcome.outcome.picked (record {
        listed = c.requires.stands.listed;
        sound = sound;
        lists = c.known-3.ensures;
        finds = same_found p (list_at l i.0) c.most.result c.most.result walked all chosen found refl c.deref.ensures.value;
        picks = c.in_ok-outcome.ensures.picked;
        keys = c.in_ok-outcome.ensures.ids;
        entries = c.in_ok-outcome.ensures.entries;
        takes = takes;
      }) Resume tt;
      order =
          first_reported l c.args.step caller Resume c.in_ok-outcome.outcome p i (number_in w.max) walked chosen c.known.ensures.coherent c.known.ensures.sound sound c.known-3.ensures c.requires.stands.listed lives.instance finds c.in_ok-outcome.ensures.picked
          (waits_at_parked p caller w waits) q m takes;
    }

pub returns-in_default-clause-leaves : goal.returns-in_default-clause-leaves
returns-in_default-clause-leaves c = nowhere_leaves c.refused.result.raising c.args.parts.now c.refused.ensures.raising

pub returns-then-not-waiter-clause-leaves : goal.returns-then-not-waiter-clause-leaves
returns-then-not-waiter-clause-leaves c = nowhere_leaves c.settled.result.raising c.args.parts.now c.settled.ensures.raising

pub returns-clause-leaves : goal.returns-clause-leaves
returns-clause-leaves c = record { files = c.resume_with.ensures.files; clock = c.in_ok-outcome.ensures.clock }

pub returns-in_err-walked-clause-last : goal.returns-in_err-walked-clause-last
returns-in_err-walked-clause-last c =
    let caller = c.args.caller.0 in
    let w = c.in-Some.waiter in
    on_err c.from_residual.result (resume_last c.args.parts.now caller w (subst (λ (q : Parts). find (is_caller caller) q.parked ≡ Some (parked caller w)) c.parts.view_is (sym c.in-Some.ensures)))

-- What it leaves beside the parts.
pub returns-in_default-clause-goes : goal.returns-in_default-clause-goes
returns-in_default-clause-goes c = leaves_all Resume c.args.parts.now c.args.beside.now c.requires.stands

pub returns-then-not-waiter-clause-goes : goal.returns-then-not-waiter-clause-goes
returns-then-not-waiter-clause-goes c = leaves_all Resume c.args.parts.now c.args.beside.now c.requires.stands

pub returns-in_err-walked-clause-goes : goal.returns-in_err-walked-clause-goes
returns-in_err-walked-clause-goes c = leaves_stay Resume c.args.parts.now c.args.parts.now c.args.beside.now (record c.args.beside.now { asked = c.choose.new.asked; chosen = c.choose.new.chosen }) refl refl c.requires.stands.room refl c.choose.ensures.hopes

pub returns-in_err-outcome-clause-goes : goal.returns-in_err-outcome-clause-goes
returns-in_err-outcome-clause-goes c = leaves_stay Resume c.args.parts.now c.resume_with.new.self c.args.beside.now (record c.args.beside.now { asked = c.choose.new.asked; chosen = c.choose.new.chosen }) refl refl c.requires.stands.room c.in_err-outcome.ensures.err c.choose.ensures.hopes

pub returns-clause-goes : goal.returns-clause-goes
returns-clause-goes c =
    leaves_reported Resume c.args.parts.now c.resume_with.new.self c.args.beside.now (record c.args.beside.now { lists = c.take.new.lists; asked = c.choose.new.asked; chosen = c.choose.new.chosen }) c.args.step c.in_ok-outcome.outcome.picked refl refl c.in_ok-outcome.ensures.ids c.in_ok-outcome.ensures.entries c.requires.stands c.choose.ensures.hopes tt

pub returns-in_err-walked-clause-err : goal.returns-in_err-walked-clause-err
returns-in_err-walked-clause-err c = on_err c.from_residual.result (stays_by c.args.parts.now c.args.parts.now c.args.beside.now (record c.args.beside.now { asked = c.choose.new.asked; chosen = c.choose.new.chosen }) refl refl refl)

pub returns-in_err-outcome-clause-err : goal.returns-in_err-outcome-clause-err
returns-in_err-outcome-clause-err c = on_err c.from_residual-in_err-outcome.result (stays_by c.args.parts.now c.resume_with.new.self c.args.beside.now (record c.args.beside.now { asked = c.choose.new.asked; chosen = c.choose.new.chosen }) refl refl c.in_err-outcome.ensures.err)
