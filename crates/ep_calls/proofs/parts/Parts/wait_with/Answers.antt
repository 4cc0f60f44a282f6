use Rattle.std.proofs.Common.{◌≡◌, ◌∙◌, ◌==◌, ◌⊎◌, false, true, SFits, List, ap, inl, inr, length, map, of_z, pos, refl, rules, subst, sym, to_z, w32, ℕ}
use Rattle.std.proofs.lemmas.Bool.{false≢true}
use Rattle.std.proofs.lemmas.Int.{to_z-of_z}
use Rattle.std.proofs.lemmas.Result.{IfOk-weaker}
use Rattle.ep_base.specs.declared.answer.Answer.TheVariants.{Parked}
use Rattle.ep_machine.specs.Files.{named_by}
use Rattle.ep_machine.specs.Refusal.{wait_refusals}
use Rattle.ep_machine.specs.Waits.{wait}
use Rattle.ep_machine.specs.Watches.{number_in}
use Rattle.ep_calls.specs.Parts.{Parts}
use Rattle.ep_calls.specs.Wait.{AreKeyed, IsPick, Waits, with_report}
use Rattle.ep_calls.specs.declared.outcome.Outcome.{Outcome}
use Rattle.ep_calls.proofs.OutcomeLemmas.{goes_told}
use Rattle.ep_calls.proofs.WaitLemmas.{both_ok, coherent_parked, goes_parked, goes_reported, not_dying, parked_waiting, placed_waiting, stays_reported, wait_does, waits_at_instance}
use Rattle.ep_calls.proofs.PickLemmas.{noted_none}
use Rattle.ep_calls.proofs.ReportLemmas.{no_numbers}
use Rattle.ep_calls.proofs.parts.Parts.wait_with.Goals as goal

pub invariant_of-self : goal.invariant_of-self
invariant_of-self c =
    let k = c.self.inside in
    let p : Parts = record { tables = k.tables; interest = k.interest; graph = k.graph; parked = k.waiters; clock = k.clock } in
    stays_reported p c.report.new.interest c.args.step c.args.chosen.now c.report.result c.self.invariant c.report.ensures.ok c.report.ensures.err

pub returns-then-at_once-clause-ok : goal.returns-then-at_once-clause-ok
returns-then-at_once-clause-ok c =
    let k = c.self.inside in
    let p : Parts = record { tables = k.tables; interest = k.interest; graph = k.graph; parked = k.waiters; clock = k.clock } in
    let new : Parts = record p { interest = c.report.new.interest } in
    let x = c.args.args in
    let chosen = c.args.chosen.now in
    let of = subst (λ (q : Parts). Waits q.tables x c.args.instance) (sym c.self.view_is) c.requires.waits in
    let keyed = subst (λ (q : Parts). AreKeyed q.tables q.clock q.interest chosen) (sym c.self.view_is) c.requires.keyed in
    let why : ((length chosen == 0) ≡ false) ⊎ (x.timeout ≡ pos 0) = elim c.if-at_once.either [
      | inl some ↦ inl (sym c.is_empty.ensures ∙ some)
      | inr none ↦ inr (c.is_zero-at_once.ensures.0 none.1)
    ] in
    rw (← c.self.view_is) (IfOk-weaker c.report.result _ _ (λ (o : Outcome) made.
    wait_does (IsPick p.tables c.args.instance (number_in x.max) chosen) c.args.step c.args.caller.0 o p new made.1 refl refl refl x (λ s at sound quiet legal stands pick.
    goes_reported p.tables x c.args.instance of p.graph p.clock p.interest c.args.step chosen keyed c.args.caller.0 s at legal stands pick new.interest o.answer o.picked made.0 why))
    (both_ok c.report.result _ _ c.report.ensures.ok c.report.ensures.raising))

pub park-requires-clause-kind : goal.park-requires-clause-kind
park-requires-clause-kind c =
    let k = c.self.inside in
    let of = subst (λ (q : Parts). Waits q.tables c.args.args c.args.instance) (sym c.self.view_is) c.requires.waits in
    waits_at_instance k.tables c.args.args c.args.instance of

pub park-requires-clause-used : goal.park-requires-clause-used
park-requires-clause-used c =
    let k = c.self.inside in
    let of = subst (λ (q : Parts). Waits q.tables c.args.args c.args.instance) (sym c.self.view_is) c.requires.waits in
    not_dying k.tables c.args.args.pid.0 c.args.args.epfd.0 c.args.instance c.known.ensures of.named of.lives

pub invariant_of-self-else-at_once : goal.invariant_of-self-else-at_once
invariant_of-self-else-at_once c =
    let k = c.self.inside in
    let p : Parts = record { tables = k.tables; interest = k.interest; graph = k.graph; parked = k.waiters; clock = k.clock } in
    let x = c.args.args in
    let of = subst (λ (q : Parts). Waits q.tables x c.args.instance) (sym c.self.view_is) c.requires.waits in
    let max_fits : SFits w32 x.max = search rules in
    let e = c.in_ok-park.ensures in
    let more = parked_waiting k.waiters c.park.new.waiters c.args.caller.0 x c.args.instance k.clock (to_z w32 (of_z w32 x.max)) x.timeout c.deadline.result (to_z-of_z w32 x.max max_fits) refl c.deadline.ensures e.parked in
    coherent_parked p c.park.new.tables c.park.new.waiters c.self.invariant e.files e.keys (placed_waiting k.tables k.waiters c.park.new.waiters c.args.caller.0 x c.args.instance k.clock of c.self.invariant.placed more) e.held

pub returns-in_ok-park-clause-ok : goal.returns-in_ok-park-clause-ok
returns-in_ok-park-clause-ok c =
    let k = c.self.inside in
    let p : Parts = record { tables = k.tables; interest = k.interest; graph = k.graph; parked = k.waiters; clock = k.clock } in
    let new : Parts = record p { tables = c.park.new.tables; parked = c.park.new.waiters } in
    let x = c.args.args in
    let caller = c.args.caller.0 in
    let chosen = c.args.chosen.now in
    let e = c.in_ok-park.ensures in
    let o = c.settled.ensures in
    let of = subst (λ (q : Parts). Waits q.tables x c.args.instance) (sym c.self.view_is) c.requires.waits in
    let keyed = subst (λ (q : Parts). AreKeyed q.tables q.clock q.interest chosen) (sym c.self.view_is) c.requires.keyed in
    let max_fits : SFits w32 x.max = search rules in
    let none : (length chosen == 0) ≡ true = sym c.is_empty.ensures ∙ c.if-at_once.false.0 in
    let more = parked_waiting k.waiters new.parked caller x c.args.instance k.clock (to_z w32 (of_z w32 x.max)) x.timeout c.deadline.result (to_z-of_z w32 x.max max_fits) refl c.deadline.ensures e.parked in
    rw (← c.self.view_is) (wait_does (IsPick p.tables c.args.instance (number_in x.max) chosen) c.args.step caller c.settled.result p new o.raising e.files e.keys e.limits x (λ s at sound quiet legal stands pick.
    goes_told (wait_refusals s x.pid.0 x.epfd.0 x.max) (λ ks. wait s caller x.pid.0 (named_by s.files x.pid.0 x.epfd.0) (number_in x.max) x.timeout ks) s c.settled.result.answer Parked c.settled.result.picked new o.answer o.picked
    (goes_parked p.tables x c.args.instance of p.graph p.clock p.interest c.args.step chosen keyed caller s at legal stands pick new.tables new.parked none (λ z. false≢true (sym c.if-at_once.false.1 ∙ c.is_zero-at_once.ensures.1 z)) e.files e.keys more)))

pub returns-in_ok-park-clause-entries : goal.returns-in_ok-park-clause-entries
returns-in_ok-park-clause-entries c =
    let xs = c.self.inside.interest.entries in
    rw (← c.self.view_is) (sym (noted_none c.args.step xs) ∙ ap (λ (ks : List ℕ). map (with_report c.args.step ks) xs) (sym c.settled.ensures.picked))

pub returns-in_ok-park-clause-picked : goal.returns-in_ok-park-clause-picked
returns-in_ok-park-clause-picked c = c.settled.ensures.picked ∙ sym (no_numbers c.args.chosen.now (sym c.is_empty.ensures ∙ c.if-at_once.false.0))
