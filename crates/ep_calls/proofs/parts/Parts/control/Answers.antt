use Rattle.std.proofs.Common.{◌∙◌, None, Option, Some, ℕ, Bool, if◌then◌else◌, true, false, cond, refl, subst, sym, unwrap_or}
use Rattle.std.specs.List.{list_any}
use Rattle.std.specs.Prelude.{◌≡◌, filter, IsSome, MatchBool}
use Rattle.ep_base.specs.declared.ids.EntryId.{EntryId}
use Rattle.ep_base.specs.declared.ids.Fd.{Fd}
use Rattle.ep_interest.specs.Registrations.{Registrations, has_key, number_under}
use Rattle.ep_calls.specs.Parts.{Parts}
use Rattle.ep_calls.specs.Control.{Alters, Changes, IsFound, IsPlan, TellsBelow, is_deep_at, is_done, raising_of_ctl}
use Rattle.ep_calls.specs.Raising.{IsRaising}
use Rattle.ep_calls.specs.Readiness.{entry_shows, readiness}
use Rattle.ep_calls.specs.declared.control.Named.{Named}
use Rattle.ep_calls.specs.declared.control.Operation.{Operation}
use Rattle.ep_calls.specs.declared.raising.Raising.{Raising}
use Rattle.ep_calls.specs.declared.raising.Raising.TheVariants.{Instance, Nowhere}
use Rattle.ep_calls.proofs.EpollCtlLemmas.{deep_is_at, goes_altered, goes_entered, is_deep, linked_altered, linked_entered}
use Rattle.ep_calls.proofs.FindLemmas.{has_number}
use Rattle.ep_calls.proofs.FoundLeftLemmas.{found_added, found_left}
use Rattle.ep_calls.proofs.IsBelowLemmas.{told_below}
use Rattle.ep_table.specs.Value.{Seen, number_under as number_of_key}
use Rattle.ep_calls.proofs.ControlLemmas.{controls_told, ctl_does, found_as, watched_altered, watched_entered}
use Rattle.ep_table.proofs.ProcessesLemmas.{on_err}
use Rattle.ep_calls.proofs.LastLemmas.{control_last}
use Rattle.ep_calls.proofs.parts.Parts.control.Goals as goal

lives_if : (v : Seen) (now : ℕ) (r : Registrations) (named : Named) (fd : Fd) (b : Bool) → IsSome (number_of_key v named.instance) → IsRaising (if b then raising_of_ctl v now r named fd else Nowhere) v
lives_if v now r named fd false h = tt
lives_if v now r named fd true h = elim (list_any (entry_shows (readiness v now r) v now) (filter (has_key named.instance fd named.desc) r.entries)) as (λ x. IsRaising (cond x (Instance named.instance) Nowhere) v) [ true ↦ h | false ↦ tt ]

pub invariant_of-self : goal.invariant_of-self
invariant_of-self c =
    let k = c.self.inside in
    let p : Parts = record { tables = k.tables; interest = k.interest; graph = k.graph; parked = k.waiters; clock = k.clock } in
    let plan : IsPlan p c.args.pid.0 c.args.args c.args.plan = subst (λ (q : Parts). IsPlan q c.args.pid.0 c.args.args c.args.plan) (sym c.self.view_is) c.requires.plan in
    let v = k.tables in
    let r = k.interest in
    let h = c.self.invariant in
    let a = c.args.args in
    let pid = c.args.pid.0 in
    let limits = v.limits in
    let number = unwrap_or (number_under r c.in-Some.key) 0 in
    let e = c.alter-answer.ensures in
    record {
      linked = linked_altered v r pid a c.args.plan.named plan.names h.linked number c.args.plan.operation c.alter-answer.new.interest c.alter-answer.result e.alters;
      watched = watched_altered v r pid a c.args.plan.named plan.names h.watched number c.args.plan.operation c.alter-answer.new.interest c.alter-answer.result e.alters;
      nested = e.nested v h.nested;
      placed = h.placed;
      held = h.held;
      clock = h.clock;
    }

pub returns-in-Some-clause-ok : goal.returns-in-Some-clause-ok
returns-in-Some-clause-ok c = λ n caller.
    let k = c.self.inside in
    let p : Parts = record { tables = k.tables; interest = k.interest; graph = k.graph; parked = k.waiters; clock = k.clock } in
    let plan : IsPlan p c.args.pid.0 c.args.args c.args.plan = subst (λ (q : Parts). IsPlan q c.args.pid.0 c.args.args c.args.plan) (sym c.self.view_is) c.requires.plan in
    let v = k.tables in
    let r = k.interest in
    let h = c.self.invariant in
    let a = c.args.args in
    let pid = c.args.pid.0 in
    let limits = v.limits in
    let e = c.controlled.ensures in
    let number = unwrap_or (number_under r c.in-Some.key) 0 in
    let f = found_as r c.args.plan.named a.fd c.args.plan.found (Some c.in-Some.key) plan.found c.in-Some.is in
    let found = sym f.there in
    let new = c.alter-answer.new.interest in
    rw (← c.self.view_is) (ctl_does p new c.alter-answer.new.graph pid a c.alter-answer.result c.controlled.result e.answer e.picked
    (subst (λ (q : Raising). IsRaising q v) (sym e.raising) (lives_if v k.clock new c.args.plan.named a.fd (is_done c.alter-answer.result) plan.names.instance_lives)) n caller (λ s at sound quiet legal stands.
    let goes = goes_altered c.alter-answer.new.graph limits v r s pid a c.args.plan.named plan.names c.known.ensures k.clock stands h.linked (is_deep limits s pid a.epfd.0 a.op a.fd.0 a.mask.0) refl number found
    (has_number r c.args.plan.named.instance a.fd c.args.plan.named.desc number c.known-2.ensures found f.entry) plan.accepted c.known-2.ensures.rises n caller c.args.plan.operation new c.alter-answer.result plan.code c.alter-answer.ensures.alters in
    (goes.0, goes.1 c.controlled.result.raising e.raising)))

pub invariant_of-self-in-None : goal.invariant_of-self-in-None
invariant_of-self-in-None c =
    let k = c.self.inside in
    let p : Parts = record { tables = k.tables; interest = k.interest; graph = k.graph; parked = k.waiters; clock = k.clock } in
    let plan : IsPlan p c.args.pid.0 c.args.args c.args.plan = subst (λ (q : Parts). IsPlan q c.args.pid.0 c.args.args c.args.plan) (sym c.self.view_is) c.requires.plan in
    let v = k.tables in
    let r = k.interest in
    let h = c.self.invariant in
    let a = c.args.args in
    let pid = c.args.pid.0 in
    let limits = v.limits in
    let deep = is_deep_at v k.graph c.args.plan.named in
    let e = c.in_ok-answer-in-None.ensures in
    let enters = e.ok in
    record {
      linked = linked_entered v r pid a c.args.plan.named plan.names h.linked deep limits.watches c.args.plan.operation c.enter.new.interest c.in_ok-answer-in-None.answer enters;
      watched = watched_entered v r pid a c.args.plan.named plan.names h.watched deep limits.watches c.args.plan.operation c.enter.new.interest c.in_ok-answer-in-None.answer enters;
      nested = e.nested;
      placed = h.placed;
      held = h.held;
      clock = h.clock;
    }

pub returns-in_ok-answer-in-None-clause-ok : goal.returns-in_ok-answer-in-None-clause-ok
returns-in_ok-answer-in-None-clause-ok c = λ n caller.
    let k = c.self.inside in
    let p : Parts = record { tables = k.tables; interest = k.interest; graph = k.graph; parked = k.waiters; clock = k.clock } in
    let plan : IsPlan p c.args.pid.0 c.args.args c.args.plan = subst (λ (q : Parts). IsPlan q c.args.pid.0 c.args.args c.args.plan) (sym c.self.view_is) c.requires.plan in
    let v = k.tables in
    let r = k.interest in
    let h = c.self.invariant in
    let a = c.args.args in
    let pid = c.args.pid.0 in
    let limits = v.limits in
    let named = c.args.plan.named in
    let deep = is_deep_at v k.graph named in
    let e = c.controlled-in-None.ensures in
    let new = c.enter.new.interest in
    let enters = c.in_ok-answer-in-None.ensures.ok in
    rw (← c.self.view_is) (ctl_does p new c.enter.new.graph pid a c.in_ok-answer-in-None.answer c.controlled-in-None.result e.answer e.picked
    (subst (λ (q : Raising). IsRaising q v) (sym e.raising) (lives_if v k.clock new named a.fd (is_done c.in_ok-answer-in-None.answer) plan.names.instance_lives)) n caller (λ s at sound quiet legal stands.
    let goes = goes_entered c.enter.new.graph limits v r s pid a named plan.names c.known.ensures k.clock stands h.linked deep (deep_is_at limits v r s pid a named plan.names c.known.ensures k.clock stands h.linked k.graph h.nested)
    (sym (found_as r named a.fd c.args.plan.found None plan.found c.in-None.is).there) plan.accepted n caller c.args.plan.operation new c.in_ok-answer-in-None.answer plan.code enters in
    (goes.0, goes.1 c.controlled-in-None.result.raising e.raising)))

pub returns-in-Some-clause-deletes : goal.returns-in-Some-clause-deletes
returns-in-Some-clause-deletes c = λ del there.
    let alters = c.alter-answer.ensures.alters in
    let args = c.args.args in
    let r = c.self.inside.interest in
    let deleted = subst (λ (o : Operation). Alters o (unwrap_or (number_under r c.in-Some.key) 0) args.mask args.tag r c.alter-answer.new.interest c.alter-answer.result) del alters in
    c.controlled.ensures.answer ∙ deleted.0

pub returns-in-Some-clause-controls : goal.returns-in-Some-clause-controls
returns-in-Some-clause-controls c =
    let k = c.self.inside in
    let p : Parts = record { tables = k.tables; interest = k.interest; graph = k.graph; parked = k.waiters; clock = k.clock } in
    let e = c.controlled.ensures in
    rw (← c.self.view_is) (controls_told c.args.plan c.args.args c.controlled.result c.alter-answer.result p c.alter-answer.new.interest c.alter-answer.new.graph e.answer e.picked e.raising (Some c.in-Some.key) c.in-Some.is (c.alter-answer.ensures.changes c.args.plan.named))

pub returns-in_ok-answer-in-None-clause-controls : goal.returns-in_ok-answer-in-None-clause-controls
returns-in_ok-answer-in-None-clause-controls c =
    let k = c.self.inside in
    let p : Parts = record { tables = k.tables; interest = k.interest; graph = k.graph; parked = k.waiters; clock = k.clock } in
    let e = c.controlled-in-None.ensures in
    rw (← c.self.view_is) (controls_told c.args.plan c.args.args c.controlled-in-None.result c.in_ok-answer-in-None.answer p c.enter.new.interest c.enter.new.graph e.answer e.picked e.raising None c.in-None.is c.in_ok-answer-in-None.ensures.changes)

pub alter-answer-requires-clause-there : goal.alter-answer-requires-clause-there
alter-answer-requires-clause-there c =
    let k = c.self.inside in
    let p : Parts = record { tables = k.tables; interest = k.interest; graph = k.graph; parked = k.waiters; clock = k.clock } in
    let plan : IsPlan p c.args.pid.0 c.args.args c.args.plan = subst (λ (q : Parts). IsPlan q c.args.pid.0 c.args.args c.args.plan) (sym c.self.view_is) c.requires.plan in
    (found_as k.interest c.args.plan.named c.args.args.fd c.args.plan.found (Some c.in-Some.key) plan.found c.in-Some.is).key

pub enter-requires-clause-desc : goal.enter-requires-clause-desc
enter-requires-clause-desc c =
    let k = c.self.inside in
    let p : Parts = record { tables = k.tables; interest = k.interest; graph = k.graph; parked = k.waiters; clock = k.clock } in
    let plan : IsPlan p c.args.pid.0 c.args.args c.args.plan = subst (λ (q : Parts). IsPlan q c.args.pid.0 c.args.args c.args.plan) (sym c.self.view_is) c.requires.plan in
    plan.names.desc_lives

pub enter-requires-clause-absent : goal.enter-requires-clause-absent
enter-requires-clause-absent c =
    let k = c.self.inside in
    let p : Parts = record { tables = k.tables; interest = k.interest; graph = k.graph; parked = k.waiters; clock = k.clock } in
    let plan : IsPlan p c.args.pid.0 c.args.args c.args.plan = subst (λ (q : Parts). IsPlan q c.args.pid.0 c.args.args c.args.plan) (sym c.self.view_is) c.requires.plan in
    sym (found_as k.interest c.args.plan.named c.args.args.fd c.args.plan.found None plan.found c.in-None.is).there

pub controlled-requires-clause-found : goal.controlled-requires-clause-found
controlled-requires-clause-found c = λ done.
    let k = c.self.inside in
    let p : Parts = record { tables = k.tables; interest = k.interest; graph = k.graph; parked = k.waiters; clock = k.clock } in
    let plan : IsPlan p c.args.pid.0 c.args.args c.args.plan = subst (λ (q : Parts). IsPlan q c.args.pid.0 c.args.args c.args.plan) (sym c.self.view_is) c.requires.plan in
    let r = k.interest in
    let named = c.args.plan.named in
    let operation = c.args.plan.operation in
    let new = c.alter-answer.new.interest in
    let changes = subst (λ (b : Bool). MatchBool b (Changes operation (Some c.in-Some.key) named c.args.args r new) (new ≡ r)) done (c.alter-answer.ensures.changes named) in
    subst (λ (o : Option EntryId). IsFound new named c.args.args.fd o) (sym c.key_left-id.ensures)
    (found_left r new named c.args.args operation c.in-Some.key c.known-2.ensures (found_as r named c.args.args.fd c.args.plan.found (Some c.in-Some.key) plan.found c.in-Some.is) changes)

pub controlled-requires-in-None-clause-found : goal.controlled-requires-in-None-clause-found
controlled-requires-in-None-clause-found c = λ done.
    let k = c.self.inside in
    let p : Parts = record { tables = k.tables; interest = k.interest; graph = k.graph; parked = k.waiters; clock = k.clock } in
    let plan : IsPlan p c.args.pid.0 c.args.args c.args.plan = subst (λ (q : Parts). IsPlan q c.args.pid.0 c.args.args c.args.plan) (sym c.self.view_is) c.requires.plan in
    let r = k.interest in
    let named = c.args.plan.named in
    let operation = c.args.plan.operation in
    let new = c.enter.new.interest in
    let changes = subst (λ (b : Bool). MatchBool b (Changes operation None named c.args.args r new) (new ≡ r)) done c.in_ok-answer-in-None.ensures.changes in
    subst (λ (key : ℕ). IsFound new named c.args.args.fd (Some (record { 0 = key }))) (sym c.next_key.ensures.next)
    (found_added r new named c.args.args operation c.known-2.ensures (found_as r named c.args.args.fd c.args.plan.found None plan.found c.in-None.is) changes)

pub controlled-requires-clause-below : goal.controlled-requires-clause-below
controlled-requires-clause-below c = λ done.
    let k = c.self.inside in
    let p : Parts = record { tables = k.tables; interest = k.interest; graph = k.graph; parked = k.waiters; clock = k.clock } in
    let plan : IsPlan p c.args.pid.0 c.args.args c.args.plan = subst (λ (q : Parts). IsPlan q c.args.pid.0 c.args.args c.args.plan) (sym c.self.view_is) c.requires.plan in
    let told : TellsBelow c.args.plan.operation c.args.plan.below p c.args.plan.named.desc = subst (λ (q : Parts). TellsBelow c.args.plan.operation c.args.plan.below q c.args.plan.named.desc) (sym c.self.view_is) c.requires.below in
    let v = k.tables in
    let r = k.interest in
    let h = c.self.invariant in
    let a = c.args.args in
    let named = c.args.plan.named in
    let operation = c.args.plan.operation in
    let e = c.alter-answer.ensures in
    let new = c.alter-answer.new.interest in
    let linked = linked_altered v r c.args.pid.0 a named plan.names h.linked (unwrap_or (number_under r c.in-Some.key) 0) operation new c.alter-answer.result e.alters in
    let found = found_as r named a.fd c.args.plan.found (Some c.in-Some.key) plan.found c.in-Some.is in
    let changes = subst (λ (b : Bool). MatchBool b (Changes operation (Some c.in-Some.key) named a r new) (new ≡ r)) done (e.changes named) in
    told_below p new c.alter-answer.new.graph named a c.args.plan.below c.known.ensures c.known-2.ensures linked (e.nested v h.nested) c.known-in-Some.ensures.legal plan.names.instance_lives plan.names.desc_lives operation (Some c.in-Some.key) found changes told

pub controlled-requires-in-None-clause-below : goal.controlled-requires-in-None-clause-below
controlled-requires-in-None-clause-below c = λ done.
    let k = c.self.inside in
    let p : Parts = record { tables = k.tables; interest = k.interest; graph = k.graph; parked = k.waiters; clock = k.clock } in
    let plan : IsPlan p c.args.pid.0 c.args.args c.args.plan = subst (λ (q : Parts). IsPlan q c.args.pid.0 c.args.args c.args.plan) (sym c.self.view_is) c.requires.plan in
    let told : TellsBelow c.args.plan.operation c.args.plan.below p c.args.plan.named.desc = subst (λ (q : Parts). TellsBelow c.args.plan.operation c.args.plan.below q c.args.plan.named.desc) (sym c.self.view_is) c.requires.below in
    let v = k.tables in
    let r = k.interest in
    let h = c.self.invariant in
    let a = c.args.args in
    let named = c.args.plan.named in
    let operation = c.args.plan.operation in
    let e = c.in_ok-answer-in-None.ensures in
    let new = c.enter.new.interest in
    let answer = c.in_ok-answer-in-None.answer in
    let linked = linked_entered v r c.args.pid.0 a named plan.names h.linked (is_deep_at v k.graph named) v.limits.watches operation new answer e.ok in
    let found = found_as r named a.fd c.args.plan.found None plan.found c.in-None.is in
    let changes = subst (λ (b : Bool). MatchBool b (Changes operation None named a r new) (new ≡ r)) done e.changes in
    told_below p new c.enter.new.graph named a c.args.plan.below c.known.ensures c.known-2.ensures linked e.nested c.known-in-None.ensures.legal plan.names.instance_lives plan.names.desc_lives operation None found changes told

pub returns-in_err-answer-in-None-clause-last : goal.returns-in_err-answer-in-None-clause-last
returns-in_err-answer-in-None-clause-last c =
    let k = c.self.inside in
    let p : Parts = record { tables = k.tables; interest = k.interest; graph = k.graph; parked = k.waiters; clock = k.clock } in
    let plan : IsPlan p c.args.pid.0 c.args.args c.args.plan = subst (λ (q : Parts). IsPlan q c.args.pid.0 c.args.args c.args.plan) (sym c.self.view_is) c.requires.plan in
    let absent = sym (found_as k.interest c.args.plan.named c.args.args.fd c.args.plan.found None plan.found c.in-None.is).there in
    rw (← c.self.view_is) (on_err c.from_residual.result _ (control_last p c.args.pid.0 c.args.args c.args.plan c.self.invariant c.known.ensures plan absent c.in_err-answer-in-None.ensures.last))
