use Rattle.std.proofs.Common.{◌≡◌, ◌∙◌, is_some, subst, sym, true}
use Rattle.std.specs.List.{list_any}
use Rattle.ep_base.specs.declared.call.Event.{Event}
use Rattle.ep_base.specs.declared.call.Event.TheVariants.{Call as CallOf}
use Rattle.ep_base.specs.declared.errno.Errno.TheVariants.{Ebusy}
use Rattle.ep_machine.specs.Files.{table_of}
use Rattle.ep_machine.specs.Lists.{is_empty}
use Rattle.ep_park.specs.Waiters.{is_caller}
use Rattle.ep_calls.proofs.ActLemmas.{busy}
use Rattle.ep_calls.specs.Parts.{Parts}
use Rattle.ep_plain.proofs.WaitingLemmas.{refused_goes}
use Rattle.ep_plain.specs.These.{goes_with}
use Rattle.ep_plain.proofs.waiting.find_calling.Goals as goal

pub returns-then-is_parked : goal.returns-then-is_parked
returns-then-is_parked c s sound legal stands picks =
    let p = c.args.parts.now in
    let caller = c.args.caller.0 in
    let call = c.args.call.now in
    let pid = c.args.pid in
    let there = subst (λ (q : Parts). is_some (table_of q.tables.files pid.0) ≡ true) c.parts.view_is (sym c.has_process.ensures ∙ c.if-not-has_process.false) in
    let held = subst (λ (q : Parts). list_any (is_caller caller) q.parked ≡ true) c.parts.view_is (sym c.is_parked.ensures ∙ c.if-is_parked.true) in
    subst (λ (event : Event). goes_with p.tables.limits caller event picks s ≡ is_empty picks) (sym c.requires)
    (refused_goes p.tables.limits caller (CallOf pid call) s picks Ebusy (busy p caller pid call there held s stands))
