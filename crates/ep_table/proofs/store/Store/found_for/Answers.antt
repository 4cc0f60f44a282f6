use Rattle.std.proofs.Common.{◌∙◌, ap, sym}
use Rattle.ep_table.proofs.TakingLemmas.{none_found}
use Rattle.ep_base.specs.declared.socket.Space.TheVariants.{V4}
use Rattle.ep_machine.specs.Objects.{found_for, is_taken}
use Rattle.ep_names.proofs.NameLemmas.{free_same, given_same}
use Rattle.ep_machine.specs.Names.{free_name, given}
use Rattle.ep_names.specs.Names.{Taken, holds}
use Rattle.ep_table.specs.Value.{Things}
use Rattle.ep_table.proofs.store.Store.found_for.Goals as goal

pub returns-in-Bind : goal.returns-in-Bind
returns-in-Bind g c =
    let v = c.args.self.now in
    c.free.ensures ∙ (ap (λ (t : Taken). free_name (holds t) c.in-Bind.name) c.deref.ensures ∙ free_same (holds c.self.inside.taken.value) (is_taken v.objects) (λ n. c.self.invariant.taken.agree n ∙ ap (λ (w : Things). is_taken w.objects n) c.self.view_is) c.in-Bind.name
    ∙ ap (found_for (is_taken v.objects)) (sym c.in-Bind.is))

pub returns-in-Connect : goal.returns-in-Connect
returns-in-Connect g c =
    let v = c.args.self.now in
    c.given-in-Connect.ensures ∙ (ap (λ (t : Taken). given (holds t) c.in-Connect.name.space) c.deref-in-Connect.ensures ∙ given_same (holds c.self.inside.taken.value) (is_taken v.objects) (λ n. c.self.invariant.taken.agree n ∙ ap (λ (w : Things). is_taken w.objects n) c.self.view_is) c.in-Connect.name.space
    ∙ ap (found_for (is_taken v.objects)) (sym c.in-Connect.is))

pub returns-in-Listen : goal.returns-in-Listen
returns-in-Listen g c =
    let v = c.args.self.now in
    c.given.ensures ∙ (ap (λ (t : Taken). given (holds t) V4) c.deref-in-Listen.ensures ∙ given_same (holds c.self.inside.taken.value) (is_taken v.objects) (λ n. c.self.invariant.taken.agree n ∙ ap (λ (w : Things). is_taken w.objects n) c.self.view_is) V4
    ∙ ap (found_for (is_taken v.objects)) (sym c.in-Listen.is))

pub returns-in_default : goal.returns-in_default
returns-in_default g c = none_found (is_taken c.args.self.now.objects) c.args.call.now c.in_default.not-Bind c.in_default.not-Listen c.in_default.not-Connect
