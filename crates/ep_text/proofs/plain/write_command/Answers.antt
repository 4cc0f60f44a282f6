use Rattle.std.proofs.Common.{Some, ap, codes, sym, w32, ◌++◌, ◌∙◌}
use Rattle.std.proofs.lemmas.Int.{to_z-of_z}
use Rattle.ep_base.specs.declared.call.Call.TheVariants.{Write}
use Rattle.ep_text.specs.Event.{as_written}
use Rattle.ep_text.specs.Plain.{call_command}
use Rattle.ep_text.proofs.PlainLemmas.{write_is}
use Rattle.ep_text.proofs.plain.write_command.Goals as goal

pub returns-in-Ok : goal.returns-in-Ok
returns-in-Ok c =
    let parts = c.in-Some in
    ap (λ l. as_written (codes "{\"op\":\"write\"" ++ l)) parts.ensures.text
    ∙ write_is parts.by parts.fd parts.digits.now c.in-Ok.bytes.items parts.ensures.by parts.ensures.fd c.in-Ok.ensures.ok
    ∙ ap (λ b. Some (call_command parts.by (Write (record { 0 = parts.fd }) b))) (sym c.new.ensures)
    ∙ ap (λ z. Some (call_command parts.by (Write (record { 0 = z }) c.new.result))) (sym (to_z-of_z w32 parts.fd parts.ensures.fd))
    ∙ ap (λ x. Some x) (sym c.command.ensures)
