use Rattle.std.proofs.Common.{Some, ap, codes, decimal, sym, w32, ◌++◌, ◌∙◌, ◌≡◌}
use Rattle.std.specs.Fmt.{signed_decimal}
use Rattle.std.proofs.lemmas.Int.{to_z-of_z}
use Rattle.ep_base.specs.declared.call.Call.TheVariants.{Read}
use Rattle.ep_text.specs.Event.{as_written}
use Rattle.ep_text.specs.Plain.{by_text, call_command, read_rest}
use Rattle.ep_text.proofs.PlainLemmas.{read_is}
use Rattle.ep_text.proofs.plain.read_command.Goals as goal

pub returns : goal.returns
returns c =
    let by = c.in_ok-by in
    let fd = c.in_ok-fd in
    let size = c.in_ok-n in
    let end = c.is_end.ensures c.if-not-is_end.false in
    let text : c.args.rest.now ≡ read_rest by.by fd.fd size.n =
    by.ensures.text ∙ ap (λ l. by_text by.by ++ l) (fd.ensures.text ∙ ap (λ l. codes ",\"fd\":" ++ (signed_decimal fd.fd ++ l))
    (c.in_ok-behind.ensures ∙ ap (λ l. codes ",\"n\":" ++ l) (size.ensures.text ∙ ap (λ l. decimal size.n ++ l) end))) in
    ap (λ l. as_written (codes "{\"op\":\"read\"" ++ l)) text ∙ read_is by.by fd.fd size.n by.ensures.fits fd.ensures.fits size.ensures.fits
    ∙ ap (λ z. Some (call_command by.by (Read (record { 0 = z }) size.n))) (sym (to_z-of_z w32 fd.fd fd.ensures.fits)) ∙ ap (λ x. Some x) (sym c.command.ensures)
