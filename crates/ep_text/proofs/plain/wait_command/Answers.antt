use Rattle.std.proofs.Common.{Some, ap, codes, of_z, sym, to_z, w32, w64, ◌++◌, ◌∙◌, ◌≡◌}
use Rattle.std.specs.Fmt.{signed_decimal}
use Rattle.std.proofs.lemmas.Int.{to_z-of_z}
use Rattle.ep_base.specs.declared.call.Call.TheVariants.{EpollWait}
use Rattle.ep_text.specs.Event.{as_written}
use Rattle.ep_text.specs.Plain.{by_text, call_command, wait_rest}
use Rattle.ep_text.proofs.PlainLemmas.{short_i64, wait_is}
use Rattle.ep_text.proofs.plain.wait_command.Goals as goal

pub returns : goal.returns
returns c =
    let by = c.in_ok-by in
    let ep = c.in_ok-epfd in
    let most = c.in_ok-max in
    let time = c.in_ok-timeout in
    let ep_again = to_z w32 (of_z w32 ep.epfd) in
    let most_again = to_z w32 (of_z w32 most.max) in
    let end = c.is_end.ensures c.if-not-is_end.false in
    let text : c.args.rest.now ≡ wait_rest by.by ep.epfd most.max time.timeout =
    by.ensures.text ∙ ap (λ l. by_text by.by ++ l) (ep.ensures.text ∙ ap (λ l. codes ",\"ep\":" ++ (signed_decimal ep.epfd ++ l))
    (most.ensures.text ∙ ap (λ l. codes ",\"max\":" ++ (signed_decimal most.max ++ l)) (time.ensures.text ∙ ap (λ l. codes ",\"timeout\":" ++ (signed_decimal time.timeout ++ l)) end))) in
    ap (λ l. as_written (codes "{\"op\":\"wait\"" ++ l)) text
    ∙ wait_is by.by ep.epfd most.max time.timeout by.ensures.fits ep.ensures.fits most.ensures.fits time.ensures.short
    ∙ ap (λ z. Some (call_command by.by (EpollWait (record { 0 = z }) most.max time.timeout))) (sym (to_z-of_z w32 ep.epfd ep.ensures.fits))
    ∙ ap (λ z. Some (call_command by.by (EpollWait (record { 0 = ep_again }) z time.timeout))) (sym (to_z-of_z w32 most.max most.ensures.fits))
    ∙ ap (λ z. Some (call_command by.by (EpollWait (record { 0 = ep_again }) most_again z))) (sym (to_z-of_z w64 time.timeout (short_i64 time.timeout time.ensures.short)))
    ∙ ap (λ x. Some x) (sym c.command.ensures)
