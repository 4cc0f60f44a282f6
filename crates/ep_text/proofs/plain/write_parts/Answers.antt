use Rattle.std.proofs.Common.{ap, codes, sym, w32, ◌++◌, ◌∙◌}
use Rattle.std.specs.Fmt.{signed_decimal}
use Rattle.std.proofs.lemmas.Int.{to_z-of_z}
use Rattle.ep_text.specs.Plain.{by_text, write_rest}
use Rattle.ep_text.proofs.plain.write_parts.Goals as goal

pub returns-clause-text : goal.returns-clause-text
returns-clause-text c =
    let by = c.in_ok-by in
    let fd = c.in_ok-fd in
    by.ensures.text ∙ ap (λ l. by_text by.by ++ l) (fd.ensures.text ∙ ap (λ l. codes ",\"fd\":" ++ (signed_decimal fd.fd ++ l))
    (c.in_ok-text.ensures ∙ ap (λ l. codes ",\"hex\":\"" ++ l) c.in_ok-digits.ensures))
    ∙ ap (λ z. write_rest by.by z c.in_ok-digits.digits.now) (sym (to_z-of_z w32 fd.fd fd.ensures.fits))
