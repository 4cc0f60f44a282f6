use Rattle.std.proofs.Common.{ap, sym, ◌++◌, ◌∙◌}
use Rattle.ep_text.specs.Event.{command_of, header_of}
use Rattle.ep_text.specs.Line.{header_line, line_of}
use Rattle.ep_script.proofs.RecordLemmas.{becomes_untold, tells_answer, tells_head}
use Rattle.ep_script.proofs.answer.ask.Goals as goal

pub returns-in_ok-push_header-in-Header-clause-ok : goal.returns-in_ok-push_header-in-Header-clause-ok
returns-in_ok-push_header-in-Header-clause-ok g c =
    tells_head _ _ _ _ _ _ (ap (λ l. header_of l) (sym c.in-Header.is) ∙ c.in_ok-named.ensures.header)
    (c.in_ok-push_header-in-Header.ensures ∙ ap (λ x. x ++ header_line c.in-Header.named) c.clear.ensures.bytes)

pub returns-in_err-push_answer-in-Command-clause-err : goal.returns-in_err-push_answer-in-Command-clause-err
returns-in_err-push_answer-in-Command-clause-err g c =
    becomes_untold _ _ _ _ _ _ _ _ _ c.step-answer.result _ _ (ap (λ l. header_of l) (sym c.in-Command.is) ∙ c.in_ok-named.ensures.header)
    (ap (λ l. command_of l) (sym c.in-Command.is) ∙ c.in_ok-named.ensures.command) c.step-answer.ensures.acts

pub returns-in_ok-push_answer-in-Command-clause-ok : goal.returns-in_ok-push_answer-in-Command-clause-ok
returns-in_ok-push_answer-in-Command-clause-ok g c =
    tells_answer _ _ _ _ _ _ _ _ _ _ c.step-answer.result _ _ (ap (λ l. header_of l) (sym c.in-Command.is) ∙ c.in_ok-named.ensures.header)
    (ap (λ l. command_of l) (sym c.in-Command.is) ∙ c.in_ok-named.ensures.command) c.kind_of_answer.ensures
    (c.in_ok-push_answer-in-Command.ensures ∙ ap (λ x. x ++ line_of c.args.desk.now.version c.step-answer.result) c.clear.ensures.bytes) c.step-answer.ensures.acts
