use Rattle.std.proofs.Common.{ap, ap₂, ◌∙◌, ◌≡◌}
use Rattle.std.proofs.lemmas.Result.{IfOk-weaker}
use Rattle.clap.specs.Words.{app_of, with_rule}
use Rattle.clap.specs.Simple.{app_of_fields, on_top}
use Rattle.ep_audit_program.specs.Options.{limits_rule, versioned, with_version}
use Rattle.ep_audit_program.proofs.command_line.command.Goals as goal

pub returns : goal.returns
returns c =
    let named : app_of c.version.result ≡ versioned = ap app_of_fields c.version.ensures ∙ ap (on_top with_version) c.new.ensures.app in
    let top : app_of c.after_help.result ≡ versioned = ap app_of_fields c.after_help.ensures ∙ ap app_of_fields c.override_usage.ensures ∙ ap app_of_fields c.about.ensures ∙ named in
    let one : app_of c.in_ok-arg.field-0 ≡ with_rule versioned limits_rule =
    c.in_ok-arg.ensures.shape c.limits_argument.ensures.local ∙ ap₂ with_rule top c.limits_argument.ensures.rule in
    IfOk-weaker c.arg-2.result _ _ (λ r h. h.shape c.history_argument.ensures.local ∙ ap₂ with_rule one c.history_argument.ensures.rule) c.arg-2.ensures
