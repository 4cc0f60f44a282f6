use Rattle.std.proofs.Common.{ap, ap₂, ◌∙◌, ◌≡◌}
use Rattle.std.proofs.lemmas.Result.{IfOk-weaker}
use Rattle.clap.specs.Words.{app_of, with_rule}
use Rattle.clap.specs.Simple.{app_of_fields, on_top}
use Rattle.ep_program.specs.Options.{bound_rule, clock_rule, explain_rule, history_rule, limits_rule, most_rule, orders_rule, plain_rule, strict_rule, versioned, with_version, write_rule}
use Rattle.ep_program.proofs.command_line.command.Goals as goal

pub returns : goal.returns
returns c =
    let named : app_of c.version.result ≡ versioned = ap app_of_fields c.version.ensures ∙ ap (on_top with_version) c.new.ensures.app in
    let top : app_of c.after_help.result ≡ versioned = ap app_of_fields c.after_help.ensures ∙ ap app_of_fields c.override_usage.ensures ∙ ap app_of_fields c.about.ensures ∙ named in
    let one : app_of c.in_ok-arg.field-0 ≡ with_rule versioned limits_rule =
    c.in_ok-arg.ensures.shape c.limits_argument.ensures.local ∙ ap₂ with_rule top c.limits_argument.ensures.rule in
    let two : app_of c.in_ok-arg-2.field-0 ≡ with_rule (with_rule versioned limits_rule) plain_rule =
    c.in_ok-arg-2.ensures.shape c.plain_argument.ensures.local ∙ ap₂ with_rule one c.plain_argument.ensures.rule in
    let three : app_of c.in_ok-arg-3.field-0 ≡ with_rule (with_rule (with_rule versioned limits_rule) plain_rule) explain_rule =
    c.in_ok-arg-3.ensures.shape c.explain_argument.ensures.local ∙ ap₂ with_rule two c.explain_argument.ensures.rule in
    let four : app_of c.in_ok-arg-4.field-0 ≡ with_rule (with_rule (with_rule (with_rule versioned limits_rule) plain_rule) explain_rule) strict_rule =
    c.in_ok-arg-4.ensures.shape c.strict_argument.ensures.local ∙ ap₂ with_rule three c.strict_argument.ensures.rule in
    let five : app_of c.in_ok-arg-5.field-0 ≡ with_rule (with_rule (with_rule (with_rule (with_rule versioned limits_rule) plain_rule) explain_rule) strict_rule) history_rule =
    c.in_ok-arg-5.ensures.shape c.history_argument.ensures.local ∙ ap₂ with_rule four c.history_argument.ensures.rule in
    let six : app_of c.in_ok-arg-6.field-0 ≡ with_rule (with_rule (with_rule (with_rule (with_rule (with_rule versioned limits_rule) plain_rule) explain_rule) strict_rule) history_rule) orders_rule =
    c.in_ok-arg-6.ensures.shape c.orders_argument.ensures.local ∙ ap₂ with_rule five c.orders_argument.ensures.rule in
    let seven : app_of c.in_ok-arg-7.field-0 ≡ with_rule (with_rule (with_rule (with_rule (with_rule (with_rule (with_rule versioned limits_rule) plain_rule) explain_rule) strict_rule) history_rule) orders_rule) bound_rule =
    c.in_ok-arg-7.ensures.shape c.bound_argument.ensures.local ∙ ap₂ with_rule six c.bound_argument.ensures.rule in
    let eight : app_of c.in_ok-arg-8.field-0 ≡ with_rule (with_rule (with_rule (with_rule (with_rule (with_rule (with_rule (with_rule versioned limits_rule) plain_rule) explain_rule) strict_rule) history_rule) orders_rule) bound_rule) clock_rule =
    c.in_ok-arg-8.ensures.shape c.clock_argument.ensures.local ∙ ap₂ with_rule seven c.clock_argument.ensures.rule in
    let nine : app_of c.in_ok-arg-9.field-0 ≡ with_rule (with_rule (with_rule (with_rule (with_rule (with_rule (with_rule (with_rule (with_rule versioned limits_rule) plain_rule) explain_rule) strict_rule) history_rule) orders_rule) bound_rule) clock_rule) most_rule =
    c.in_ok-arg-9.ensures.shape c.most_argument.ensures.local ∙ ap₂ with_rule eight c.most_argument.ensures.rule in
    let ten : app_of c.in_ok-arg-10.field-0 ≡ with_rule (with_rule (with_rule (with_rule (with_rule (with_rule (with_rule (with_rule (with_rule (with_rule versioned limits_rule) plain_rule) explain_rule) strict_rule) history_rule) orders_rule) bound_rule) clock_rule) most_rule) write_rule =
    c.in_ok-arg-10.ensures.shape c.write_argument.ensures.local ∙ ap₂ with_rule nine c.write_argument.ensures.rule in
    IfOk-weaker c.arg-11.result _ _ (λ r h. h.shape c.script_argument.ensures.local ∙ ap₂ with_rule ten c.script_argument.ensures.rule) c.arg-11.ensures
