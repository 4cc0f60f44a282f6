use Rattle.std.proofs.Common.{Some, ap, option_and_then, sym, ◌∙◌}
use Rattle.serde_json.specs.View.{view}
use Rattle.ep_history.specs.Fields.{only_member}
use Rattle.ep_history.proofs.FieldLemmas.{only_member-first, only_member-other}
use Rattle.ep_history.proofs.fields.single.Goals as goal

pub returns-then-len-ne1 : goal.returns-then-len-ne1
returns-then-len-ne1 c =
    only_member-other c.in_ok-members.members.now.entries (λ e. c.if-len-ne1.true (c.len.ensures.len ∙ e))
    ∙ ap (option_and_then only_member) c.in_ok-members.ensures

pub returns : goal.returns
returns c =
    let name = c.as_str.ensures.value in
    ap (λ text. Some (text, view c.in_ok-key.value.now)) name
    ∙ only_member-first c.in_ok-members.members.now.entries _ (sym c.len.ensures.len ∙ c.if-len-ne1.false) c.in_ok-key.ensures.first
    ∙ ap (option_and_then only_member) c.in_ok-members.ensures
