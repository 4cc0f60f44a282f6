use Rattle.std.proofs.Common.{ap, option_map, sym, unwrap_or, ◌∙◌}
use Rattle.serde_json.proofs.Views.{members_len-members_view}
use Rattle.serde_json.specs.Events.{members_len}
use Rattle.ep_history.proofs.fields.size.Goals as goal

pub returns-in-Some : goal.returns-in-Some
returns-in-Some c =
    c.len.ensures.len ∙ sym (members_len-members_view c.in-Some.members.now.entries)
    ∙ ap (λ o. unwrap_or (option_map members_len o) 0) c.in-Some.ensures
