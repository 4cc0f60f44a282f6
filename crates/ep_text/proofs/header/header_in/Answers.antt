use Rattle.std.proofs.Common.{rules, ap, codes, option_and_then, option_map, sym, unwrap_or, Some, ◌≡◌, ◌∙◌}
use Rattle.serde_json.specs.Find.{get}
use Rattle.ep_text.specs.Values.{u64_value}
use Rattle.serde_json.proofs.Views.{members_len-members_view}
use Rattle.serde_json.specs.Events.{members_len}
use Rattle.serde_json.specs.View.{view}
use Rattle.ep_text.proofs.HeaderLemmas.{no_header, one_header}
use Rattle.ep_text.proofs.header.header_in.Goals as goal

pub returns-then-len-ne1 : goal.returns-then-len-ne1
returns-then-len-ne1 c =
    no_header (view c.args.value.now) _ (c.len.ensures.len ∙ sym (members_len-members_view c.in_ok-members.members.now.entries)
    ∙ ap (λ o. unwrap_or (option_map members_len o) 0) c.in_ok-members.ensures) c.if-len-ne1.true

pub returns : goal.returns
returns c =
    let has : Some c.in_ok-as_u64.field-0 ≡ option_and_then u64_value (get (codes "version") (view c.args.value.now)) = search rules in
    c.numbered.ensures
    ∙ one_header (view c.args.value.now) _ _ (c.len.ensures.len ∙ sym (members_len-members_view c.in_ok-members.members.now.entries)
    ∙ ap (λ o. unwrap_or (option_map members_len o) 0) c.in_ok-members.ensures) c.if-len-ne1.false has
