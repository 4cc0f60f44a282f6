use Rattle.std.proofs.Common.{All, ap, subst, sym, ◌++◌, ◌∙◌, ◌≡◌, ◌≤◌}
use Rattle.std.proofs.lemmas.List.Elements.{All-from_recursion}
use Rattle.ep_history.specs.Records.{line_data, line_record, record_data, record_line}
use Rattle.ep_history.proofs.RecordLemmas.{line_data-printed, line_record-printed}
use Rattle.ep_history.proofs.TextLemmas.{value_visible}
use Rattle.ep_history.proofs.record.print_record.Goals as goal

text : (c : goal.In_ok-push_record) → c.push_record.new.out.items ≡ record_line c.args.entry.now
text c = c.in_ok-push_record.ensures.text ∙ ap (λ s. s ++ record_line c.args.entry.now) c.in_ok-line.ensures.items

pub returns-clause-text : goal.returns-clause-text
returns-clause-text c = text c

pub returns-clause-one_line : goal.returns-clause-one_line
returns-clause-one_line c =
    let r = c.args.entry.now in
    subst (All (λ b. 32 ≤ b)) (sym (text c)) (All-from_recursion (λ b. 32 ≤ b) (record_line r) (value_visible (record_data r)))

pub returns-clause-data : goal.returns-clause-data
returns-clause-data c = ap line_data (text c) ∙ line_data-printed c.args.entry.now c.in_ok-push_record.ensures.fits

pub returns-clause-law : goal.returns-clause-law
returns-clause-law c = ap line_record (text c) ∙ line_record-printed c.args.entry.now c.in_ok-push_record.ensures.fits
